-- A version that goes out of use: the bits of its prime block, its ribs and its data blocks are cleared, and these
-- blocks are held.
use Rattle.std.proofs.Common.{◌≡◌, ⊎_elim, ℕ, ◌+◌, ◌<◌, ◌≤◌, ◌^◌, false, List, [], ◌∷◌, ◌++◌, refl, sym, ap, subst}
use Rattle.std.proofs.Common.{◌∙◌, arith}
use Rattle.std.proofs.lemmas.Bool.{cases_lt}
use Rattle.std.proofs.lemmas.List.{get_or_past}
use Rattle.spec_image.specs.Common.{times}
use Rattle.spec_image.proofs.Common.{times_here, times-append}
use Rattle.alloctab.specs.Common.{digit, TableState, IsTable, bit, holds, with_bit, with_held}
use Rattle.volume.specs.Common.{ClearsBits}
use Rattle.volume.proofs.common.TableBits.{bit_few}
use Rattle.volume.proofs.common.BlockLists.{holds_next, clears_then, clears_one}

-- what is set has a place in the table
pub set_inside : (t : TableState) (n : ℕ) → IsTable t → 0 < bit t n → n < t.size
set_inside t n sound there = ⊎_elim (λ below. below)
    (λ past. absurd (let none : bit t n ≡ 0 = ap digit (get_or_past t.bits n false (let long = sound.bits_are in
    omega arith)) in omega arith)) (cases_lt n t.size)

-- Its bits are cleared: first that of the prime block, then those of the ribs, then those of the data blocks.

module _ (t : TableState) (at : ℕ) (ribs blocks : List ℕ) (sound : IsTable t) (set : (n : ℕ)
    → times n (at ∷ (ribs ++ blocks)) ≤ bit t n) where
  prime_set : bit t at ≡ 1
  prime_set = omega (arith, set at, times_here at (ribs ++ blocks), bit_few t at)

  pub prime_inside : at < t.size
  prime_inside = set_inside t at sound (omega (arith, prime_set))

  pub prime_clears : (u : TableState) → u ≡ with_bit t at false → ClearsBits t u (at ∷ [])
  prime_clears u is = subst (λ s. ClearsBits t s (at ∷ [])) (sym is) (clears_one t at sound prime_inside prime_set)

  pub ribs_inside : (u : TableState) → ClearsBits t u (at ∷ []) → (n : ℕ) → 0 < times n ribs → n < u.size
  ribs_inside u first n there =
      subst (λ (m : ℕ). n < m) (sym first.marks.size)
      (set_inside t n sound (omega (arith, times-append n ribs blocks, set n)))

  pub ribs_set : (u : TableState) → ClearsBits t u (at ∷ []) → (n : ℕ) → times n ribs ≤ bit u n
  ribs_set u first n = omega (arith, times-append n ribs blocks, set n, first.bits n)

  pub blocks_inside : (u v : TableState) → ClearsBits t u (at ∷ []) → ClearsBits u v ribs → (n : ℕ) → 0 < times n blocks
      → n < v.size
  blocks_inside u v first second n there =
      subst (λ (m : ℕ). n < m) (sym (second.marks.size ∙ first.marks.size))
      (set_inside t n sound (omega (arith, times-append n ribs blocks, set n)))

  pub blocks_set : (u v : TableState) → ClearsBits t u (at ∷ []) → ClearsBits u v ribs → (n : ℕ)
      → times n blocks ≤ bit v n
  blocks_set u v first second n = omega (arith, times-append n ribs blocks, set n, first.bits n, second.bits n)

  pub version_clears : (u v w : TableState) → ClearsBits t u (at ∷ []) → ClearsBits u v ribs → ClearsBits v w blocks
      → ClearsBits t w (at ∷ (ribs ++ blocks))
  version_clears u v w first second third = clears_then t u w (at ∷ []) (ribs ++ blocks) first
      (clears_then u v w ribs blocks second third)

-- They are held, in the same order.

module _ (t : TableState) (at : ℕ) (ribs blocks : List ℕ) (inside : (n : ℕ) → 0 < times n (at ∷ (ribs ++ blocks))
    → n < t.size) where
  pub prime_below : at < t.size
  prime_below = inside at (times_here at (ribs ++ blocks))

  pub ribs_below : (u : TableState) → u.size ≡ t.size → (n : ℕ) → 0 < times n ribs → n < u.size
  ribs_below u size n there = subst (λ (m : ℕ). n < m) (sym size) (inside n (omega (arith, times-append n ribs blocks)))

  pub blocks_below : (u : TableState) → u.size ≡ t.size → (n : ℕ) → 0 < times n blocks → n < u.size
  blocks_below u size n there = subst (λ (m : ℕ). n < m) (sym size)
      (inside n (omega (arith, times-append n ribs blocks)))

pub prime_holds : (t u : TableState) (at : ℕ) → IsTable t → at < t.size → u ≡ with_held t at (holds t at + 1)
    → (n : ℕ) → holds u n ≡ holds t n + times n (at ∷ [])
prime_holds t u at sound inside is n =
    ap (λ s. holds s n) is ∙ holds_next (at ∷ []) 0 at (omega arith) refl t t sound inside (λ m. omega arith) n

pub ribs_fit : (at : ℕ) (ribs blocks : List ℕ) (h0 h1 : ℕ → ℕ)
    → ((n : ℕ) → h0 n + times n (at ∷ (ribs ++ blocks)) < 2 ^ 32) → ((n : ℕ) → h1 n ≡ h0 n + times n (at ∷ []))
    → (n : ℕ) → h1 n + times n ribs < 2 ^ 32
ribs_fit at ribs blocks h0 h1 fits first n = omega (arith, times-append n ribs blocks, fits n, first n)

pub blocks_fit : (at : ℕ) (ribs blocks : List ℕ) (h0 h1 h2 : ℕ → ℕ)
    → ((n : ℕ) → h0 n + times n (at ∷ (ribs ++ blocks)) < 2 ^ 32) → ((n : ℕ) → h1 n ≡ h0 n + times n (at ∷ []))
    → ((n : ℕ) → h2 n ≡ h1 n + times n ribs)
    → (n : ℕ) → h2 n + times n blocks < 2 ^ 32
blocks_fit at ribs blocks h0 h1 h2 fits first second n = omega
    (arith, times-append n ribs blocks, fits n, first n, second n)

pub version_holds : (at : ℕ) (ribs blocks : List ℕ) (h0 h1 h2 h3 : ℕ → ℕ) → ((n : ℕ) → h1 n ≡ h0 n + times n (at ∷ []))
    → ((n : ℕ) → h2 n ≡ h1 n + times n ribs) → ((n : ℕ) → h3 n ≡ h2 n + times n blocks)
    → (n : ℕ) → h3 n ≡ h0 n + times n (at ∷ (ribs ++ blocks))
version_holds at ribs blocks h0 h1 h2 h3 first second third n = omega
    (arith, times-append n ribs blocks, first n, second n, third n)
