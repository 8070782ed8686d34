-- Blocks of which one hold is released, one after the other.
use Rattle.std.proofs.Common.{◌≡◌, ℕ, ◌+◌, ◌-◌, ◌<◌, ◌≤◌, List, [], ◌∷◌, ◌++◌, length, get_or, slice_index, slice_set}
use Rattle.std.proofs.Common.{take, drop, refl, sym, ap, ◌∙◌, arith, ⊎_elim}
use Rattle.std.proofs.lemmas.Bool.{cases_eq, cases_lt}
use Rattle.std.proofs.lemmas.List.{take_more, take-append-drop, get_or-set_same, get_or-set_other, get_or_past}
use Rattle.spec_image.specs.Common.{times}
use Rattle.spec_image.proofs.Common.{times_here, times-append}
use Rattle.changeset.specs.Common.{times_head, times_tail}
use Rattle.alloctab.specs.Common.{TableState}

-- what is held has a place in the list
held_inside : (held : List ℕ) (b : ℕ) → 0 < slice_index held b → b < length held
held_inside held b there = ⊎_elim (λ below. below) (λ past. absurd (by (get_or_past held b 0 past)))
    (cases_lt b (length held))
  where
    by : slice_index held b ≡ 0 → ⊥
    by none = omega arith

-- a block of which one hold is released
pub held_less : (held : List ℕ) (b : ℕ) → 0 < slice_index held b → (n : ℕ)
    → slice_index (slice_set held b (slice_index held b - 1)) n + times n (b ∷ []) ≡ slice_index held n
held_less held b there n = ⊎_elim
    (λ (is : n ≡ b).
    let here = ap (slice_index (slice_set held b (slice_index held b - 1))) is
    ∙ get_or-set_same held b (slice_index held b - 1) 0 (held_inside held b there) in
    let was = ap (slice_index held) is in
    let one = times_head n b [] is in
    omega arith)
    (λ other.
    let same = get_or-set_other held b n (slice_index held b - 1) 0 other in
    let none = times_tail n b [] other in
    omega arith) (cases_eq n b)

module _ (old now : List ℕ) (blocks : List ℕ) (i b : ℕ) (below : i < length blocks) (is : b ≡ get_or blocks i 0)
    (so_far : (n : ℕ) → slice_index now n + times n (take i blocks) ≡ slice_index old n) where
  times_next : (n : ℕ) → times n (take (i + 1) blocks) ≡ times n (take i blocks) + times n (b ∷ [])
  times_next n = ap (times n) (take_more blocks i 0 below ∙ ap (λ (m : ℕ). take i blocks ++ m ∷ []) (sym is))
      ∙ times-append n (take i blocks) (b ∷ [])

  pub still_held : times b blocks ≤ slice_index old b → 0 < slice_index now b
  still_held all =
      let parts : times b blocks ≡ times b (take (i + 1) blocks) + times b (drop (i + 1) blocks) = ap (times b)
      (sym (take-append-drop (i + 1) blocks)) ∙ times-append b (take (i + 1) blocks) (drop (i + 1) blocks) in
      let one = times_head b b [] refl in
      omega (arith, times_next b, so_far b)

  pub next_less : 0 < slice_index now b → (n : ℕ)
      → slice_index (slice_set now b (slice_index now b - 1)) n + times n (take (i + 1) blocks) ≡ slice_index old n
  next_less there n = omega (arith, held_less now b there n, times_next n, so_far n)

-- the rest of the table stays
pub rest_more : (t now new : TableState) (held : List ℕ) → now ≡ record t { held = now.held }
    → new ≡ record now { held = held } → new ≡ record t { held = new.held }
rest_more t now new held first second = second ∙ (λ i. record (first i) { held = held })
    ∙ ap (λ (h : List ℕ). record t { held = h }) (sym (ap (λ t. t.held) second))

-- a version's blocks: the prime block, the ribs, and the data blocks
pub less_parts : (prime : ℕ) (ribs blocks : List ℕ) (h0 h1 h2 h3 : ℕ → ℕ)
    → ((n : ℕ) → h1 n + times n (prime ∷ []) ≡ h0 n) → ((n : ℕ) → h2 n + times n ribs ≡ h1 n)
    → ((n : ℕ) → h3 n + times n blocks ≡ h2 n)
    → (n : ℕ) → h3 n + times n (prime ∷ (ribs ++ blocks)) ≡ h0 n
less_parts prime ribs blocks h0 h1 h2 h3 first second third n = omega
    (arith, times-append n ribs blocks, first n, second n, third n)

pub ribs_held : (prime : ℕ) (ribs blocks : List ℕ) (h0 h1 : ℕ → ℕ)
    → ((n : ℕ) → times n (prime ∷ (ribs ++ blocks)) ≤ h0 n) → ((n : ℕ) → h1 n + times n (prime ∷ []) ≡ h0 n)
    → (n : ℕ) → times n ribs ≤ h1 n
ribs_held prime ribs blocks h0 h1 all first n = omega (arith, times-append n ribs blocks, all n, first n)

pub blocks_held : (prime : ℕ) (ribs blocks : List ℕ) (h0 h1 h2 : ℕ → ℕ)
    → ((n : ℕ) → times n (prime ∷ (ribs ++ blocks)) ≤ h0 n) → ((n : ℕ) → h1 n + times n (prime ∷ []) ≡ h0 n)
    → ((n : ℕ) → h2 n + times n ribs ≡ h1 n)
    → (n : ℕ) → times n blocks ≤ h2 n
blocks_held prime ribs blocks h0 h1 h2 all first second n = omega
    (arith, times-append n ribs blocks, all n, first n, second n)

-- the prime block is one that is held
pub prime_held : (prime : ℕ) (rest held : List ℕ) → ((n : ℕ) → times n (prime ∷ rest) ≤ slice_index held n)
    → 0 < slice_index held prime
prime_held prime rest held all = omega (arith, all prime, times_here prime rest)

pub prime_less : (prime : ℕ) (rest held : List ℕ) → ((n : ℕ) → times n (prime ∷ rest) ≤ slice_index held n) → (n : ℕ)
    → slice_index (slice_set held prime (slice_index held prime - 1)) n + times n (prime ∷ []) ≡ slice_index held n
prime_less prime rest held all n = held_less held prime (prime_held prime rest held all) n
