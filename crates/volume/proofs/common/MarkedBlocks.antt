-- Blocks that are marked one after the other.
use Rattle.std.proofs.Common.{◌≡◌, ℕ, zero, suc, ◌+◌, ◌<◌, ◌≤◌, Result, Ok, Err, OnOk, Bool, true, false, List, [], ◌∷◌}
use Rattle.std.proofs.Common.{◌++◌, length, get_or, slice_set, take, drop, refl, sym, ap, ◌∙◌, arith, ⊎_elim}
use Rattle.std.specs.List.{AllByRecursion}
use Rattle.std.proofs.lemmas.Bool.{cases_eq}
use Rattle.std.proofs.lemmas.List.{take_more, take-append-drop, get_or-set_same, get_or-set_other}
use Rattle.spec_image.specs.Common.{times}
use Rattle.spec_image.proofs.Common.{times-append}
use Rattle.changeset.specs.Common.{times_head, times_tail}
use Rattle.alloctab.specs.Common.{digit, digit_at, flag_at}

-- A block that is marked counts once more.
pub digit-marked : (flags : List Bool) (b : ℕ) → b < length flags → flag_at flags b ≡ false → (n : ℕ)
    → digit_at (slice_set flags b true) n ≡ digit_at flags n + times n (b ∷ [])
digit-marked flags b inside fresh n = ⊎_elim
    (λ is. let here = ap (digit_at (slice_set flags b true)) is
    ∙ ap digit (get_or-set_same flags b true false inside) in let was = ap (digit_at flags) is ∙ ap digit fresh in
    let one = times_head n b [] is in omega arith)
    (λ other. let there = ap digit (get_or-set_other flags b n true false other) in
    let none = times_tail n b [] other in omega arith) (cases_eq n b)

pub digit-set : (flags : List Bool) (b : ℕ) → (flag_at flags b ≡ false → ⊥) → digit_at flags b ≡ 1
digit-set flags b set = by (flag_at flags b) refl
  where
    by : (f : Bool) → flag_at flags b ≡ f → digit_at flags b ≡ 1
    by true is = ap digit is
    by false is = absurd (set is)

module _ (old now : List Bool) (blocks : List ℕ) (i b : ℕ) (below : i < length blocks) (is : b
    ≡ get_or blocks i 0) (so_far : (n : ℕ) → digit_at now n ≡ digit_at old n + times n (take i blocks)) where
  pub times_more : (n : ℕ) → times n (take (i + 1) blocks) ≡ times n (take i blocks) + times n (b ∷ [])
  times_more n = ap (times n) (take_more blocks i 0 below ∙ ap (λ (m : ℕ). take i blocks ++ m ∷ []) (sym is))
      ∙ times-append n (take i blocks) (b ∷ [])

  pub marked_more : b < length now → flag_at now b ≡ false → (n : ℕ)
      → digit_at (slice_set now b true) n ≡ digit_at old n + times n (take (i + 1) blocks)
  marked_more inside fresh n = omega (arith, digit-marked now b inside fresh n, times_more n, so_far n)

  pub marked_twice : (flag_at now b ≡ false → ⊥) → 2 ≤ digit_at old b + times b blocks
  marked_twice set =
      let all : times b blocks ≡ times b (take (i + 1) blocks) + times b (drop (i + 1) blocks) = ap (times b)
      (sym (take-append-drop (i + 1) blocks)) ∙ times-append b (take (i + 1) blocks) (drop (i + 1) blocks) in
      let one = times_head b b [] refl in
      omega (arith, digit-set now b set, times_more b, so_far b)

-- What holds of each number of a list holds of the one at a place, and of one more of them.

pub all_at : (P : ℕ → Type 0) (xs : List ℕ) (i : ℕ) → AllByRecursion P xs → i < length xs → P (get_or xs i 0)
all_at P [] i all below = absurd (omega arith)
all_at P (x ∷ xs) zero all below = all.0
all_at P (x ∷ xs) (suc i) all below = all_at P xs i all.1 (omega arith)

-- The blocks of a version: the prime block, the ribs, and the data blocks.

pub times_parts : (n prime : ℕ) (ribs blocks : List ℕ) → times n (prime ∷ (ribs ++ blocks))
    ≡ times n (prime ∷ []) + times n ribs + times n blocks
times_parts n prime ribs blocks = omega (arith, times-append n ribs blocks)

pub all_weaker : (P Q : ℕ → Type 0) (xs : List ℕ) → ((n : ℕ) → P n → Q n) → AllByRecursion P xs → AllByRecursion Q xs
all_weaker P Q [] weaker all = tt
all_weaker P Q (x ∷ xs) weaker all = (weaker x all.0, all_weaker P Q xs weaker all.1)

pub on_ok : {T E : Type 0} (result : Result T E) (A B : Type 0) → (A → B) → OnOk result A → OnOk result B
on_ok (Ok value) A B then is = then is
on_ok (Err error) A B then is = tt
