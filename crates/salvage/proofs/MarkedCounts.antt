-- Marked blocks that are counted one after the other.
use Rattle.std.proofs.Common.{◌≡◌, ℕ, ◌+◌, ◌<◌, ◌≤◌, Bool, true, false, List, [], ◌∷◌, length, take, ap, ◌∙◌, sym}
use Rattle.std.proofs.Common.{arith, ⊎_elim, refl, replicate}
use Rattle.std.proofs.lemmas.Bool.{cases_eq, cases_lt}
use Rattle.std.proofs.lemmas.List.{get_or-take, get_or_past, length-take-le, take_all}
use Rattle.spec_image.specs.Common.{times}
use Rattle.changeset.specs.Common.{times_head, times_tail}
use Rattle.alloctab.specs.Common.{digit, digit_at, flag_at}
use Rattle.salvage.specs.Common.{CountTo, claims, uses}
use Rattle.salvage.specs.declared.saved.SavedFile.{SavedFile}
use Rattle.salvage.proofs.CountLaws.{Adds, first_counts}

digit_before : (marks : List Bool) (k m : ℕ) → m < k → digit_at (take k marks) m ≡ digit_at marks m
digit_before marks k m below = ap digit (get_or-take k marks m false below)

digit_behind : (marks : List Bool) (k m : ℕ) → k ≤ length marks → k ≤ m → digit_at (take k marks) m ≡ 0
digit_behind marks k m inside past = ap digit (get_or_past (take k marks) m false
    (let long = length-take-le k marks inside in omega arith))

module _ (marks : List Bool) (k : ℕ) (inside : k < length marks) where
  others_stay : (m : ℕ) → (m ≡ k → ⊥) → digit_at (take (k + 1) marks) m ≡ digit_at (take k marks) m
  others_stay m other = ⊎_elim
      (λ (below : m < k). digit_before marks (k + 1) m (omega arith) ∙ sym (digit_before marks k m below))
      (λ (past : k ≤ m). digit_behind marks (k + 1) m (omega arith) (omega arith)
      ∙ sym (digit_behind marks k m (omega arith) past)) (cases_lt m k)

  -- block k is marked, or it isn't
  pub counted_marked : flag_at marks k ≡ true → (m : ℕ)
      → digit_at (take (k + 1) marks) m ≡ digit_at (take k marks) m + times m (k ∷ [])
  counted_marked is m = ⊎_elim
      (λ (same : m ≡ k).
      let now : digit_at (take (k + 1) marks) m ≡ 1 = digit_before marks (k + 1) m (omega arith)
      ∙ ap (digit_at marks) same ∙ ap digit is in
      let was = digit_behind marks k m (omega arith) (omega arith) in
      let one = times_head m k [] same in omega arith)
      (λ (other : m ≡ k → ⊥). let stays = others_stay m other in let none = times_tail m k [] other in omega arith)
      (cases_eq m k)

  pub counted_unmarked : flag_at marks k ≡ false → (m : ℕ)
      → digit_at (take (k + 1) marks) m ≡ digit_at (take k marks) m
  counted_unmarked is m = ⊎_elim
      (λ (same : m ≡ k).
      let now : digit_at (take (k + 1) marks) m ≡ 0 = digit_before marks (k + 1) m (omega arith)
      ∙ ap (digit_at marks) same ∙ ap digit is in
      let was = digit_behind marks k m (omega arith) (omega arith) in
      omega arith)
      (λ (other : m ≡ k → ⊥). others_stay m other) (cases_eq m k)

pub counted_all : (marks : List Bool) (k : ℕ) → length marks ≤ k → (m : ℕ)
    → digit_at marks m ≡ digit_at (take k marks) m
counted_all marks k past m = ap (λ (l : List Bool). digit_at l m) (sym (take_all k marks past))

-- What files, chains and the table count together.
pub all_uses : (size : ℕ) (zeros named first second third : List ℕ) (files : List SavedFile)
    (master directories free : List Bool) → zeros ≡ replicate size 0 → Adds zeros named (λ m. claims files m)
    → Adds named first (λ m. digit_at master m) → Adds first second (λ m. digit_at directories m)
    → Adds second third (λ m. digit_at free m) → CountTo third (uses files master directories free)
all_uses size zeros named first second third files master directories free is of_files of_master of_others of_free =
    of_free (λ m. claims files m + digit_at master m + digit_at directories m)
    (of_others (λ m. claims files m + digit_at master m)
    (of_master (claims files) (first_counts size zeros named files files is refl of_files)))
