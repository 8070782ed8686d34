-- A read that calls no device.
use Rattle.std.proofs.Common.{◌≡◌, ◌∷◌, ◌∙◌, [], ℕ, Option, List, Some, None, Ok, Err, Result, IfSome, length}
use Rattle.std.proofs.Common.{slice_set, refl, ap}
use Rattle.blockdisk.specs.Common.{IsRead, DiskState, MayLeave, passes_start, same_disk_start}
use Rattle.blockdisk.specs.declared.fault.Fault.{Fault}
use Rattle.blockdisk.specs.declared.fault.Fault.TheVariants.{Device, Damaged}

no_fault : (words : List ℕ) (fault : Fault) → Ok words ≡ Err fault → ⊥
no_fault words fault is = cc

-- it is one of a disk that holds those words, and leaves it as it was
pub recalled : (n : ℕ) (s : DiskState) (words : List ℕ) → (s.honest → s.contents n ≡ Some words)
    → IsRead n s s (Ok words)
recalled n s words held = record {
  words = held;
  damaged = λ h is. absurd (no_fault words Damaged is);
  keeps = λ h. record { contents = λ m. refl; is_open = λ m. refl; time = passes_start s (MayLeave s) };
  same = same_disk_start s;
  failed = λ is. absurd (no_fault words Device is);
  served = λ none. refl;
}

same_words : (read kept : List ℕ) → ◌≡◌ {A = Result (List ℕ) Fault} (Ok read) (Ok kept) → read ≡ kept
same_words read kept is = cc

one_place : (places : List (List ℕ)) (words : List ℕ) → length places ≡ 1 → slice_set places 0 words ≡ words ∷ []
one_place [] words one = cc
one_place (place ∷ []) words one = refl
one_place (place ∷ next ∷ more) words one = cc

-- A run of one place, read in the way of a block that is cached, is filled with that block.
module _ (o : Option (List ℕ)) (places : List (List ℕ)) (read : List ℕ) (one : length places ≡ 1) where
  pub run_recalled : (Inner CachedBlocks : Type 0)
      → IfSome o (λ words. (◌≡◌ {A = Result (List ℕ) Fault} (Ok read) (Ok words)) × Inner × CachedBlocks)
      → IfSome o (λ words. (◌≡◌ {A = Result (Option ℕ) Fault} (Ok None) (Ok None))
      × (slice_set places 0 read ≡ words ∷ []) × Inner × CachedBlocks)
  run_recalled inner kept was = (elim o as (λ o. IfSome o (λ words. (◌≡◌ {A = Result (List ℕ) Fault} (Ok read)
      (Ok words)) × inner × kept) → IfSome o (λ words. (◌≡◌ {A = Result (Option ℕ) Fault} (Ok None) (Ok None))
      × (slice_set places 0 read ≡ words ∷ []) × inner × kept)) [
        | None ↦ λ was. was
        | Some words ↦ λ was.
            (refl, one_place places read one ∙ ap (λ ws. ws ∷ []) (same_words read words was.0), was.1, was.2)
      ]) was
