-- DeleteDir is answered as the machine answers it.
use Rattle.std.proofs.Common.{◌≡◌, ◌<◌, ◌+◌, ℕ, Bool, true, false, if◌then◌else◌, List, Option, None, Some, refl, sym}
use Rattle.std.proofs.Common.{ap, ◌∙◌, ⊎_elim, inl, inr, arith}
use Rattle.std.specs.Prelude.{◌==◌, ◌||◌, ◌&&◌, not, is_none, option_map}
use Rattle.std.proofs.lemmas.Bool.{cases_lt, eq-eqb}
use Rattle.std.specs.Cmp.{nat_cmp_total}
use Rattle.std.specs.FinMap.{nat_cmp-IsAntisymmetric}
use Rattle.std.specs.FinMap.Entries.{find}
use Rattle.std.specs.Ordering.{nat_cmp}
use Rattle.blockdisk.specs.Common.{DiskState}
use Rattle.spec_machine.specs.Common.{quota_in, quota_of, lies_outside, State, may_not_remove, is_stranger}
use Rattle.spec_machine.specs.Common.{remove_answer, system, entry_count, names_in, pending_creations}
use Rattle.spec_image.specs.Common.{Files, Directory, map_directory, get, size, total, SpecVersion, without_serials}
use Rattle.spec_machine.specs.declared.call.Reply.{Reply}
use Rattle.spec_machine.specs.declared.call.Reply.TheVariants.{Done, Refused, AddressCheck}
use Rattle.volume.specs.Common.{entries_with, IsDirectoryOf, quota_in_memory, quota_in_files, CurrentDirectory}
use Rattle.volume.specs.Common.{IsWholeDirectory, MemoryMap, IsWholeMemory, creates, HasEntries, RestsAt}
use Rattle.volume.proofs.common.Answers.{Holds, all_at_place}
use Rattle.volume.proofs.Charges.Charges.{quota_same}
use Rattle.volume.proofs.common.Lookups.{first_place}
use Rattle.volume.proofs.common.UsedBlocks.{element_at}
use Rattle.monitor.specs.Common.{IsNowhere, IsThere, is_kept_from, IsKeptBy, IsRemovable, UnderKeys, job_of, state_of}
use Rattle.monitor.specs.declared.job.Job.{Job}
use Rattle.monitor.proofs.common.Growths.{Matches, matches, shown_at}
use Rattle.monitor.proofs.common.Changes.{none_there}
use Rattle.monitor.proofs.common.PinnedRooms.{positive}

-- the answer, by its tests
abbrev pick : Bool → Bool → Bool → Bool → Reply
pick outside gone strange empty = if outside then AddressCheck else if gone then Refused 1 else if strange
    then Refused 2 else if not empty then Refused 0o22 else Done

module _ (d : DiskState) (c : MemoryMap) (files : Files SpecVersion) (w : UnderKeys) (jobs : List (Option Job))
    (whole : IsWholeMemory d.size c) (holds : Holds d c.known (without_serials files)) (creations : (ppn : ℕ)
    → pending_creations (state_of files w jobs) ppn ≡ total (creates ppn) c.pending) (owner : ℕ) where
  abbrev t : State
  t = state_of files w jobs

  -- The directory, as the volume knows it.

  pub matched : (x : CurrentDirectory) → IsDirectoryOf c owner x → Matches files owner x
  matched x there = matches d c.known files holds whole.map there.0 (owner, there.1) x there.2.is there.3
      (all_at_place (IsWholeDirectory d.size) c.known.directories there.0 x whole.map.each there.3)

  -- it has as many entries there, with those that are being created
  entries_are : (x : CurrentDirectory) → IsDirectoryOf c owner x → entry_count t owner ≡ entries_with c x owner
  entries_are x there =
      let is = matched x there in
      ap (λ o. names_in o + pending_creations t owner) is.there ∙ (λ i. is.size_is i + creations owner i)

  known_there : (get files owner ≡ None → ⊥) → (x : CurrentDirectory) × IsDirectoryOf c owner x
  known_there there = by (find nat_cmp owner c.known.master.entries) refl
    where
      by : (was : Option (ℕ × ℕ)) → find nat_cmp owner c.known.master.entries ≡ was
          → (x : CurrentDirectory) × IsDirectoryOf c owner x
      by None none = absurd (there (none_there d c files holds owner none))
      by (Some v) is =
          let at = first_place nat_cmp_total nat_cmp-IsAntisymmetric c.known.master.entries owner v is in
          let x = element_at c.known.directories at.0
          (let below = at.1.within in let aligned = whole.map.aligned in omega arith) in
          (x.0, (at.0, v, at.1, x.1))

  pub counts_none : (get files owner ≡ None → ⊥) → (HasEntries c owner → ⊥) → entry_count t owner ≡ 0
  counts_none there bare =
      let known = known_there there in
      let count = entries_are known.0 known.1 in
      ⊎_elim (λ (some : 0 < entries_with c known.0 owner). absurd (bare (known.0, known.1, some)))
      (λ few. omega (arith, count, few)) (cases_lt 0 (entries_with c known.0 owner))

  counts_some : HasEntries c owner → 0 < entry_count t owner
  counts_some has = let count = entries_are has.0 has.1 in omega (arith, count, has.2)

  -- it has the quota that it has there
  quota_is : quota_in_memory c owner ≡ quota_of t owner
  quota_is = quota_same d c.known (without_serials files) holds owner ∙ ap quota_in_files (shown_at files owner)
      ∙ by (get files owner)
    where
      by : (o : Option (Directory SpecVersion))
          → quota_in_files (option_map (map_directory (λ (v : SpecVersion). v.file)) o) ≡ quota_in o
      by None = refl
      by (Some x) = refl

  -- The directory, as the machine has it.
  module _ (honest : d.honest) (rests : RestsAt d (without_serials files)) where
    pub none_of : IsNowhere d owner → get files owner ≡ None
    none_of nowhere = by (get files owner) (sym (shown_at files owner) ∙ nowhere honest (without_serials files) rests)
      where
        by : (was : Option (Directory SpecVersion)) → option_map (map_directory (λ (v : SpecVersion). v.file))
            was ≡ None
            → was ≡ None
        by None is = refl
        by (Some x) is = cc is

    pub one_of : IsThere d owner → get files owner ≡ None → ⊥
    one_of there none = there honest (without_serials files) rests
        (shown_at files owner ∙ ap (option_map (map_directory (λ (v : SpecVersion). v.file))) none)

    is_one : IsThere d owner → is_none (get files owner) ≡ false
    is_one there = by (get files owner) refl
      where
        by : (was : Option (Directory SpecVersion)) → get files owner ≡ was → is_none was ≡ false
        by None is = absurd (one_of there is)
        by (Some x) is = refl

    -- a directory that may be deleted has no file
    pub empty_one : (ppn : ℕ) → IsRemovable d c ppn owner
        → (v : Directory SpecVersion) × (get files owner ≡ Some v) × (size v.files ≡ 0)
    empty_one ppn (there, own, bare) = by (get files owner) refl
      where
        by : (was : Option (Directory SpecVersion)) → get files owner ≡ was
            → (v : Directory SpecVersion) × (get files owner ≡ Some v) × (size v.files ≡ 0)
        by None is = absurd (one_of there is)
        by (Some v) is =
            let none = counts_none (one_of there) bare in
            let count = ap (λ o. names_in o + pending_creations t owner) is in
            (v, is, omega (arith, none, count))

    -- The answer.
    module _ (job : Job) (e : ℕ) where
      abbrev answer : Reply
      answer = remove_answer t (job_of w job) e owner

      abbrev outside : Bool
      outside = lies_outside job.core e 2

      abbrev gone : Bool
      gone = is_none (get files owner)

      abbrev strange : Bool
      strange = may_not_remove t (job_of w job) owner

      -- the volume's test is the machine's
      strange_is : is_kept_from c job.ppn owner ≡ strange
      strange_is = λ i. is_stranger (job_of w job) owner || (not (quota_is i == 0) && not (job.ppn == system))

      abbrev empty : Bool
      empty = entry_count t owner == 0

      pub answer_checked : outside ≡ true → answer ≡ AddressCheck
      answer_checked is i = pick (is i) gone strange empty

      pub refused_by : (code : ℕ) → outside ≡ false → IsKeptBy d c job.ppn owner code → answer ≡ Refused code
      refused_by code inside (inl (one, nowhere)) =
          let none = none_of nowhere in
          (λ i. pick (inside i) (is_none (none i)) strange empty) ∙ ap Refused (sym one)
      refused_by code inside (inr (inl (two, there, other))) =
          let found = is_one there in
          (λ i. pick (inside i) (found i) ((sym strange_is ∙ other) i) empty) ∙ ap Refused (sym two)
      refused_by code inside (inr (inr (full, there, own, has))) =
          let found = is_one there in
          let filled = positive (entry_count t owner) (counts_some has) in
          (λ i. pick (inside i) (found i) ((sym strange_is ∙ own) i) (filled i)) ∙ ap Refused (sym full)

      pub may_delete : outside ≡ false → IsRemovable d c job.ppn owner → answer ≡ Done
      may_delete inside (there, own, bare) =
          let found = is_one there in
          let none : (entry_count t owner == 0) ≡ true =
          eq-eqb (entry_count t owner) 0 (counts_none (one_of there) bare) in
          (λ i. pick (inside i) (found i) ((sym strange_is ∙ own) i) (none i))
