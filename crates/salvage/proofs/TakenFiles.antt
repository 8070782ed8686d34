-- The files that were taken: those of directories that are in their place, and the whole ones of the others.
use Rattle.std.proofs.Common.{◌≡◌, ◌⊎◌, inl, inr, ⊎_elim, ℕ, ◌≤◌, Bool, true, false, List, [], ◌∷◌, ◌++◌}
use Rattle.std.proofs.Common.{◌+◌, ◌<◌, slice_index, Contains, append_assoc, sym, ap, subst, ◌∙◌, arith}
use Rattle.std.specs.List.{AllByRecursion}
use Rattle.std.specs.List.Sorted.{IsPermutation}
use Rattle.std.proofs.lemmas.List.Sorted.{IsPermutation-sym}
use Rattle.blockdisk.specs.Common.{Contents}
use Rattle.spec_image.specs.Common.{times, total}
use Rattle.spec_image.proofs.Common.{all_append}
use Rattle.volume.specs.declared.error.VolumeError.TheVariants.{BadData}
use Rattle.volume.proofs.common.Reordered.{all_moved, total_moved}
use Rattle.salvage.specs.Common.{AreAdded, AreApart, AreBySize, AreFree, AreKept, AreMarked, ArePlaced, AreTaken}
use Rattle.salvage.specs.Common.{CountTo, FitsDisk, IsAlone, IsDamaged, IsDoubtful, IsFinding, IsFull, IsFullBy}
use Rattle.salvage.specs.Common.{IsGood, IsInPlace, IsLostBy, IsNamedRead, IsRead, IsSpoiled, IsTold, IsWholeFile}
use Rattle.salvage.specs.Common.{Judges, blocks_of, claims, loss_of, told_of, uses}
use Rattle.salvage.specs.declared.saved.SavedFile.{SavedFile}
use Rattle.salvage.specs.declared.finding.Defect.{Defect}
use Rattle.salvage.specs.declared.finding.Defect.TheVariants.{Start, FreeBlock, TwoOwners, Crowded, Missing, Surplus}
use Rattle.salvage.specs.declared.finding.Defect.TheVariants.{Tail}
use Rattle.salvage.specs.declared.finding.Finding.{Finding}
use Rattle.salvage.proofs.CarriedFacts.{element_has}
use Rattle.salvage.proofs.Faulty.{IsOne, claims_each, doubt_stands, in_place, spoiled_stands, unnamed_stands}
use Rattle.salvage.proofs.JudgedFiles.{IsDealt, alone_once, judged_all, judged_both, judged_each, judged_few}
use Rattle.salvage.proofs.JudgedFiles.{judged_left, judged_told}
use Rattle.salvage.proofs.KeptFiles.{apart_moved, at_total, crowded_named, crowded_unnamed}
use Rattle.salvage.proofs.Members.{all_both, all_three, contains_left, contains_right, each_contained}
use Rattle.directory.proofs.GatheredEntries.{all_of}
use Rattle.volume.specs.declared.error.VolumeError.TheVariants as volume

-- What is spoiled has a damaged block.
pub spoiled_damaged : (contents : Contents) (file : SavedFile) (fault : Defect) → IsSpoiled contents file fault
    → IsDamaged contents file
spoiled_damaged contents file (Start (BadData n)) is = record { block = n; among = is.0; damaged = is.1 }
spoiled_damaged contents file (FreeBlock n) is = absurd is
spoiled_damaged contents file (TwoOwners n) is = absurd is
spoiled_damaged contents file (Crowded n) is = absurd is
spoiled_damaged contents file (Missing n) is = absurd is
spoiled_damaged contents file (Surplus n) is = absurd is
spoiled_damaged contents file (Tail n) is = absurd is
spoiled_damaged contents file (Start volume.NotVolume) is = absurd is
spoiled_damaged contents file (Start volume.BadHome) is = absurd is
spoiled_damaged contents file (Start volume.BadLog) is = absurd is
spoiled_damaged contents file (Start (volume.BadDirectory n)) is = absurd is
spoiled_damaged contents file (Start (volume.BadRetrieval n)) is = absurd is
spoiled_damaged contents file (Start (volume.BlockTwice n)) is = absurd is
spoiled_damaged contents file (Start (volume.TableWrong n)) is = absurd is
spoiled_damaged contents file (Start volume.Device) is = absurd is
spoiled_damaged contents file (Start volume.NoMemory) is = absurd is
spoiled_damaged contents file (Start volume.Failed) is = absurd is

-- what is lost by the last of the findings
lost_behind : (findings told new : List Finding) (file : SavedFile) (is_named : Bool) → new ≡ findings ++ told
    → IsLostBy told (loss_of is_named file) → IsLostBy new (loss_of is_named file)
lost_behind findings told new file is_named is lost = record {
  fault = lost.fault;
  among = subst (λ (l : List Finding). Contains l (told_of is_named file lost.fault)) (sym is)
      (contains_right (told_of is_named file lost.fault) findings told lost.among);
}

-- and of those before these
lost_before : (findings told new : List Finding) (file : SavedFile) (is_named : Bool) → new ≡ findings ++ told
    → IsLostBy findings (loss_of is_named file) → IsLostBy new (loss_of is_named file)
lost_before findings told new file is_named is lost = record {
  fault = lost.fault;
  among = subst (λ (l : List Finding). Contains l (told_of is_named file lost.fault)) (sym is)
      (contains_left (told_of is_named file lost.fault) findings told lost.among);
}

-- Findings of those that weren't kept, and then of those that were kept.
told_both : (size layout : ℕ) (contents : Contents) (findings added found more told : List Finding)
    → found ≡ findings ++ added → told ≡ found ++ more → AllByRecursion (IsFinding size layout contents) added
    → AllByRecursion (IsFinding size layout contents) more → AreAdded size layout contents findings told
told_both size layout contents findings added found more told first second stand stand_too = record {
  added = added ++ more;
  new_is = second ∙ ap (λ (l : List Finding). l ++ more) first ∙ append_assoc findings added more;
  stand = all_append (IsFinding size layout contents) added more stand stand_too;
}

-- Files that directories name.
module _ (size layout : ℕ) (contents : Contents) (counts : List ℕ) (named : List SavedFile)
    (master directories free : List Bool) (old claimed : List ℕ) (kept none new left left_new : List SavedFile)
    (findings found told : List Finding) (unclaimed : (n : ℕ) → slice_index old n ≡ 0)
    (no_files : none ≡ []) (no_left : left ≡ [])
    (counted : CountTo counts (uses named master directories free))
    (read : AllByRecursion (IsNamedRead size layout contents) named) (apart : AreApart named)
    (marked : AreMarked size layout contents named master directories)
    (is_free : AreFree size contents free)
    (k : AreKept true old claimed named kept findings found)
    (j : Judges contents counts free true kept none new left left_new found told) where
  abbrev One : SavedFile → Type 0
  One = IsOne size layout contents counts named master directories free counted read apart marked is_free

  each_named : AllByRecursion One named
  each_named = all_three (Contains named) (IsNamedRead size layout contents)
      (λ file. (n : ℕ) → times n (blocks_of file) ≤ claims named n) named (each_contained named) read
      (claims_each named)

  each_one : AllByRecursion One kept
  each_one = all_of (Contains named) One kept (λ file there. element_has One named file each_named there) k.only

  files_are : new ≡ j.taken
  files_are = j.files_are ∙ ap (λ (l : List SavedFile). l ++ j.taken) no_files

  left_are : left_new ≡ j.left
  left_are = j.left_are ∙ ap (λ (l : List SavedFile). l ++ j.left) no_left

  abbrev IsAsJudged : List SavedFile → List SavedFile → SavedFile → Type 0
  IsAsJudged files doubtful file = Contains files file
      ⊎ ((Contains doubtful file ⊎ (IsDamaged contents file ⊎ IsFull named file)) × IsTold told file)

  dealt : (file : SavedFile) → IsDealt contents counts free true j.taken j.left j.told file
      → IsAsJudged j.taken j.left file
  dealt file is = ⊎_elim (λ taken. inl taken)
      (λ other. inr (
        ⊎_elim (λ there. inl there) (λ bad. inr (inl (spoiled_damaged contents file bad.0 bad.1))) other.0,
        lost_behind found j.told told file true j.findings_are other.1,
      )) is

  -- One that wasn't kept has a block that is in too many of them.
  full : (file : SavedFile) → (block : ℕ) × (0 < times block (blocks_of file))
      × (5 ≤ slice_index old block + claims named block) × IsLostBy k.added (loss_of true file)
      → IsAsJudged j.taken j.left file
  full file is =
      let none = unclaimed is.0 in
      let many = is.2 in
      inr (
        inr (inr (record { block = is.0; among = is.1; many = omega arith })),
        lost_before found j.told told file true j.findings_are
            (lost_behind findings k.added found file true k.told_is is.3),
      )

  each_dealt : AllByRecursion (IsAsJudged j.taken j.left) kept
  each_dealt = all_of (IsDealt contents counts free true j.taken j.left j.told) (IsAsJudged j.taken j.left) kept dealt
      (judged_each contents counts free true kept j.taken j.left j.told j.judged)

  each_judged : AllByRecursion (IsAsJudged j.taken j.left) named
  each_judged = all_of (λ file. Contains kept file ⊎ ((block : ℕ) × (0 < times block (blocks_of file))
      × (5 ≤ slice_index old block + claims named block) × IsLostBy k.added (loss_of true file)))
      (IsAsJudged j.taken j.left) named
      (λ file is. ⊎_elim (λ there. element_has (IsAsJudged j.taken j.left) kept file each_dealt there)
      (λ other. full file other) is) k.each

  taken_good : AllByRecursion (λ file. One file × IsGood contents counts true file) j.taken
  taken_good = judged_all contents counts free true One kept j.taken j.left j.told j.judged each_one

  taken_once : (n : ℕ) → claims j.taken n ≤ 1
  taken_once n =
      let f : SavedFile → ℕ = λ file. times n (blocks_of file) in
      let few = judged_few contents counts free true f kept j.taken j.left j.told j.judged in
      let fewer = k.few f in
      let e = counted n in
      ⊎_elim (λ zero. omega arith) (λ one. omega arith)
      (alone_once counts n One j.taken (all_of (λ file. One file × IsGood contents counts true file)
      (λ file. One file × IsAlone counts file) j.taken (λ file is. (is.0, is.1.1)) taken_good))

  abbrev IsDoubtedFile : SavedFile → Type 0
  IsDoubtedFile file = Contains named file × IsWholeFile size layout contents file × IsTold told file

  pub are_placed : ArePlaced size layout contents named new left_new told
  are_placed = record {
    judged = subst (λ (l : List SavedFile). AllByRecursion (IsAsJudged l left_new) named) (sym files_are)
        (subst (λ (l : List SavedFile). AllByRecursion (IsAsJudged j.taken l) named) (sym left_are) each_judged);
    placed = subst (AllByRecursion (IsInPlace size layout contents named)) (sym files_are)
        (all_of (λ file. One file × IsGood contents counts true file) (IsInPlace size layout contents named) j.taken
        (λ file is. in_place size layout contents counts named master directories free counted read apart marked is_free
        file is.0 is.1.0 is.1.1) taken_good);
    once = λ n. subst (λ (l : List SavedFile). claims l n ≤ 1) (sym files_are) (taken_once n);
    doubted = subst (AllByRecursion IsDoubtedFile) (sym left_are)
        (all_of (λ file. One file × ((fault : Defect) × IsDoubtful contents counts free true file fault)
        × IsLostBy j.told (loss_of true file)) IsDoubtedFile j.left
        (λ file is. (
          is.0.0,
          record { read = is.0.1.read; undamaged = is.1.1.0 },
          lost_behind found j.told told file true j.findings_are is.2,
        ))
        (judged_left contents counts free true One kept j.taken j.left j.told j.judged each_one));
  }

  pub are_told : AreAdded size layout contents findings told
  are_told = told_both size layout contents findings k.added found j.told told k.told_is j.findings_are
      (all_of (IsFullBy true old named) (IsFinding size layout contents) k.added
      (crowded_named size layout contents old named unclaimed read apart) k.stand)
      (judged_told contents counts free true One (IsFinding size layout contents) kept j.taken j.left j.told
      (doubt_stands size layout contents counts named master directories free counted read apart marked is_free)
      (spoiled_stands size layout contents counts named master directories free counted read apart marked is_free)
      j.judged each_one)

-- The blocks of those that were taken or left are claimed.
pub are_held : (contents : Contents) (counts : List ℕ) (free : List Bool) (is_named : Bool) (old claimed : List ℕ)
    (candidates kept none new left left_new : List SavedFile) (findings found told : List Finding) → none ≡ []
    → left ≡ [] → AreKept is_named old claimed candidates kept findings found
    → Judges contents counts free is_named kept none new left left_new found told → (n : ℕ)
    → claims new n + claims left_new n ≤ slice_index claimed n
are_held contents counts free is_named old claimed candidates kept none new left left_new findings found told no_files
    no_left k j n =
    let f : SavedFile → ℕ = λ file. times n (blocks_of file) in
    let few = judged_both contents counts free is_named f kept j.taken j.left j.told j.judged in
    let held = k.held n in
    let files = ap (total f) (j.files_are ∙ ap (λ (l : List SavedFile). l ++ j.taken) no_files) in
    let others = ap (total f) (j.left_are ∙ ap (λ (l : List SavedFile). l ++ j.left) no_left) in
    omega arith

-- Files that no directory names.

module _ (size layout : ℕ) (contents : Contents) (counts : List ℕ) (free : List Bool) (old claimed : List ℕ)
    (unnamed candidates kept none new left left_new : List SavedFile) (findings found told : List Finding)
    (moved : IsPermutation unnamed candidates) (no_files : none ≡ [])
    (read : AllByRecursion (IsRead size layout contents) unnamed)
    (k : AreKept false old claimed candidates kept findings found)
    (j : Judges contents counts free false kept none new left left_new found told) where
  unnamed_are : new ≡ j.taken
  unnamed_are = j.files_are ∙ ap (λ (l : List SavedFile). l ++ j.taken) no_files

  -- what all of them have, each that is kept has
  kept_has : (P : SavedFile → Type 0) → AllByRecursion P unnamed → AllByRecursion P kept
  kept_has P all = all_of (Contains candidates) P kept
      (λ file there. element_has P candidates file (all_moved unnamed candidates moved P all) there) k.only

  abbrev IsTakenOrTold : List SavedFile → SavedFile → Type 0
  IsTakenOrTold files file = Contains files file
      ⊎ IsLostBy told (loss_of false file)

  unnamed_good : AllByRecursion (λ file. (Contains unnamed file × IsRead size layout contents file)
      × IsGood contents counts false file) j.taken
  unnamed_good = judged_all contents counts free false
      (λ file. Contains unnamed file × IsRead size layout contents file) kept j.taken j.left j.told j.judged
      (kept_has (λ file. Contains unnamed file × IsRead size layout contents file)
      (all_both (Contains unnamed) (IsRead size layout contents) unnamed (each_contained unnamed) read))

  dealt_with : (file : SavedFile) → IsDealt contents counts free false j.taken j.left j.told file
      → IsTakenOrTold j.taken file
  dealt_with file is = ⊎_elim (λ taken. inl taken)
      (λ other. inr (lost_behind found j.told told file false j.findings_are other.1)) is

  kept_dealt : AllByRecursion (IsTakenOrTold j.taken) kept
  kept_dealt = all_of (IsDealt contents counts free false j.taken j.left j.told) (IsTakenOrTold j.taken) kept dealt_with
      (judged_each contents counts free false kept j.taken j.left j.told j.judged)

  each_taken_or_told : AllByRecursion (IsTakenOrTold j.taken) unnamed
  each_taken_or_told = all_moved candidates unnamed (IsPermutation-sym unnamed candidates moved)
      (IsTakenOrTold j.taken)
      (all_of (λ file. Contains kept file ⊎ ((block : ℕ) × (0 < times block (blocks_of file))
      × (5 ≤ slice_index old block + claims candidates block) × IsLostBy k.added (loss_of false file)))
      (IsTakenOrTold j.taken) candidates
      (λ file is. ⊎_elim (λ there. element_has (IsTakenOrTold j.taken) kept file kept_dealt there)
      (λ full. inr (lost_before found j.told told file false j.findings_are
      (lost_behind findings k.added found file false k.told_is full.3))) is) k.each)

  taken_apart : AreApart unnamed → AreApart j.taken
  taken_apart apart n =
      let f : SavedFile → ℕ = λ file. times n (file.at ∷ []) in
      let few = judged_few contents counts free false f kept j.taken j.left j.told j.judged in
      let fewer = k.few f in
      let same = total_moved unnamed candidates moved f in
      let all = at_total n unnamed in
      let some = at_total n j.taken in
      let one = apart n in
      omega arith

  pub are_taken : AreApart unnamed → AreTaken size layout contents unnamed new told
  are_taken apart = record {
    whole = subst (AllByRecursion (IsWholeFile size layout contents)) (sym unnamed_are)
        (all_of (λ file. (Contains unnamed file × IsRead size layout contents file)
        × IsGood contents counts false file) (IsWholeFile size layout contents) j.taken
        (λ file is. record { read = is.0.1; undamaged = is.1 }) unnamed_good);
    only = subst (AllByRecursion (Contains unnamed)) (sym unnamed_are)
        (all_of (λ file. (Contains unnamed file × IsRead size layout contents file)
        × IsGood contents counts false file) (Contains unnamed) j.taken (λ file is. is.0.0) unnamed_good);
    apart = subst AreApart (sym unnamed_are) (taken_apart apart);
    each = λ file there. subst (λ (l : List SavedFile). IsTakenOrTold l file) (sym unnamed_are)
        (element_has (IsTakenOrTold j.taken) unnamed file each_taken_or_told there);
  }

  pub unnamed_told : (earlier : List SavedFile) → AllByRecursion (FitsDisk size) unnamed
      → AllByRecursion (IsNamedRead size layout contents) earlier → AreApart (earlier ++ unnamed)
      → AreBySize candidates → ((n : ℕ) → slice_index old n ≤ claims earlier n)
      → AreAdded size layout contents findings told
  unnamed_told earlier fit named apart by_size few =
      let both = all_both (IsRead size layout contents) (FitsDisk size) unnamed read fit in
      told_both size layout contents findings k.added found j.told told k.told_is j.findings_are
      (all_of (IsFullBy false old candidates) (IsFinding size layout contents) k.added
      (crowded_unnamed size layout contents old earlier candidates named
      (all_moved unnamed candidates moved (λ file. IsRead size layout contents file × FitsDisk size file) both)
      (apart_moved earlier unnamed candidates moved apart) by_size few) k.stand)
      (judged_told contents counts free false (λ file. IsRead size layout contents file × FitsDisk size file)
      (IsFinding size layout contents) kept j.taken j.left j.told (λ file fault is doubt. absurd doubt)
      (unnamed_stands size layout contents) j.judged
      (kept_has (λ file. IsRead size layout contents file × FitsDisk size file) both))
