-- Files that were judged in turn: which of them were taken or left, and what was reported of the others.
use Rattle.std.proofs.Common.{◌≡◌, ◌⊎◌, inl, inr, ⊎_elim, ℕ, zero, suc, ◌+◌, ◌<◌, ◌≤◌, Bool, List, []}
use Rattle.std.proofs.Common.{◌∷◌, ◌++◌, slice_index, Contains, length, get_or, take, refl, sym, ap, subst, ◌∙◌, arith}
use Rattle.std.proofs.Common.{append_assoc}
use Rattle.std.specs.List.{AllByRecursion}
use Rattle.std.proofs.lemmas.List.{take_more}
use Rattle.blockdisk.specs.Common.{Contents}
use Rattle.spec_image.specs.Common.{times, total}
use Rattle.directory.proofs.GatheredEntries.{all_of}
use Rattle.salvage.specs.Common.{blocks_of, claims, IsAlone, IsDoubtful, IsGood, IsLostBy, IsSpoiled, AreJudged, Judges}
use Rattle.salvage.specs.Common.{loss_of, told_of}
use Rattle.salvage.specs.declared.saved.SavedFile.{SavedFile}
use Rattle.salvage.specs.declared.finding.Defect.{Defect}
use Rattle.salvage.specs.declared.finding.Finding.{Finding}
use Rattle.salvage.proofs.Members.{contains_here, contains_later}

module _ (contents : Contents) (counts : List ℕ) (free : List Bool) (is_named : Bool) where
  pub judged_none : AreJudged contents counts free is_named [] [] [] []
  unfolding AreJudged
  judged_none = (refl, refl, refl)

  pub judged_good : (file : SavedFile) → IsGood contents counts is_named file
      → AreJudged contents counts free is_named (file ∷ []) (file ∷ []) [] []
  unfolding AreJudged
  judged_good file good = inl (good, [], refl, (refl, refl, refl))

  pub judged_doubtful : (file : SavedFile) (fault : Defect) → IsDoubtful contents counts free is_named file fault
      → AreJudged contents counts free is_named (file ∷ []) [] (file ∷ []) (told_of is_named file fault ∷ [])
  unfolding AreJudged
  judged_doubtful file fault doubtful = inr (inl (fault, doubtful, [], refl, [], refl, (refl, refl, refl)))

  pub judged_spoiled : (file : SavedFile) (fault : Defect) → IsSpoiled contents file fault
      → AreJudged contents counts free is_named (file ∷ []) [] [] (told_of is_named file fault ∷ [])
  unfolding AreJudged
  judged_spoiled file fault spoiled = inr (inr (fault, spoiled, [], refl, (refl, refl, refl)))

  pub judged_on : (xs ys taken taken' left left' : List SavedFile) (told told' : List Finding)
      → AreJudged contents counts free is_named xs taken left told
      → AreJudged contents counts free is_named ys taken' left' told'
      → AreJudged contents counts free is_named (xs ++ ys) (taken ++ taken') (left ++ left') (told ++ told')
  unfolding AreJudged
  judged_on [] ys taken taken' left left' told told' first second =
      subst (λ (t : List SavedFile). AreJudged contents counts free is_named ys (t ++ taken') (left ++ left')
      (told ++ told')) (sym first.0)
      (subst (λ (t : List SavedFile). AreJudged contents counts free is_named ys taken' (t ++ left') (told ++ told'))
      (sym first.1)
      (subst (λ (t : List Finding). AreJudged contents counts free is_named ys taken' left' (t ++ told')) (sym first.2)
      second))
  judged_on (x ∷ xs) ys taken taken' left left' told told' first second = ⊎_elim
      (λ good. inl (
        good.0,
        good.1 ++ taken',
        ap (λ (t : List SavedFile). t ++ taken') good.2,
        judged_on xs ys good.1 taken' left left' told told' good.3 second,
      ))
      (λ others. inr (⊎_elim
      (λ doubt. inl (
        doubt.0,
        doubt.1,
        doubt.2 ++ left',
        ap (λ (t : List SavedFile). t ++ left') doubt.3,
        doubt.4 ++ told',
        ap (λ (t : List Finding). t ++ told') doubt.5,
        judged_on xs ys taken taken' doubt.2 left' doubt.4 told' doubt.6 second,
      ))
      (λ bad. inr (
        bad.0,
        bad.1,
        bad.2 ++ told',
        ap (λ (t : List Finding). t ++ told') bad.3,
        judged_on xs ys taken taken' left left' bad.2 told' bad.4 second,
      )) others)) first

  -- no more were taken than there were
  pub judged_few : (f : SavedFile → ℕ) (xs taken left : List SavedFile) (told : List Finding)
      → AreJudged contents counts free is_named xs taken left told → total f taken ≤ total f xs
  unfolding AreJudged
  judged_few f [] taken left told judged = let none = ap (total f) judged.0 in omega arith
  judged_few f (x ∷ xs) taken left told judged = ⊎_elim
      (λ good. let is = ap (total f) good.2 in let few = judged_few f xs good.1 left told good.3 in omega arith)
      (λ others. ⊎_elim
      (λ doubt. let few = judged_few f xs taken doubt.2 doubt.4 doubt.6 in omega arith)
      (λ bad. let few = judged_few f xs taken left bad.2 bad.4 in omega arith) others) judged

  -- nor taken and left
  pub judged_both : (f : SavedFile → ℕ) (xs taken left : List SavedFile) (told : List Finding)
      → AreJudged contents counts free is_named xs taken left told → total f taken + total f left ≤ total f xs
  unfolding AreJudged
  judged_both f [] taken left told judged =
      let none = ap (total f) judged.0 in
      let none_left = ap (total f) judged.1 in
      omega arith
  judged_both f (x ∷ xs) taken left told judged = ⊎_elim
      (λ good. let is = ap (total f) good.2 in let few = judged_both f xs good.1 left told good.3 in omega arith)
      (λ others. ⊎_elim
      (λ doubt. let is = ap (total f) doubt.3 in let few = judged_both f xs taken doubt.2 doubt.4 doubt.6 in
      omega arith)
      (λ bad. let few = judged_both f xs taken left bad.2 bad.4 in omega arith) others) judged

  -- What held for each holds for each that was taken, and these are good.
  pub judged_all : (P : SavedFile → Type 0) (xs taken left : List SavedFile) (told : List Finding)
      → AreJudged contents counts free is_named xs taken left told → AllByRecursion P xs
      → AllByRecursion (λ file. P file × IsGood contents counts is_named file) taken
  unfolding AreJudged
  judged_all P [] taken left told judged all =
      subst (AllByRecursion (λ file. P file × IsGood contents counts is_named file)) (sym judged.0) tt
  judged_all P (x ∷ xs) taken left told judged all = ⊎_elim
      (λ good. subst (AllByRecursion (λ file. P file × IsGood contents counts is_named file)) (sym good.2)
      ((all.0, good.0), judged_all P xs good.1 left told good.3 all.1))
      (λ others. ⊎_elim
      (λ doubt. judged_all P xs taken doubt.2 doubt.4 doubt.6 all.1)
      (λ bad. judged_all P xs taken left bad.2 bad.4 all.1) others) judged

  lost_first : (x file : SavedFile) (fault : Defect) (more : List Finding) → IsLostBy more (loss_of is_named file)
      → IsLostBy (told_of is_named x fault ∷ more) (loss_of is_named file)
  lost_first x file fault more lost = record {
    fault = lost.fault;
    among = contains_later (told_of is_named x fault) (record { fault = lost.fault; costs = loss_of is_named file })
        more lost.among;
  }

  lost_now : (file : SavedFile) (fault : Defect) (more : List Finding)
      → IsLostBy (told_of is_named file fault ∷ more) (loss_of is_named file)
  lost_now file fault more = record { fault = fault; among = contains_here (told_of is_named file fault) more }

  -- What held for each holds for each that was left, of which it was reported what is doubtful.
  pub judged_left : (P : SavedFile → Type 0) (xs taken left : List SavedFile) (told : List Finding)
      → AreJudged contents counts free is_named xs taken left told → AllByRecursion P xs
      → AllByRecursion (λ file. P file × ((fault : Defect) × IsDoubtful contents counts free is_named file fault)
      × IsLostBy told (loss_of is_named file)) left
  unfolding AreJudged
  judged_left P [] taken left told judged all =
      subst (AllByRecursion (λ file. P file × ((fault : Defect) × IsDoubtful contents counts free is_named file fault)
      × IsLostBy told (loss_of is_named file))) (sym judged.1) tt
  judged_left P (x ∷ xs) taken left told judged all = ⊎_elim
      (λ good. judged_left P xs good.1 left told good.3 all.1)
      (λ others. ⊎_elim
      (λ doubt. subst (λ (l : List SavedFile).
      AllByRecursion (λ file. P file × ((fault : Defect) × IsDoubtful contents counts free is_named file fault)
      × IsLostBy told (loss_of is_named file)) l) (sym doubt.3)
      (subst (λ (t : List Finding).
      AllByRecursion (λ file. P file × ((fault : Defect) × IsDoubtful contents counts free is_named file fault)
      × IsLostBy t (loss_of is_named file)) (x ∷ doubt.2)) (sym doubt.5) (
        (all.0, (doubt.0, doubt.1), lost_now x doubt.0 doubt.4),
        all_of (λ file. P file × ((fault : Defect) × IsDoubtful contents counts free is_named file fault)
            × IsLostBy doubt.4 (loss_of is_named file))
            (λ file. P file × ((fault : Defect) × IsDoubtful contents counts free is_named file fault)
            × IsLostBy (told_of is_named x doubt.0 ∷ doubt.4) (loss_of is_named file)) doubt.2
            (λ file is. (is.0, is.1, lost_first x file doubt.0 doubt.4 is.2))
            (judged_left P xs taken doubt.2 doubt.4 doubt.6 all.1),
      )))
      (λ bad. subst (λ (t : List Finding).
      AllByRecursion (λ file. P file × ((fault : Defect) × IsDoubtful contents counts free is_named file fault)
      × IsLostBy t (loss_of is_named file)) left) (sym bad.3)
      (all_of (λ file. P file × ((fault : Defect) × IsDoubtful contents counts free is_named file fault)
      × IsLostBy bad.2 (loss_of is_named file))
      (λ file. P file × ((fault : Defect) × IsDoubtful contents counts free is_named file fault)
      × IsLostBy (told_of is_named x bad.0 ∷ bad.2) (loss_of is_named file)) left
      (λ file is. (is.0, is.1, lost_first x file bad.0 bad.2 is.2))
      (judged_left P xs taken left bad.2 bad.4 all.1))) others) judged

  -- What follows from each fault holds for what was reported.
  pub judged_told : (P : SavedFile → Type 0) (Q : Finding → Type 0) (xs taken left : List SavedFile)
      (told : List Finding)
      → ((file : SavedFile) (fault : Defect) → P file → IsDoubtful contents counts free is_named file fault
      → Q (told_of is_named file fault))
      → ((file : SavedFile) (fault : Defect) → P file → IsSpoiled contents file fault
      → Q (told_of is_named file fault))
      → AreJudged contents counts free is_named xs taken left told → AllByRecursion P xs → AllByRecursion Q told
  unfolding AreJudged
  judged_told P Q [] taken left told of_doubt of_bad judged all = subst (AllByRecursion Q) (sym judged.2) tt
  judged_told P Q (x ∷ xs) taken left told of_doubt of_bad judged all = ⊎_elim
      (λ good. judged_told P Q xs good.1 left told of_doubt of_bad good.3 all.1)
      (λ others. ⊎_elim
      (λ doubt. subst (AllByRecursion Q) (sym doubt.5) (
        of_doubt x doubt.0 all.0 doubt.1,
        judged_told P Q xs taken doubt.2 doubt.4 of_doubt of_bad doubt.6 all.1,
      ))
      (λ bad. subst (AllByRecursion Q) (sym bad.3) (
        of_bad x bad.0 all.0 bad.1,
        judged_told P Q xs taken left bad.2 of_doubt of_bad bad.4 all.1,
      )) others) judged

  -- What each is: taken, left or spoiled, and reported in the last two cases.
  abbrev pub IsDealt : List SavedFile → List SavedFile → List Finding → SavedFile → Type 0
  IsDealt taken left told file = Contains taken file
      ⊎ ((Contains left file ⊎ ((fault : Defect) × IsSpoiled contents file fault))
      × IsLostBy told (loss_of is_named file))

  dealt_good : (x : SavedFile) (rest left : List SavedFile) (told : List Finding) (file : SavedFile)
      → IsDealt rest left told file → IsDealt (x ∷ rest) left told file
  dealt_good x rest left told file is = ⊎_elim (λ taken. inl (contains_later x file rest taken))
      (λ other. inr other) is

  dealt_doubt : (x : SavedFile) (fault : Defect) (taken rest : List SavedFile) (more : List Finding) (file : SavedFile)
      → IsDealt taken rest more file → IsDealt taken (x ∷ rest) (told_of is_named x fault ∷ more) file
  dealt_doubt x fault taken rest more file is = ⊎_elim (λ there. inl there)
      (λ other. inr (
        ⊎_elim (λ left. inl (contains_later x file rest left)) (λ spoiled. inr spoiled) other.0,
        lost_first x file fault more other.1,
      )) is

  dealt_bad : (x : SavedFile) (fault : Defect) (taken left : List SavedFile) (more : List Finding) (file : SavedFile)
      → IsDealt taken left more file → IsDealt taken left (told_of is_named x fault ∷ more) file
  dealt_bad x fault taken left more file is = ⊎_elim (λ there. inl there)
      (λ other. inr (other.0, lost_first x file fault more other.1)) is

  pub judged_each : (xs taken left : List SavedFile) (told : List Finding)
      → AreJudged contents counts free is_named xs taken left told → AllByRecursion (IsDealt taken left told) xs
  unfolding AreJudged
  judged_each [] taken left told judged = tt
  judged_each (x ∷ xs) taken left told judged = ⊎_elim
      (λ good. subst (λ (t : List SavedFile). AllByRecursion (IsDealt t left told) (x ∷ xs)) (sym good.2) (
        inl (contains_here x good.1),
        all_of (IsDealt good.1 left told) (IsDealt (x ∷ good.1) left told) xs (dealt_good x good.1 left told)
            (judged_each xs good.1 left told good.3),
      ))
      (λ others. ⊎_elim
      (λ doubt. subst (λ (l : List SavedFile). AllByRecursion (IsDealt taken l told) (x ∷ xs)) (sym doubt.3)
      (subst (λ (t : List Finding). AllByRecursion (IsDealt taken (x ∷ doubt.2) t) (x ∷ xs)) (sym doubt.5) (
        inr (inl (contains_here x doubt.2), lost_now x doubt.0 doubt.4),
        all_of (IsDealt taken doubt.2 doubt.4) (IsDealt taken (x ∷ doubt.2) (told_of is_named x doubt.0 ∷ doubt.4)) xs
            (dealt_doubt x doubt.0 taken doubt.2 doubt.4) (judged_each xs taken doubt.2 doubt.4 doubt.6),
      )))
      (λ bad. subst (λ (t : List Finding). AllByRecursion (IsDealt taken left t) (x ∷ xs)) (sym bad.3) (
        inr (inr (bad.0, bad.1), lost_now x bad.0 bad.2),
        all_of (IsDealt taken left bad.2) (IsDealt taken left (told_of is_named x bad.0 ∷ bad.2)) xs
            (dealt_bad x bad.0 taken left bad.2) (judged_each xs taken left bad.2 bad.4),
      )) others) judged

-- A block of files whose blocks were each counted once was counted once.
pub alone_once : (counts : List ℕ) (n : ℕ) (P : SavedFile → Type 0) (files : List SavedFile)
    → AllByRecursion (λ file. P file × IsAlone counts file) files
    → (claims files n ≡ 0) ⊎ (slice_index counts n ≡ 1)
alone_once counts n P [] all = inl refl
alone_once counts n P (x ∷ xs) all = by (times n (blocks_of x)) refl (alone_once counts n P xs all.1)
  where
    by : (k : ℕ) → times n (blocks_of x) ≡ k → (claims xs n ≡ 0) ⊎ (slice_index counts n ≡ 1)
        → (claims (x ∷ xs) n ≡ 0) ⊎ (slice_index counts n ≡ 1)
    by zero none rest = ⊎_elim (λ zero_too. inl (omega arith)) (λ one. inr one) rest
    by (suc k) some rest = inr (all.0.1 n (omega arith))

-- Judged one after the other, after the files and findings from before.

pub judges_start : (contents : Contents) (counts : List ℕ) (free : List Bool) (is_named : Bool)
    (files left : List SavedFile) (findings : List Finding) → (files ≡ files ++ []) → (left ≡ left ++ [])
    → (findings ≡ findings ++ [])
    → Judges contents counts free is_named [] files files left left findings findings
judges_start contents counts free is_named files left findings same same' same'' = record {
  taken = [];
  left = [];
  told = [];
  files_are = same;
  left_are = same';
  findings_are = same'';
  judged = judged_none contents counts free is_named;
}

pub judges_on : (contents : Contents) (counts : List ℕ) (free : List Bool) (is_named : Bool)
    (xs ys files now new left left_now left_new : List SavedFile) (findings found told : List Finding)
    → Judges contents counts free is_named xs files now left left_now findings found
    → Judges contents counts free is_named ys now new left_now left_new found told
    → Judges contents counts free is_named (xs ++ ys) files new left left_new findings told
judges_on contents counts free is_named xs ys files now new left left_now left_new findings found told first second =
    record {
      taken = first.taken ++ second.taken;
      left = first.left ++ second.left;
      told = first.told ++ second.told;
      files_are = second.files_are ∙ ap (λ (t : List SavedFile). t ++ second.taken) first.files_are
          ∙ append_assoc files first.taken second.taken;
      left_are = second.left_are ∙ ap (λ (t : List SavedFile). t ++ second.left) first.left_are
          ∙ append_assoc left first.left second.left;
      findings_are = second.findings_are ∙ ap (λ (t : List Finding). t ++ second.told) first.findings_are
          ∙ append_assoc findings first.told second.told;
      judged = judged_on contents counts free is_named xs ys first.taken second.taken first.left second.left first.told
          second.told first.judged second.judged;
    }

-- one more of a list
pub judges_next : (contents : Contents) (counts : List ℕ) (free : List Bool) (is_named : Bool) (all : List SavedFile)
    (i j : ℕ) (file : SavedFile) (files now new left left_now left_new : List SavedFile)
    (findings found told : List Finding) → j ≡ i + 1 → i < length all → file ≡ get_or all i file
    → Judges contents counts free is_named (take i all) files now left left_now findings found
    → Judges contents counts free is_named (file ∷ []) now new left_now left_new found told
    → Judges contents counts free is_named (take j all) files new left left_new findings told
judges_next contents counts free is_named all i j file files now new left left_now left_new findings found told next
    below is first second =
    subst (λ (xs : List SavedFile). Judges contents counts free is_named xs files new left left_new findings told)
    (ap (λ (f : SavedFile). take i all ++ f ∷ []) is ∙ sym (take_more all i file below)
    ∙ ap (λ (k : ℕ). take k all) (sym next))
    (judges_on contents counts free is_named (take i all) (file ∷ []) files now new left left_now left_new findings
    found told first second)
