-- Files whose extensions have few owners: one is added after the others, or reported as the fifth owner of a block.
use Rattle.std.proofs.Common.{◌≡◌, ⊎_elim, ℕ, ◌+◌, ◌<◌, ◌≤◌, List, [], ◌∷◌, ◌++◌, Option, Some, None, length}
use Rattle.std.proofs.Common.{sym, ap, subst, ◌∙◌, arith, nat_cmp, replicate, slice_index, Result, OnOk}
use Rattle.std.proofs.lemmas.Bool.{cases_lt}
use Rattle.std.proofs.lemmas.List.{get_or-replicate, get_or_past, length-replicate}
use Rattle.std.specs.FinMap.Entries.{find}
use Rattle.std.specs.List.{AllByRecursion}
use Rattle.blockdisk.specs.Common.{Contents}
use Rattle.spec_image.specs.Common.{InSpace, Place, SpecMasterEntry, SpecFileEntry, name_cmp, place_of, times}
use Rattle.spec_image.specs.Common.{IsFileNamed, IsRetrieved}
use Rattle.spec_image.proofs.Common.{total-append}
use Rattle.retrieval.specs.Common.{with_length}
use Rattle.volume.proofs.common.MarkedBlocks.{all_weaker, times_parts}
use Rattle.salvage.specs.Common.{AreClaimed, AreOwners, FitsDisk, IsFaultAt, IsKept, IsNamedIn, IsNamedRead, IsRead}
use Rattle.salvage.specs.Common.{IsReadTo, blocks_of, claims}
use Rattle.salvage.specs.declared.saved.SavedFile.{SavedFile}
use Rattle.salvage.specs.declared.finding.Defect.TheVariants.{Crowded}
use Rattle.salvage.specs.declared.finding.Finding.{Finding}
use Rattle.salvage.proofs.CarriedFacts.{on_ok}
use Rattle.salvage.proofs.ReadSteps.{file_added, file_told}
use Rattle.salvage.specs.declared.finding.Cost.TheVariants as cost

-- Owners.

-- no block has an owner
pub no_owners : (size : ℕ) (owners : List ℕ) (files : List SavedFile) → owners ≡ replicate size 0
    → AreOwners owners files
no_owners size owners files is n =
    let none : slice_index owners n ≡ 0 = ap (λ (l : List ℕ). slice_index l n) is
    ∙ ⊎_elim (λ below. get_or-replicate size n 0 0 below)
    (λ past. get_or_past (replicate size 0) n 0 (let long : length (replicate {A = ℕ} size 0) ≡ size
    = length-replicate size 0 in omega arith)) (cases_lt n size) in
    omega arith

-- the extensions of a file that fits are blocks of the disk
pub ribs_below : (size : ℕ) (file : SavedFile) → FitsDisk size file
    → AllByRecursion (λ n. n < size) file.stored.version.ribs
ribs_below size file fits =
    all_weaker (InSpace size) (λ n. n < size) file.stored.version.ribs (λ n is. is.below) fits.ribs_inside

-- whether all blocks were claimed or only some, none has more new claims than it occurs among them
pub claimed_few : (old new blocks : List ℕ) (met : Option ℕ) → AreClaimed old new blocks met → (m : ℕ)
    → slice_index new m ≤ slice_index old m + times m blocks
claimed_few old new blocks None claimed m = let e = claimed m in omega arith
claimed_few old new blocks (Some n) claimed m = (claimed.2 m).1

claims_pushed : (files : List SavedFile) (f : SavedFile) (n : ℕ)
    → claims (files ++ f ∷ []) n ≡ claims files n + times n (blocks_of f)
claims_pushed files f n =
    let one : claims (f ∷ []) n ≡ times n (blocks_of f) = omega arith in
    total-append (λ (g : SavedFile). times n (blocks_of g)) files (f ∷ [])
    ∙ ap (λ (k : ℕ). claims files n + k) one

pub owners_pushed : (owners owners' : List ℕ) (files files' : List SavedFile) (f : SavedFile) (met : Option ℕ)
    → AreClaimed owners owners' f.stored.version.ribs met → files' ≡ files ++ f ∷ [] → AreOwners owners files
    → AreOwners owners' files'
owners_pushed owners owners' files files' f met claimed pushed held n =
    let few = claimed_few owners owners' f.stored.version.ribs met claimed n in
    let parts = times_parts n f.at f.stored.version.ribs f.stored.version.blocks in
    let sum = claims_pushed files f n in
    let same = ap (λ (l : List SavedFile). claims l n) pushed in
    let was = held n in
    omega arith

-- A file that is kept.

module _ (size layout : ℕ) (contents : Contents) (directories : List SpecMasterEntry) (ppn : ℕ)
    (names : List SpecFileEntry) (files : List SavedFile) (findings : List Finding) (e : SpecFileEntry)
    (f : SavedFile) (owners : List ℕ)
    (r : IsReadTo size layout contents directories ppn names files findings)
    (new_directory : find nat_cmp ppn directories ≡ None) (new_name : find name_cmp e.0 names ≡ None)
    (named : IsNamedIn size layout contents ppn e) (inside : InSpace size e.1)
    (read : IsRead size layout contents f) (at : f.at ≡ e.1) (own_ppn : f.stored.prime.ppn ≡ ppn)
    (own_name : f.stored.prime.file ≡ e.0) where
  named_there : IsNamedRead size layout contents f
  named_there = record {
    read = read;
    inside = subst (InSpace size) (sym at) inside;
    named = subst (λ (p : Place). IsFileNamed size contents layout p f.at)
        (λ i. place_of (sym own_ppn i) (sym own_name i))
        (subst (λ (n : ℕ). IsFileNamed size contents layout (place_of ppn e.0) n) (sym at) named);
  }

  added : IsReadTo size layout contents directories ppn (names ++ e ∷ []) (files ++ f ∷ []) findings
  added = file_added size layout contents directories ppn names files findings r e f new_directory new_name
      named_there at own_ppn own_name

  -- A block of it has four owners, so it would be the fifth.
  crowded : (n : ℕ) → AreOwners owners files → 0 < times n f.stored.version.ribs → slice_index owners n ≡ 4
      → IsFaultAt size layout contents (Crowded n) (cost.File ppn e.0)
  crowded n held among full = record {
    prime = e.1;
    named = named;
    concerns = (
      record {
        p = with_length f.stored.prime f.stored.version.words;
        extensions = f.stored.version.ribs;
        blocks = f.stored.version.blocks;
        place_is = λ i. place_of (own_ppn i) (own_name i);
        retrieved = subst (λ (k : ℕ). IsRetrieved layout contents
            (with_length f.stored.prime f.stored.version.words) k f.stored.version.ribs f.stored.version.blocks) at
            read.retrieved;
        among = let parts = times_parts n e.1 f.stored.version.ribs f.stored.version.blocks in omega arith;
      },
      record {
        files = files ++ f ∷ [];
        each = added.read;
        apart = added.apart;
        many =
            let parts = times_parts n f.at f.stored.version.ribs f.stored.version.blocks in
            let sum = claims_pushed files f n in
            let was = held n in
            omega arith;
      },
    );
  }

  file_kept : (files' : List SavedFile) (findings' : List Finding) → AreOwners owners files
      → IsKept owners f (cost.File ppn e.0) files files' findings findings'
      → IsReadTo size layout contents directories ppn (names ++ e ∷ []) files' findings'
  file_kept files' findings' held kept = ⊎_elim
      (λ (is : (files' ≡ files ++ f ∷ []) × (findings' ≡ findings)).
      subst (λ (l : List Finding). IsReadTo size layout contents directories ppn (names ++ e ∷ []) files' l)
      (sym is.1)
      (subst (λ (l : List SavedFile). IsReadTo size layout contents directories ppn (names ++ e ∷ []) l findings)
      (sym is.0) added))
      (λ (is : (n : ℕ) × (0 < times n f.stored.version.ribs) × (slice_index owners n ≡ 4) × (files' ≡ files)
      × (findings' ≡ findings ++ record { fault = Crowded n; costs = cost.File ppn e.0 } ∷ [])).
      subst (λ (l : List Finding). IsReadTo size layout contents directories ppn (names ++ e ∷ []) files' l)
      (sym is.4)
      (subst (λ (l : List SavedFile). IsReadTo size layout contents directories ppn (names ++ e ∷ []) l
      (findings ++ record { fault = Crowded is.0; costs = cost.File ppn e.0 } ∷ [])) (sym is.3)
      (file_told size layout contents directories ppn names files findings r e (Crowded is.0) tt
      (crowded is.0 held is.1 is.2))))
      kept

  pub file_kept_on : {T E : Type 0} (files' : List SavedFile) (findings' : List Finding) (result : Result T E)
      → AreOwners owners files → OnOk result (IsKept owners f (cost.File ppn e.0) files files' findings findings')
      → OnOk result (IsReadTo size layout contents directories ppn (names ++ e ∷ []) files' findings')
  file_kept_on files' findings' result held kept =
      on_ok result (λ is. file_kept files' findings' held is) kept
