-- What is known in memory answers for the files.
use Rattle.std.proofs.Common.{◌≡◌, ℕ, zero, suc, ◌+◌, ◌<◌, ◌^◌, Bool, false, List, [], ◌∷◌, map, length, get_or}
use Rattle.std.proofs.Common.{slice_get, Option, Some, None, option_map, Result, Ok, Err, IfOk, IfErr, IsErr, refl}
use Rattle.std.proofs.Common.{sym, ap, subst, ◌∙◌, arith}
use Rattle.std.proofs.lemmas.List.{length-map}
use Rattle.std.specs.Cmp.{nat_cmp_total}
use Rattle.std.specs.FinMap.Entries.{find}
use Rattle.std.specs.List.{AllByRecursion}
use Rattle.std.specs.Ordering.{nat_cmp}
use Rattle.words36.specs.declared.names.FileName.{FileName}
use Rattle.blockdisk.specs.Common.{DiskState}
use Rattle.spec_image.specs.Common.{blocks_of, cost_of_files, master_word, File, Files, name_cmp, get, StoredFile}
use Rattle.spec_image.specs.Common.{StoredDirectory, DiskMap, directory_of, files_of, entry_of, pack_of}
use Rattle.spec_image.specs.declared.code.ErrorCode.TheVariants.{NotFound}
use Rattle.spec_image.proofs.Common.{stands_same, some_same, get-map_values, get-from_entries, name_total}
use Rattle.spec_image.proofs.Common.{settled_in_any, quota_bound}
use Rattle.directory.specs.Common.{StandsAt}
use Rattle.retrieval.specs.Common.{mode_number}
use Rattle.volume.specs.declared.error.CallError.{CallError}
use Rattle.volume.specs.declared.error.CallError.TheVariants.{Refused}
use Rattle.volume.specs.declared.file_facts.FileFacts.{FileFacts}
use Rattle.volume.specs.Common.{facts_of, known_facts, CurrentMap, CurrentVersion, CurrentDirectory, AgreesOnDirectory}
use Rattle.volume.specs.Common.{MatchesMap}
use Rattle.volume.specs.Common.{IsWholeMap, IsBooked, MemoryMap, cost_beyond, IsWholeMemory, protection_answer}
use Rattle.volume.specs.Common.{IsShown, IsFileAnswer, IsLookAnswer, IsNamedVersion, IsSoundMemory, RestsAt}
use Rattle.volume.proofs.common.MapCosts.{booked_fits}
use Rattle.volume.proofs.common.CostLaws.{cost_is}

-- the map in memory is that of the files, and the contents have it
pub record Holds (s : DiskState) (k : CurrentMap) (files : Files File) : Type 0 where
  pub map : DiskMap
  pub held : MatchesMap s.size k map s.contents
  pub files_are : files_of map ≡ files

pub rest_holds : (s : DiskState) (c : MemoryMap) (failed : Bool) → IsSoundMemory s c failed → s.honest → failed ≡ false
    → (files : Files File) → RestsAt s files → Holds s c.known files
rest_holds s c failed sound honest alive files rest =
    let own = sound.rest honest alive in
    let held = own.rest.all s.contents (λ n closed. refl) in
    let stands = rest.all s.contents (λ n closed. refl) in
    record {
      map = own.map;
      held = held;
      files_are = stands_same s.size s.contents (files_of own.map) files (own.map, held.stands, refl)
          (settled_in_any (pack_of s) s.contents files stands);
    }

-- Room.

pub booked_is : (s : DiskState) (c : MemoryMap) (files : Files File) → IsWholeMemory s.size c → Holds s c.known files
    → c.known.table.booked ≡ cost_of_files files + cost_beyond c
booked_is s c files whole holds =
    let map = whole.map in
    let known = cost_is s.size c.known holds.map holds.held.known map.chain map.aligned map.each
    ∙ ap cost_of_files holds.files_are in
    let booked = whole.booked in
    omega arith

pub map_few : (size : ℕ) (k : CurrentMap) → IsWholeMap size k → IsBooked size k → k.table.booked < 2 ^ 63
map_few size k whole booked =
    subst (λ (n : ℕ). n < 2 ^ 63) (sym booked.booked)
    (booked_fits size k.master.blocks (length k.master.entries) _ k.directories whole.volume whole.inside
    whole.chain.blocks_once whole.chain.counted whole.aligned whole.each (omega arith))

-- Directories.

module _ (s : DiskState) (k : CurrentMap) (files : Files File) (holds : Holds s k files) (ppn : ℕ) where
  found_files : get files ppn ≡ option_map directory_of (get holds.map.directories ppn)
  found_files = ap (λ f. get f ppn) (sym holds.files_are)
      ∙ get-map_values nat_cmp_total directory_of holds.map.directories ppn

  found_entry : option_map entry_of (get holds.map.directories ppn) ≡ find nat_cmp ppn k.master.entries
  found_entry = sym (get-map_values nat_cmp_total entry_of holds.map.directories ppn)
      ∙ ap (λ m. get m ppn) holds.held.known.names ∙ get-from_entries nat_cmp_total k.master.entries ppn

  pub directory_none : find nat_cmp ppn k.master.entries ≡ None → get files ppn ≡ None
  directory_none none = found_files ∙ by (get holds.map.directories ppn) (found_entry ∙ none)
    where
      by : (was : Option StoredDirectory) → option_map entry_of was ≡ None → option_map directory_of was ≡ None
      by None is = refl
      by (Some d) is = cc

  pub directory_protection : (p quota first : ℕ) → quota < 262144
      → find nat_cmp ppn k.master.entries ≡ Some (master_word p quota, first)
      → protection_answer (get files ppn) ≡ Ok p
  directory_protection p quota first few found = ap protection_answer found_files
      ∙ by (get holds.map.directories ppn) refl (found_entry ∙ found)
    where
      by : (was : Option StoredDirectory) → get holds.map.directories ppn ≡ was → option_map entry_of was
          ≡ Some (master_word p quota, first) → protection_answer (option_map directory_of was) ≡ Ok p
      by None at is = cc
      by (Some d) at is =
          let whole = holds.held.stands.mapped.directories ppn d at in
          let own = quota_bound holds.map.layout d.quota whole.quota in
          let word : master_word d.protection d.quota ≡ master_word p quota = ap (λ e. e.0) (some_same is) in
          ap Ok (omega arith)

-- what is seen at a place
pub viewed_get : {A B : Type 0} (view : A → B) (xs : List A) (i : ℕ) (y : B) (d : A)
    → slice_get (map view xs) i ≡ Some y → view (get_or xs i d) ≡ y
viewed_get view [] i y d is = cc
viewed_get view (x ∷ xs) zero y d is = some_same is
viewed_get view (x ∷ xs) (suc i) y d is = viewed_get view xs i y d is

-- what is at a place is seen there
pub viewed_there : {A B : Type 0} (view : A → B) (xs : List A) (i : ℕ) (x d : A) → i < length xs → x ≡ get_or xs i d
    → slice_get (map view xs) i ≡ Some (view x)
viewed_there view [] i x d below is = absurd (omega arith)
viewed_there view (y ∷ xs) zero x d below is = ap (λ z. Some (view z)) (sym is)
viewed_there view (y ∷ xs) (suc i) x d below is = viewed_there view xs i x d (omega arith) is

pub all_at_place : {A : Type 0} (P : A → Type 0) (xs : List A) (i : ℕ) (x : A) → AllByRecursion P xs
    → slice_get xs i ≡ Some x → P x
all_at_place P [] i x all is = cc
all_at_place P (y ∷ xs) zero x all is = subst P (some_same is) all.0
all_at_place P (y ∷ xs) (suc i) x all is = all_at_place P xs i x all.1 is

-- Files.

-- a directory in memory is one of the files'
pub record IsThere (k : CurrentMap) (files : Files File) (ppn : ℕ) (d : CurrentDirectory) : Type 0 where
  pub stored : StoredDirectory
  pub get_is : get files ppn ≡ Some (directory_of stored)
  pub known : AgreesOnDirectory d stored

pub directory_there : (s : DiskState) (k : CurrentMap) (files : Files File) → Holds s k files
    → (ppn : ℕ) (v : ℕ × ℕ) (i : ℕ)
    → StandsAt nat_cmp k.master.entries ppn v i → (d : CurrentDirectory) → slice_get k.directories i ≡ Some d
    → IsThere k files ppn d
directory_there s k files holds ppn v i at d is =
    let found = holds.held.known.each i (ppn, v) d at.is is in
    record {
      stored = found.0;
      get_is = found_files s k files holds ppn ∙ ap (option_map directory_of) found.1;
      known = found.2;
    }

pub shown_of : (f : StoredFile) (v : CurrentVersion) (at : ℕ) (facts : FileFacts)
    → facts_of f ≡ known_facts at v.prime v.version → facts.protection ≡ v.prime.protection → facts.mode ≡ v.prime.mode
    → facts.moment ≡ v.prime.moment
    → facts.words ≡ v.version.words → facts.blocks ≡ blocks_of v.version.words → IsShown f.file facts
shown_of f v at facts same protection mode moment words blocks = record {
  protection = protection ∙ sym (ap (λ x. x.protection) same);
  mode = ap mode_number mode ∙ sym (ap (λ x. x.mode) same);
  time = ap (λ x. x.minute) moment ∙ sym (ap (λ x. x.time) same);
  date = ap (λ x. x.date) moment ∙ sym (ap (λ x. x.date) same);
  words = words ∙ sym (ap (λ x. x.words) same);
  blocks = blocks ∙ sym (ap (λ x. blocks_of x.words) same);
}

module _ (k : CurrentMap) (files : Files File) (ppn : ℕ) (d : CurrentDirectory) (there : IsThere k files ppn d)
    (name : FileName) where
  file_found : (facts : FileFacts) → IsNamedVersion d name facts → IsLookAnswer name (Ok facts) (get files ppn)
  file_found facts named =
      let found = there.known.each named.place (name, named.prime) named.version named.at.is named.version_at in
      let get_is : get (directory_of there.stored).files name ≡ Some found.0.file = get-map_values name_total
      (λ (f : StoredFile). f.file) there.stored.files name ∙ ap (option_map (λ (f : StoredFile). f.file)) found.1 in
      subst (IsLookAnswer name (Ok facts)) (sym there.get_is)
      (subst (IsFileAnswer (Ok facts)) (sym get_is) (
        facts,
        refl,
        shown_of found.0 named.version named.prime facts found.2 named.protection named.mode
            named.moment named.words named.blocks,
      ))

  file_none : (answer : Result FileFacts CallError) → answer ≡ Err (Refused NotFound)
      → find name_cmp name d.chain.entries ≡ None → IsLookAnswer name answer (get files ppn)
  file_none answer is none =
      let no_prime : option_map (λ (f : StoredFile). f.prime) (get there.stored.files name) ≡ None =
      sym (get-map_values name_total (λ (f : StoredFile). f.prime) there.stored.files name)
      ∙ ap (λ m. get m name) there.known.names ∙ get-from_entries name_total d.chain.entries name ∙ none in
      let get_is : get (directory_of there.stored).files name
      ≡ None = get-map_values name_total (λ (f : StoredFile). f.file) there.stored.files name
      ∙ by (get there.stored.files name) no_prime in
      subst (IsLookAnswer name answer) (sym there.get_is) (subst (IsFileAnswer answer) (sym get_is) is)
    where
      by : (was : Option StoredFile) → option_map (λ (f : StoredFile). f.prime) was ≡ None
          → option_map (λ (f : StoredFile). f.file) was ≡ None
      by None e = refl
      by (Some f) e = cc

  pub look_answered : (answer : Result FileFacts CallError) → IfOk answer (IsNamedVersion d name)
      → (IsErr answer → find name_cmp name d.chain.entries ≡ None) → IfErr answer (λ e. e ≡ Refused NotFound)
      → IsLookAnswer name answer (get files ppn)
  look_answered (Ok facts) found none only = file_found facts found
  look_answered (Err e) found none only = file_none (Err e) (ap Err only) (none refl)

-- what is in one list at the place of an entry in another
pub placed : {A B E : Type 0} (view : A → B) (xs : List A) (entries : List E) (i : ℕ) (x : A) → i < length entries
    → length (map view xs) ≡ length entries → x ≡ get_or xs i x → slice_get (map view xs) i ≡ Some (view x)
placed view xs entries i x below aligned is = let same = length-map xs view in
    viewed_there view xs i x x (omega arith) is
