-- Files that were read, one after the other.
use Rattle.std.proofs.Common.{◌≡◌, ℕ, ◌+◌, ◌<◌, Bool, List, [], ◌∷◌, ◌++◌, map, length, get_or, take, Some, refl, sym}
use Rattle.std.proofs.Common.{ap, subst, ◌∙◌, arith, append_assoc, append-nil}
use Rattle.std.proofs.lemmas.List.{map-append}
use Rattle.std.specs.FinMap.Entries.{find}
use Rattle.std.specs.List.{AllByRecursion}
use Rattle.words36.specs.declared.names.FileName.{FileName}
use Rattle.blockdisk.specs.Common.{Contents}
use Rattle.spec_image.specs.Common.{EachOnce, times, name_cmp, SpecFileEntry, prime_of, IsRetrieved, StoredFile}
use Rattle.spec_image.specs.Common.{place_of}
use Rattle.spec_image.specs.Common.{reaches_in_file, IsVersion, ReadFile, times_in_file, IsFileRead}
use Rattle.spec_image.proofs.Common.{EachOnce-from_map, name_total, once_front}
use Rattle.alloctab.specs.Common.{digit_at}
use Rattle.volume.specs.declared.error.VolumeError.{VolumeError}
use Rattle.volume.specs.declared.error.VolumeError.TheVariants.{NotVolume, BadHome, BadLog, BadDirectory}
use Rattle.volume.specs.declared.error.VolumeError.TheVariants.{BadRetrieval, BlockTwice, TableWrong, Device}
use Rattle.volume.specs.declared.error.VolumeError.TheVariants.{NoMemory, Failed, BadData}
use Rattle.volume.specs.Common.{facts_of, known_facts, IsFileFound, facts_found, CurrentVersion, IsAdded, IsMarkedFile}
use Rattle.volume.specs.Common.{IsKnownVersion, AreFilesRead, IsFaultOfFile, IsFaultOfFiles}
use Rattle.volume.proofs.common.Lookups.{viewed_more, all_of_map, all_both, all_each, all_push, all_to_map}
use Rattle.volume.proofs.common.Lookups.{zip_behind, total-push, total-map, found_in_front}

-- one file more
pub more_files : (layout : ℕ) (contents : Contents) (ppn : ℕ) (entries : List SpecFileEntry)
    (versions : List CurrentVersion)
    (marks before after : ℕ → ℕ) (e : SpecFileEntry) (v : CurrentVersion)
    → AreFilesRead layout contents ppn entries versions marks before
    → IsFileFound layout contents (place_of ppn e.0) e.1 v.prime v.version
    → ((n : ℕ) → after n ≡ before n + times n (e.1 ∷ (v.version.ribs ++ v.version.blocks)))
    → AreFilesRead layout contents ppn (entries ++ e ∷ []) (versions ++ v ∷ []) marks after
more_files layout contents ppn entries versions marks before after e v read found marked =
    let x : FileName × StoredFile = (e.0, found.file) in
    let same : facts_of found.file
    ≡ known_facts e.1 v.prime v.version = facts_found layout contents (place_of ppn e.0) e.1 v.prime v.version found in
    let reached : (n : ℕ) → reaches_in_file n found.file ≡ times n (e.1 ∷ (v.version.ribs ++ v.version.blocks)) = λ n i.
    times n (found.prime_is i ∷ (found.ribs_are i ++ found.blocks_are i)) in
    record {
      found = read.found ++ x ∷ [];
      named = map-append (λ (y : FileName × StoredFile). (y.0, y.1.prime)) read.found (x ∷ [])
          ∙ (λ i. read.named i ++ (e.0, found.prime_is i) ∷ []);
      whole = all_push (λ y. IsVersion layout contents (place_of ppn y.0) y.1) read.found x read.whole found.stands;
      known = zip_behind IsKnownVersion read.found versions x v read.known (same
          ∙ ap (λ at. known_facts at v.prime v.version) (sym found.prime_is));
      marked = λ n. let a = marked n in let b = read.marked n in
          let t = total-push (λ (y : FileName × StoredFile). reaches_in_file n y.1) read.found x in let r = reached n in
          omega arith;
    }

-- as a reader of faults sees them
abbrev pub as_read : ℕ → FileName × StoredFile → FileName × ReadFile
as_read ppn e = (
  e.0,
  record {
    p = prime_of (place_of ppn e.0) e.1.file;
    prime = e.1.prime;
    extensions = e.1.extensions;
    blocks = e.1.blocks;
  },
)

pub named_again : (ppn : ℕ) (found : List (FileName × StoredFile))
    → map {B = SpecFileEntry} (λ (x : FileName × ReadFile). (x.0, x.1.prime)) (map (as_read ppn) found)
    ≡ map (λ (x : FileName × StoredFile). (x.0, x.1.prime)) found
named_again ppn [] = refl
named_again ppn (x ∷ xs) = ap (λ (l : List SpecFileEntry). (x.0, x.1.prime) ∷ l) (named_again ppn xs)

-- the file's place and blocks are on the disk
abbrev pub HasPlace : ℕ → Contents → ℕ → FileName × ReadFile → Type 0
HasPlace layout contents ppn e = (e.1.p.place ≡ place_of ppn e.0)
    × IsRetrieved layout contents e.1.p e.1.prime e.1.extensions e.1.blocks

pub all_read : (layout : ℕ) (contents : Contents) (ppn : ℕ) (all rest : List SpecFileEntry)
    (files : List (FileName × ReadFile))
    → all ≡ map (λ e. (e.0, e.1.prime)) files ++ rest → EachOnce name_cmp all
    → AllByRecursion (HasPlace layout contents ppn) files → AllByRecursion (IsFileRead layout contents ppn all) files
all_read layout contents ppn all rest files is once placed =
    let named : FileName × ReadFile → SpecFileEntry = λ e. (e.0, e.1.prime) in
    all_both (λ e. find name_cmp e.0 all ≡ Some e.1.prime) (HasPlace layout contents ppn)
    (IsFileRead layout contents ppn all) files
    (λ e entry place. record { entry = entry; place_is = place.0; retrieved = place.1 })
    (all_of_map (λ (e : SpecFileEntry). find name_cmp e.0 all ≡ Some e.1) named files
    (found_in_front name_total all (map named files) rest is once)) placed

-- Files that were read, as a reader of faults sees them.
pub files_read : (layout : ℕ) (contents : Contents) (ppn : ℕ) (entries : List SpecFileEntry)
    (versions : List CurrentVersion)
    (marks after : ℕ → ℕ) → EachOnce name_cmp entries
    → (read : AreFilesRead layout contents ppn entries versions marks after)
    → AllByRecursion (IsFileRead layout contents ppn entries) (map (as_read ppn) read.found)
files_read layout contents ppn entries versions marks after once read =
    all_read layout contents ppn entries [] (map (as_read ppn) read.found)
    (sym read.named ∙ sym (named_again ppn read.found)
    ∙ sym (append-nil _)) once
    (all_to_map (HasPlace layout contents ppn) (as_read ppn) read.found
    (all_each (λ y. IsVersion layout contents (place_of ppn y.0) y.1)
    (λ y. HasPlace layout contents ppn (as_read ppn y)) read.found
    (λ y v. (refl, v.retrieved)) read.whole))

pub files_once : (ppn : ℕ) (entries : List SpecFileEntry) (found : List (FileName × StoredFile))
    → map (λ e. (e.0, e.1.prime)) found ≡ entries → EachOnce name_cmp entries
    → EachOnce name_cmp (map (as_read ppn) found)
files_once ppn entries found named once = EachOnce-from_map name_cmp (λ (f : ReadFile). f.prime)
    (map (as_read ppn) found) (subst (EachOnce name_cmp) (sym (named_again ppn found ∙ named)) once)

-- The next file is at fault.
pub file_fault : (size layout : ℕ) (contents : Contents) (ppn : ℕ) (all front rest : List SpecFileEntry)
    (versions : List CurrentVersion) (marks : ℕ → ℕ) (e : SpecFileEntry) (error : VolumeError) (reached : List Bool)
    → all ≡ front ++ e ∷ rest → EachOnce name_cmp all
    → AreFilesRead layout contents ppn front versions marks (digit_at reached)
    → IsFaultOfFile size layout contents reached (place_of ppn e.0) e.1 error
    → IsFaultOfFiles size layout contents marks ppn all error
file_fault size layout contents ppn all front rest versions marks e error reached is once read = by_error error
  where
    entry : find name_cmp e.0 all ≡ Some e.1
    entry = (all_last (found_in_front name_total all (front ++ e ∷ []) rest (is
        ∙ sym (append_assoc front (e ∷ []) rest)) once))
      where
        all_last : AllByRecursion (λ (x : SpecFileEntry). find name_cmp x.0 all ≡ Some x.1) (front ++ e ∷ [])
            → find name_cmp e.0 all ≡ Some e.1
        all_last a = last front a
          where
            last : (xs : List SpecFileEntry) → AllByRecursion (λ (x : SpecFileEntry). find name_cmp x.0 all
                ≡ Some x.1) (xs ++ e ∷ []) → find name_cmp e.0 all ≡ Some e.1
            last [] b = b.0
            last (x ∷ xs) b = last xs b.1

    by_error : (er : VolumeError) → IsFaultOfFile size layout contents reached (place_of ppn e.0) e.1 er
        → IsFaultOfFiles size layout contents marks ppn all er
    by_error NotVolume met = met
    by_error BadHome met = met
    by_error BadLog met = met
    by_error (BadDirectory n) met = met
    by_error (BadRetrieval n) met = record { name = e.0; prime = e.1; entry = entry; bad = met }
    by_error (BlockTwice n) met =
        let file : FileName × ReadFile = (e.0, met.file) in
        let files = map (as_read ppn) read.found ++ file ∷ [] in
        let primes : map (λ (x : FileName × ReadFile). (x.0, x.1.prime)) (map (as_read ppn) read.found)
        ≡ front = named_again ppn read.found ∙ read.named in
        let names : map (λ (x : FileName × ReadFile). (x.0, x.1.prime)) files
        ≡ front ++ e ∷ [] = map-append (λ (x : FileName × ReadFile). (x.0, x.1.prime)) (map (as_read ppn) read.found)
        (file ∷ []) ∙ (λ i. primes i ++ (e.0, met.prime_is i) ∷ []) in
        let whole : all ≡ map (λ (x : FileName × ReadFile). (x.0, x.1.prime)) files ++ rest = is
        ∙ sym (append_assoc front (e ∷ []) rest) ∙ ap (λ (l : List SpecFileEntry). l ++ rest) (sym names) in
        record {
          files = files;
          once = EachOnce-from_map name_cmp (λ (f : ReadFile). f.prime) files
              (once_front name_cmp (map {B = SpecFileEntry} (λ (x : FileName × ReadFile). (x.0, x.1.prime)) files) rest
              (subst (EachOnce name_cmp) whole once));
          read = all_read layout contents ppn all rest files whole once
              (all_push (HasPlace layout contents ppn) (map (as_read ppn) read.found) file
              (all_to_map (HasPlace layout contents ppn) (as_read ppn) read.found
              (all_each (λ y. IsVersion layout contents (place_of ppn y.0) y.1)
              (λ y. HasPlace layout contents ppn (as_read ppn y)) read.found (λ y v. (refl, v.retrieved)) read.whole))
              (met.place_is, met.retrieved));
          twice =
              let a = met.twice in
              let b = read.marked n in
              let c = total-push (λ (x : FileName × ReadFile). times_in_file n x.1)
              (map (as_read ppn) read.found) file in
              let d = total-map (λ (x : FileName × ReadFile). times_in_file n x.1) (as_read ppn) read.found in
              omega arith;
        }
    by_error (TableWrong n) met = met
    by_error Device met = tt
    by_error NoMemory met = tt
    by_error Failed met = met
    by_error (BadData n) met = record { name = e.0; prime = e.1; entry = entry; bad = met }

-- the next file was read
pub files_go_on : {A E : Type 0} (view : A → CurrentVersion) (layout : ℕ) (contents now : Contents) (ppn : ℕ) (named : E
    → SpecFileEntry) (es : List E) (i : ℕ) (e : E) (old new : List A) (marks before after : ℕ → ℕ)
    → i < length es → e ≡ get_or es i e → now ≡ contents
    → AreFilesRead layout contents ppn (map named (take i es)) (map view old) marks before
    → IsAdded view old new (IsMarkedFile layout now ppn (named e) before after)
    → AreFilesRead layout contents ppn (map named (take (i + 1) es)) (map view new) marks after
files_go_on view layout contents now ppn named es i e old new marks before after below is same read added =
    let f : IsMarkedFile layout contents ppn (named e) before after (view added.added) = subst
    (λ (c : Contents). IsMarkedFile layout c ppn (named e) before after (view added.added)) same added.is in
    subst (λ (l : List SpecFileEntry). AreFilesRead layout contents ppn l (map view new) marks after)
    (sym (viewed_more named es i e below is))
    (subst (λ (l : List CurrentVersion). AreFilesRead layout contents ppn (map named (take i es) ++ named e ∷ []) l
    marks after)
    (sym (ap (map view) added.pushed ∙ map-append view old (added.added ∷ [])))
    (more_files layout contents ppn (map named (take i es)) (map view old) marks before after (named e)
    (view added.added) read f.found f.marked))
