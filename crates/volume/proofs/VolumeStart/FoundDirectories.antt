-- Directories that were read, one after the other.
use Rattle.std.proofs.Common.{◌≡◌, ◌⊎◌, inl, inr, ⊎_elim, ℕ, zero, suc, ◌+◌, ◌<◌, Bool, List, [], ◌∷◌, ◌++◌, map}
use Rattle.std.proofs.Common.{length, get_or, take, slice_get, Some, refl, sym, ap, subst, ◌∙◌, arith, append-nil}
use Rattle.std.proofs.Common.{option_map}
use Rattle.std.proofs.lemmas.List.{map-append}
use Rattle.spec_image.proofs.Common.{directory_whole, directory_reaches, EachOnce-from_map, mapped-from_entries}
use Rattle.spec_image.proofs.Common.{get-from_entries, some_same, some_none, name_total, name_exact, each_times}
use Rattle.std.specs.FinMap.Entries.{find}
use Rattle.std.specs.List.{AllByRecursion, AllZip}
use Rattle.words36.specs.declared.names.FileName.{FileName}
use Rattle.blockdisk.specs.Common.{Contents}
use Rattle.spec_image.specs.Common.{EachOnce, times, from_entries, head_or_zero, name_cmp, SpecMasterEntry, master_word}
use Rattle.spec_image.specs.Common.{SpecFileEntry, file_words, IsFileEntry, numbers, items, StoredFile, StoredDirectory}
use Rattle.spec_image.specs.Common.{quota_limit, entry_of, reaches_in_directory, IsWhole, InSpace, ReadFile}
use Rattle.spec_image.specs.Common.{ReadDirectory, times_in_file, times_in_directory, IsFileRead, found_directory}
use Rattle.spec_image.specs.Common.{LeadsAlong}
use Rattle.alloctab.specs.Common.{digit_at}
use Rattle.directory.specs.Common.{ChainState, nodes_of, IsChain, IsOn, chain_read, chain_items, numbers_of}
use Rattle.volume.specs.Common.{known_facts, CurrentVersion, CurrentDirectory, AgreesOnDirectory, IsOnlySpace}
use Rattle.volume.specs.Common.{IsKnownVersion, IsAdded, AreFilesRead, IsEntryRead, IsDirectoryFound}
use Rattle.volume.specs.Common.{AreDirectoriesRead}
use Rattle.volume.proofs.VolumeStart.FoundFiles.{as_read, files_read, files_once}
use Rattle.volume.proofs.common.Lookups.{viewed_more, all_push, zip_behind, total-push, total-map, found_in_front}

-- Lists whose elements agree, place by place.
pub zip_at : {A B : Type 0} (P : A → B → Type 0) (xs : List A) (ys : List B) (i : ℕ) (y : B) → AllZip P xs ys
    → slice_get ys i ≡ Some y → (x : A) × (slice_get xs i ≡ Some x) × P x y
zip_at P [] [] i y zip is = absurd (some_none (sym is))
zip_at P [] (b ∷ ys) i y zip is = absurd zip
zip_at P (a ∷ xs) [] i y zip is = absurd zip
zip_at P (a ∷ xs) (b ∷ ys) zero y zip is = (a, refl, subst (P a) (some_same is) zip.0)
zip_at P (a ∷ xs) (b ∷ ys) (suc i) y zip is = zip_at P xs ys i y zip.1 is

pub mapped_at : {A B : Type 0} (f : A → B) (xs : List A) (i : ℕ) (x : A) → slice_get xs i ≡ Some x
    → slice_get (map f xs) i ≡ Some (f x)
mapped_at f [] i x is = absurd (some_none (sym is))
mapped_at f (a ∷ xs) zero x is = ap (λ o. option_map f o) is
mapped_at f (a ∷ xs) (suc i) x is = mapped_at f xs i x is

-- what is at a place of a list is one of its elements
pub all_at : {A : Type 0} (P : A → Type 0) (xs : List A) (i : ℕ) (x : A) → AllByRecursion P xs → slice_get xs i ≡ Some x
    → P x
all_at P [] i x all is = absurd (some_none (sym is))
all_at P (a ∷ xs) zero x all is = subst P (some_same is) all.0
all_at P (a ∷ xs) (suc i) x all is = all_at P xs i x all.1 is

-- One directory, whose chain and files were read.
pub directory_found : (layout : ℕ) (contents : Contents) (ppn protection quota first : ℕ)
    (chain : ChainState SpecFileEntry)
    (versions : List CurrentVersion) (marks between after : ℕ → ℕ)
    → protection < 512 → quota < quota_limit layout → IsChain name_cmp IsFileEntry chain
    → IsOn file_words contents chain
    → head_or_zero chain.blocks ≡ first → LeadsAlong file_words contents first (nodes_of chain.blocks chain.entries) 0
    → ((n : ℕ) → between n ≡ marks n + times n chain.blocks)
    → AreFilesRead layout contents ppn chain.entries versions between after
    → IsDirectoryFound layout contents (ppn, (master_word protection quota, first))
    (record { chain = chain; versions = versions }) marks after
directory_found layout contents ppn protection quota first chain versions marks between after small few is on begins
    walk
    marked read =
    let nodes = nodes_of chain.blocks chain.entries in
    let chain_is = chain_read file_words IsFileEntry contents chain is on in
    let all : items nodes ≡ chain.entries = chain_items file_words IsFileEntry chain is in
    let blocks : numbers nodes ≡ chain.blocks = numbers_of chain.blocks chain.entries in
    let named : map (λ (e : FileName × StoredFile). (e.0, e.1.prime)) read.found ≡ items nodes = read.named ∙ sym all in
    let found = found_directory protection quota nodes read.found in
    let once : EachOnce name_cmp read.found = EachOnce-from_map name_cmp (λ (f : StoredFile). f.prime) read.found
    (subst (EachOnce name_cmp) (sym read.named) is.each_once) in
    record {
      found = found;
      named = λ i. (master_word protection quota, (ap head_or_zero blocks ∙ begins) i);
      whole = directory_whole layout contents ppn protection quota nodes read.found small few chain_is named read.whole;
      known = record {
        chain = blocks;
        names = mapped-from_entries name_total name_exact (λ (f : StoredFile). f.prime) read.found
            ∙ ap from_entries read.named;
        each = λ i e v at version.
            let z = zip_at IsKnownVersion read.found versions i v read.known version in
            let named_at : (z.0.0, z.0.1.prime)
            ≡ e = some_same (sym (mapped_at (λ (x : FileName × StoredFile). (x.0, x.1.prime)) read.found i z.0 z.1)
            ∙ ap (λ (l : List SpecFileEntry). slice_get l i) read.named ∙ at) in
            let there : find name_cmp z.0.0 read.found
            ≡ Some z.0.1 = all_at (λ (x : FileName × StoredFile). find name_cmp x.0 read.found
            ≡ Some x.1) read.found i z.0
            (found_in_front name_total read.found read.found [] (sym (append-nil read.found)) once) z.1 in (
              z.0.1,
              get-from_entries name_total read.found e.0
                  ∙ ap (λ (q : SpecFileEntry). find name_cmp q.0 read.found) (sym named_at) ∙ there,
              z.2 ∙ ap (λ (q : SpecFileEntry). known_facts q.1 v.prime v.version) named_at,
            );
      };
      on = on;
      read = record { nodes = nodes; last = 0; files = map (as_read ppn) read.found };
      read_is = record {
        walk = walk;
        once = files_once ppn chain.entries read.found read.named is.each_once;
        files = subst (λ es. AllByRecursion (IsFileRead layout contents ppn es) (map (as_read ppn) read.found))
            (sym all) (files_read layout contents ppn chain.entries versions between after is.each_once read);
      };
      counted = λ n.
          let c = directory_reaches n protection quota nodes read.found once in
          let d = total-map (λ (x : FileName × ReadFile). times_in_file n x.1) (as_read ppn) read.found in
          omega arith;
      marked = λ n.
          let a = read.marked n in
          let b = marked n in
          let c = directory_reaches n protection quota nodes read.found once in
          let d = ap (times n) blocks in
          omega arith;
    }

pub no_directories : (layout : ℕ) (contents : Contents) (marks : ℕ → ℕ)
    → AreDirectoriesRead layout contents [] [] marks marks
no_directories layout contents marks = record {
  found = [];
  named = refl;
  whole = tt;
  known = tt;
  on = tt;
  read = [];
  read_named = refl;
  read_are = tt;
  counted = λ n. refl;
  marked = λ n. omega arith;
}

-- one directory more
pub more_directories : (layout : ℕ) (contents : Contents) (entries : List SpecMasterEntry)
    (directories : List CurrentDirectory)
    (marks before after : ℕ → ℕ) (e : SpecMasterEntry) (d : CurrentDirectory)
    → AreDirectoriesRead layout contents entries directories marks before
    → IsDirectoryFound layout contents e d before after
    → AreDirectoriesRead layout contents (entries ++ e ∷ []) (directories ++ d ∷ []) marks after
more_directories layout contents entries directories marks before after e d read found =
    let x : ℕ × StoredDirectory = (e.0, found.found) in
    record {
      found = read.found ++ x ∷ [];
      named = map-append (λ (y : ℕ × StoredDirectory). (y.0, entry_of y.1)) read.found (x ∷ [])
          ∙ (λ i. read.named i ++ (e.0, found.named i) ∷ []);
      whole = all_push (λ (y : ℕ × StoredDirectory). IsWhole layout contents y.0 y.1) read.found x read.whole
          found.whole;
      known = zip_behind (λ (y : ℕ × StoredDirectory) k. AgreesOnDirectory k y.1) read.found directories
          x d read.known found.known;
      read = read.read ++ (e, found.read) ∷ [];
      read_named = map-append (λ (r : SpecMasterEntry × ReadDirectory). r.0) read.read ((e, found.read) ∷ [])
          ∙ ap (λ (l : List SpecMasterEntry). l ++ e ∷ []) read.read_named;
      read_are = all_push (λ (r : SpecMasterEntry × ReadDirectory). IsEntryRead layout contents r.0 r.1) read.read
          (e, found.read) read.read_are found.read_is;
      counted = λ n.
          let a = read.counted n in
          let b = found.counted n in
          let t = total-push (λ (y : ℕ × StoredDirectory). reaches_in_directory n y.1) read.found x in
          let u = total-push (λ (r : SpecMasterEntry × ReadDirectory). times_in_directory n r.1) read.read
          (e, found.read) in
          omega arith;
      on = all_push (λ (k : CurrentDirectory). IsOn file_words contents k.chain) directories d read.on found.on;
      marked = λ n. let a = found.marked n in let b = read.marked n in
          let t = total-push (λ (y : ℕ × StoredDirectory). reaches_in_directory n y.1) read.found x in omega arith;
    }

-- the next directory was read
pub directories_go_on : {A E : Type 0} (view : A → CurrentDirectory) (layout : ℕ) (contents now : Contents) (named : E
    → SpecMasterEntry) (es : List E) (i : ℕ) (e : E) (old new : List A) (marks before after : ℕ → ℕ)
    → i < length es → e ≡ get_or es i e → now ≡ contents
    → AreDirectoriesRead layout contents (map named (take i es)) (map view old) marks before
    → IsAdded view old new (λ d. IsDirectoryFound layout now (named e) d before after)
    → AreDirectoriesRead layout contents (map named (take (i + 1) es)) (map view new) marks after
directories_go_on view layout contents now named es i e old new marks before after below is same read added =
    let f : IsDirectoryFound layout contents (named e) (view added.added) before after = subst
    (λ (c : Contents). IsDirectoryFound layout c (named e) (view added.added) before after) same added.is in
    subst (λ (l : List SpecMasterEntry). AreDirectoriesRead layout contents l (map view new) marks after)
    (sym (viewed_more named es i e below is))
    (subst (λ (l : List CurrentDirectory). AreDirectoriesRead layout contents (map named (take i es)
    ++ named e ∷ []) l marks after) (sym (ap (map view) added.pushed ∙ map-append view old (added.added ∷ [])))
    (more_directories layout contents (map named (take i es)) (map view old) marks before after (named e)
    (view added.added) read f))

-- what holds of each that was pushed
pub all_added : {A B : Type 0} (view : A → B) (P : B → Type 0) (old new : List A) → AllByRecursion P (map view old)
    → IsAdded view old new P → AllByRecursion P (map view new)
all_added view P old new all added = subst (AllByRecursion P) (sym (ap (map view) added.pushed
    ∙ map-append view old (added.added ∷ []))) (all_push P (map view old) (view added.added) all added.is)

-- more blocks of the free space were marked
pub space_more : (size : ℕ) (old new : List Bool) (blocks : List ℕ) → IsOnlySpace size old
    → AllByRecursion (InSpace size) blocks → ((n : ℕ) → digit_at new n ≡ digit_at old n + times n blocks)
    → IsOnlySpace size new
space_more size old new blocks only inside marked n some = ⊎_elim
    (λ (before : 0 < digit_at old n). only n before)
    (λ none. each_times (InSpace size) blocks n inside (let e = marked n in omega arith))
    (some_or_none (digit_at old n))
  where
    some_or_none : (k : ℕ) → (0 < k) ⊎ (k ≡ 0)
    some_or_none zero = inr refl
    some_or_none (suc k) = inl (omega arith)
