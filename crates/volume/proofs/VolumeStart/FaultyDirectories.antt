-- A directory at which a reader stops.
use Rattle.std.proofs.Common.{◌≡◌, ℕ, ◌+◌, Bool, List, [], ◌∷◌, ◌++◌, map, Some, refl, sym, ap, subst, ◌∙◌, arith}
use Rattle.std.proofs.Common.{append_assoc, nat_cmp}
use Rattle.std.proofs.lemmas.List.{map-append}
use Rattle.std.specs.Cmp.{nat_cmp_total}
use Rattle.std.specs.FinMap.Entries.{find}
use Rattle.std.specs.List.{AllByRecursion}
use Rattle.blockdisk.specs.Common.{Contents}
use Rattle.spec_image.specs.Common.{EachOnce, times, name_cmp, Node, SpecMasterEntry, SpecFileEntry, file_words}
use Rattle.spec_image.specs.Common.{IsFileEntry}
use Rattle.spec_image.specs.Common.{items, ReadDirectory, times_in_directory, IsFileRead, IsDirectoryRead, LeadsAlong}
use Rattle.spec_image.proofs.Common.{EachOnce-map, EachOnce-from_map, once_front}
use Rattle.alloctab.specs.Common.{digit_at}
use Rattle.directory.specs.Common.{ChainState, nodes_of, IsChain, chain_items, numbers_of, IsTwiceInChain}
use Rattle.volume.specs.declared.error.VolumeError.{VolumeError}
use Rattle.volume.specs.declared.error.VolumeError.TheVariants.{NotVolume, BadHome, BadLog, BadDirectory}
use Rattle.volume.specs.declared.error.VolumeError.TheVariants.{BadRetrieval, BlockTwice, TableWrong, Device}
use Rattle.volume.specs.declared.error.VolumeError.TheVariants.{NoMemory, Failed, BadData}
use Rattle.volume.specs.Common.{CurrentDirectory, IsEntryRead, AreDirectoriesRead, IsFaultOfFiles, IsFaultOfDirectory}
use Rattle.volume.specs.Common.{IsFaultOfDirectories}
use Rattle.volume.proofs.common.Lookups.{all_of_map, all_both, all_push, all_to_map, total-push, total-map}
use Rattle.volume.proofs.common.Lookups.{found_in_front}

-- A block of its chain was reached before.
pub chain_twice : (size layout : ℕ) (contents : Contents) (reached : List Bool) (ppn first n : ℕ)
    → IsTwiceInChain file_words contents reached first n
    → IsFaultOfDirectory size layout contents (digit_at reached) ppn first (BlockTwice n)
chain_twice size layout contents reached ppn first n met = record {
  directory = record { nodes = met.before; last = n; files = [] };
  walk = met.walk;
  once = tt;
  read = tt;
  twice = let t = met.twice in omega arith;
}

-- Its chain was walked to the end, and a file of it is at fault.
pub files_fault : (size layout : ℕ) (contents : Contents) (marks between : ℕ
    → ℕ) (ppn first : ℕ) (chain : ChainState SpecFileEntry) (error : VolumeError) → IsChain name_cmp IsFileEntry chain
    → LeadsAlong file_words contents first (nodes_of chain.blocks chain.entries) 0
    → ((n : ℕ) → between n ≡ marks n + times n chain.blocks)
    → IsFaultOfFiles size layout contents between ppn chain.entries error
    → IsFaultOfDirectory size layout contents marks ppn first error
files_fault size layout contents marks between ppn first chain error is walk marked = by_error error
  where
    nodes : List (Node SpecFileEntry)
    nodes = nodes_of chain.blocks chain.entries

    all : items nodes ≡ chain.entries
    all = chain_items file_words IsFileEntry chain is

    by_error : (er : VolumeError) → IsFaultOfFiles size layout contents between ppn chain.entries er
        → IsFaultOfDirectory size layout contents marks ppn first er
    by_error NotVolume met = met
    by_error BadHome met = met
    by_error BadLog met = met
    by_error (BadDirectory n) met = absurd met
    by_error (BadRetrieval n) met = record {
      nodes = nodes;
      last = 0;
      walk = walk;
      fault = record {
        name = met.name;
        prime = met.prime;
        entry = ap (λ es. find name_cmp met.name es) all ∙ met.entry;
        bad = met.bad;
      };
    }
    by_error (BlockTwice n) met = record {
      directory = record { nodes = nodes; last = 0; files = met.files };
      walk = walk;
      once = met.once;
      read = subst (λ es. AllByRecursion (IsFileRead layout contents ppn es) met.files) (sym all) met.read;
      twice = let a = met.twice in let b = marked n in let c = ap (times n) (numbers_of chain.blocks chain.entries) in
          omega arith;
    }
    by_error (TableWrong n) met = met
    by_error Device met = tt
    by_error NoMemory met = tt
    by_error Failed met = met
    by_error (BadData n) met = record {
      nodes = nodes;
      last = 0;
      walk = walk;
      fault = record {
        name = met.name;
        prime = met.prime;
        entry = ap (λ es. find name_cmp met.name es) all ∙ met.entry;
        bad = met.bad;
      };
    }

-- What was found in the master directory.

abbrev directory_named : SpecMasterEntry × ReadDirectory → ℕ × ReadDirectory
directory_named r = (r.0.0, r.1)

all_directories_read : (layout : ℕ) (contents : Contents) (all rest : List SpecMasterEntry)
    (read : List (SpecMasterEntry × ReadDirectory))
    → all ≡ map (λ r. r.0) read ++ rest → EachOnce nat_cmp all
    → AllByRecursion (λ r. IsEntryRead layout contents r.0 r.1) read
    → AllByRecursion (IsDirectoryRead layout contents all) (map directory_named read)
all_directories_read layout contents all rest read is once are =
    let named : SpecMasterEntry × ReadDirectory → SpecMasterEntry = λ r. r.0 in
    all_to_map (IsDirectoryRead layout contents all) directory_named read
    (all_both (λ r. find nat_cmp r.0.0 all ≡ Some r.0.1) (λ r. IsEntryRead layout contents r.0 r.1)
    (λ r. IsDirectoryRead layout contents all (directory_named r)) read
    (λ r entry e. record {
      word = r.0.1.0;
      first = r.0.1.1;
      entry = entry;
      walk = e.walk;
      once = e.once;
      files = e.files;
    })
    (all_of_map (λ (e : SpecMasterEntry). find nat_cmp e.0 all ≡ Some e.1) named read
    (found_in_front nat_cmp_total all (map named read) rest is once)) are)

once_read : (all rest : List SpecMasterEntry) (read : List (SpecMasterEntry × ReadDirectory))
    → all ≡ map (λ r. r.0) read ++ rest → EachOnce nat_cmp all → EachOnce nat_cmp (map directory_named read)
once_read all rest read is once =
    EachOnce-from_map nat_cmp (λ (d : ReadDirectory). 0) (map directory_named read)
    (subst (EachOnce nat_cmp) (keys read) (EachOnce-map nat_cmp (λ (v : ℕ × ℕ). 0) (map (λ r. r.0) read)
    (once_front nat_cmp (map (λ r. r.0) read) rest (subst (EachOnce nat_cmp) is once))))
  where
    keys : (xs : List (SpecMasterEntry × ReadDirectory))
        → map {B = ℕ × ℕ} (λ (e : SpecMasterEntry). (e.0, 0)) (map (λ r. r.0) xs)
        ≡ map (λ (d : ℕ × ReadDirectory). (d.0, 0)) (map directory_named xs)
    keys [] = refl
    keys (x ∷ xs) = ap (λ (l : List (ℕ × ℕ)). (x.0.0, 0) ∷ l) (keys xs)

-- The next directory is at fault.
pub directory_fault : (size layout : ℕ) (contents : Contents) (all front rest : List SpecMasterEntry)
    (directories : List CurrentDirectory) (marks before : ℕ → ℕ) (e : SpecMasterEntry) (error : VolumeError)
    → all ≡ front ++ e ∷ rest → EachOnce nat_cmp all → AreDirectoriesRead layout contents front directories marks before
    → IsFaultOfDirectory size layout contents before e.0 e.1.1 error
    → IsFaultOfDirectories size layout contents marks all error
directory_fault size layout contents all front rest directories marks before e error is once read = by_error error
  where
    entry : find nat_cmp e.0 all ≡ Some e.1
    entry = last front (found_in_front nat_cmp_total all (front ++ e ∷ []) rest (is
        ∙ sym (append_assoc front (e ∷ []) rest)) once)
      where
        last : (xs : List SpecMasterEntry) → AllByRecursion (λ (x : SpecMasterEntry). find nat_cmp x.0 all
            ≡ Some x.1) (xs ++ e ∷ []) → find nat_cmp e.0 all ≡ Some e.1
        last [] b = b.0
        last (x ∷ xs) b = last xs b.1

    by_error : (er : VolumeError) → IsFaultOfDirectory size layout contents before e.0 e.1.1 er
        → IsFaultOfDirectories size layout contents marks all er
    by_error NotVolume met = met
    by_error BadHome met = met
    by_error BadLog met = met
    by_error (BadDirectory n) met = record { ppn = e.0; word = e.1.0; first = e.1.1; entry = entry; fault = met }
    by_error (BadRetrieval n) met = record { ppn = e.0; word = e.1.0; first = e.1.1; entry = entry; fault = met }
    by_error (BlockTwice n) met =
        let r : SpecMasterEntry × ReadDirectory = (e, met.directory) in
        let reads = read.read ++ r ∷ [] in
        let names : map {B = SpecMasterEntry} (λ (x : SpecMasterEntry × ReadDirectory). x.0) reads
        ≡ front ++ e ∷ [] = map-append (λ (x : SpecMasterEntry × ReadDirectory). x.0) read.read (r ∷ [])
        ∙ ap (λ (l : List SpecMasterEntry). l ++ e ∷ []) read.read_named in
        let whole : all ≡ map {B = SpecMasterEntry} (λ (x : SpecMasterEntry × ReadDirectory). x.0) reads ++ rest = is
        ∙ sym (append_assoc front (e ∷ []) rest) ∙ ap (λ (l : List SpecMasterEntry). l ++ rest) (sym names) in
        record {
          directories = map directory_named reads;
          once = once_read all rest reads whole once;
          read = all_directories_read layout contents all rest reads whole once
              (all_push (λ (x : SpecMasterEntry × ReadDirectory). IsEntryRead layout contents x.0 x.1) read.read r
              read.read_are
              (record { walk = met.walk; once = met.once; files = met.read }));
          twice =
              let a = met.twice in
              let b = read.marked n in
              let c = read.counted n in
              let d = total-map (λ (x : ℕ × ReadDirectory). times_in_directory n x.1) directory_named reads in
              let t = total-push (λ (x : SpecMasterEntry × ReadDirectory). times_in_directory n x.1) read.read r in
              omega arith;
        }
    by_error (TableWrong n) met = met
    by_error Device met = tt
    by_error NoMemory met = tt
    by_error Failed met = met
    by_error (BadData n) met = record { ppn = e.0; word = e.1.0; first = e.1.1; entry = entry; fault = met }
