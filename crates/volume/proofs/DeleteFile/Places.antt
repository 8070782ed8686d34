-- What a deletion makes of the places.
use Rattle.std.proofs.Common.{◌≡◌, ℕ, List, slice_set, Some, None, sym, ap, ◌∙◌, ⊎_elim}
use Rattle.std.proofs.lemmas.Bool.{cases_eq}
use Rattle.std.specs.FinMap.Entries.{find}
use Rattle.words36.specs.declared.names.FileName.{FileName}
use Rattle.spec_image.specs.declared.put.Put.{Put}
use Rattle.spec_image.specs.Common.{name_cmp, get, remove, from_entries}
use Rattle.spec_image.proofs.Common.{some_none, get-removed, get-remove_other, get-from_entries, name_total, name_exact}
use Rattle.volume.specs.Common.{CurrentMap, CurrentVersion, CurrentDirectory, prime_in, IsDirectoryOf, MemoryMap}
use Rattle.volume.specs.Common.{as_known, IsCurrentAt, IsWholeMemory, IsKeyOf, prime_at, IsRemoved, RemovesFile}
use Rattle.volume.specs.declared.live.LiveVersion.{LiveVersion}
use Rattle.volume.proofs.BeginVersion.Beginnings.{same_directory}
use Rattle.volume.proofs.common.PrimeBlocks.{prime_of_place, prime_elsewhere, prime_set}

-- The map.

module _ (size : ℕ) (k k' : CurrentMap) (ppn : ℕ) (name : FileName) (old : ℕ × CurrentVersion) (puts : List Put)
    (is : IsRemoved size k k' ppn name old puts) where
  abbrev d : CurrentDirectory
  d = is.directory

  -- if the directories are those from before except one
  goes : (q : ℕ) (n : FileName) → prime_in k'.master.entries k'.directories q n
      ≡ prime_in k.master.entries (slice_set k.directories is.place is.directory') q n
  goes q n = λ i. prime_in (is.master i).entries (is.directories i) q n

  -- the directory has the names that it had, except this one
  in_directory : (n : FileName) → prime_in k'.master.entries k'.directories ppn n
      ≡ get (remove (from_entries {R = name_cmp} d.chain.entries) name) n
  in_directory n =
      goes ppn n ∙ prime_set k.master.entries k.directories is.place ppn n is.word d is.directory' is.there
      is.directory_at
      ∙ sym (get-from_entries name_total is.directory'.chain.entries n) ∙ ap (λ m. get m n) is.entry.names

  pub removed_here : prime_in k'.master.entries k'.directories ppn name ≡ None
  removed_here = in_directory name ∙ get-removed name_total (from_entries d.chain.entries) name

  pub removed_before : prime_in k.master.entries k.directories ppn name ≡ Some old.0
  removed_before = prime_of_place k.master.entries k.directories is.place ppn name is.word d is.there is.directory_at
      ∙ is.entry.was.1.found

  other_name : (n : FileName) → (n ≡ name → ⊥) → prime_in k'.master.entries k'.directories ppn n
      ≡ prime_in k.master.entries k.directories ppn n
  other_name n differ =
      in_directory n ∙ get-remove_other name_total name_exact (from_entries d.chain.entries) name n differ
      ∙ get-from_entries name_total d.chain.entries n
      ∙ sym (prime_of_place k.master.entries k.directories is.place ppn n is.word d is.there is.directory_at)

  pub removed_elsewhere : (q : ℕ) (n : FileName) → ((q ≡ ppn) × (n ≡ name) → ⊥)
      → prime_in k'.master.entries k'.directories q n ≡ prime_in k.master.entries k.directories q n
  removed_elsewhere q n differ = ⊎_elim
      (λ (same : q ≡ ppn).
      ap (λ x. prime_in k'.master.entries k'.directories x n) same ∙ other_name n (λ is_name. differ (same, is_name))
      ∙ ap (λ x. prime_in k.master.entries k.directories x n) (sym same))
      (λ other. goes q n ∙ prime_elsewhere k.master.entries k.directories is.place ppn q n is.word is.directory'
      is.there.is other) (cases_eq q ppn)

-- Memory.

module _ (size : ℕ) (c c' : MemoryMap) (ppn : ℕ) (name : FileName) (key : ℕ) (v : LiveVersion) (puts : List Put)
    (is : RemovesFile size c c' ppn name key v puts) where
  -- the version is the one of the place
  pub removed_current : IsCurrentAt c ppn name v
  removed_current = record {
    key = key;
    there = is.there;
    current = is.current;
    at = removed_before size c.known c'.known ppn name (v.at, as_known v) puts is.removed;
  }

  pub primes_elsewhere : (q : ℕ) (n : FileName) → ((q ≡ ppn) × (n ≡ name) → ⊥) → prime_at c' q n ≡ prime_at c q n
  primes_elsewhere = removed_elsewhere size c.known c'.known ppn name (v.at, as_known v) puts is.removed

  pub primes_gone : prime_at c' ppn name ≡ None
  primes_gone = removed_here size c.known c'.known ppn name (v.at, as_known v) puts is.removed

-- A place whose version has a key has a file.
pub is_named : (size : ℕ) (c : MemoryMap) → IsWholeMemory size c → (ppn : ℕ) (name : FileName) (key : ℕ)
    → IsKeyOf c ppn name key → (d : CurrentDirectory) → IsDirectoryOf c ppn d
    → find name_cmp name d.chain.entries ≡ None → ⊥
is_named size c whole ppn name key is d there none =
    let same : is.directory ≡ d = same_directory size c ppn there.0 there.1 is.directory d whole
    (is.place, is.word, is.there, is.directory_at) there.2.is there.3 in
    some_none (sym is.at.found ∙ ap (λ (x : CurrentDirectory). find name_cmp name x.chain.entries) same ∙ none)
