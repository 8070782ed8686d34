-- A directory in the map of the disk that memory has.
use Rattle.std.proofs.Common.{◌≡◌, ℕ, ⊎_elim, Some, slice_get, refl, sym, ap, subst, ◌∙◌}
use Rattle.words36.specs.declared.names.FileName.{FileName}
use Rattle.blockdisk.specs.Common.{Contents}
use Rattle.spec_image.specs.Common.{FinMap, name_cmp, get, insert, remove, from_entries, SpecFileEntry, file_words}
use Rattle.spec_image.specs.Common.{IsFileEntry, IsFileChain, StoredFile, StoredDirectory, DiskMap}
use Rattle.spec_image.specs.Changes.{with_file, without_file}
use Rattle.spec_image.proofs.Common.{name_total, name_exact, some_same, get-insert_same, get-insert_other}
use Rattle.spec_image.proofs.Common.{get-remove_other, map_values-insert, map_values-remove}
use Rattle.directory.specs.Common.{ChainState, IsChain, IsOn, chain_stands}
use Rattle.volume.specs.Common.{facts_of, known_facts, CurrentVersion, CurrentDirectory, CurrentMap, AgreesOnFile}
use Rattle.volume.specs.Common.{AgreesOnDirectory, AgreesOnMap, Before, IsEntryPut, IsEntryRemoved}

-- it is the one that the map has of the same number
pub stored_agrees : {k : CurrentMap} {m : DiskMap} → AgreesOnMap k m → (place ppn : ℕ) (word : ℕ × ℕ)
    (d : CurrentDirectory) (stored : StoredDirectory) → slice_get k.master.entries place ≡ Some (ppn, word)
    → slice_get k.directories place ≡ Some d → get m.directories ppn ≡ Some stored → AgreesOnDirectory d stored
stored_agrees known place ppn word d stored there here at =
    let found = known.each place (ppn, word) d there here in
    subst (AgreesOnDirectory d) (some_same (sym found.1 ∙ at)) found.2

-- its chain, with the prime blocks of its names
pub files_stand : (contents : Contents) (chain : ChainState SpecFileEntry) (primes : FinMap name_cmp ℕ)
    → IsChain name_cmp IsFileEntry chain → IsOn file_words contents chain → from_entries chain.entries ≡ primes
    → IsFileChain contents chain.blocks primes
files_stand contents chain primes is on names = subst (IsFileChain contents chain.blocks) names
    (chain_stands file_words IsFileEntry contents chain is on)

-- without a file
pub known_without : (d d' : CurrentDirectory) (name : FileName) (old : ℕ × CurrentVersion) (stored : StoredDirectory)
    → IsEntryRemoved d d' name old → AgreesOnDirectory d stored
    → AgreesOnDirectory d' (without_file stored d'.chain.blocks name)
known_without d d' name old stored is known = record {
  chain = refl;
  names = map_values-remove name_total name_exact (λ x. x.prime) stored.files name
      ∙ sym (is.names ∙ (λ i. remove (sym known.names i) name));
  each = each_file;
}
  where
    each_file : (i : ℕ) (e : SpecFileEntry) (u : CurrentVersion) → slice_get d'.chain.entries i ≡ Some e
        → slice_get d'.versions i ≡ Some u → AgreesOnFile (without_file stored d'.chain.blocks name) e u
    each_file i e u here also =
        let kept = is.each i e u here also in
        let found = known.each kept.1 e u kept.2 kept.3 in
        (found.0, get-remove_other name_total name_exact stored.files name e.0 kept.0 ∙ found.1, found.2)

-- and with a file
pub known_with : (d d' : CurrentDirectory) (to : FileName) (at : ℕ) (v : CurrentVersion) (old : Before)
    (stored : StoredDirectory) (f : StoredFile) → IsEntryPut d d' to at v old → AgreesOnDirectory d stored
    → facts_of f ≡ known_facts at v.prime v.version
    → AgreesOnDirectory d' (with_file stored d'.chain.blocks to f)
known_with d d' to at v old stored f is known facts = record {
  chain = refl;
  names = map_values-insert name_total name_exact (λ x. x.prime) stored.files to f
      ∙ sym (is.names ∙ (λ i. insert (sym known.names i) to (sym facts i).prime));
  each = each_file;
}
  where
    each_file : (i : ℕ) (e : SpecFileEntry) (u : CurrentVersion) → slice_get d'.chain.entries i ≡ Some e
        → slice_get d'.versions i ≡ Some u → AgreesOnFile (with_file stored d'.chain.blocks to f) e u
    each_file i e u here also = ⊎_elim
        (λ new.
        let entry : e ≡ (to, at) = new.0 in
        let same : u ≡ v = new.1 in (
          f,
          ap (λ (z : SpecFileEntry). get (insert stored.files to f) z.0) entry
              ∙ get-insert_same name_total stored.files to f,
          facts ∙ sym (λ j. known_facts (entry j).1 (same j).prime (same j).version),
        ))
        (λ kept.
        let found = known.each kept.1 e u kept.2 kept.3 in
        (found.0, get-insert_other name_total name_exact stored.files to f e.0 kept.0 ∙ found.1, found.2))
        (is.each i e u here also)
