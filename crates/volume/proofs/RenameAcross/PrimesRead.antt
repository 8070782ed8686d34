-- The prime block of a file that gets another place is read: what it says.
use Rattle.std.proofs.Common.{◌≡◌, ℕ, false, List, [], ◌∷◌, Some, refl, sym, ap, subst, ◌∙◌}
use Rattle.words36.specs.declared.names.FileName.{FileName}
use Rattle.blockdisk.specs.Common.{DiskState}
use Rattle.spec_image.specs.Common.{head_or_zero, IsFileEntry, IsMasterEntryOf, Extension, prime_of, prime_block}
use Rattle.spec_image.specs.Common.{extension_numbers, first_extension, IsPrime, place_of}
use Rattle.volume.specs.Common.{Facts, MatchesMap, IsWholeDirectory, MemoryMap, as_known, IsKeyOf, file_prime}
use Rattle.volume.specs.Common.{IsFilePrime, IsAtRest, IsSoundMemory}
use Rattle.volume.proofs.VolumeStart.FoundDirectories.{all_at}
use Rattle.volume.proofs.common.LayoutLimits.{wide_prime}

-- the first of the extensions, or 0
first_of : (further : List Extension) → first_extension further ≡ head_or_zero (extension_numbers further)
first_of [] = refl
first_of (extension ∷ further) = refl

-- If what is in memory is sound, this holds on its disk for the prime block of a file.
pub prime_holds : (s : DiskState) (c : MemoryMap) → IsSoundMemory s c false → s.honest → (ppn : ℕ) (name : FileName)
    (key : ℕ) (file : IsKeyOf c ppn name key)
    → (words : List ℕ) × (s.contents file.version.at ≡ Some words) × IsFilePrime words ppn name file.version
prime_holds s c sound h ppn name key file =
    let rest : IsAtRest s c.known = sound.rest h refl in
    let held : MatchesMap s.size c.known rest.map s.contents = rest.rest.all s.contents (λ n closed. refl) in
    let found = held.known.each file.place (ppn, file.word) file.directory file.there.is file.directory_at in
    let stored = found.2.each file.index (name, file.prime) (as_known file.version) file.at.is file.known in
    let version = (held.stands.mapped.directories ppn found.0 found.1).files name stored.0 stored.1 in
    let facts = stored.2 in
    let at : stored.0.prime ≡ file.version.at = ap (λ (x : Facts). x.prime) facts ∙ sym file.prime_is in
    let runs = version.retrieved.runs in
    let said : prime_of (place_of ppn name) stored.0.file ≡ file_prime ppn name file.version = λ i. record {
      place = place_of ppn name;
      protection = (facts i).protection;
      mode = (facts i).mode;
      time = (facts i).time;
      date = (facts i).date;
      words = (facts i).words;
    } in
    let next : first_extension version.retrieved.further ≡ head_or_zero file.version.version.ribs =
    first_of version.retrieved.further ∙ ap head_or_zero version.retrieved.extensions_are
    ∙ ap (λ (x : Facts). head_or_zero x.ribs) facts in
    let whole = all_at (IsWholeDirectory s.size) c.known.directories file.place file.directory sound.whole.map.each
    file.directory_at in
    let master = all_at (IsMasterEntryOf 2) c.known.master.entries file.place (ppn, file.word)
    sound.whole.map.chain.are_entries file.there.is in
    let entry = all_at IsFileEntry file.directory.chain.entries file.index (name, file.prime) whole.chain.are_entries
    file.at.is in (
      prime_block (prime_of (place_of ppn name) stored.0.file) runs (first_extension version.retrieved.further),
      ap s.contents (sym at) ∙ version.retrieved.prime_is,
      record {
        runs = runs;
        spells = record {
          words_are = λ i. prime_block (said i) runs (next i);
          ppn_fits = master.ppn;
          ext_fits = entry.ext_fits;
          fits = wide_prime rest.map.layout (file_prime ppn name file.version)
              (subst (IsPrime rest.map.layout) said version.retrieved.fits);
          few = version.retrieved.few;
          are_runs = version.retrieved.are_runs;
        };
      },
    )
