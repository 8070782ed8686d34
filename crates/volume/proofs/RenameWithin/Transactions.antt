-- A file gets another name or protection: this is one change of the volume, after its prime block is read.
use Rattle.std.proofs.Common.{◌≡◌, ℕ, ◌<◌, ⊎_elim, true, false, List, ◌++◌, Some, refl, subst, arith}
use Rattle.std.proofs.lemmas.Bool.{cases_lt}
use Rattle.words36.specs.declared.names.FileName.{FileName}
use Rattle.blockdisk.specs.Common.{Contents}
use Rattle.spec_image.specs.declared.put.Put.{Put}
use Rattle.spec_image.specs.Common.{InSpace, with_puts, get, times, space_start, StoredDirectory, DiskMap, files_of}
use Rattle.spec_image.specs.Common.{place_of}
use Rattle.spec_image.proofs.Common.{fixed_below}
use Rattle.alloctab.specs.Common.{IsTable}
use Rattle.changeset.specs.Common.{times_head}
use Rattle.volume.specs.Common.{claims, CurrentVersion, CurrentDirectory, AgreesOnFile, AgreesOnDirectory, MatchesMap}
use Rattle.volume.specs.Common.{MemoryMap, slot, as_known, IsWholeMemory, files_moved, MovesWithin}
use Rattle.volume.specs.declared.live.LiveVersion.{LiveVersion}
use Rattle.volume.proofs.common.Edits.{Nowhere, IsEdit}
use Rattle.volume.proofs.common.UnchangedHomes.{moved_low}
use Rattle.volume.proofs.common.MapStays.{IsKept}
use Rattle.volume.proofs.common.LiveBodies.{dated_of}
use Rattle.volume.proofs.common.TableBits.{bit_few}
use Rattle.volume.proofs.common.OnePlace.{first_set}
use Rattle.volume.proofs.PinVersion.Pins.{current_stands}
use Rattle.volume.proofs.PublishVersion.Blocks.{total_place}
use Rattle.volume.proofs.RenameWithin.Memory.{moved_whole}
use Rattle.volume.proofs.RenameWithin.Law.{map_moved, moved_files, moving_leads, moved_elsewhere, moved_in_range}
use Rattle.volume.proofs.RenameWithin.Law.{moved_few, new_times}
use Rattle.volume.proofs.common.RetiredVersions.{set_inside}
use Rattle.volume.proofs.common.SameVersion.{versions_have}

-- The prime block of a current version.

module _ (size : ℕ) (c : MemoryMap) (whole : IsWholeMemory size c) (key : ℕ) (v : LiveVersion)
    (there : slot c.live key ≡ Some v) (current : v.is_current ≡ true) where
  pub first_below : IsTable c.known.table → v.at < size
  first_below table = subst (λ (n : ℕ). v.at < n) whole.map.size_is
      (set_inside c.known.table v.at table (first_set size c whole key v there current))

  pub first_inside : IsTable c.known.table → InSpace size v.at
  first_inside table = record {
    from = ⊎_elim
        (λ low. absurd (let one = fixed_below size v.at low in
        let stand = current_stands size c whole key v there current v.at in
        let head = times_head v.at v.at (v.version.ribs ++ v.version.blocks) refl in
        let bits = whole.map.bits v.at in
        let few = bit_few c.known.table v.at in
        omega arith))
        (λ from. from) (cases_lt v.at (space_start size));
    below = first_below table;
  }

-- A move within one directory.

module _ (size : ℕ) (c c' : MemoryMap) (ppn : ℕ) (name to : FileName) (protection key : ℕ) (v : LiveVersion)
    (words : List ℕ) (puts : List Put) (whole : IsWholeMemory size c)
    (moves : MovesWithin size c c' ppn name to protection key v words puts) (fits : protection < 512)
    (unclaimed : claims c.pending (place_of ppn name) ≡ false) where
  abbrev with_prime : CurrentVersion
  with_prime = record { prime = moves.prime; version = v.version }

  kept_chain : (n : ℕ) → IsKept size c n → times n moves.moved.directory'.chain.blocks ≡ 0
  kept_chain n kept =
      let part = total_place (λ (d : CurrentDirectory). times n d.chain.blocks) c.known.directories moves.moved.place
      moves.moved.directory moves.moved.directory_at in
      let apart = kept.apart in
      let chain = new_times size c.known c'.known ppn name to (v.at, as_known v) with_prime words puts whole.map
      moves.moved n in
      omega arith

  -- the directory and the file in the map
  module _ (m : DiskMap) (d : Contents) (held : MatchesMap size c.known m d) (read : d v.at ≡ Some words) where
    stored : (x : StoredDirectory) × (get m.directories ppn ≡ Some x) × AgreesOnDirectory moves.moved.directory x
    stored = held.known.each moves.moved.place (ppn, moves.moved.word) moves.moved.directory moves.moved.there.is
        moves.moved.directory_at

    file : AgreesOnFile stored.0 (name, v.at) (as_known v)
    file = stored.2.each moves.moved.entry.was.0 (name, v.at) (as_known v) moves.moved.entry.was.1.is
        moves.moved.entry.was.2

    leads_within : (m' : DiskMap) × MatchesMap size c'.known m' (with_puts puts d)
        × (files_of m' ≡ files_moved (files_of m) ppn name ppn to protection) × (m'.layout ≡ m.layout)
    leads_within = (
      map_moved m ppn stored.0 moves.moved.directory'.chain.blocks name to file.0 protection,
      moving_leads size c.known c'.known m ppn name to protection (v.at, as_known v) with_prime words puts whole.map
          moves.moved moves.prime_is fits stored.0 stored.1 file.0 file.1 d held read,
      moved_files m ppn stored.0 moves.moved.directory'.chain.blocks name to file.0 protection stored.1 file.1,
      refl,
    )

  edit : (layout : ℕ) → IsTable c.known.table → IsEdit size layout c c' Nowhere (λ d. d v.at ≡ Some words) puts
      (λ f. files_moved f ppn name ppn to protection)
  edit layout table =
      let inside = first_inside size c whole key v moves.there moves.current table in
      record {
        whole = moved_whole size c c' ppn name to protection key v words puts whole moves unclaimed;
        bodies = λ d. versions_have c c' key v moves.prime moves.there moves.here moves.others d moves.pending;
        dated = λ n. dated_of n c c' moves.pending;
        quiet = λ n none. absurd none;
        in_range = moved_in_range size c.known c'.known ppn name to (v.at, as_known v) with_prime words puts whole.map
            moves.moved inside;
        few = moved_few size c.known c'.known ppn name to (v.at, as_known v) with_prime words puts whole.map
            moves.moved;
        low = moved_low size c.known c'.known ppn name to (v.at, as_known v) with_prime words puts whole.map moves.moved
            inside;
        spares = λ n kept. moved_elsewhere size c.known c'.known ppn name to (v.at, as_known v) with_prime words puts
            whole.map moves.moved n (kept.first key v moves.there moves.current) (kept_chain n kept);
        leads = λ m d same. leads_within m d;
      }

-- If memory states it of a disk of the size that it knows.
module _ {size : ℕ} {c c' : MemoryMap} {ppn : ℕ} {name to : FileName} {protection key : ℕ} {v : LiveVersion}
    {words : List ℕ} {puts : List Put} (whole : IsWholeMemory size c)
    (moves : MovesWithin c.known.table.size c c' ppn name to protection key v words puts) where
  pub within_sized : MovesWithin size c c' ppn name to protection key v words puts
  within_sized = subst (λ (n : ℕ). MovesWithin n c c' ppn name to protection key v words puts) whole.map.size_is moves

  pub within_edit : protection < 512 → claims c.pending (place_of ppn name) ≡ false → (layout : ℕ)
      → IsTable c.known.table → IsEdit size layout c c' Nowhere (λ d. d v.at ≡ Some words) puts
      (λ f. files_moved f ppn name ppn to protection)
  within_edit = edit size c c' ppn name to protection key v words puts whole within_sized
