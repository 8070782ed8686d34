-- A file moves to another directory: this is one change of the volume, after its prime block is read.
use Rattle.std.proofs.Common.{◌≡◌, ℕ, zero, suc, ◌+◌, ◌<◌, false, List, Some, refl, subst, arith}
use Rattle.words36.specs.declared.names.FileName.{FileName}
use Rattle.blockdisk.specs.Common.{Contents}
use Rattle.spec_image.specs.declared.put.Put.{Put}
use Rattle.spec_image.specs.Common.{with_puts, get, times, StoredDirectory, DiskMap, files_of, place_of}
use Rattle.alloctab.specs.Common.{IsTable, IsFree}
use Rattle.volume.specs.Common.{claims, CurrentVersion, CurrentDirectory, AgreesOnFile, AgreesOnDirectory, MatchesMap}
use Rattle.volume.specs.Common.{MemoryMap, as_known, IsWholeMemory, files_moved, MovesAcross}
use Rattle.volume.specs.declared.live.LiveVersion.{LiveVersion}
use Rattle.volume.proofs.RenameAcross.Memory.{moved_across_whole}
use Rattle.volume.proofs.RenameAcross.Law.{map_moved_across, moved_across_files, moving_across_leads}
use Rattle.volume.proofs.RenameAcross.Law.{moved_across_elsewhere, moved_across_in_range, moved_across_low}
use Rattle.volume.proofs.RenameAcross.Law.{moved_across_few, source_times, target_times}
use Rattle.volume.proofs.common.Edits.{Nowhere, IsEdit}
use Rattle.volume.proofs.common.MapStays.{IsKept}
use Rattle.volume.proofs.common.LiveBodies.{dated_of}
use Rattle.volume.proofs.PublishVersion.Blocks.{total_place}
use Rattle.volume.proofs.RenameWithin.Transactions.{first_inside}
use Rattle.volume.proofs.common.SameVersion.{versions_have}

module _ (size : ℕ) (c c' : MemoryMap) (ppn : ℕ) (name : FileName) (to_ppn : ℕ) (to : FileName)
    (protection key : ℕ) (v : LiveVersion) (words : List ℕ) (puts : List Put) (whole : IsWholeMemory size c)
    (moves : MovesAcross size c c' ppn name to_ppn to protection key v words puts) (fits : protection < 512)
    (unclaimed : claims c.pending (place_of ppn name) ≡ false) where
  abbrev with_prime : CurrentVersion
  with_prime = record { prime = moves.prime; version = v.version }

  -- a block that a chain takes was nobody's
  grown_free : (n : ℕ) → 0 < times n moves.moved.grown → IsFree c.known.table n
  grown_free n there = record {
    clear = let few = moves.moved.fresh n in omega arith;
    unheld = moves.unheld n there;
  }

  kept_chains : (n : ℕ) → IsKept size c n
      → times n moves.moved.directory'.chain.blocks + times n moves.moved.target'.chain.blocks ≡ 0
  kept_chains n kept = by (times n moves.moved.grown) refl
    where
      by : (taken : ℕ) → times n moves.moved.grown ≡ taken
          → times n moves.moved.directory'.chain.blocks + times n moves.moved.target'.chain.blocks ≡ 0
      by zero none =
          let left = source_times size c.known c'.known ppn name to_ppn to (v.at, as_known v) with_prime words puts
          whole.map moves.moved n in
          let more = target_times size c.known c'.known ppn name to_ppn to (v.at, as_known v) with_prime words puts
          whole.map moves.moved n in
          let source = total_place (λ (d : CurrentDirectory). times n d.chain.blocks) c.known.directories
          moves.moved.place moves.moved.directory moves.moved.directory_at in
          let target = total_place (λ (d : CurrentDirectory). times n d.chain.blocks) c.known.directories
          moves.moved.to_place moves.moved.target moves.moved.target_at in
          let apart = kept.apart in
          omega arith
      by (suc more) some = absurd (kept.used (grown_free n (omega arith)))

  -- the directories and the file in the map
  module _ (m : DiskMap) (d : Contents) (held : MatchesMap size c.known m d) (read : d v.at ≡ Some words) where
    source : (x : StoredDirectory) × (get m.directories ppn ≡ Some x) × AgreesOnDirectory moves.moved.directory x
    source = held.known.each moves.moved.place (ppn, moves.moved.word) moves.moved.directory moves.moved.there.is
        moves.moved.directory_at

    target : (x : StoredDirectory) × (get m.directories to_ppn ≡ Some x) × AgreesOnDirectory moves.moved.target x
    target = held.known.each moves.moved.to_place (to_ppn, moves.moved.to_word) moves.moved.target
        moves.moved.to_there.is moves.moved.target_at

    file : AgreesOnFile source.0 (name, v.at) (as_known v)
    file = source.2.each moves.moved.removed.was.0 (name, v.at) (as_known v) moves.moved.removed.was.1.is
        moves.moved.removed.was.2

    leads_across : (m' : DiskMap) × MatchesMap size c'.known m' (with_puts puts d)
        × (files_of m' ≡ files_moved (files_of m) ppn name to_ppn to protection) × (m'.layout ≡ m.layout)
    leads_across = (
      map_moved_across m ppn source.0 moves.moved.directory'.chain.blocks name file.0 to_ppn target.0
          moves.moved.target'.chain.blocks to protection,
      moving_across_leads size c.known c'.known ppn name to_ppn to (v.at, as_known v) with_prime words puts whole.map
          moves.moved m protection moves.prime_is fits source.0 source.1 file.0 file.1 target.0 target.1 d held read,
      moved_across_files m ppn source.0 moves.moved.directory'.chain.blocks name file.0 to_ppn target.0
          moves.moved.target'.chain.blocks to protection source.1 file.1 target.1 moves.moved.apart,
      refl,
    )

  edit : (layout : ℕ) → IsTable c.known.table → IsEdit size layout c c' Nowhere (λ d. d v.at ≡ Some words) puts
      (λ f. files_moved f ppn name to_ppn to protection)
  edit layout table =
      let inside = first_inside size c whole key v moves.there moves.current table in
      record {
        whole = moved_across_whole size c c' ppn name to_ppn to protection key v words puts whole moves unclaimed;
        bodies = λ d. versions_have c c' key v moves.prime moves.there moves.here moves.others d moves.pending;
        dated = λ n. dated_of n c c' moves.pending;
        quiet = λ n none. absurd none;
        in_range = moved_across_in_range size c.known c'.known ppn name to_ppn to (v.at, as_known v) with_prime words
            puts whole.map moves.moved inside;
        few = moved_across_few size c.known c'.known ppn name to_ppn to (v.at, as_known v) with_prime words puts
            whole.map moves.moved;
        low = λ n small. moved_across_low size c.known c'.known ppn name to_ppn to (v.at, as_known v) with_prime words
            puts whole.map moves.moved inside n (omega arith);
        spares = λ n kept. moved_across_elsewhere size c.known c'.known ppn name to_ppn to (v.at, as_known v) with_prime
            words puts whole.map moves.moved n kept.from (kept.first key v moves.there moves.current)
            (kept_chains n kept);
        leads = λ m d same. leads_across m d;
      }

-- If memory states it of a disk of the size that it knows.
module _ {size : ℕ} {c c' : MemoryMap} {ppn : ℕ} {name : FileName} {to_ppn : ℕ} {to : FileName} {protection key : ℕ}
    {v : LiveVersion} {words : List ℕ} {puts : List Put} (whole : IsWholeMemory size c)
    (moves : MovesAcross c.known.table.size c c' ppn name to_ppn to protection key v words puts) where
  pub across_sized : MovesAcross size c c' ppn name to_ppn to protection key v words puts
  across_sized = subst (λ (n : ℕ). MovesAcross n c c' ppn name to_ppn to protection key v words puts)
      whole.map.size_is moves

  pub across_edit : protection < 512 → claims c.pending (place_of ppn name) ≡ false → (layout : ℕ)
      → IsTable c.known.table → IsEdit size layout c c' Nowhere (λ d. d v.at ≡ Some words) puts
      (λ f. files_moved f ppn name to_ppn to protection)
  across_edit = edit size c c' ppn name to_ppn to protection key v words puts whole across_sized
