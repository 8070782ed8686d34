-- A file is deleted: this is one change of the volume.
use Rattle.std.proofs.Common.{◌≡◌, ⊎_elim, ℕ, false, List, refl, sym, ap, subst, ◌∙◌, arith}
use Rattle.std.proofs.lemmas.Bool.{cases_eq}
use Rattle.words36.specs.declared.names.FileName.{FileName}
use Rattle.blockdisk.specs.Common.{Contents}
use Rattle.changeset.specs.Common.{IsPutIn}
use Rattle.spec_image.specs.declared.put.Put.{Put}
use Rattle.spec_image.specs.Common.{file_words, times}
use Rattle.spec_image.proofs.Common.{some_same, some_none}
use Rattle.alloctab.specs.Common.{IsTable}
use Rattle.volume.specs.Common.{MemoryMap, slot, pending_at, as_known, IsWholeMemory, files_removed, RemovesFile}
use Rattle.volume.specs.Common.{HasSomeBody}
use Rattle.volume.specs.declared.live.LiveVersion.{LiveVersion}
use Rattle.volume.proofs.common.Edits.{Nowhere, Anyhow, IsEdit}
use Rattle.volume.proofs.common.MapStays.{IsKept}
use Rattle.volume.proofs.common.LiveBodies.{HaveBodies, dated_of}
use Rattle.volume.proofs.PublishVersion.StepPremises.{part_of}
use Rattle.volume.proofs.PublishVersion.Slots.{left_cases}
use Rattle.volume.proofs.DeleteFile.Memory.{removed_whole}
use Rattle.volume.proofs.common.ChainPuts.{PutsBoth, both_in_range, both_few, low_not_put, space_not_put}
use Rattle.volume.proofs.DeleteFile.Law.{map_removed, removed_files, removing_leads_in, puts_both, chain_times}

module _ (size : ℕ) (c c' : MemoryMap) (ppn : ℕ) (name : FileName) (key : ℕ) (v : LiveVersion) (puts : List Put)
    (whole : IsWholeMemory size c) (is : RemovesFile size c c' ppn name key v puts) where
  abbrev both : PutsBoth file_words size c.known.table c'.known.table is.removed.directory.chain
      is.removed.directory'.chain puts
  both = puts_both size c.known c'.known ppn name (v.at, as_known v) puts whole.map is.removed

  -- a block of a version in use isn't put
  spares : (n : ℕ) → IsKept size c n → IsPutIn puts n → ⊥
  spares n kept = space_not_put both n kept.from
      (let part = part_of (λ d. times n d.chain.blocks) c.known.directories is.removed.place is.removed.directory
      is.removed.directory_at in
      let apart = kept.apart in
      let less = chain_times size c.known c'.known ppn name (v.at, as_known v) puts whole.map is.removed n in
      omega arith)

  -- the words of each are there, and of what is left of the one that the file had
  bodies : (d : Contents) → HaveBodies d c → HaveBodies d c'
  bodies d had = record {
    read = λ k u there some. ⊎_elim
        (λ (same : k ≡ key).
        let here = sym there ∙ ap (slot c'.live) same ∙ is.ended in
        ⊎_elim
        (λ gone. absurd (some_none (here ∙ gone.1)))
        (λ stays.
        let which : u ≡ record v { is_current = false } = some_same (here ∙ stays) in
        let readers = ap (λ (x : LiveVersion). x.readers) which in
        subst (λ (x : LiveVersion). HasSomeBody d x.version) (sym which) (had.read key v is.there (omega arith)))
        (left_cases v))
        (λ other. had.read k u (sym (is.others k other) ∙ there) some)
        (cases_eq k key);
    written = λ k q there. had.written k q (ap (λ ps. pending_at ps k) (sym is.pending) ∙ there);
  }

  edit : (layout : ℕ) → IsTable c.known.table
      → IsEdit size layout c c' Nowhere Anyhow puts (λ f. files_removed f ppn name)
  edit layout table = record {
    whole = removed_whole size c c' ppn name key v puts whole is table;
    bodies = bodies;
    dated = λ n. dated_of n c c' is.pending;
    quiet = λ n none. absurd none;
    in_range = both_in_range both;
    few = both_few both;
    low = λ n low. low_not_put both n (omega arith);
    spares = spares;
    leads = λ m d same held ready.
        let found = held.known.each is.removed.place (ppn, is.removed.word) is.removed.directory is.removed.there.is
        is.removed.directory_at in
        let chain = is.removed.directory'.chain.blocks in (
          map_removed m ppn found.0 chain name,
          removing_leads_in size c.known c'.known ppn name (v.at, as_known v) puts whole.map is.removed m found.0
              found.1 d held,
          removed_files m ppn found.0 chain name found.1,
          refl,
        );
  }

-- If memory states it of a disk of the size that it knows.
module _ {size : ℕ} {c c' : MemoryMap} {ppn : ℕ} {name : FileName} {key : ℕ} {v : LiveVersion} {puts : List Put}
    (whole : IsWholeMemory size c) (is : RemovesFile c.known.table.size c c' ppn name key v puts) where
  pub removed_sized : RemovesFile size c c' ppn name key v puts
  removed_sized = subst (λ (n : ℕ). RemovesFile n c c' ppn name key v puts) whole.map.size_is is

  pub removed_edit : (layout : ℕ) → IsTable c.known.table
      → IsEdit size layout c c' Nowhere Anyhow puts (λ f. files_removed f ppn name)
  removed_edit = edit size c c' ppn name key v puts whole removed_sized
