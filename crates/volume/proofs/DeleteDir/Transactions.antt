-- A directory is deleted: this is one change of the volume.
use Rattle.std.proofs.Common.{inr, ℕ, List, refl, subst, arith}
use Rattle.spec_image.specs.declared.put.Put.{Put}
use Rattle.spec_image.specs.Common.{without_directory}
use Rattle.spec_image.proofs.Common.{files_without}
use Rattle.volume.specs.Common.{MemoryMap, IsWholeMemory, directory_removed, RemovesDirectory}
use Rattle.volume.proofs.common.Edits.{Nowhere, Anyhow, IsEdit}
use Rattle.volume.proofs.common.ChainPuts.{both_in_range, both_few, low_not_put}
use Rattle.volume.proofs.common.LiveBodies.{bodies_of, dated_of}
use Rattle.volume.proofs.DeleteDir.Memory.{removed_memory, puts_both, not_written}
use Rattle.volume.proofs.DeleteDir.Law.{removing_leads}

edit : (size : ℕ) (c c' : MemoryMap) (ppn : ℕ) (puts : List Put) → IsWholeMemory size c
    → RemovesDirectory size c c' ppn puts → (layout : ℕ)
    → IsEdit size layout c c' Nowhere Anyhow puts (λ f. directory_removed f ppn)
edit size c c' ppn puts whole is layout = record {
  whole = removed_memory size c c' ppn puts whole is;
  bodies = λ d. bodies_of d c c' is.live is.pending;
  dated = λ n. dated_of n c c' is.pending;
  quiet = λ n none. absurd none;
  in_range = both_in_range (puts_both size c.known c'.known ppn puts whole.map is.removed);
  few = both_few (puts_both size c.known c'.known ppn puts whole.map is.removed);
  low = λ n low. low_not_put (puts_both size c.known c'.known ppn puts whole.map is.removed) n (omega arith);
  spares = λ n kept put. not_written size c.known c'.known ppn puts whole.map is.removed n kept.from
      (let apart = kept.apart in omega arith) (inr put);
  leads = λ m d same held ready. (
    without_directory m c'.known.master.blocks ppn,
    removing_leads size c.known c'.known m ppn puts whole.map is.removed d held,
    files_without m c'.known.master.blocks ppn,
    refl,
  );
}

-- If memory states it of a disk of the size that it knows.
module _ {size : ℕ} {c c' : MemoryMap} {ppn : ℕ} {puts : List Put} (whole : IsWholeMemory size c)
    (is : RemovesDirectory c.known.table.size c c' ppn puts) where
  pub unmade_sized : RemovesDirectory size c c' ppn puts
  unmade_sized = subst (λ (n : ℕ). RemovesDirectory n c c' ppn puts) whole.map.size_is is

  pub unmade_edit : (layout : ℕ) → IsEdit size layout c c' Nowhere Anyhow puts (λ f. directory_removed f ppn)
  unmade_edit = edit size c c' ppn puts whole unmade_sized
