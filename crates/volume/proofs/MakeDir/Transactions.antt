-- A directory is made: this is one change of the volume, with the block of the directory written beforehand.
use Rattle.std.proofs.Common.{◌≡◌, ◌⊎◌, inl, inr, ℕ, ◌<◌, Bool, true, false, List, [], ◌∷◌, ◌++◌, replicate, Some}
use Rattle.std.proofs.Common.{Result, Err, IsErrOf, refl, sym, subst, ◌∙◌, arith}
use Rattle.blockdisk.specs.Common.{Contents, DiskState, MayLeave, SameDisk, Writes, writes_modifies}
use Rattle.spec_image.specs.declared.put.Put.{Put}
use Rattle.spec_image.proofs.ChangedFiles.{files_made as files_of_made}
use Rattle.alloctab.specs.Common.{IsFree}
use Rattle.volume.specs.Common.{IsWrittenBy, IsCommitted, IsEdited, CurrentMap, MemoryMap, IsWholeMemory, map_made}
use Rattle.volume.specs.Common.{files_made, IsMade, IsSoundMemory}
use Rattle.volume.specs.declared.error.CallError.{CallError}
use Rattle.volume.specs.declared.error.CallError.TheVariants.{Device}
use Rattle.volume.proofs.common.Edits.{IsEdit, interrupted, not_written_stays}
use Rattle.volume.proofs.common.ChainPuts.{both_in_range, both_few, low_not_put}
use Rattle.volume.proofs.common.LiveBodies.{bodies_of, dated_of}
use Rattle.volume.proofs.MakeDir.MadeDirectories.{made_memory, not_written}
use Rattle.volume.proofs.MakeDir.Law.{puts_both, making_leads}

-- Memory states it of a disk of the size that it knows.
pub made_sized : {size : ℕ} {c : MemoryMap} {k' : CurrentMap} {ppn protection first : ℕ} {puts : List Put}
    → IsWholeMemory size c → IsMade c.known.table.size c.known k' ppn protection first puts
    → IsMade size c.known k' ppn protection first puts
made_sized {size} {c} {k'} {ppn} {protection} {first} {puts} whole is =
    subst (λ (n : ℕ). IsMade n c.known k' ppn protection first puts) whole.map.size_is is

pub made_edit : {size : ℕ} {c c' : MemoryMap} {ppn protection first : ℕ} {puts : List Put} → IsWholeMemory size c
    → IsMade c.known.table.size c.known c'.known ppn protection first puts → c'.live ≡ c.live
    → c'.pending ≡ c.pending → c'.keys ≡ c.keys ++ [] ∷ [] → protection < 512 → (layout : ℕ)
    → IsEdit size layout c c' (λ n. n ≡ first) (λ d. d first ≡ Some (replicate 128 0)) puts
    (λ f. files_made f ppn protection)
made_edit {size} {c} {c'} {ppn} {protection} {first} {puts} whole is live pending keys fits layout =
    let made = made_sized whole is in
    record {
      whole = made_memory size c.known c'.known ppn protection first puts whole.map made c c' whole refl refl live
          pending
          keys;
      bodies = λ d. bodies_of d c c' live pending;
      dated = λ n. dated_of n c c' pending;
      quiet = λ n same. subst (IsFree c.known.table) (sym same) made.free.0;
      in_range = both_in_range (puts_both size c.known c'.known ppn protection first puts whole.map made);
      few = both_few (puts_both size c.known c'.known ppn protection first puts whole.map made);
      low = λ n low. low_not_put (puts_both size c.known c'.known ppn protection first puts whole.map made) n
          (omega arith);
      spares = λ n kept put. not_written size c.known c'.known ppn protection first puts whole.map made n kept.from
          (let apart = kept.apart in omega arith) kept.used (inr (inr put));
      leads = λ m d same held zeros. (
        map_made m c'.known.master.blocks ppn protection first,
        making_leads size c.known c'.known m ppn protection first puts whole.map made fits d held zeros,
        files_of_made m c'.known.master.blocks ppn protection 0 (first ∷ []),
        refl,
      );
    }

-- if the write of the block failed
pub made_ended : {s mid : DiskState} {c c' : MemoryMap} {ppn protection first : ℕ} {puts : List Put} {alive : Bool}
    → IsSoundMemory s c alive → alive ≡ false
    → (s.honest → (d : Contents) → s.left_since s.clock d → MayLeave s d) → SameDisk s mid
    → (mid.honest → Writes first s mid) → IsMade c.known.table.size c.known c'.known ppn protection first puts
    → c'.live ≡ c.live → c'.pending ≡ c.pending → c'.keys ≡ c.keys ++ [] ∷ [] → protection < 512
    → IsEdited s mid c c' (λ f. files_made f ppn protection) true (Err Device)
made_ended {s} {mid} {c} {c'} {ppn} {protection} {first} sound ok only_now same writes is live pending keys fits =
    let edit = made_edit sound.whole is live pending keys fits 0 in
    interrupted sound ok only_now same edit.quiet edit.whole
    (λ m. writes_modifies (λ n. n ≡ first) first s mid refl (writes m)) Device

-- A block that neither the write nor the commit writes stays.
pub both_stay : {s mid s' : DiskState} {first : ℕ} {puts : List Put} {was failed : Bool}
    {result : Result (Unit {0}) CallError} → SameDisk s mid → Writes first s mid
    → IsCommitted mid s' puts was failed result → s'.honest → (n : ℕ)
    → ((n ≡ first) ⊎ IsWrittenBy s.size puts n → ⊥) → (IsErrOf result Device → s.is_open n ≡ false)
    → s'.contents n ≡ s.contents n
both_stay {s} {mid} {s'} {first} {puts} same writes committed h n out closed =
    not_written_stays committed h n
    (λ written. out (inr (subst (λ (b : ℕ). IsWrittenBy b puts n) same.size written)))
    (λ is. writes.is_open n (λ here. out (inl here)) ∙ closed is)
    ∙ writes.contents n (λ here. out (inl here))
