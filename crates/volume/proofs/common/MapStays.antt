-- The blocks of versions that are read or written are in use, and have only the words of these versions.
use Rattle.std.proofs.Common.{◌≡◌, ⊎_elim, ℕ, ◌+◌, ◌<◌, ◌≤◌, Bool, true, false, if◌then◌else◌, Some, refl, ap, ◌∙◌}
use Rattle.std.proofs.Common.{arith}
use Rattle.std.proofs.lemmas.Bool.{cases_lt}
use Rattle.spec_image.specs.Common.{total, times, space_start}
use Rattle.spec_image.proofs.Common.{fixed_below, times-append}
use Rattle.alloctab.specs.Common.{holds, IsFree}
use Rattle.volume.specs.Common.{blocks_reached, MemoryMap, slot, pending_at, pinned_reaches, current_reaches}
use Rattle.volume.specs.Common.{pending_reaches, entry_reaches, IsWholeMemory}
use Rattle.volume.specs.declared.live.LiveVersion.{LiveVersion}
use Rattle.volume.specs.declared.pending.PendingVersion.{PendingVersion}
use Rattle.volume.proofs.common.TableBits.{bit_few}
use Rattle.volume.proofs.common.OnePlace.{first_no_data}
use Rattle.volume.proofs.PinVersion.Pins.{total_at}
use Rattle.volume.proofs.common.ReachedBlocks.{reaches_parts}

-- A block of a version in use: it is in no chain, and is no file's prime block.
pub record IsKept (size : ℕ) (c : MemoryMap) (n : ℕ) : Type 0 where
  pub from : space_start size ≤ n
  pub apart : times n c.known.master.blocks + total (λ d. times n d.chain.blocks) c.known.directories ≡ 0
  pub used : IsFree c.known.table n → ⊥
  pub first : (key : ℕ) (v : LiveVersion) → slot c.live key ≡ Some v → v.is_current ≡ true → n ≡ v.at → ⊥

module _ (size : ℕ) (c : MemoryMap) (whole : IsWholeMemory size c) where
  held_kept : (n : ℕ) → 0 < holds c.known.table n → IsKept size c n
  held_kept n some = record {
    from = (whole.inside n some).from;
    apart = whole.apart n some;
    used = λ free. let none = free.unheld in omega arith;
    first = λ key v there current same.
        let none = whole.primes key v there current in
        let here = ap (holds c.known.table) same in
        omega arith;
  }

  pub read_kept : (k : ℕ) (v : LiveVersion) → slot c.live k ≡ Some v → 0 < v.readers → (n : ℕ)
      → 0 < times n v.version.blocks → IsKept size c n
  read_kept k v is some n there = by v.is_current refl
    where
      stands : 0 < times n (blocks_reached v.at v.version)
      stands = let parts = times-append n v.version.ribs v.version.blocks in omega arith

      by : (b : Bool) → v.is_current ≡ b → IsKept size c n
      by true current =
          let entry : 0 < entry_reaches n c.known.directories =
          (let part = total_at (current_reaches n) refl c.live k in
          let here = ap (current_reaches n) is
          ∙ ap (λ (b : Bool). if b then times n (blocks_reached v.at v.version) else 0) current in
          let all = whole.current n in
          let one = stands in
          omega arith) in
          let parts = reaches_parts n c.known.directories in
          let bits = whole.map.bits n in
          let few = bit_few c.known.table n in
          record {
            from = ⊎_elim (λ below. absurd (let one = fixed_below size n below in omega arith)) (λ from. from)
                (cases_lt n (space_start size));
            apart = omega arith;
            used = λ free. let clear = free.clear in omega arith;
            first = λ key u at now same.
                let none = first_no_data size c whole key u at now k v is current in
                let here = ap (λ (j : ℕ). times j v.version.blocks) same in
                omega arith;
          }
      by false ended = held_kept n
          (let part = total_at (pinned_reaches n) refl c.live k in
          let here = ap (pinned_reaches n) is
          ∙ ap (λ (b : Bool). if b then 0 else times n (blocks_reached v.at v.version)) ended in
          let all = whole.held n in
          let one = stands in
          omega arith)

  pub written_kept : (k : ℕ) (q : PendingVersion) → pending_at c.pending k ≡ Some q → (n : ℕ)
      → 0 < times n q.version.blocks → IsKept size c n
  written_kept k q is n there = held_kept n
      (let part = total_at (pending_reaches n) refl c.pending k in
      let here = ap (pending_reaches n) is in
      let all = whole.held n in
      omega arith)
