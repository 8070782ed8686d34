use Rattle.std.proofs.Common.{◌≡◌, ◌+◌, ◌-◌, ◌*◌, ◌<◌, ◌≤◌, ℕ, List, length, min, None}
use Rattle.std.specs.Prelude.{slice_index, vec_capacity}
use Rattle.blockdisk.specs.Common.{Keeps, SameDisk}
use Rattle.spec_image.specs.Common.{HasBody, block_start}
use Rattle.retrieval.specs.Common.{AreWhole}
use Rattle.retrieval.proofs.body.get_words.Given as goal

abbrev pub invariant-loop-done : goal.invariant-loop-done
invariant-loop-done g l = record {
  same : SameDisk (g.D.Disk.state l.fn.disk) (g.D.Disk.state l.disk);
  served : (g.D.Disk.state l.disk).failures ≡ (g.D.Disk.state l.fn.disk).failures;
  keeps : (g.D.Disk.state l.disk).honest → Keeps (g.D.Disk.state l.fn.disk) (g.D.Disk.state l.disk);
  long : length l.words.items ≡ min (l.done * 128) l.wanted;
  untouched : l.wanted ≡ 0 → l.disk ≡ l.fn.disk;
  room : l.wanted ≤ vec_capacity l.words;
  whole : (g.D.Disk.state l.disk).honest → (k : ℕ) → k < l.done
      → (g.D.Disk.state l.fn.disk).contents (slice_index l.version.blocks (l.block - 1 + k)) ≡ None → ⊥;
  read : (g.D.Disk.state l.disk).honest → (body : List ℕ) → length body ≡ l.version.words
      → AreWhole (g.D.Disk.state l.fn.disk).contents l.version.blocks
      → HasBody (g.D.Disk.state l.fn.disk).contents l.version.blocks body
      → (p : ℕ) → p < length l.words.items → slice_index l.words.items p ≡ slice_index body (block_start l.block + p);
}

abbrev pub decreases-loop-done : goal.decreases-loop-done
decreases-loop-done g l = l.blocks - l.done
