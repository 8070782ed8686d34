use Rattle.std.proofs.Common.{◌≡◌, ◌≤◌, ◌<◌, ◌+◌, ◌-◌, ℕ, length}
use Rattle.std.specs.Prelude.{slice_index}
use Rattle.blockdisk.specs.Common.{SameDisk, Modifies}
use Rattle.spec_image.specs.Common.{blocks_of}
use Rattle.retrieval.specs.Common.{AtPlace, HoldsNew}
use Rattle.retrieval.proofs.place.write_all.Given as goal

abbrev pub invariant-loop-i : goal.invariant-loop-i
invariant-loop-i g l = record {
  begun : l.first ≤ l.i;
  within : l.i ≤ l.end;
  written : (g.D.Disk.state l.disk).honest → (j : ℕ) → l.first ≤ j → j < l.i
      → HoldsNew (g.D.Disk.state l.disk).contents l.at l.words l.kept.place l.kept.words j
      (slice_index l.blocks.blocks j);
  modified : (g.D.Disk.state l.disk).honest
      → Modifies (AtPlace l.blocks.blocks l.first (l.at + blocks_of (length l.words)))
      (g.D.Disk.state l.fn.disk) (g.D.Disk.state l.disk);
  same : SameDisk (g.D.Disk.state l.fn.disk) (g.D.Disk.state l.disk);
  served : (g.D.Disk.state l.disk).failures ≡ (g.D.Disk.state l.fn.disk).failures;
}

abbrev pub decreases-loop-i : goal.decreases-loop-i
decreases-loop-i g l = l.end - l.i
