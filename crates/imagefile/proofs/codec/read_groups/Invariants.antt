use Rattle.std.proofs.Common.{◌≡◌, ◌≤◌, ◌-◌, ℕ, length}
use Rattle.blockdisk.specs.Common.{IsPartRead}
use Rattle.imagefile.specs.Common.{SameFile, image_state}
use Rattle.imagefile.proofs.codec.read_groups.Given as goal

abbrev pub invariant-loop-done : goal.invariant-loop-done
invariant-loop-done g l = record {
  same : SameFile (g.F.Durable.state l.fn.file) (g.F.Durable.state l.file);
  read : (size : ℕ) → IsPartRead l.fn.first l.done (image_state l.fn.form size (g.F.Durable.state l.fn.file))
      (image_state l.fn.form size (g.F.Durable.state l.file)) l.blocks;
  within : l.done ≤ length l.blocks;
  long : length l.blocks ≡ length l.fn.blocks;
}

abbrev pub decreases-loop-done : goal.decreases-loop-done
decreases-loop-done g l = length l.blocks - l.done
