use Rattle.std.proofs.Common.{◌≤◌, ◌-◌, ℕ, length}
use Rattle.blockdisk.specs.Common.{IsPartWrite}
use Rattle.imagefile.specs.Common.{SameFile, image_state}
use Rattle.imagefile.proofs.codec.write_blocks.Given as goal

abbrev pub invariant-loop-done : goal.invariant-loop-done
invariant-loop-done g l = record {
  same : SameFile (g.F.Durable.state l.fn.file) (g.F.Durable.state l.file);
  written : (size : ℕ) → IsPartWrite l.fn.first l.done l.fn.blocks
      (image_state l.fn.form size (g.F.Durable.state l.fn.file))
      (image_state l.fn.form size (g.F.Durable.state l.file));
  within : l.done ≤ length l.blocks;
}

abbrev pub decreases-loop-done : goal.decreases-loop-done
decreases-loop-done g l = length l.blocks - l.done
