use Rattle.std.proofs.Common.{◌≡◌, ◌≤◌, ◌-◌, ℕ, Ok, None, length}
use Rattle.blockdisk.specs.Common.{IsVerify}
use Rattle.imagefile.specs.Common.{SameFile, image_state}
use Rattle.imagefile.proofs.codec.verify_groups.Given as goal

abbrev pub invariant-loop-next : goal.invariant-loop-next
invariant-loop-next g l = record {
  begun : l.fn.first ≤ l.next;
  long : length l.room ≡ length l.fn.room;
  same : SameFile (g.F.Durable.state l.fn.file) (g.F.Durable.state l.file);
  verified : (blocks : ℕ) → IsVerify l.fn.first l.next (image_state l.fn.form blocks (g.F.Durable.state l.fn.file))
      (image_state l.fn.form blocks (g.F.Durable.state l.file)) (Ok None);
}

abbrev pub decreases-loop-next : goal.decreases-loop-next
decreases-loop-next g l = l.end - l.next
