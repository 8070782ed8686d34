use Rattle.std.proofs.Common.{◌∙◌, ap}
use Rattle.salvage.specs.Common.{size_by}
use Rattle.salvage.proofs.CopySizes.{both_said}
use Rattle.salvage.proofs.copied.read_sizes.Goals as goal

pub returns-clause-size : goal.returns-clause-size
returns-clause-size g c h =
    let s = g.D.Disk.state c.args.disk.now in
    let mid = g.D.Disk.state c.read_size-first.new.disk in
    let one = c.read_size-first in
    let other = c.read_size-second in
    let was = other.ensures.same.was_honest h in (
      one.result.0,
      other.result.0,
      both_said s mid one.result.1 other.result.1 one.result.0 other.result.0 one.ensures.same (one.ensures.reads was)
          (one.ensures.said was) (other.ensures.said h),
      c.size_by.ensures ∙ ap (λ blocks. size_by blocks one.result.0 other.result.0) c.blocks-blocks.ensures,
    )
