use Rattle.std.proofs.Common.{refl}
use Rattle.filser.proofs.ImageOutcomes.{empty_volume, no_volume}
use Rattle.filser.proofs.image.volume_on.Goals as goal

pub returns-in-Ok-clause-empty : goal.returns-in-Ok-clause-empty
returns-in-Ok-clause-empty c =
    empty_volume c.args.layout c.args.disk.blocks _ c.in-Ok.ensures.disk.same.size c.in-Ok.ensures.stands
    c.in-Ok.ensures.settled

pub returns-in-Err-clause-denied : goal.returns-in-Err-clause-denied
returns-in-Err-clause-denied c = (
  c.init_layout.new.disk,
  refl,
  λ blocks. no_volume _ c.args.disk.blocks c.args.disk.file.file.failures _ blocks c.in-Err.error _ _
      c.failure_of.ensures c.in-Err.ensures.disk.same.size c.requires c.in-Err.ensures.only
      c.in-Err.ensures.range.0 c.in-Err.ensures.disk.failed,
)
