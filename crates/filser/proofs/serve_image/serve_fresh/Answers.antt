use Rattle.std.proofs.Common.{inl, inr, refl}
use Rattle.filser.proofs.ImageOutcomes.{fresh_disk, fresh_refused, told_device}
use Rattle.filser.proofs.serve_image.serve_fresh.Goals as goal

pub returns-in_default-clause-ran : goal.returns-in_default-clause-ran
returns-in_default-clause-ran g c = (refl, refl, refl)

pub returns-in-Ok-init-clause-ran : goal.returns-in-Ok-init-clause-ran
returns-in-Ok-init-clause-ran g c = (
  tt,
  inl (
    c.init.new.disk,
    fresh_disk _ c.in-Ok.disk c.init.new.disk c.in-Ok.ensures c.in-Ok-init.ensures.disk.same.size
        (c.in-Ok-init.ensures.stands tt) (c.in-Ok-init.ensures.settled tt) (c.in-Ok-init.ensures.disk.served (λ e. cc)),
    c.no_moment.result,
    c.no_moment.ensures,
    c.serve-status.ensures.ran,
  ),
)

pub returns-in-Err-clause-ran : goal.returns-in-Err-clause-ran
returns-in-Err-clause-ran g c =
    let why = fresh_refused _ c.in-Ok.disk _ c.in-Err.error c.in-Ok.ensures c.in-Err.ensures.only
    c.in-Err.ensures.range.0 c.in-Err.ensures.disk.failed in (
      tt,
      inr (why.0, refl, told_device _ _ _ c.in-Err.error why.1 c.say.ensures.said),
    )
