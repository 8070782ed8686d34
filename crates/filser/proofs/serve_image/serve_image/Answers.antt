use Rattle.std.proofs.Common.{inl, inr, refl, sym}
use Rattle.imagefile.specs.Common.{assumed_in}
use Rattle.filser.proofs.ImageOutcomes.{served_image}
use Rattle.filser.proofs.serve_image.serve_image.Goals as goal

pub returns-in-Ok-clause-ran : goal.returns-in-Ok-clause-ran
returns-in-Ok-clause-ran g c =
    let p = c.serve-status.ensures in
    let served = served_image (g.H.Host.facts c.args.host.now) _ c.args.image.now.path.now c.args.image.now.form
    (assumed_in c.args.leave.supposed) c.args.task _ _ _ _ c.serve-status.result.0 c.in-Ok.opened
    c.serve-status.result.1 (rw (sym c.access.ensures) c.in-Ok.ensures.opened)
    c.in-Ok.ensures.began c.in-Ok.ensures.counted p.size p.was_honest p.ran in
    inl (c.serve-status.result.1, refl, served.0, served.1, served.2)

pub returns-in-Err-clause-ran : goal.returns-in-Err-clause-ran
returns-in-Err-clause-ran g c = inr (
  refl,
  (c.in-Err.fault, rw (sym c.access.ensures) c.in-Err.ensures.denied, c.refuse_image.ensures.explained),
)
