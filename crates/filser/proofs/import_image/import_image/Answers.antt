use Rattle.std.proofs.Common.{inl, inr, refl}
use Rattle.imagefile.specs.Common.{assumed_in}
use Rattle.filser.proofs.CollectionLaws.{run_image, unmoved}
use Rattle.filser.proofs.import_image.import_image.Goals as goal

pub returns-in-Ok-clause-ran : goal.returns-in-Ok-clause-ran
returns-in-Ok-clause-ran g c =
    let p = c.import_on-status.ensures in
    let ran = run_image (g.H.Host.facts c.args.shelf.now.host.now) _ c.args.image.now.path.now c.args.image.now.form
    (assumed_in c.args.leave.supposed) _ _ _ _ _ c.import_on-status.result.0 c.in-Ok.disk c.import_on-status.result.1
    c.in-Ok.ensures.opened c.in-Ok.ensures.began c.in-Ok.ensures.counted p.size p.was_honest p.ran in
    (inl (c.import_on-status.result.1, refl, ran.0, ran.1, ran.2), tt)

pub returns-in-Err-clause-ran : goal.returns-in-Err-clause-ran
returns-in-Err-clause-ran g c = (
  inr (c.in-Err.fault, c.in-Err.ensures.denied, c.refuse_image.ensures.explained),
  unmoved c.in-Err.disks _,
)
