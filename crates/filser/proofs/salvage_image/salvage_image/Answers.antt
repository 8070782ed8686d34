use Rattle.std.proofs.Common.{inl, refl}
use Rattle.imagefile.specs.Common.{assumed_in}
use Rattle.filser.proofs.SalvageLaws.{salvage_run}
use Rattle.filser.proofs.salvage_image.salvage_image.Goals as goal

pub returns-after-failure_of-clause-ran : goal.returns-after-failure_of-clause-ran
returns-after-failure_of-clause-ran g c =
    let p = c.salvage_from-status.ensures in
    let ran = salvage_run (g.H.Host.facts c.args.shelf.now.host.now) c.args.image.now.path.now c.args.image.now.form
    (assumed_in c.args.leave.supposed) _ _ _ _ _ _ c.salvage_from-status.result _ _
    c.in-Ok.ensures.opened c.in-Ok.ensures.began c.in-Ok.ensures.counted p.same p.ran in
    inl (c.salvage_from-status.new.disk, c.in-Ok.tail, refl, ran.0, ran.1, ran.2)
