use Rattle.std.proofs.Common.{inl, refl}
use Rattle.imagefile.specs.Common.{assumed_in}
use Rattle.filser.proofs.RaisedVolumes.{migrated_image}
use Rattle.filser.proofs.migrate_image.migrate_image.Goals as goal

pub returns-in-Ok-clause-ran : goal.returns-in-Ok-clause-ran
returns-in-Ok-clause-ran g c =
    let p = c.migrate-status.ensures in
    let done = migrated_image (g.H.Host.facts c.args.host.now) c.args.path.now c.args.form
    (assumed_in c.args.leave.supposed) _ _ c.migrate-status.result _ _
    c.in-Ok.ensures.opened c.in-Ok.ensures.began c.in-Ok.ensures.counted p.same p.ran in
    inl (c.migrate-status.new.disk, refl, done.0, done.1, done.2)
