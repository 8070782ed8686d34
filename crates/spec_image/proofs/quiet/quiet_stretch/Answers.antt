use Rattle.spec_image.proofs.QuietLaws.{quiet_leaves}
use Rattle.spec_image.proofs.quiet.quiet_stretch.Goals as goal

pub returns : goal.returns
returns g c same h blocks files quiet stands modifies =
    quiet_leaves (g.D.Disk.state c.args.old.now) (g.D.Disk.state c.args.new.now) blocks files quiet stands
    (λ d left. g.met.D.Disk.only_now c.args.old.now d (same.was_honest h) left) modifies
