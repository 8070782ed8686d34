use Rattle.std.proofs.Common.{rules}
use Rattle.imagefile.specs.Common.{assumed_in}
use Rattle.filser.proofs.image.open_image.Goals as goal

pub returns-clause-began : goal.returns-clause-began
returns-clause-began g c = c.keep_blocks.ensures.began c.args.form (assumed_in c.args.leave.supposed)
    (c.with_room-disk.ensures.began c.args.form (assumed_in c.args.leave.supposed) c.in_ok-disk.ensures.began)

pub returns-clause-denied : goal.returns-clause-denied
returns-clause-denied g c =
    let began = c.with_room-disk.ensures.began c.args.form (assumed_in c.args.leave.supposed) c.in_ok-disk.ensures.began
    in search rules
