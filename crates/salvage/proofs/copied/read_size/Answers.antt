use Rattle.std.proofs.Common.{rules}
use Rattle.salvage.proofs.CopySizes.{said_volume, said_words}
use Rattle.salvage.proofs.copied.read_size.Goals as goal

pub returns-in-Ok-clause-said : goal.returns-in-Ok-clause-said
returns-in-Ok-clause-said g c h =
    let d = g.D.Disk.state c.args.disk.now in
    said_words d.size d.contents c.args.n (search rules) c.in-Ok.words c.stated_size.result (c.in-Ok.ensures.words h)
    c.stated_size.ensures

pub returns-in-Ok-clause-volume : goal.returns-in-Ok-clause-volume
returns-in-Ok-clause-volume g c = said_volume c.stated_size.result c.in-Ok.words c.stated_size.ensures
