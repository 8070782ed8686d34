use Rattle.monitor.proofs.common.ReadsPublished.{reads_published}
use Rattle.monitor.proofs.reader_laws.readers_keep_what_is_superseded.Goals as goal

pub returns : goal.returns
returns g c = reads_published (g.D.Disk.state c.args.old.now) (g.D.Disk.state c.args.new.now)
