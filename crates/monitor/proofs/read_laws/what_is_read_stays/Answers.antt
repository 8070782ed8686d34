use Rattle.monitor.proofs.common.ReadStays.{reads_start, reads_kept, reads_made}
use Rattle.monitor.proofs.read_laws.what_is_read_stays.Goals as goal

pub returns-clause-started : goal.returns-clause-started
returns-clause-started g c = reads_start (g.D.Disk.state c.args.old.now)

pub returns-clause-kept : goal.returns-clause-kept
returns-clause-kept g c = reads_kept (g.D.Disk.state c.args.old.now) (g.D.Disk.state c.args.new.now)

pub returns-clause-made : goal.returns-clause-made
returns-clause-made g c = reads_made (g.D.Disk.state c.args.old.now) (g.D.Disk.state c.args.new.now)
