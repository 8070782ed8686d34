use Rattle.monitor.proofs.common.ReadBookings.{reads_booked}
use Rattle.monitor.proofs.read_laws.what_is_read_is_booked.Goals as goal

pub returns : goal.returns
returns g c = reads_booked (g.D.Disk.state c.args.disk.now)
