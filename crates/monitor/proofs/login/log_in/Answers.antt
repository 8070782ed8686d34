use Rattle.std.proofs.Common.{filter_map, sym, ap, subst}
use Rattle.monitor.specs.Common.{AreKeyed, AreReading, side_of, reader_of}
use Rattle.monitor.proofs.common.Dropped.{closed_keyed}
use Rattle.monitor.proofs.common.PlacedVersions.{placed_left}
use Rattle.monitor.proofs.common.JobReaders.{closed_reading, bare_readers}
use Rattle.monitor.proofs.login.log_in.Goals as goal

pub returns-in-Ok-clause-keyed : goal.returns-in-Ok-clause-keyed
returns-in-Ok-clause-keyed g c =
    subst (AreKeyed c.close_job.new.volume.map.pending) (sym c.put.ensures)
    (closed_keyed c.args.volume.now.map c.close_job.new.volume.map _ c.args.jobs.now c.args.number _
    c.requires.keyed c.close_job.ensures.closed (ap (filter_map side_of) c.all_closed.ensures))

pub returns-in-Ok-clause-reading : goal.returns-in-Ok-clause-reading
returns-in-Ok-clause-reading g c =
    subst (AreReading c.close_job.new.volume.map.live) (sym c.put.ensures)
    (closed_reading c.args.volume.now.map c.close_job.new.volume.map _ c.args.jobs.now c.args.number
    _ c.requires.reading c.close_job.ensures.closed (ap (filter_map reader_of) c.all_closed.ensures)
    (bare_readers _ c.all_closed.ensures))

pub returns-in-Ok-clause-placed : goal.returns-in-Ok-clause-placed
returns-in-Ok-clause-placed g c = placed_left c.args.volume.now.map c.close_job.new.volume.map
    c.close_job.ensures.closed.leaves c.requires.placed
