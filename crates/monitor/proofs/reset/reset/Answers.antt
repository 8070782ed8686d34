use Rattle.monitor.proofs.common.Dropped.{reset_keyed}
use Rattle.monitor.proofs.common.PlacedVersions.{placed_left}
use Rattle.monitor.proofs.common.JobReaders.{reset_reading}
use Rattle.monitor.proofs.reset.reset.Goals as goal

pub returns-clause-keyed : goal.returns-clause-keyed
returns-clause-keyed g c =
    reset_keyed c.args.volume.now.map c.close_job.new.volume.map _ c.args.jobs.now c.reset.new.self c.args.number
    c.reset.result c.requires.keyed c.close_job.ensures.closed
    c.reset.ensures.found c.reset.ensures.none

pub returns-clause-reading : goal.returns-clause-reading
returns-clause-reading g c =
    reset_reading c.args.volume.now.map c.close_job.new.volume.map _ c.args.jobs.now c.reset.new.self
    c.args.number c.reset.result c.requires.reading c.close_job.ensures.closed
    c.reset.ensures.found c.reset.ensures.none

pub returns-clause-placed : goal.returns-clause-placed
returns-clause-placed g c = placed_left c.args.volume.now.map c.close_job.new.volume.map
    c.close_job.ensures.closed.leaves c.requires.placed
