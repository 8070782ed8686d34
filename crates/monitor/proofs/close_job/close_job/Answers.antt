use Rattle.monitor.proofs.common.Dropped.{job_live}
use Rattle.monitor.proofs.common.JobReaders.{job_held}
use Rattle.monitor.proofs.close_job.close_job.Goals as goal

pub close_channels-requires-clause-live : goal.close_channels-requires-clause-live
close_channels-requires-clause-live g c = job_live c.args.volume.now.map c.args.jobs.now c.args.number
    c.in-Some.job.now c.requires.keyed c.in-Some.ensures.found

pub close_channels-requires-clause-held : goal.close_channels-requires-clause-held
close_channels-requires-clause-held g c = job_held c.args.volume.now.map.live c.args.jobs.now c.args.number
    c.in-Some.job.now c.requires.reading c.in-Some.ensures.found
