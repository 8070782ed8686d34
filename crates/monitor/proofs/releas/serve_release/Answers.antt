use Rattle.std.proofs.Common.{refl}
use Rattle.spec_machine.specs.declared.call.Call.TheVariants.{Releas}
use Rattle.monitor.proofs.CloseChannel.Serves.{release_serves}
use Rattle.monitor.proofs.common.Promised.{dropping_serves}
use Rattle.monitor.proofs.common.JobReaders.{job_held}
use Rattle.monitor.proofs.releas.serve_release.Goals as goal

pub release-requires-clause-held : goal.release-requires-clause-held
release-requires-clause-held g c =
    let ready = c.requires.ready in
    job_held c.args.volume.now.map.live ready.jobs ready.number c.args.job.now ready.among.reading ready.among.there

pub returns-in-Some-clause-serving : goal.returns-in-Some-clause-serving
returns-in-Some-clause-serving g c =
    let said = c.close_both.ensures in
    release_serves g.D.Disk.state g.met.D.Disk.only_now c.args.volume.now.disk
    c.close_both.new.volume.disk c.requires.ready c.in-Some.ensures.some said.published.1 said.idle said.kept
    said.published.2 said.closed refl

pub returns-in-None-clause-serving : goal.returns-in-None-clause-serving
returns-in-None-clause-serving g c = λ moment timely.
    let old = c.args.volume.now in
    let new = c.release.new.volume in
    let ready = c.requires.ready in
    dropping_serves g.D.Disk.state g.met.D.Disk.only_now old.disk new.disk old.map new.map old.failed
    new.failed c.args.job.now c.release.new.job (Releas c.args.channel) moment c.release.result
    ready.alive c.release.ensures.untouched ready.placed timely c.release.ensures.row c.release.ensures.keeps
    c.release.ensures.reads c.release.ensures.leaves c.release.ensures.only
    c.release.ensures.refused c.release.ensures.decided (λ kept. kept)
