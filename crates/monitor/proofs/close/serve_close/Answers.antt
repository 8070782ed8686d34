use Rattle.std.proofs.Common.{sym, ◌∙◌}
use Rattle.spec_machine.specs.Common.{keeps_input}
use Rattle.spec_machine.specs.declared.call.Call.TheVariants.{Close}
use Rattle.monitor.proofs.CloseChannel.Serves.{close_serves, hold_serves}
use Rattle.monitor.proofs.CloseChannel.Sides.{kept_by}
use Rattle.monitor.proofs.common.Dropped.{job_live}
use Rattle.monitor.proofs.common.Promised.{dropping_serves}
use Rattle.monitor.proofs.common.JobReaders.{job_held}
use Rattle.monitor.proofs.close.serve_close.Goals as goal

pub close-requires-clause-live : goal.close-requires-clause-live
close-requires-clause-live g c =
    let ready = c.requires.ready in
    job_live c.args.volume.now.map ready.jobs ready.number c.args.job.now ready.among.keyed ready.among.there

pub close-requires-clause-held : goal.close-requires-clause-held
close-requires-clause-held g c =
    let ready = c.requires.ready in
    job_held c.args.volume.now.map.live ready.jobs ready.number c.args.job.now ready.among.reading ready.among.there

pub returns-in-None-clause-serving : goal.returns-in-None-clause-serving
returns-in-None-clause-serving g c =
    let said = c.close_both.ensures in
    close_serves g.D.Disk.state g.met.D.Disk.only_now c.args.volume.now.disk c.close_both.new.volume.disk
    c.requires.ready c.in-Some.ensures.some said.published.1 said.idle said.kept said.published.2
    (sym c.input_kept.ensures ∙ c.in-None.is) said.closed

pub returns-in-Some-input_kept-clause-serving : goal.returns-in-Some-input_kept-clause-serving
returns-in-Some-input_kept-clause-serving g c =
    let said = c.close_and_hold.ensures in
    let input = c.in-Some-input_kept.input in
    let kept = kept_by (keeps_input c.args.bits) c.in-Some.open.input input
    (sym c.input_kept.ensures ∙ c.in-Some-input_kept.is) in
    hold_serves g.D.Disk.state g.met.D.Disk.only_now c.args.volume.now.disk
    c.close_and_hold.new.volume.disk c.requires.ready c.in-Some.ensures.some said.published.1 said.idle said.kept
    input kept.1 said.published.2 kept.0

pub returns-in_default-clause-serving : goal.returns-in_default-clause-serving
returns-in_default-clause-serving g c = λ moment timely.
    let old = c.args.volume.now in
    let new = c.close.new.volume in
    let ready = c.requires.ready in
    dropping_serves g.D.Disk.state g.met.D.Disk.only_now old.disk new.disk old.map new.map old.failed
    new.failed c.args.job.now c.close.new.job (Close c.args.channel c.args.bits) moment c.close.result
    ready.alive c.close.ensures.untouched ready.placed timely c.close.ensures.row c.close.ensures.keeps
    c.close.ensures.reads c.close.ensures.leaves c.close.ensures.only
    c.close.ensures.refused c.close.ensures.decided (λ kept. kept)
