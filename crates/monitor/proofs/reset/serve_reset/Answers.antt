use Rattle.std.proofs.Common.{◌≡◌, false, Some, refl, sym, subst, ap, slice_set}
use Rattle.spec_machine.specs.Common.{slot}
use Rattle.spec_image.specs.Common.{pack_of}
use Rattle.spec_machine.specs.declared.call.Call.TheVariants.{Reset}
use Rattle.spec_machine.specs.declared.call.Reply.TheVariants.{Done}
use Rattle.monitor.specs.Common.{sides_in, readers_in, keys_of, pins_of, reset_job, Closes}
use Rattle.monitor.specs.declared.job.Job.{Job}
use Rattle.monitor.proofs.common.EventAnswers.{row}
use Rattle.monitor.proofs.common.Dropped.{job_live, closed_keyed}
use Rattle.monitor.proofs.common.PlacedVersions.{placed_left}
use Rattle.monitor.proofs.common.Promised.{quiet_serves}
use Rattle.monitor.proofs.common.JobReaders.{job_held, closed_reading, bare_readers}
use Rattle.monitor.proofs.OtherCalls.Resets.{reset_row}
use Rattle.spec_machine.specs.declared.call.Event.TheVariants.{Call as Calls}
use Rattle.monitor.proofs.reset.serve_reset.Goals as goal

pub close_channels-requires-clause-live : goal.close_channels-requires-clause-live
close_channels-requires-clause-live g c = job_live c.args.volume.now.map c.requires.ready.jobs c.requires.ready.number
    c.args.job.now c.requires.ready.among.keyed c.requires.ready.among.there

pub close_channels-requires-clause-held : goal.close_channels-requires-clause-held
close_channels-requires-clause-held g c = job_held c.args.volume.now.map.live c.requires.ready.jobs
    c.requires.ready.number c.args.job.now c.requires.ready.among.reading c.requires.ready.among.there

pub returns-clause-serving : goal.returns-clause-serving
returns-clause-serving g c = λ moment timely jobs n among.
    let state = g.D.Disk.state in
    let old = c.args.volume.now in
    let new = c.close_channels.new.volume in
    let map = old.map in
    let map' = new.map in
    let job = c.args.job.now in
    let job' = c.reset.new.self in
    let jobs' = slice_set jobs n (Some job') in
    let is : job' ≡ reset_job job = c.reset.ensures in
    let closed : Closes map map' (keys_of (sides_in (slot jobs n))) (pins_of (readers_in (slot jobs n))) =
    subst (λ o. Closes map map' (keys_of (sides_in o)) (pins_of (readers_in o)))
    (sym among.there) c.close_channels.ensures.closed in
    let keyed = closed_keyed map map' _ jobs n (Some job') among.keyed closed (ap (λ j. sides_in (Some j)) is) in
    let reading = closed_reading map map' _ jobs n job' among.reading closed (ap (λ j. readers_in (Some j)) is)
    (bare_readers job' (ap (λ (j : Job). j.channels) is)) in
    quiet_serves state g.met.D.Disk.only_now old.disk new.disk map map' old.failed new.failed job job'
    Reset moment Done c.requires.ready.alive c.close_channels.ensures.untouched
    (λ e. cc e, λ e. cc e) (placed_left map map' c.close_channels.ensures.closed.leaves c.requires.ready.placed)
    (λ light e. cc e) (λ kept. absurd kept) (λ e. cc e)
    (λ code e. cc e) (λ is. absurd is) jobs n among keyed reading
    (λ h s serves.
    row (state old.disk) map map' false jobs jobs' keyed reading c.close_channels.ensures.closed.leaves
    (pack_of (state old.disk)) (Calls n Reset moment) Done
    (reset_row (pack_of (state old.disk)) jobs jobs' n moment
    (timely (subst (λ x. (state x).honest) c.close_channels.ensures.untouched.0 h))
    (job, among.there, ap (λ j. slice_set jobs n (Some j)) is))
    refl s serves)
