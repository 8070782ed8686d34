use Rattle.std.proofs.Common.{false, Some, refl, sym, subst, ◌∙◌, slice_set}
use Rattle.spec_machine.specs.declared.call.Call.TheVariants.{Enter}
use Rattle.volume.specs.Common.{IsSoundMemory}
use Rattle.monitor.specs.Common.{IsDecided}
use Rattle.monitor.proofs.EnterFile.ByJobs.{enters_keyed, enters_reading, enter_answered}
use Rattle.monitor.proofs.common.Promised.{quiet_serves}
use Rattle.monitor.proofs.common.JobReaders.{job_held, few_readers}
use Rattle.monitor.proofs.UpdateFile.ByJobs.{updates_keyed, updates_reading, update_answered}
use Rattle.monitor.proofs.enter.serve_enter.Goals as goal

pub update-requires-clause-held : goal.update-requires-clause-held
update-requires-clause-held g c = job_held c.args.volume.now.map.live c.requires.ready.jobs c.requires.ready.number
    c.args.job.now c.requires.ready.among.reading c.requires.ready.among.there

pub update-requires-clause-few : goal.update-requires-clause-few
update-requires-clause-few g c = few_readers c.args.volume.now.map.live c.requires.ready.jobs
    c.requires.ready.among.reading

pub returns-in-Some-clause-serving : goal.returns-in-Some-clause-serving
returns-in-Some-clause-serving g c = λ jobs n among.
    let moment = c.args.moment in
    let state = g.D.Disk.state in
    let old = c.args.volume.now in
    let new = c.update.new.volume in
    let map = old.map in
    let map' = new.map in
    let job = c.args.job.now in
    let job' = c.update.new.job in
    let jobs' = slice_set jobs n (Some job') in
    let sound = subst (IsSoundMemory (state old.disk) map) c.requires.ready.alive c.requires.ready.sound in
    quiet_serves state g.met.D.Disk.only_now old.disk new.disk map map' old.failed new.failed job job'
    (Enter c.args.channel c.args.address) moment c.update.result c.requires.ready.alive c.update.ensures.untouched
    c.update.ensures.only (c.update.ensures.placed c.requires.ready.placed) (λ light. absurd light)
    (λ kept. absurd kept)
    (λ none. ((c.update.ensures.kept (λ e. let wrong = sym none ∙ e in cc)).0, c.update.ensures.memory none))
    c.update.ensures.refused
    (λ is. ((c.update.ensures.kept (λ e. subst IsDecided e is)).0, c.update.ensures.decided is)) jobs n among
    (updates_keyed (state old.disk) (state new.disk) map map' jobs jobs' n job job' c.args.channel c.args.address
    moment c.in-Some.reading.0 c.in-Some.reading.1 c.update.result among.there refl among.keyed among.reading
    c.update.ensures.begun c.update.ensures.kept)
    (updates_reading (state old.disk) (state new.disk) map map' jobs jobs' n job job' c.args.channel c.args.address
    moment c.in-Some.reading.0 c.in-Some.reading.1 c.update.result among.there refl among.keyed among.reading
    c.update.ensures.begun c.update.ensures.kept)
    (λ h s serves.
    let was : (state old.disk).honest = subst (λ disk. (state disk).honest) c.update.ensures.untouched.0 h in
    update_answered (state old.disk) (state new.disk) map map' jobs jobs' n job job' c.args.channel c.args.address
    moment c.in-Some.reading.0 c.in-Some.reading.1 c.update.result among.there refl among.keyed among.reading
    c.update.ensures.begun c.update.ensures.kept false refl sound was h c.requires.timely (c.update.ensures.row h)
    s serves)

pub returns-in-None-clause-serving : goal.returns-in-None-clause-serving
returns-in-None-clause-serving g c = λ jobs n among.
    let moment = c.args.moment in
    let state = g.D.Disk.state in
    let old = c.args.volume.now in
    let new = c.enter.new.volume in
    let map = old.map in
    let map' = new.map in
    let job = c.args.job.now in
    let job' = c.enter.new.job in
    let jobs' = slice_set jobs n (Some job') in
    let sound = subst (IsSoundMemory (state old.disk) map) c.requires.ready.alive c.requires.ready.sound in
    quiet_serves state g.met.D.Disk.only_now old.disk new.disk map map' old.failed new.failed job job'
    (Enter c.args.channel c.args.address) moment c.enter.result c.requires.ready.alive c.enter.ensures.untouched
    c.enter.ensures.only (c.enter.ensures.placed c.requires.ready.placed) (λ light. absurd light)
    (λ kept. absurd kept)
    (λ none. ((c.enter.ensures.kept (λ e. let wrong = sym none ∙ e in cc)).0, c.enter.ensures.memory none))
    c.enter.ensures.refused
    (λ is. ((c.enter.ensures.kept (λ e. subst IsDecided e is)).0, c.enter.ensures.decided is)) jobs n among
    (enters_keyed (state old.disk) (state new.disk) map map' jobs jobs' n job job' c.args.channel c.args.address
    moment c.enter.result among.there refl among.keyed among.reading c.enter.ensures.begun c.enter.ensures.kept)
    (enters_reading (state old.disk) (state new.disk) map map' jobs jobs' n job job' c.args.channel c.args.address
    moment c.enter.result among.there refl among.keyed among.reading c.enter.ensures.begun c.enter.ensures.kept)
    (λ h s serves.
    let was : (state old.disk).honest = subst (λ disk. (state disk).honest) c.enter.ensures.untouched.0 h in
    enter_answered (state old.disk) (state new.disk) map map' jobs jobs' n job job' c.args.channel c.args.address
    moment c.enter.result among.there refl among.keyed among.reading c.enter.ensures.begun c.enter.ensures.kept
    false refl sound was h c.requires.timely (c.enter.ensures.row h) s serves)
