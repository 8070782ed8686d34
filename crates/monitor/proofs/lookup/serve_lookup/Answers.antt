use Rattle.std.proofs.Common.{false, Some, refl, subst, slice_set}
use Rattle.spec_machine.specs.declared.call.Call.TheVariants.{Lookup}
use Rattle.volume.specs.Common.{IsSoundMemory}
use Rattle.monitor.specs.Common.{IsDecided}
use Rattle.monitor.proofs.common.KnownState.{known}
use Rattle.monitor.proofs.LookupFile.Calls.{lookup_keyed, lookup_reading, lookup_answered}
use Rattle.monitor.proofs.LookupFile.Lookups.{placed_still}
use Rattle.monitor.proofs.common.Promised.{quiet_serves}
use Rattle.monitor.proofs.common.JobReaders.{job_held, few_readers}
use Rattle.monitor.proofs.lookup.serve_lookup.Goals as goal

pub lookup-requires-clause-held : goal.lookup-requires-clause-held
lookup-requires-clause-held g c = job_held c.args.volume.now.map.live c.requires.ready.jobs c.requires.ready.number
    c.args.job.now c.requires.ready.among.reading c.requires.ready.among.there

pub lookup-requires-clause-few : goal.lookup-requires-clause-few
lookup-requires-clause-few g c = few_readers c.args.volume.now.map.live c.requires.ready.jobs
    c.requires.ready.among.reading

pub returns-clause-serving : goal.returns-clause-serving
returns-clause-serving g c = λ moment timely jobs n among.
    let state = g.D.Disk.state in
    let old = c.args.volume.now in
    let new = c.lookup.new.volume in
    let map = old.map in
    let map' = new.map in
    let job = c.args.job.now in
    let job' = c.lookup.new.job in
    let jobs' = slice_set jobs n (Some job') in
    let sound = subst (IsSoundMemory (state old.disk) map) c.requires.ready.alive c.requires.ready.sound in
    quiet_serves state g.met.D.Disk.only_now old.disk new.disk map map' old.failed new.failed job job'
    (Lookup c.args.channel c.args.address) moment c.lookup.result c.requires.ready.alive c.lookup.ensures.untouched
    (c.lookup.ensures.only.0, c.lookup.ensures.only.1)
    (placed_still map map' c.lookup.ensures.pending c.lookup.ensures.known c.requires.ready.placed)
    (λ light. c.lookup.ensures.only.2) (λ kept. absurd kept) (λ none. absurd (c.lookup.ensures.only.2 none))
    c.lookup.ensures.refused
    (λ is. ((c.lookup.ensures.kept (λ e. subst IsDecided e is)).0, c.lookup.ensures.decided is)) jobs n among
    (lookup_keyed (state old.disk) (state new.disk) map map' jobs jobs' n job job' c.args.channel c.args.address
    moment c.lookup.result among.there refl among.keyed among.reading c.lookup.ensures.pending c.lookup.ensures.reads
    c.lookup.ensures.looked c.lookup.ensures.kept)
    (lookup_reading (state old.disk) (state new.disk) map map' jobs jobs' n job job' c.args.channel c.args.address
    moment c.lookup.result among.there refl among.keyed among.reading c.lookup.ensures.pending c.lookup.ensures.reads
    c.lookup.ensures.looked c.lookup.ensures.kept)
    (λ h s serves.
    let was : (state old.disk).honest = subst (λ disk. (state disk).honest) c.lookup.ensures.untouched.0 h in
    lookup_answered (state old.disk) (state new.disk) map map' jobs jobs' n job job' c.args.channel c.args.address
    moment c.lookup.result among.there refl among.keyed among.reading c.lookup.ensures.pending c.lookup.ensures.reads
    c.lookup.ensures.looked c.lookup.ensures.kept false refl sound was h timely
    (λ t is. known (state old.disk) map jobs t is sound was) (c.lookup.ensures.row h) s serves)
