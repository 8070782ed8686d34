use Rattle.monitor.proofs.CoreAreas.Calls.{for_slot, slot_inside}
use Rattle.monitor.proofs.changed.areas_for.Goals as goal

pub returns-in-Some-clause-value : goal.returns-in-Some-clause-value
returns-in-Some-clause-value c = for_slot (λ v. v.items) c.areas_of.result c.args.jobs.now c.args.number
    c.in-Some.job.now c.args.call.now c.in-Some.ensures.found c.areas_of.ensures

pub returns-in-Some-clause-inside : goal.returns-in-Some-clause-inside
returns-in-Some-clause-inside c = slot_inside (λ v. v.items) c.areas_of.result c.in-Some.job.now c.args.call.now
    (rw (← c.length-words.ensures.value) c.length-words.ensures.most) c.areas_of.ensures
