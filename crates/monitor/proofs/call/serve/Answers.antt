use Rattle.std.proofs.Common.{◌≡◌, ◌∙◌, Some, None, ap, refl, subst, arith, length, slice_set}
use Rattle.spec_machine.specs.Common.{slot}
use Rattle.monitor.proofs.common.Promised.{nobody_serves, set_serves}
use Rattle.monitor.proofs.common.Slots.{slot_past, slot_there, set_same}
use Rattle.monitor.proofs.call.serve.Goals.{in-Some, in-None}
use Rattle.monitor.proofs.call.serve.Goals as goal

pub returns-then-number-len-clause-serving : goal.returns-then-number-len-clause-serving
returns-then-number-len-clause-serving g c =
    let volume = c.args.volume.now in
    let none : slot c.args.jobs.now c.args.number ≡ None = slot_past c.args.jobs.now c.args.number
    (omega (arith, ap length c.jobs.view_is)) in
    nobody_serves g.D.Disk.state g.met.D.Disk.only_now volume.disk volume.map volume.failed c.args.jobs.now
    c.args.jobs.now c.args.number c.args.call.now c.args.moment c.requires.alive c.requires.timely
    c.requires.keyed c.requires.placed c.requires.reading none refl

pub answer-requires-clause-ready : goal.answer-requires-clause-ready
answer-requires-clause-ready g c = record {
  sound = c.requires.sound;
  alive = c.requires.alive;
  placed = c.requires.placed;
  jobs = c.args.jobs.now;
  number = c.args.number;
  among = record {
    there = subst (λ js. slot js c.args.number ≡ Some c.in-Some.job) c.jobs.view_is
        (slot_there c.jobs.inside.slots.items c.args.number c.index_mut.result.now (Some c.in-Some.job) (omega arith)
        c.index_mut.ensures.value c.in-Some.is);
    keyed = c.requires.keyed;
    reading = c.requires.reading;
  };
}

pub returns-clause-serving : goal.returns-clause-serving
returns-clause-serving g c =
    let volume = c.args.volume.now in
    let jobs = c.args.jobs.now in
    let items = c.jobs.inside.slots.items in
    elim c.match-index_mut.branch [
      | in-Some w ↦
          let there : slot jobs c.args.number ≡ Some w.in-Some.job =
          subst (λ js. slot js c.args.number ≡ Some w.in-Some.job) c.jobs.view_is
          (slot_there items c.args.number c.index_mut.result.now (Some w.in-Some.job) (omega arith)
          c.index_mut.ensures.value w.in-Some.is) in
          let new = w.answer.new.volume in
          let set = ap (λ js. slice_set js c.args.number (Some w.answer.new.job)) c.jobs.view_is in
          rw (w.volume-is, w.result-is, w.jobs-inside-is) (
          set_serves g.D.Disk.state g.met.D.Disk.only_now volume.disk new.disk volume.map new.map
          new.failed jobs (slice_set items c.args.number (Some w.answer.new.job)) c.args.number w.in-Some.job
          w.answer.new.job c.args.call.now c.args.moment w.answer.result set
          (w.answer.ensures.serving jobs c.args.number
          (record { there = there; keyed = c.requires.keyed; reading = c.requires.reading })))
      | in-None w ↦
          let none : slot jobs c.args.number ≡ None = subst (λ js. slot js c.args.number ≡ None) c.jobs.view_is
          (slot_there items c.args.number c.index_mut.result.now None (omega arith) c.index_mut.ensures.value
          w.in-None.is) in
          let same : slice_set items c.args.number c.index_mut.result.now ≡ jobs =
          set_same items c.args.number c.index_mut.result.now c.index_mut.ensures.value ∙ c.jobs.view_is in
          rw (w.volume-is, w.result-is, w.jobs-inside-is) (
          nobody_serves g.D.Disk.state g.met.D.Disk.only_now volume.disk volume.map volume.failed jobs
          (slice_set items c.args.number c.index_mut.result.now) c.args.number c.args.call.now c.args.moment
          c.requires.alive c.requires.timely c.requires.keyed c.requires.placed c.requires.reading none same)
    ]
