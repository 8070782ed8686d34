use Rattle.std.proofs.Common.{◌≡◌, false, Some, refl, subst, ap, slice_set}
use Rattle.std.specs.List.{AllByRecursion}
use Rattle.spec_machine.specs.declared.call.Call.TheVariants.{Out}
use Rattle.spec_machine.proofs.Common.{slot-set_other}
use Rattle.volume.specs.Common.{IsSoundMemory}
use Rattle.monitor.specs.Common.{IsOut, IsSide, sides_in}
use Rattle.monitor.proofs.common.Called.{still_serves, decided_serves}
use Rattle.monitor.proofs.common.Dropped.{job_live}
use Rattle.monitor.proofs.WriteOut.ByJobs.{out_keyed, out_reading, out_answered}
use Rattle.monitor.proofs.WriteOut.Placed.{out_placed, out_blamed, out_idle}
use Rattle.monitor.proofs.common.Refusals.{out_refused, out_decided}
use Rattle.monitor.proofs.common.SideLists.{each-slot}
use Rattle.monitor.proofs.common.Slots.{unchanged}
use Rattle.monitor.proofs.common.Untouched.{quiet_crashes}
use Rattle.monitor.proofs.out.serve_out.Goals as goal

pub out-requires-clause-live : goal.out-requires-clause-live
out-requires-clause-live g c = job_live c.args.volume.now.map c.requires.ready.jobs c.requires.ready.number
    c.args.job.now c.requires.ready.among.keyed c.requires.ready.among.there

pub out-requires-clause-sides : goal.out-requires-clause-sides
out-requires-clause-sides g c =
    subst (λ o. AllByRecursion (IsSide c.args.volume.now.map.pending) (sides_in o)) c.requires.ready.among.there
    (each-slot (IsSide c.args.volume.now.map.pending) c.requires.ready.jobs c.requires.ready.number
    c.requires.ready.among.keyed.each)

pub returns-clause-serving : goal.returns-clause-serving
returns-clause-serving g c = λ moment timely jobs n among.
    let state = g.D.Disk.state in
    let old = c.args.volume.now in
    let new = c.out.new.volume in
    let map = old.map in
    let map' = new.map in
    let job = c.args.job.now in
    let job' = c.out.new.job in
    let jobs' = slice_set jobs n (Some job') in
    let sound = subst (IsSoundMemory (state old.disk) map) c.requires.ready.alive c.requires.ready.sound in
    let same = (new.disk ≡ old.disk) × (map' ≡ map) in
    record {
      keyed = out_keyed state old.disk new.disk map map' false new.failed jobs jobs' n job job' c.args.channel
          c.args.address moment among.there refl refl timely among.keyed among.reading c.out.ensures.keeps
          c.out.ensures.reads sound;
      placed = λ serves.
          out_placed state old.disk new.disk map map' job job' c.args.channel c.args.address new.failed
          (job_live map jobs n job among.keyed among.there) c.out.ensures.others c.out.ensures.known
          c.requires.ready.placed serves c.out.result c.out.ensures.outcome c.out.ensures.failed;
      reading = out_reading state old.disk new.disk map map' false new.failed jobs jobs' n job job' c.args.channel
          c.args.address moment among.there refl refl timely among.keyed among.reading c.out.ensures.keeps
          c.out.ensures.reads sound;
      others = λ m other. slot-set_other jobs n m (Some job') other;
      answered = λ h.
          out_answered state old.disk new.disk map map' false new.failed jobs jobs' n job job' c.args.channel
          c.args.address moment among.there refl refl timely among.keyed among.reading c.out.ensures.keeps
          c.out.ensures.reads sound
          (c.out.ensures.same.was_honest h) h (c.out.ensures.rests h) c.out.ensures.others c.out.ensures.live
          c.out.ensures.known (c.out.ensures.readers h) (c.out.ensures.writers h) c.out.result
          c.out.ensures.outcome c.out.ensures.failed;
      crash = quiet_crashes (state old.disk) (state new.disk) map jobs n (Out c.args.channel c.args.address)
          moment c.out.ensures.quiet;
      idle = out_idle state old.disk new.disk map map' job job' c.args.channel c.args.address c.out.result
          c.out.ensures.outcome;
      light = λ light. absurd light;
      kept = λ kept. absurd kept;
      memory = λ none.
          let is = subst (IsOut (state old.disk) (state new.disk) map map' same job job' c.args.channel
          c.args.address) none c.out.ensures.outcome in (
            is.1.0,
            is.1.1,
            still_serves false new.failed c.out.result refl c.out.ensures.failed none,
            unchanged jobs jobs' n job job' among.there refl is.0,
          );
      decided = λ decided.
          let is = out_decided (state old.disk) (state new.disk) map map' same job job' c.args.channel
          c.args.address c.out.result c.out.ensures.outcome decided in (
            is.1.0,
            is.1.1,
            decided_serves false new.failed c.out.result refl c.out.ensures.failed decided,
            unchanged jobs jobs' n job job' among.there refl is.0,
          );
      refused = λ code is. record {
        job = job;
        there = among.there;
        jobs_are = ap (λ j. slice_set jobs n (Some j))
            (out_refused (state old.disk) (state new.disk) map map' same job job' c.args.channel c.args.address
            code c.out.result c.out.ensures.outcome is);
      };
      failed = c.out.ensures.failed;
      blamed = out_blamed state old.disk new.disk map map' job job' c.args.channel c.args.address c.out.result
          c.out.ensures.outcome;
      counted = c.out.ensures.counted;
      served = c.out.ensures.served;
      same = c.out.ensures.same;
    }
