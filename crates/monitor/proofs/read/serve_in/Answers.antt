use Rattle.std.proofs.Common.{false, Some, refl, sym, subst, ap, slice_set}
use Rattle.spec_machine.specs.declared.call.Call.TheVariants.{In}
use Rattle.spec_machine.proofs.Common.{slot-set_other}
use Rattle.monitor.specs.Common.{AreKeyed, ArePlaced, AreReading}
use Rattle.monitor.proofs.common.Called.{still_serves, decided_idle, decided_serves}
use Rattle.monitor.proofs.common.Dropped.{job_live}
use Rattle.monitor.proofs.ReadIn.ByJobs.{in_keyed, in_reading, in_answered, quiet_read}
use Rattle.monitor.proofs.common.JobReaders.{job_held}
use Rattle.monitor.proofs.common.Refusals.{in_refused, in_decided}
use Rattle.monitor.proofs.common.Slots.{unchanged}
use Rattle.monitor.proofs.common.Untouched.{quiet_crashes}
use Rattle.monitor.proofs.read.serve_in.Goals as goal

pub read-requires-clause-held : goal.read-requires-clause-held
read-requires-clause-held g c = job_held c.args.volume.now.map.live c.requires.ready.jobs c.requires.ready.number
    c.args.job.now c.requires.ready.among.reading c.requires.ready.among.there

pub read-requires-clause-readers : goal.read-requires-clause-readers
read-requires-clause-readers g c = c.requires.ready.among.reading.each c.requires.ready.number c.args.job.now
    c.requires.ready.among.there

pub read-requires-clause-live : goal.read-requires-clause-live
read-requires-clause-live g c = job_live c.args.volume.now.map c.requires.ready.jobs c.requires.ready.number
    c.args.job.now c.requires.ready.among.keyed c.requires.ready.among.there

pub returns-clause-serving : goal.returns-clause-serving
returns-clause-serving g c = λ moment timely jobs n among.
    let state = g.D.Disk.state in
    let old = c.args.volume.now in
    let new = c.read.new.volume in
    let map = old.map in
    let map' = new.map in
    let job = c.args.job.now in
    let job' = c.read.new.job in
    let jobs' = slice_set jobs n (Some job') in
    let same_map = c.read.ensures.map in
    record {
      keyed = λ serves. subst (λ m. AreKeyed m.pending jobs') (sym same_map)
          (in_keyed (state old.disk) (state new.disk) map false jobs n c.args.channel c.args.address moment refl
          timely among.keyed among.reading job job' among.there jobs' refl c.read.result c.read.ensures.outcome);
      placed = λ serves. subst ArePlaced (sym same_map) c.requires.ready.placed;
      reading = λ serves. subst (λ m. AreReading m.live jobs') (sym same_map)
          (in_reading (state old.disk) (state new.disk) map false jobs n c.args.channel c.args.address moment refl
          timely among.keyed among.reading job job' among.there jobs' refl c.read.result c.read.ensures.outcome);
      others = λ m other. slot-set_other jobs n m (Some job') other;
      answered = λ h.
          in_answered (state old.disk) (state new.disk) map false jobs n c.args.channel c.args.address
          moment refl timely among.keyed among.reading job job' among.there jobs' refl
          h (c.read.ensures.same.was_honest h) map' new.failed same_map (c.read.ensures.only_reads h)
          (c.read.ensures.rests h) c.read.result
          c.read.ensures.outcome c.read.ensures.failed;
      crash = quiet_crashes (state old.disk) (state new.disk) map jobs n (In c.args.channel c.args.address) moment
          (λ h. quiet_read (state old.disk) (state new.disk) (c.read.ensures.only_reads h) (c.read.ensures.rests h)
          (λ contents left. g.met.D.Disk.only_now old.disk contents (c.read.ensures.same.was_honest h) left));
      idle = c.read.ensures.idle;
      light = λ light. absurd light;
      kept = λ kept. same_map;
      memory = λ none.
          let is = c.read.ensures.memory none in (
            is.0,
            same_map,
            still_serves false new.failed c.read.result refl c.read.ensures.failed none,
            unchanged jobs jobs' n job job' among.there refl is.1,
          );
      decided = λ decided. (
        c.read.ensures.idle (decided_idle c.read.result decided),
        same_map,
        decided_serves false new.failed c.read.result refl c.read.ensures.failed decided,
        unchanged jobs jobs' n job job' among.there refl
            (in_decided (state old.disk) (state new.disk) map job job' c.args.channel c.args.address c.read.result
            c.read.ensures.outcome decided),
      );
      refused = λ code is. record {
        job = job;
        there = among.there;
        jobs_are = ap (λ j. slice_set jobs n (Some j))
            (in_refused (state old.disk) (state new.disk) map job job' c.args.channel c.args.address code
            c.read.result c.read.ensures.outcome is);
      };
      failed = c.read.ensures.failed;
      blamed = c.read.ensures.blamed;
      counted = c.read.ensures.counted;
      served = c.read.ensures.served;
      same = c.read.ensures.same;
    }
