-- ENTER by the job of a number, whatever it is answered with.
use Rattle.std.proofs.Common.{◌≡◌, ℕ, ◌+◌, Bool, false, List, Option, Some, sym, subst, ⊎_elim, slice_index}
use Rattle.std.proofs.Common.{slice_set}
use Rattle.words36.specs.declared.moment.Moment.{Moment}
use Rattle.blockdisk.specs.Common.{DiskState}
use Rattle.spec_machine.specs.Common.{protection_or, State, slot, channel_at, Service, Serving, Answers}
use Rattle.spec_image.specs.Common.{File, Files, pack_of, get}
use Rattle.spec_machine.specs.declared.call.Call.TheVariants.{Enter}
use Rattle.spec_machine.specs.declared.call.Event.TheVariants.{Call as Calls}
use Rattle.spec_machine.specs.declared.call.Reply.{Reply}
use Rattle.spec_machine.specs.declared.call.Reply.TheVariants.{Done}
use Rattle.retrieval.specs.declared.prime.Prime.{Prime}
use Rattle.volume.specs.Common.{MemoryMap, IsSoundMemory, RestsAt}
use Rattle.monitor.specs.Common.{IsEntering, IsEnterAnswer, IsKnown, found_in, protection_for, AreKeyed, AreReading}
use Rattle.monitor.specs.Common.{Serves, IsTimely, UnderKeys, job_of}
use Rattle.monitor.specs.declared.channel.OpenChannel.{OpenChannel}
use Rattle.monitor.specs.declared.job.Job.{Job}
use Rattle.monitor.proofs.common.EventAnswers.{in_state, is_done}
use Rattle.monitor.proofs.EnterFile.Calls.{enter_keyed, enter_reading, entered_leads}
use Rattle.monitor.proofs.EnterFile.Refusals.{other_keyed, other_reading, other_leads}

module _ (d d' : DiskState) (map map' : MemoryMap) (jobs jobs' : List (Option Job)) (n : ℕ) (job job' : Job)
    (ch e : ℕ) (moment : Moment) (reply : Reply)
    (there : slot jobs n ≡ Some job) (set : jobs' ≡ slice_set jobs n (Some job')) (keyed : AreKeyed map.pending jobs)
    (reading : AreReading map.live jobs)
    (begun : reply ≡ Done → (c : OpenChannel) × (key : ℕ) × (prime : Prime)
    × IsEntering map map' job job' ch e moment c key prime
    × (d'.honest → (files : Files File) → RestsAt d files
    → prime.protection ≡ protection_for (found_in (get files prime.ppn) prime.file)
    (protection_or (slice_index job.core (e + 2)) 0o057)))
    (kept : (reply ≡ Done → ⊥) → (map' ≡ map) × (job' ≡ record job { core = job'.core })) where
  pub enters_keyed : AreKeyed map'.pending jobs'
  enters_keyed = ⊎_elim
      (λ is. let b = begun is in
      enter_keyed d map map' jobs jobs' n job job' ch e moment b.0 b.1 b.2 there set b.3 keyed reading)
      (λ not. let k = kept not in subst (λ m. AreKeyed m.pending jobs') (sym k.0)
      (other_keyed d map false jobs jobs' n job job' ch e moment reply there set k.1 not keyed reading))
      (is_done reply)

  pub enters_reading : AreReading map'.live jobs'
  enters_reading = ⊎_elim
      (λ is. let b = begun is in
      enter_reading d map map' jobs jobs' n job job' ch e moment b.0 b.1 b.2 there set b.3 keyed reading)
      (λ not. let k = kept not in subst (λ m. AreReading m.live jobs') (sym k.0)
      (other_reading d map false jobs jobs' n job job' ch e moment reply there set k.1 not keyed reading))
      (is_done reply)

  pub enter_answered : (failed : Bool) → failed ≡ false → IsSoundMemory d map false → d.honest → d'.honest
      → IsTimely d moment
      → ((s : State) → IsKnown d map s → (w : UnderKeys)
      → IsEnterAnswer (pack_of d) s (job_of w job) (job_of w job') (channel_at (job_of w job) ch) e reply)
      → (old : Service) → Serves d map failed jobs old → (new : Service) × Serves d map' failed jobs' new
      × Answers (pack_of d) old (Calls n (Enter ch e) moment) reply new
  enter_answered failed serves sound honest later timely row =
      in_state d map failed jobs (λ old. (new : Service) × Serves d map' failed jobs' new
      × Answers (pack_of d) old (Calls n (Enter ch e) moment) reply new) serves (λ s state. ⊎_elim
      (λ is. let b = begun is in
      subst (λ r. (new : Service) × Serves d map' failed jobs' new
      × Answers (pack_of d) (Serving s) (Calls n (Enter ch e) moment) r new) (sym is)
      (entered_leads d map map' jobs jobs' n job job' ch e moment b.0 b.1 b.2 there set b.3 keyed reading
      sound honest timely (λ x known w. subst (IsEnterAnswer (pack_of d) x (job_of w job) (job_of w job')
      (channel_at (job_of w job) ch) e) is (row x known w)) (b.4 later) s state failed serves))
      (λ not. let k = kept not in
      subst (λ m. (new : Service) × Serves d m failed jobs' new
      × Answers (pack_of d) (Serving s) (Calls n (Enter ch e) moment) reply new) (sym k.0)
      (other_leads d map failed jobs jobs' n job job' ch e moment reply there set k.1 not keyed reading
      sound honest timely row s state serves))
      (is_done reply))
