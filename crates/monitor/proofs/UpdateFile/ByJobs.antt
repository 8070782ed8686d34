-- ENTER on a channel that reads, by the job of a number, whatever it is answered with.
use Rattle.std.proofs.Common.{◌≡◌, ℕ, Bool, false, List, Option, Some, sym, subst, ⊎_elim, slice_set}
use Rattle.words36.specs.declared.moment.Moment.{Moment}
use Rattle.blockdisk.specs.Common.{DiskState}
use Rattle.spec_image.specs.Common.{File, Files, pack_of}
use Rattle.spec_machine.specs.Common.{State, slot, channel_at, Service, Serving, Answers}
use Rattle.spec_machine.specs.declared.call.Call.TheVariants.{Enter}
use Rattle.spec_machine.specs.declared.call.Event.TheVariants.{Call as Calls}
use Rattle.spec_machine.specs.declared.call.Reply.{Reply}
use Rattle.spec_machine.specs.declared.call.Reply.TheVariants.{Done}
use Rattle.volume.specs.Common.{MemoryMap, IsWholeMemory, IsSoundMemory, RestsAt}
use Rattle.monitor.specs.Common.{IsEnterAnswer, IsKnown, AreKeyed, AreReading, Serves, IsTimely, UnderKeys, job_of}
use Rattle.monitor.specs.Common.{IsUpdating, IsUpdateOf}
use Rattle.monitor.specs.declared.channel.OpenChannel.{OpenChannel}
use Rattle.monitor.specs.declared.input.Input.{Input}
use Rattle.monitor.specs.declared.job.Job.{Job}
use Rattle.monitor.proofs.common.EventAnswers.{in_state, is_done}
use Rattle.monitor.proofs.EnterFile.Refusals.{other_keyed, other_reading, other_leads}
use Rattle.monitor.proofs.UpdateFile.Calls.{update_keyed, update_reading, updating_leads}

module _ (d d' : DiskState) (map map' : MemoryMap) (jobs jobs' : List (Option Job)) (n : ℕ) (job job' : Job)
    (ch e : ℕ) (moment : Moment) (c : OpenChannel) (input : Input) (reply : Reply)
    (there : slot jobs n ≡ Some job) (set : jobs' ≡ slice_set jobs n (Some job')) (keyed : AreKeyed map.pending jobs)
    (reading : AreReading map.live jobs)
    (begun : reply ≡ Done → (key : ℕ) × (is : IsUpdating map map' job job' ch e c input key)
    × IsWholeMemory d.size is.between
    × (d'.honest → (files : Files File) → RestsAt d files
    → IsUpdateOf d.contents job input is.kind is.version is.renews.between is.renewed files))
    (kept : (reply ≡ Done → ⊥) → (map' ≡ map) × (job' ≡ record job { core = job'.core })) where
  pub updates_keyed : AreKeyed map'.pending jobs'
  updates_keyed = ⊎_elim
      (λ is. let b = begun is in
      update_keyed d map map' jobs jobs' n job job' ch e moment c input b.0 there set b.1 keyed reading)
      (λ not. let k = kept not in subst (λ m. AreKeyed m.pending jobs') (sym k.0)
      (other_keyed d map false jobs jobs' n job job' ch e moment reply there set k.1 not keyed reading))
      (is_done reply)

  pub updates_reading : AreReading map'.live jobs'
  updates_reading = ⊎_elim
      (λ is. let b = begun is in
      update_reading d map map' jobs jobs' n job job' ch e moment c input b.0 there set b.1 keyed reading)
      (λ not. let k = kept not in subst (λ m. AreReading m.live jobs') (sym k.0)
      (other_reading d map false jobs jobs' n job job' ch e moment reply there set k.1 not keyed reading))
      (is_done reply)

  pub update_answered : (failed : Bool) → failed ≡ false → IsSoundMemory d map false → d.honest → d'.honest
      → IsTimely d moment
      → ((s : State) → IsKnown d map s → (w : UnderKeys)
      → IsEnterAnswer (pack_of d) s (job_of w job) (job_of w job') (channel_at (job_of w job) ch) e reply)
      → (old : Service) → Serves d map failed jobs old → (new : Service) × Serves d map' failed jobs' new
      × Answers (pack_of d) old (Calls n (Enter ch e) moment) reply new
  update_answered failed serves sound honest later timely row =
      in_state d map failed jobs (λ old. (new : Service) × Serves d map' failed jobs' new
      × Answers (pack_of d) old (Calls n (Enter ch e) moment) reply new) serves (λ s state. ⊎_elim
      (λ is. let b = begun is in
      subst (λ r. (new : Service) × Serves d map' failed jobs' new
      × Answers (pack_of d) (Serving s) (Calls n (Enter ch e) moment) r new) (sym is)
      (updating_leads d map map' jobs jobs' n job job' ch e moment c input b.0 there set b.1 keyed reading
      sound honest timely b.2 (λ x known w. subst (IsEnterAnswer (pack_of d) x (job_of w job) (job_of w job')
      (channel_at (job_of w job) ch) e) is (row x known w)) (b.3 later) s state failed serves))
      (λ not. let k = kept not in
      subst (λ m. (new : Service) × Serves d m failed jobs' new
      × Answers (pack_of d) (Serving s) (Calls n (Enter ch e) moment) reply new) (sym k.0)
      (other_leads d map failed jobs jobs' n job job' ch e moment reply there set k.1 not keyed reading
      sound honest timely row s state serves))
      (is_done reply))
