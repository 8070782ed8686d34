-- CLOSE and RELEAS by the job of a number: what its row states of all jobs.
use Rattle.std.proofs.Common.{◌≡◌, ℕ, Bool, false, List, Option, Some, refl, sym, subst, ◌⊎◌, inl, inr, ⊎_elim}
use Rattle.std.proofs.Common.{slice_set}
use Rattle.std.specs.Prelude.{◌↔◌, IsTrue}
use Rattle.words36.specs.declared.moment.Moment.{Moment}
use Rattle.blockdisk.specs.Common.{DiskState, one_more}
use Rattle.spec_machine.specs.Common.{slot, Service, Answers}
use Rattle.spec_machine.specs.declared.call.Call.{Call}
use Rattle.spec_machine.specs.declared.call.Event.TheVariants.{Call as Calls}
use Rattle.spec_machine.specs.declared.call.Reply.{Reply}
use Rattle.spec_machine.specs.declared.call.Reply.TheVariants.{Done, Value, Refused, Stopped, NoChannel, AddressCheck}
use Rattle.spec_machine.specs.declared.call.Reply.TheVariants.{NoJob, NoMemory, Device, Failed, DateRange}
use Rattle.spec_image.specs.Common.{pack_of}
use Rattle.volume.specs.Common.{MemoryMap}
use Rattle.monitor.specs.Common.{OnlyDrops, CallCrashes, IsIdle, IsPublishing, IsPublishRow, CrashesAsRow, IsRow}
use Rattle.monitor.specs.Common.{KeepsSides, KeepsReading, Serves, AreKeyed, ArePlaced, AreReading, IsTimely}
use Rattle.monitor.specs.declared.channel.OpenChannel.{OpenChannel}
use Rattle.monitor.specs.declared.output.Output.{Output}
use Rattle.monitor.specs.declared.job.Job.{Job}
use Rattle.monitor.proofs.common.EventAnswers.{row, in_state, contrary}
use Rattle.monitor.proofs.common.Dropped.{keeps_keyed}
use Rattle.monitor.proofs.common.JobReaders.{keeps_reading}
use Rattle.monitor.proofs.common.ServedCalls.{row_is}

-- If something is published.

module _ (d d' : DiskState) (c c' : MemoryMap) (jobs jobs' : List (Option Job)) (n : ℕ) (job job' : Job)
    (moment : Moment) (there : slot jobs n ≡ Some job) (set : jobs' ≡ slice_set jobs n (Some job'))
    (timely : IsTimely d moment) where
  pub row_answered : (failed failed' : Bool) (call : Call) (reply : Reply) → failed ≡ false → ArePlaced c
      → d'.honest → IsPublishRow d d' c c' failed' job job' call reply → (old : Service) → Serves d c failed jobs old
      → (new : Service) × Serves d' c' failed' jobs' new × Answers (pack_of d) old (Calls n call moment) reply new
  row_answered failed failed' call reply alive placed honest is =
      in_state d c failed jobs (λ old. (new : Service) × Serves d' c' failed' jobs' new
      × Answers (pack_of d) old (Calls n call moment) reply new) alive (λ s state.
      let led = is honest placed jobs n moment there timely s state in
      (led.0, subst (λ js. Serves d' c' failed' js led.0) (sym set) led.1, led.2))

  pub row_crashes : (call : Call) → CrashesAsRow d d' c job call → CallCrashes d d' c jobs n call moment
  row_crashes call crashes honest s state = crashes honest jobs n moment there timely s state

-- what holds for each answer
module _ (d d' : DiskState) (c c' : MemoryMap) (failed failed' : Bool) (channel : OpenChannel) (o : Output)
    (last : Option (List ℕ)) where
  abbrev Answered : Reply → Type 0
  Answered reply = IsPublishing d d' c c' failed failed' channel o last reply

  -- any other answer isn't that of a volume that fails
  serves_on : (reply : Reply) → failed' ≡ false → (reply ≡ Device → ⊥) → (reply ≡ Failed → ⊥)
      → IsTrue failed' ↔ ((reply ≡ Device) ⊎ (reply ≡ Failed))
  serves_on reply serves device failure =
      (λ t. absurd (contrary serves t), λ e. ⊎_elim (λ x. absurd (device x)) (λ x. absurd (failure x)) e)

  pub publishing_failed : (reply : Reply) → Answered reply → IsTrue failed' ↔ ((reply ≡ Device) ⊎ (reply ≡ Failed))
  publishing_failed Done is = serves_on Done is.4 (λ x. cc x) (λ x. cc x)
  publishing_failed (Stopped status) is = serves_on (Stopped status) is.5 (λ x. cc x) (λ x. cc x)
  publishing_failed AddressCheck is = serves_on AddressCheck is.2 (λ x. cc x) (λ x. cc x)
  publishing_failed NoMemory is = serves_on NoMemory is.3 (λ x. cc x) (λ x. cc x)
  publishing_failed Device is = (λ t. inl refl, λ e. is.4)
  publishing_failed Failed is = (λ t. inr refl, λ e. is.1)
  publishing_failed (Value word) is = absurd is
  publishing_failed (Refused code) is = absurd is
  publishing_failed NoChannel is = absurd is
  publishing_failed NoJob is = absurd is
  publishing_failed DateRange is = absurd is

  pub publishing_blamed : (reply : Reply) → failed ≡ false → Answered reply → d'.honest → reply ≡ Failed → ⊥
  publishing_blamed reply alive is honest failure = ⊎_elim (λ t. contrary alive t) (λ never. never honest)
      (subst Answered failure is).0

  pub publishing_counted : (reply : Reply) → Answered reply → reply ≡ Device → d'.failures ≡ one_more d.failures
  publishing_counted reply is device = (subst Answered device is).5

  pub publishing_served : (reply : Reply) → Answered reply → (IsIdle reply → d'.failures ≡ d.failures)
      → (reply ≡ Device → ⊥) → d'.failures ≡ d.failures
  publishing_served Done is idle other = is.5
  publishing_served (Stopped status) is idle other = idle tt
  publishing_served AddressCheck is idle other = idle tt
  publishing_served NoMemory is idle other = idle tt
  publishing_served Device is idle other = absurd (other refl)
  publishing_served Failed is idle other = is.2
  publishing_served (Value word) is idle other = absurd is
  publishing_served (Refused code) is idle other = absurd is
  publishing_served NoChannel is idle other = absurd is
  publishing_served NoJob is idle other = absurd is
  publishing_served DateRange is idle other = absurd is

-- If what was written is dropped, and what was read, if anything, is unpinned.
module _ (d : DiskState) (c c' : MemoryMap) (failed : Bool) (jobs jobs' : List (Option Job)) (n : ℕ)
    (job job' : Job) (call : Call) (moment : Moment) (alive : failed ≡ false) (timely : IsTimely d moment)
    (there : slot jobs n ≡ Some job) (set : jobs' ≡ slice_set jobs n (Some job'))
    (keeps : KeepsSides c.pending c'.pending job job') (reads : KeepsReading c.live c'.live job job') where
  pub dropping_keyed : AreKeyed c.pending jobs → AreKeyed c'.pending jobs'
  dropping_keyed keyed = subst (AreKeyed c'.pending) (sym set)
      (keeps_keyed c.pending c'.pending jobs n job job' keyed there keeps)

  pub dropping_reading : AreReading c.live jobs → AreReading c'.live jobs'
  dropping_reading reading = subst (AreReading c'.live) (sym set)
      (keeps_reading c.live c'.live jobs n job job' reading there reads)

  pub dropping_answered : d.honest → (reply : Reply) → AreKeyed c.pending jobs → AreReading c.live jobs → OnlyDrops c c'
      → IsRow job job' call reply → (old : Service) → Serves d c failed jobs old
      → (new : Service) × Serves d c' failed jobs' new × Answers (pack_of d) old (Calls n call moment) reply new
  dropping_answered honest reply keyed reading leaves is =
      row d c c' failed jobs jobs' (dropping_keyed keyed) (dropping_reading reading) leaves (pack_of d)
      (Calls n call moment) reply (row_is d c failed jobs n call moment alive timely honest jobs' job job' reply there
      set is)
      alive
