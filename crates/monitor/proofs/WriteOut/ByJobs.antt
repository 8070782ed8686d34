-- OUT by the job of a number, whatever it is answered with.
use Rattle.std.proofs.Common.{◌≡◌, ◌<◌, ℕ, Bool, false, List, Option, Some, refl, sym, ap, subst, ◌∙◌, ◌⊎◌, inl, inr}
use Rattle.std.proofs.Common.{slice_set}
use Rattle.std.specs.Prelude.{◌↔◌, IsTrue}
use Rattle.words36.specs.declared.moment.Moment.{Moment}
use Rattle.blockdisk.specs.Common.{DiskState}
use Rattle.spec_image.specs.Common.{File, Files, times, pack_of}
use Rattle.spec_machine.specs.Common.{State, slot, Service, Serving, Broken, Answers, is_plain, step}
use Rattle.spec_machine.specs.declared.call.Call.TheVariants.{Out}
use Rattle.spec_machine.specs.declared.call.Event.TheVariants.{Call as Calls}
use Rattle.spec_machine.specs.declared.call.Reply.{Reply}
use Rattle.spec_machine.specs.declared.call.Reply.TheVariants.{Done, Value, Refused, Stopped, NoChannel, AddressCheck}
use Rattle.spec_machine.specs.declared.call.Reply.TheVariants.{NoJob, NoMemory, Device, Failed, DateRange}
use Rattle.spec_machine.proofs.Common.{set-slot}
use Rattle.volume.specs.Common.{MemoryMap, pending_at, IsSoundMemory, RestsAt, KeepsRead}
use Rattle.volume.specs.declared.pending.PendingVersion.{PendingVersion}
use Rattle.monitor.specs.Common.{IsOut, IsOther, IsOtherSide, HasOutgoing, IsRow, KeepsSides, KeepsReading, AreKeyed}
use Rattle.monitor.specs.Common.{AreReading, IsState, Serves, IsTimely}
use Rattle.monitor.specs.declared.channel.OpenChannel.{OpenChannel}
use Rattle.monitor.specs.declared.output.Output.{Output}
use Rattle.monitor.specs.declared.job.Job.{Job}
use Rattle.monitor.proofs.common.EventAnswers.{in_state, state_is, on_disk}
use Rattle.monitor.proofs.common.CallRows.{keeps_same}
use Rattle.monitor.proofs.common.Dropped.{job_live, keeps_keyed}
use Rattle.monitor.proofs.WriteOut.Outs.{version_there, reads_core}
use Rattle.monitor.proofs.WriteOut.Calls.{out_none, out_refused, out_unlisted, undecided, put_leads, stopped_leads}
use Rattle.monitor.proofs.common.JobReaders.{keeps_reading}
use Rattle.monitor.proofs.common.ServedCalls.{alone}
use Rattle.monitor.proofs.common.Refusals.{alive_after}
use Rattle.monitor.specs.WriteOut as putting

-- a version of another side
pub other_side : (o : Option OpenChannel) (c : OpenChannel) (x : Output) (k : ℕ) → o ≡ Some c → c.output ≡ Some x
    → (k ≡ x.pending.key → ⊥) → IsOther o k
other_side o c x k there side apart = subst (λ y. IsOther y k) (sym there)
    (subst (λ y. IsOtherSide y k) (sym side) apart)

module _ {D : Type 0} (state_in : D → DiskState) (disk disk' : D) (map map' : MemoryMap) (failed failed' : Bool)
    (jobs jobs' : List (Option Job)) (n : ℕ) (job job' : Job) (ch a : ℕ) (moment : Moment)
    (there : slot jobs n ≡ Some job) (set : jobs' ≡ slice_set jobs n (Some job')) (serves : failed
    ≡ false) (timely : IsTimely (state_in disk) moment) (keyed : AreKeyed map.pending jobs)
    (reading : AreReading map.live jobs) (keeps : failed' ≡ false
    → KeepsSides map.pending map'.pending job job') (reads : failed' ≡ false
    → KeepsReading map.live map'.live job job') (sound : IsSoundMemory (state_in disk) map false) where
  abbrev d : DiskState
  d = state_in disk

  abbrev Same : Type 0
  Same = (disk' ≡ disk) × (map' ≡ map)

  abbrev Leads : Reply → Type 0
  Leads reply = (old : Service) → Serves d map failed jobs old → (new : Service)
      × Serves (state_in disk') map' failed' jobs' new × Answers (pack_of d) old (Calls n (Out ch a) moment) reply new

  pub out_keyed : failed' ≡ false → AreKeyed map'.pending jobs'
  out_keyed alive = subst (AreKeyed map'.pending) (sym set)
      (keeps_keyed map.pending map'.pending jobs n job job' keyed there (keeps alive))

  pub out_reading : failed' ≡ false → AreReading map'.live jobs'
  out_reading alive = subst (AreReading map'.live) (sym set)
      (keeps_reading map.live map'.live jobs n job job' reading there (reads alive))

  -- disk and volume are as they were
  unmoved : (reply : Reply) → Same → failed' ≡ false
      → ((old : Service) → Serves d map failed jobs old → (new : Service) × Serves d map failed jobs' new
      × Answers (pack_of d) old (Calls n (Out ch a) moment) reply new) → Leads reply
  unmoved reply same alive by old stands =
      on_disk state_in disk disk' failed failed' map' jobs' (Answers (pack_of d) old (Calls n (Out ch a) moment) reply)
      (same.0, alive ∙ sym serves)
      (subst (λ m. (new : Service) × Serves d m failed jobs' new
      × Answers (pack_of d) old (Calls n (Out ch a) moment) reply new) (sym same.1) (by old stands))

  -- a row that needs neither memory nor the disk
  plain : d.honest → (reply : Reply) → job' ≡ job → Same → failed' ≡ false → IsRow job job (Out ch a) reply → Leads
      reply
  plain honest reply is same alive row =
      unmoved reply same alive (alone d map failed jobs n (Out ch a) moment serves timely honest jobs' job job
      reply keyed reading there (set ∙ ap (λ j. slice_set jobs n (Some j)) is) (keeps_same map.pending job)
      (reads_core map.live map.live job refl job.core) row)

  undecided_in : d.honest → HasOutgoing job ch a → (s : State) → IsState d map jobs s
      → is_plain ((step (pack_of d) 0 s (Calls n (Out ch a) moment)).0) ≡ false
  undecided_in honest out s state =
      ap (λ y. is_plain ((step (pack_of d) 0 y (Calls n (Out ch a) moment)).0))
      (state_is s state.under jobs state.jobs_are)
      ∙ undecided d map jobs n job there ch a moment (timely honest) 0 s.files state.under out.at out.found

  module _ (honest : d.honest) (later : (state_in disk').honest) (rests : (f : Files File) → RestsAt d f
      → RestsAt (state_in disk') f)
      (others : (k : ℕ) → IsOther (slot job.channels ch) k → pending_at map'.pending k ≡ pending_at map.pending k)
      (live : map'.live ≡ map.live)
      (knows : map'.known ≡ record map.known { table = map'.known.table })
      (readers : KeepsRead d.contents (state_in disk').contents map)
      (writers : (k : ℕ) (q : PendingVersion) → IsOther (slot job.channels ch) k → pending_at map.pending k ≡ Some q
      → (m : ℕ) → 0 < times m q.version.blocks → (state_in disk').contents m ≡ d.contents m) where
    abbrev Fails : Reply → Type 0
    Fails reply = IsTrue failed' ↔ ((reply ≡ Device) ⊎ (reply ≡ Failed))

    version_of : (out : putting.OutgoingSide job ch a) → (p : PendingVersion)
        × (pending_at map.pending out.at.output.pending.key ≡ Some p)
    version_of out = version_there map.pending job ch out.at.channel out.at.there out.at.output out.at.side
        (job_live map jobs n job keyed there)

    pub out_answered : (reply : Reply) → IsOut d (state_in disk') map map' Same job job' ch a reply → Fails reply
        → Leads reply
    out_answered Done (out, job_is, put) fails =
        let alive = alive_after failed' Done fails (λ e. cc e) (λ e. cc e) in
        let p = version_of out in
        in_state d map failed jobs (λ old. (new : Service) × Serves (state_in disk') map' failed' jobs' new
        × Answers (pack_of d) old (Calls n (Out ch a) moment) Done new) serves
        (λ s state. put_leads d (state_in disk') map map' jobs jobs' n job there ch a moment timely out (set
        ∙ ap (λ j. slice_set jobs n (Some j)) job_is) keyed (out_keyed alive) sound honest later p.0 p.1 (put p.0 p.1)
        (λ k apart. others k (other_side (slot job.channels ch) out.at.channel out.at.output k out.at.there
        out.at.side apart))
        (λ k q apart. writers k q (other_side (slot job.channels ch) out.at.channel out.at.output k out.at.there
        out.at.side apart))
        rests live knows readers (out_reading alive) s state failed' alive)
    out_answered (Stopped status) (out, is, job_is, none, same) fails =
        let alive = alive_after failed' (Stopped status) fails (λ e. cc e) (λ e. cc e) in
        let p = version_of out in
        unmoved (Stopped status) same alive (in_state d map failed jobs (λ old. (new : Service)
        × Serves d map failed jobs' new × Answers (pack_of d) old (Calls n (Out ch a) moment) (Stopped status) new)
        serves
        (λ s state. stopped_leads d map failed jobs jobs' n job there ch a moment timely out status is (set
        ∙ ap (λ j. slice_set jobs n (Some j)) job_is) (subst (λ m. AreKeyed m.pending jobs') same.1 (out_keyed alive))
        (subst (λ m. AreReading m.live jobs') same.1 (out_reading alive)) sound honest p.0 p.1
        (none p.0 p.1) s state serves))
    out_answered (Refused code) (is, job_is, same, c, at, why) fails =
        plain honest (Refused code) job_is same (alive_after failed' (Refused code) fails (λ e. cc e) (λ e. cc e))
        (subst (λ k. IsRow job job (Out ch a) (Refused k)) (sym is) (out_refused job ch a c at why))
    out_answered NoChannel (job_is, same, none) fails =
        plain honest NoChannel job_is same (alive_after failed' NoChannel fails (λ e. cc e) (λ e. cc e))
        (out_none job ch a none)
    out_answered AddressCheck (job_is, same, at, none) fails =
        plain honest AddressCheck job_is same (alive_after failed' AddressCheck fails (λ e. cc e) (λ e. cc e))
        (out_unlisted job ch a at none)
    out_answered NoMemory (job_is, same, out) fails =
        unmoved NoMemory same (alive_after failed' NoMemory fails (λ e. cc e) (λ e. cc e))
        (in_state d map failed jobs (λ old. (new : Service) × Serves d map failed jobs' new
        × Answers (pack_of d) old (Calls n (Out ch a) moment) NoMemory new) serves
        (λ s state. (
          Serving s,
          (
            serves,
            subst (λ js. IsState d map js s) (sym (set ∙ ap (λ j. slice_set jobs n (Some j)) job_is
                ∙ set-slot jobs n job there)) state,
          ),
          inr (refl, refl, undecided_in honest out s state, refl),
        )))
    out_answered Device (job_is, out) fails =
        in_state d map failed jobs (λ old. (new : Service) × Serves (state_in disk') map' failed' jobs' new
        × Answers (pack_of d) old (Calls n (Out ch a) moment) Device new) serves
        (λ s state. (Broken, fails.1 (inl refl), (refl, undecided_in honest out s state, refl)))
    out_answered Failed lies fails = absurd (lies later)
    out_answered (Value word) wrong fails = absurd wrong
    out_answered NoJob wrong fails = absurd wrong
    out_answered DateRange wrong fails = absurd wrong
