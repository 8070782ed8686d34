-- The calls that a monitor does at once, and the same calls event by event.
use Rattle.std.proofs.Common.{◌≡◌, ◌+◌, ◌<◌, ℕ, Bool, List, [], ◌∷◌, length, slice_index, Option, None, Some, refl}
use Rattle.std.proofs.Common.{sym, subst, arith}
use Rattle.std.specs.Prelude.{IfSome}
use Rattle.blockdisk.specs.Common.{DiskState, Contents, MayLeave, still_start}
use Rattle.spec_language.specs.Common.{Asks, each, deposit_events}
use Rattle.spec_machine.specs.Common.{Service, Serving, Broken, Answers}
use Rattle.spec_machine.specs.declared.call.Event.{Event}
use Rattle.spec_machine.specs.declared.call.Event.TheVariants.{Deposit, Examine}
use Rattle.spec_machine.specs.declared.call.Reply.{Reply}
use Rattle.spec_machine.specs.declared.call.Reply.TheVariants.{Done, Value, Device}
use Rattle.volume.specs.Common.{MemoryMap}
use Rattle.monitor.specs.Common.{DepositsBy, Serves, MonitorState}
use Rattle.spec_image.specs.Common.{pack_of}
use Rattle.spec_image.specs.declared.layout.Layout.{Layout}
use Rattle.monitor.specs.declared.job.Job.{Job}
use Rattle.monitor.proofs.Events.EventCrashes.{state_stands, untouched_event}
use Rattle.commands.specs.Common.{HasDone, Machine, AlwaysStands, GoesBy, IsAnswered, KeepsPack, AreShown, machine_of}
use Rattle.commands.proofs.ActLaws.{goes_on, goes_answered, goes_nowhere}

module _ {D : Type 0} (state : D → DiskState) (only_now : (disk : D) (contents : Contents) → (state disk).honest
    → (state disk).left_since (state disk).clock contents → MayLeave (state disk) contents) (disk : D)
    (map : MemoryMap) (failed : Bool) (layout : Layout) where
  abbrev of : MonitorState D → Machine
  of m = machine_of (state m.disk) m.map m.failed m.jobs

  abbrev with_jobs : List (Option Job) → MonitorState D
  with_jobs jobs = record { disk = disk; map = map; failed = failed; jobs = jobs; layout = layout }

  stands : AlwaysStands of
  stands m honest s serves = state_stands (state m.disk) m.map m.jobs s serves.1

  kept : (jobs jobs' : List (Option Job)) (new : Service)
      → KeepsPack (of (with_jobs jobs)) (of (with_jobs jobs')) new
  kept jobs jobs' Broken = tt
  kept jobs jobs' (Serving s) = refl

  -- an event that leaves the disk alone, with a known answer
  answered : (jobs jobs' : List (Option Job)) (event : Event) (reply : Reply)
      → (reply ≡ Device → ⊥)
      → ((old : Service) → Serves (state disk) map failed jobs old → (new : Service)
      × Serves (state disk) map failed jobs' new × Answers (pack_of (state disk)) old event reply new)
      → IsAnswered (of (with_jobs jobs)) (of (with_jobs jobs')) event reply
  answered jobs jobs' event reply served by = record {
    size = refl;
    was_honest = λ honest. honest;
    crash = λ honest s serves. untouched_event state only_now disk disk refl map jobs event reply honest s serves.1;
    broken = λ honest serves. still_start (state disk);
    answers = λ honest old serves.
        let is = by old serves in
        (is.0, is.1, is.2, kept jobs jobs' is.0);
    counted = (λ device. absurd (served device), λ other. refl);
  }

  pub words_shown : (jobs : List (Option Job)) (first : ℕ) (words : List ℕ)
      → ((i : ℕ) → i < length words → (old : Service) → Serves (state disk) map failed jobs old → (new : Service)
      × Serves (state disk) map failed jobs new
      × Answers (pack_of (state disk)) old (Examine 1 (first + i)) (Value (slice_index words i)) new)
      → AreShown (of (with_jobs jobs)) first words
  words_shown jobs first words by i less =
      answered jobs jobs (Examine 1 (first + i)) (Value (slice_index words i)) (λ device. cc) (by i less)

  pub all_shown : {W : Type 0} (view : W → List ℕ) (jobs : List (Option Job)) (first count : ℕ) (result : Option W)
      → IfSome result (λ w. length (view w) ≡ count)
      → IfSome result (λ w. (i : ℕ) → i < count → (old : Service) → Serves (state disk) map failed jobs old
      → (new : Service) × Serves (state disk) map failed jobs new
      × Answers (pack_of (state disk)) old (Examine 1 (first + i)) (Value (slice_index (view w) i)) new)
      → IfSome result (λ w. (length (view w) ≡ count) × AreShown (of (with_jobs jobs)) first (view w))
  all_shown view jobs first count None long by = tt
  all_shown view jobs first count (Some w) long by =
      (long, words_shown jobs first (view w) (λ i less. by i (omega (arith, less, long))))

  pub words_done : (words : List ℕ) (first : ℕ) (jobs last : List (Option Job))
      → DepositsBy (state disk) map failed 1 jobs first words last
      → HasDone of (with_jobs jobs) (with_jobs last) (deposit_events first words)
  unfolding each
  words_done [] first jobs last is = record {
    acts = [];
    goes = subst (λ js. GoesBy of (with_jobs jobs) (with_jobs js) []) (sym is)
        (goes_nowhere of stands (with_jobs jobs));
    leads = λ moment rest next. refl;
  }
  words_done (word ∷ words) first jobs last by =
      let more = words_done words (first + 1) by.0 last by.2 in
      record {
        acts = Asks (Deposit 1 first word) Done ∷ more.acts;
        goes = goes_on of (with_jobs jobs) (with_jobs by.0) (with_jobs last) (Asks (Deposit 1 first word) Done ∷ [])
            more.acts (goes_answered of stands (with_jobs jobs) (with_jobs by.0) (Deposit 1 first word) Done
            (answered jobs by.0 (Deposit 1 first word) Done (λ device. cc) by.1)) more.goes;
        leads = λ moment rest next. (refl, more.leads moment rest next);
      }
