-- A crash at any moment of an event finds the files from before it, or those after it.
use Rattle.std.proofs.Common.{◌≡◌, inl, inr, ⊎_elim, ℕ, List, Option, refl, sym, subst}
use Rattle.std.specs.Prelude.{IsTrue}
use Rattle.words36.specs.declared.moment.Moment.{Moment}
use Rattle.blockdisk.specs.Common.{Contents, DiskState, MayLeave, LeavesOnly, leaves_weaker}
use Rattle.changeset.specs.Common.{rest_settles}
use Rattle.spec_machine.specs.Common.{may_change, StandsForState, StandsForEither, State, step}
use Rattle.spec_image.specs.Common.{pack_of, SettledStandsOn, StandsOn, without_serials}
use Rattle.spec_machine.specs.declared.call.Call.{Call}
use Rattle.spec_machine.specs.declared.call.Event.{Event}
use Rattle.spec_machine.specs.declared.call.Event.TheVariants.{Call as Calls}
use Rattle.spec_machine.specs.declared.call.Reply.{Reply}
use Rattle.spec_machine.specs.declared.call.Reply.TheVariants.{Done, Value, Refused, Stopped, NoChannel, AddressCheck}
use Rattle.spec_machine.specs.declared.call.Reply.TheVariants.{NoJob, NoMemory, Device, Failed, DateRange}
use Rattle.volume.specs.Common.{MemoryMap}
use Rattle.monitor.specs.Common.{CallCrashes, IsIdle, OfCall, IsState}
use Rattle.monitor.specs.declared.job.Job.{Job}
use Rattle.monitor.proofs.common.Untouched.{untouched_leaves}
use Rattle.spec_machine.proofs.SerialLaws as serials

-- whatever a crash may leave stands for the files of the state that the monitor stands for
pub state_stands : (d : DiskState) (map : MemoryMap) (jobs : List (Option Job)) (s : State) → IsState d map jobs s
    → (c : Contents) → MayLeave d c → StandsForState (pack_of d) s c
state_stands d map jobs s is c left = rest_settles d (λ x. SettledStandsOn (pack_of d) x (without_serials s.files))
    is.files c left

-- an event that leaves the disk alone
pub untouched_event : {D : Type 0} (state : D → DiskState) → ((disk : D) (contents : Contents) → (state disk).honest
    → (state disk).left_since (state disk).clock contents → MayLeave (state disk) contents)
    → (old new : D) → new ≡ old → (map : MemoryMap) (jobs : List (Option Job)) (event : Event) (reply : Reply)
    → (state new).honest → (s : State) → IsState (state old) map jobs s
    → LeavesOnly (state old) (state new) (StandsForEither (pack_of (state old)) s event reply)
untouched_event state only_now old new same map jobs event reply honest s is =
    untouched_leaves state only_now old new same honest (StandsForEither (pack_of (state old)) s event reply)
    (λ c left. inl (state_stands (state old) map jobs s is c left))

-- a call that may have changed the files, whatever serial it chose
pub changing_event : (d d' : DiskState) (map : MemoryMap) (jobs : List (Option Job)) (n : ℕ) (call : Call)
    (moment : Moment) (reply : Reply) → IsTrue (may_change reply) → CallCrashes d d' map jobs n call moment
    → d'.honest → (s : State) → IsState d map jobs s
    → LeavesOnly d d' (StandsForEither (pack_of d) s (Calls n call moment) reply)
changing_event d d' map jobs n call moment reply may crash honest s is =
    leaves_weaker d d' _ (StandsForEither (pack_of d) s (Calls n call moment) reply) (crash honest s is)
    (λ c. ⊎_elim (λ was. inl was) (λ after.
    inr (may, subst (StandsOn (pack_of d) c) (same_files after.0) after.1)))
  where
    same_files : (serial : ℕ) → without_serials ((step (pack_of d) serial s (Calls n call moment)).1.files)
        ≡ without_serials ((step (pack_of d) 0 s (Calls n call moment)).1.files)
    same_files serial = serials.same_files (pack_of d) serial 0 s (Calls n call moment)

module _ {D : Type 0} (state : D → DiskState) (only_now : (disk : D) (contents : Contents) → (state disk).honest
    → (state disk).left_since (state disk).clock contents → MayLeave (state disk) contents)
    (old new : D) (map : MemoryMap) (jobs : List (Option Job)) (n : ℕ) (call : Call) (moment : Moment)
    (crash : CallCrashes (state old) (state new) map jobs n call moment) (honest : (state new).honest) (s : State)
    (is : IsState (state old) map jobs s) where
  abbrev Leaves : Reply → Type 0
  Leaves reply = LeavesOnly (state old) (state new)
      (StandsForEither (pack_of (state old)) s (Calls n call moment) reply)

  still : (reply : Reply) → new ≡ old → Leaves reply
  still reply same = untouched_event state only_now old new same map jobs (Calls n call moment) reply honest s is

  changes : (reply : Reply) → IsTrue (may_change reply) → Leaves reply
  changes reply may = changing_event (state old) (state new) map jobs n call moment reply may crash honest s is

  -- A call, whatever its answer: with most of them it leaves the disk alone.
  pub call_event : (reply : Reply) → (IsIdle reply → new ≡ old) → (reply ≡ Failed → ⊥) → Leaves reply
  call_event Done idle serves = changes Done refl
  call_event (Value word) idle serves = still (Value word) (idle tt)
  call_event (Refused code) idle serves = still (Refused code) (idle tt)
  call_event (Stopped status) idle serves = still (Stopped status) (idle tt)
  call_event NoChannel idle serves = still NoChannel (idle tt)
  call_event AddressCheck idle serves = still AddressCheck (idle tt)
  call_event NoJob idle serves = still NoJob (idle tt)
  call_event NoMemory idle serves = still NoMemory (idle tt)
  call_event Device idle serves = changes Device refl
  call_event Failed idle serves = absurd (serves refl)
  call_event DateRange idle serves = still DateRange (idle tt)

-- What holds for an event holds for one that is the same.
pub of_other : (P : ℕ → Call → Moment → Type 0) (event other : Event) → event ≡ other → OfCall other P → OfCall event P
of_other P event other is p = subst (λ e. OfCall e P) (sym is) p
