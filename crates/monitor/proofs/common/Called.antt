-- What holds for a call, whichever it is.
use Rattle.std.proofs.Common.{◌≡◌, ◌⊎◌, ◌<◌, ℕ, Bool, true, false, List, Option, refl, sym, subst, ◌∙◌, ⊎_elim}
use Rattle.std.specs.Prelude.{◌↔◌, IsTrue}
use Rattle.words36.specs.declared.moment.Moment.{Moment}
use Rattle.blockdisk.specs.Common.{DiskState, SameDisk, same_disk_start}
use Rattle.spec_image.specs.Common.{Pack}
use Rattle.spec_machine.specs.Common.{Service, Answers, last_date}
use Rattle.spec_machine.specs.declared.call.Event.TheVariants.{Call as Calls}
use Rattle.spec_machine.specs.declared.call.Reply.{Reply}
use Rattle.spec_machine.specs.declared.call.Reply.TheVariants.{Done, Value, Refused, Stopped, NoChannel, AddressCheck}
use Rattle.spec_machine.specs.declared.call.Reply.TheVariants.{NoJob, DateRange, NoMemory, Device, Failed}
use Rattle.volume.specs.Common.{MemoryMap}
use Rattle.monitor.specs.Common.{IsIdle, IsDecided, Serves, AreKeyed, AreReading, MonitorState}
use Rattle.spec_machine.specs.declared.call.Call.{Call}
use Rattle.monitor.specs.declared.job.Job.{Job}
use Rattle.monitor.proofs.common.EventAnswers.{row, late, contrary}
use Rattle.spec_image.specs.declared.layout.Layout.{Layout}
use Rattle.monitor.proofs.common.Dropped.{leaves_none}

-- A date that the pack can't hold, whatever disk there is.
pub called_late : (pack : Pack) (d : DiskState) (map : MemoryMap) (failed : Bool) (jobs : List (Option Job)) (n : ℕ)
    (call : Call) (moment : Moment) → failed ≡ false → last_date pack.layout < moment.date
    → AreKeyed map.pending jobs
    → AreReading map.live jobs → (old : Service) → Serves d map failed jobs old
    → (new : Service) × Serves d map failed jobs new × Answers pack old (Calls n call moment) DateRange new
called_late pack d map failed jobs n call moment serves past keyed reading =
    row d map map failed jobs jobs keyed reading (leaves_none map) pack (Calls n call moment) DateRange
    (λ serial files w. late pack jobs n call moment serial files w past) serves

-- The monitor of these parts.
abbrev pub all_of : {D : Type 0} → D → MemoryMap → Bool → List (Option Job) → Layout → MonitorState D
all_of disk map failed jobs layout = record {
  disk = disk;
  map = map;
  failed = failed;
  jobs = jobs;
  layout = layout;
}

-- A call that leaves the disk alone.

pub quiet_failed : (failed failed' : Bool) (reply : Reply) → failed ≡ false → failed' ≡ failed
    → (reply ≡ Failed → ⊥) × (reply ≡ Device → ⊥) → IsTrue failed' ↔ ((reply ≡ Device) ⊎ (reply ≡ Failed))
quiet_failed failed failed' reply alive same only = (
  λ t. absurd (contrary (same ∙ alive) t),
  λ e. ⊎_elim (λ x. absurd (only.1 x)) (λ x. absurd (only.0 x)) e,
)

pub quiet_same : {D : Type 0} (state : D → DiskState) (old new : D) → new ≡ old → SameDisk (state old) (state new)
quiet_same state old new same = subst (λ disk. SameDisk (state old) (state disk)) (sym same)
    (same_disk_start (state old))

-- What holds of each answer that is decided holds of this one.
pub by_decided : (P : Reply → Type 0) (reply : Reply) → IsDecided reply → P NoChannel → P AddressCheck → P NoJob
    → P DateRange → P reply
by_decided P Done is channel address job date = absurd is
by_decided P (Value word) is channel address job date = absurd is
by_decided P (Refused code) is channel address job date = absurd is
by_decided P (Stopped status) is channel address job date = absurd is
by_decided P NoChannel is channel address job date = channel
by_decided P AddressCheck is channel address job date = address
by_decided P NoJob is channel address job date = job
by_decided P NoMemory is channel address job date = absurd is
by_decided P Device is channel address job date = absurd is
by_decided P Failed is channel address job date = absurd is
by_decided P DateRange is channel address job date = date

-- An answer that is decided leaves the disk alone.
pub decided_idle : (reply : Reply) → IsDecided reply → IsIdle reply
decided_idle reply is = by_decided IsIdle reply is tt tt tt tt

-- A call whose answer is decided doesn't fail.
pub decided_serves : (failed failed' : Bool) (reply : Reply) → failed ≡ false → IsTrue failed'
    ↔ ((reply ≡ Device) ⊎ (reply ≡ Failed)) → IsDecided reply → failed' ≡ failed
decided_serves failed false reply alive fails is = sym alive
decided_serves failed true reply alive fails is = ⊎_elim (λ e. absurd (subst IsDecided e is))
    (λ e. absurd (subst IsDecided e is)) (fails.0 refl)

-- A call that finds no memory doesn't fail.
pub still_serves : (failed failed' : Bool) (reply : Reply) → failed ≡ false → IsTrue failed'
    ↔ ((reply ≡ Device) ⊎ (reply ≡ Failed)) → reply ≡ NoMemory → failed' ≡ failed
still_serves failed false reply alive fails none = sym alive
still_serves failed true reply alive fails none = ⊎_elim (λ e. let wrong = sym none ∙ e in
    cc) (λ e. let wrong = sym none ∙ e in cc) (fails.0 refl)

-- What leaves each part as it was leaves the whole monitor.
pub all_same : {D : Type 0} (disk' disk : D) (core' core : MemoryMap) (failed' failed : Bool) → failed ≡ false
    → (jobs' jobs : List (Option Job)) (layout' layout : Layout) → layout' ≡ layout
    → (disk' ≡ disk) × (core' ≡ core) × (failed' ≡ false) × (jobs' ≡ jobs)
    → all_of disk' core' failed' jobs' layout' ≡ all_of disk core failed jobs layout
all_same disk' disk core' core failed' failed alive jobs' jobs layout' layout kept same =
    λ i. all_of (same.0 i) (same.1 i) ((same.2 ∙ sym alive) i) (same.3 i) (kept i)
