-- Words that are put into a job's core at once are put as one after the other.
use Rattle.std.proofs.Common.{◌≡◌, ◌+◌, ◌<◌, ◌≤◌, ℕ, Bool, true, false, List, [], ◌∷◌, Option, Some, refl, sym, ap}
use Rattle.std.proofs.Common.{subst, length, arith, slice_set, length-set}
use Rattle.std.specs.Prelude.{IsTrue, IsFalse}
use Rattle.std.proofs.lemmas.Bool.Decides.{nat_tests}
use Rattle.blockdisk.specs.Common.{DiskState}
use Rattle.spec_machine.specs.Common.{after_writes, placed, slot}
use Rattle.spec_machine.specs.declared.call.Reply.TheVariants.{Done}
use Rattle.spec_machine.proofs.Common.{set-slot, slot-set_same}
use Rattle.volume.specs.Common.{MemoryMap}
use Rattle.volume.specs.declared.live.LiveVersion.{LiveVersion}
use Rattle.volume.specs.declared.pending.PendingVersion.{PendingVersion}
use Rattle.monitor.specs.Common.{DepositsBy, deposit_of, AreKeyed, AreReading, sides_in}
use Rattle.monitor.specs.declared.job.Job.{Job}
use Rattle.monitor.proofs.Events.CoreWords.{deposit_keyed, deposit_reading, deposit_answered}
use Rattle.monitor.proofs.common.Dropped.{job_keyed}
use Rattle.monitor.proofs.common.JobReaders.{keeps_reading}
use Rattle.monitor.proofs.common.Slots.{set-twice}

-- what holds of the jobs whatever is in their cores
pub holds_on : (P : List (Option Job) → Type 0) (jobs jobs' : List (Option Job)) (n first : ℕ) (words : List ℕ)
    (b : Bool) → P jobs → ((job : Job) → slot jobs n ≡ Some job → (core : List ℕ)
    → P (slice_set jobs n (Some (record job { core = core }))))
    → (IsTrue b → (there : Job) × (slot jobs n ≡ Some there) × (first + length words ≤ length there.core)
    × (jobs' ≡ slice_set jobs n (Some (record there { core = after_writes there.core (placed first words) }))))
    → (IsFalse b → jobs' ≡ jobs) → P jobs'
holds_on P jobs jobs' n first words true held each done refused =
    let there = done refl in
    subst P (sym there.3) (each there.0 there.1 (after_writes there.0.core (placed first words)))
holds_on P jobs jobs' n first words false held each done refused = subst P (sym (refused refl)) held

-- the output sides, and the input sides
pub core_keyed : (pending : List (Option PendingVersion)) (jobs : List (Option Job)) (n : ℕ) → AreKeyed pending jobs
    → (job : Job) → slot jobs n ≡ Some job → (core : List ℕ)
    → AreKeyed pending (slice_set jobs n (Some (record job { core = core })))
core_keyed pending jobs n keyed job at core = job_keyed pending jobs n _ keyed (ap sides_in (sym at))

pub core_reading : (live : List (Option LiveVersion)) (jobs : List (Option Job)) (n : ℕ) → AreReading live jobs
    → (job : Job) → slot jobs n ≡ Some job → (core : List ℕ)
    → AreReading live (slice_set jobs n (Some (record job { core = core })))
core_reading live jobs n reading job at core = keeps_reading live live jobs n job (record job { core = core }) reading
    at (record { once = λ key. refl; each = λ has. record { each = has.each; sixteen = has.sixteen } })

module _ (d : DiskState) (map : MemoryMap) (failed : Bool) (n : ℕ) (serves : failed ≡ false) where
  -- the jobs after these words are put into the core of one
  abbrev put_in : List (Option Job) → Job → ℕ → List ℕ → List (Option Job)
  put_in jobs job first words = slice_set jobs n
      (Some (record job { core = after_writes job.core (placed first words) }))

  pub deposits_by : (words : List ℕ) (first : ℕ) (jobs : List (Option Job)) (job : Job) → AreKeyed map.pending jobs
      → AreReading map.live jobs → slot jobs n ≡ Some job → first + length words ≤ length job.core
      → DepositsBy d map failed n jobs first words (put_in jobs job first words)
  deposits_by [] first jobs job keyed reading at room = set-slot jobs n job at
  deposits_by (word ∷ words) first jobs job keyed reading at room =
      let job' : Job = record job { core = slice_set job.core first word } in
      let mid : List (Option Job) = slice_set jobs n (Some job') in
      let below : first < length job.core = omega (arith, room) in
      let answer : Done ≡ deposit_of first (slot jobs n) =
      subst (λ o. Done ≡ deposit_of first o) (sym at) (grind (arith, nat_tests, below)) in
      let done : (Done ≡ Done) → (there : Job) × (slot jobs n ≡ Some there)
      × (mid ≡ slice_set jobs n (Some (record there { core = slice_set there.core first word })))
      = λ is. (job, at, refl) in
      let refused : (Done ≡ Done → ⊥) → mid ≡ jobs = λ never. absurd (never refl) in
      let rest = deposits_by words (first + 1) mid job'
      (deposit_keyed map.pending jobs mid n first word Done keyed done refused)
      (deposit_reading map.live jobs mid n first word Done reading done refused)
      (slot-set_same jobs n job' job at) (omega (arith, room, length-set job.core first word)) in (
        mid,
        deposit_answered d map failed jobs mid n first word Done serves keyed reading answer done refused,
        subst (DepositsBy d map failed n mid (first + 1) words) (set-twice jobs n _ _) rest,
      )
