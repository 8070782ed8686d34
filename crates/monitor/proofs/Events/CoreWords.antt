-- A word that is put into a job's core, or read from it, is that of the machine.
use Rattle.std.proofs.Common.{◌≡◌, ◌+◌, ◌<◌, ℕ, Bool, false, List, Option, None, Some, refl, sym, ap, subst, ◌∙◌}
use Rattle.std.proofs.Common.{⊎_elim, slice_index, slice_set}
use Rattle.std.specs.Prelude.{IfSome}
use Rattle.blockdisk.specs.Common.{DiskState}
use Rattle.spec_image.specs.Common.{Files, SpecVersion, Pack, pack_of}
use Rattle.spec_machine.specs.Common.{State, slot, with_job, Service, Answers, settled, examine_answer, step, on_job}
use Rattle.spec_machine.specs.Common.{deposit}
use Rattle.spec_machine.specs.declared.call.Event.TheVariants.{Deposit, Examine}
use Rattle.spec_machine.specs.declared.call.Reply.{Reply}
use Rattle.spec_machine.specs.declared.call.Reply.TheVariants.{Done, Value}
use Rattle.monitor.specs.Common.{deposit_of, examine_of, Serves, AreKeyed, AreReading, UnderKeys, job_of, state_of}
use Rattle.monitor.specs.Common.{sides_in}
use Rattle.volume.specs.Common.{MemoryMap}
use Rattle.volume.specs.declared.live.LiveVersion.{LiveVersion}
use Rattle.volume.specs.declared.pending.PendingVersion.{PendingVersion}
use Rattle.monitor.specs.declared.job.Job.{Job}
use Rattle.monitor.proofs.common.EventAnswers.{row, slot_of, job_set, is_done, settled_other}
use Rattle.monitor.proofs.common.Dropped.{leaves_none, job_keyed}
use Rattle.monitor.proofs.common.JobReaders.{keeps_reading}

module _ (pack : Pack) (jobs : List (Option Job)) (n address : ℕ) (serial : ℕ) (files : Files SpecVersion)
    (w : UnderKeys) where
  -- the state with the word put
  abbrev put_in : Job → ℕ → State
  put_in job word = with_job (state_of files w jobs) n
      (job_of w (record job { core = slice_set job.core address word }))

  pub deposit_done_row : (jobs' : List (Option Job)) (word : ℕ) (job : Job) → slot jobs n ≡ Some job
      → deposit_of address (slot jobs n) ≡ Done
      → jobs' ≡ slice_set jobs n (Some (record job { core = slice_set job.core address word }))
      → step pack serial (state_of files w jobs) (Deposit n address word) ≡ (Done, state_of files w jobs')
  deposit_done_row jobs' word job there answer set =
      ap (λ o. on_job (state_of files w jobs) o (λ j. deposit (state_of files w jobs) n j address word))
      (slot_of w jobs n (Some job) there)
      ∙ ap (λ r. settled r (put_in job word) (λ x. state_of files w jobs)) (sym (ap (deposit_of address) there)
      ∙ answer)
      ∙ ap (λ s. (Done, s)) (job_set files w jobs n (record job { core = slice_set job.core address word })
      ∙ ap (state_of files w) (sym set))

  pub deposit_other_row : (word : ℕ) (reply : Reply) (o : Option Job) → slot jobs n ≡ o → reply ≡ deposit_of address o
      → (reply ≡ Done → ⊥)
      → step pack serial (state_of files w jobs) (Deposit n address word) ≡ (reply, state_of files w jobs)
  deposit_other_row word reply None is answer not_done =
      ap (λ o. on_job (state_of files w jobs) o (λ j. deposit (state_of files w jobs) n j address word))
      (slot_of w jobs n None is) ∙ ap (λ r. (r, state_of files w jobs)) (sym answer)
  deposit_other_row word reply (Some job) is answer not_done =
      ap (λ o. on_job (state_of files w jobs) o (λ j. deposit (state_of files w jobs) n j address word))
      (slot_of w jobs n (Some job) is)
      ∙ ap (λ r. settled r (put_in job word) (λ x. state_of files w jobs)) (sym answer)
      ∙ settled_other reply (put_in job word) (state_of files w jobs) not_done

  pub examine_row : (reply : Reply) (o : Option Job) → slot jobs n ≡ o → reply ≡ examine_of address o
      → step pack serial (state_of files w jobs) (Examine n address) ≡ (reply, state_of files w jobs)
  examine_row reply None is answer =
      ap (λ o. on_job (state_of files w jobs) o (λ j. (examine_answer j address, state_of files w jobs)))
      (slot_of w jobs n None is) ∙ ap (λ r. (r, state_of files w jobs)) (sym answer)
  examine_row reply (Some job) is answer =
      ap (λ o. on_job (state_of files w jobs) o (λ j. (examine_answer j address, state_of files w jobs)))
      (slot_of w jobs n (Some job) is) ∙ ap (λ r. (r, state_of files w jobs)) (sym answer)

-- A deposit leaves the output sides as they were.
pub deposit_keyed : (pending : List (Option PendingVersion)) (jobs jobs' : List (Option Job)) (n address word : ℕ)
    (reply : Reply) → AreKeyed pending jobs
    → (reply ≡ Done → (there : Job) × (slot jobs n ≡ Some there)
    × (jobs' ≡ slice_set jobs n (Some (record there { core = slice_set there.core address word }))))
    → ((reply ≡ Done → ⊥) → jobs' ≡ jobs) → AreKeyed pending jobs'
deposit_keyed pending jobs jobs' n address word reply keyed done refused = ⊎_elim
    (λ is. let there = done is in
    subst (AreKeyed pending) (sym there.2) (job_keyed pending jobs n _ keyed (ap sides_in (sym there.1))))
    (λ not. subst (AreKeyed pending) (sym (refused not)) keyed)
    (is_done reply)

-- It also leaves the input sides as they were.
pub deposit_reading : (live : List (Option LiveVersion)) (jobs jobs' : List (Option Job)) (n address word : ℕ)
    (reply : Reply) → AreReading live jobs
    → (reply ≡ Done → (there : Job) × (slot jobs n ≡ Some there)
    × (jobs' ≡ slice_set jobs n (Some (record there { core = slice_set there.core address word }))))
    → ((reply ≡ Done → ⊥) → jobs' ≡ jobs) → AreReading live jobs'
deposit_reading live jobs jobs' n address word reply reading done refused = ⊎_elim
    (λ is.
    let there = done is in
    subst (AreReading live) (sym there.2)
    (keeps_reading live live jobs n there.0 (record there.0 { core = slice_set there.0.core address word }) reading
    there.1 (record { once = λ key. refl; each = λ has. record { each = has.each; sixteen = has.sixteen } })))
    (λ not. subst (AreReading live) (sym (refused not)) reading)
    (is_done reply)

module _ (d : DiskState) (map : MemoryMap) (failed : Bool) (jobs jobs' : List (Option Job)) (n address word : ℕ)
    (reply : Reply) where
  pub deposit_answered : failed ≡ false → AreKeyed map.pending jobs → AreReading map.live jobs
      → reply ≡ deposit_of address (slot jobs n)
      → (reply ≡ Done → (there : Job) × (slot jobs n ≡ Some there)
      × (jobs' ≡ slice_set jobs n (Some (record there { core = slice_set there.core address word }))))
      → ((reply ≡ Done → ⊥) → jobs' ≡ jobs)
      → (old : Service) → Serves d map failed jobs old → (new : Service) × Serves d map failed jobs' new
      × Answers (pack_of d) old (Deposit n address word) reply new
  deposit_answered serves keyed reading answer done refused old is =
      row d map map failed jobs jobs' (deposit_keyed map.pending jobs jobs' n address word reply keyed done refused)
      (deposit_reading map.live jobs jobs' n address word reply reading done refused) (leaves_none map)
      (pack_of d) (Deposit n address word) reply
      (λ serial files w. ⊎_elim
      (λ is. let there = done is in subst (λ r. step (pack_of d) serial (state_of files w jobs)
      (Deposit n address word)
      ≡ (r, state_of files w jobs')) (sym is)
      (deposit_done_row (pack_of d) jobs n address serial files w jobs' word there.0 there.1 (sym answer
      ∙ is) there.2))
      (λ not. subst (λ js. step (pack_of d) serial (state_of files w jobs) (Deposit n address word)
      ≡ (reply, state_of files w js)) (sym (refused not))
      (deposit_other_row (pack_of d) jobs n address serial files w word reply (slot jobs n) refl answer not))
      (is_done reply)) serves old is

  pub examine_answered : failed ≡ false → AreKeyed map.pending jobs → AreReading map.live jobs
      → reply ≡ examine_of address (slot jobs n)
      → (old : Service) → Serves d map failed jobs old → (new : Service) × Serves d map failed jobs new
      × Answers (pack_of d) old (Examine n address) reply new
  examine_answered serves keyed reading answer old is =
      row d map map failed jobs jobs keyed reading (leaves_none map) (pack_of d) (Examine n address) reply
      (λ serial files w. examine_row (pack_of d) jobs n address serial files w reply
      (slot jobs n) refl answer) serves old is

-- words in a row that are shown, each as an event would show it
module _ (d : DiskState) (map : MemoryMap) (failed : Bool) (jobs : List (Option Job)) (n first count : ℕ) where
  pub all_answered : failed ≡ false → AreKeyed map.pending jobs → AreReading map.live jobs
      → {W : Type 0} (view : W → List ℕ) (result : Option W)
      → IfSome result (λ words. (i : ℕ) → i < count
      → Value (slice_index (view words) i) ≡ examine_of (first + i) (slot jobs n))
      → IfSome result (λ words. (i : ℕ) → i < count → (old : Service) → Serves d map failed jobs old
      → (new : Service) × Serves d map failed jobs new
      × Answers (pack_of d) old (Examine n (first + i)) (Value (slice_index (view words) i)) new)
  all_answered serves keyed reading view None shown = tt
  all_answered serves keyed reading view (Some words) shown = λ i less.
      examine_answered d map failed jobs jobs n (first + i) 0 (Value (slice_index (view words) i)) serves keyed reading
      (shown i less)
