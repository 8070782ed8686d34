-- A RESET is that of the machine.
use Rattle.std.proofs.Common.{◌≡◌, ◌≤◌, ℕ, Bool, false, List, Option, None, Some, sym, ap, ◌∙◌, slice_set}
use Rattle.words36.specs.declared.moment.Moment.{Moment}
use Rattle.blockdisk.specs.Common.{DiskState}
use Rattle.spec_image.specs.Common.{Files, SpecVersion, Pack}
use Rattle.spec_machine.specs.Common.{slot, Service, Answers, step, last_date}
use Rattle.spec_machine.specs.declared.call.Call.TheVariants.{Reset}
use Rattle.spec_machine.specs.declared.call.Event.TheVariants.{Call as Calls}
use Rattle.spec_machine.specs.declared.call.Reply.{Reply}
use Rattle.spec_machine.specs.declared.call.Reply.TheVariants.{Done, NoJob}
use Rattle.volume.specs.Common.{MemoryMap}
use Rattle.monitor.specs.Common.{OnlyDrops, AreKeyed, AreReading, Serves, UnderKeys, state_of, reset_job}
use Rattle.monitor.specs.declared.job.Job.{Job}
use Rattle.monitor.proofs.common.EventAnswers.{called, job_set, no_job, on_disk, row}

pub reset_row : (pack : Pack) (jobs jobs' : List (Option Job)) (n : ℕ) (moment : Moment)
    → moment.date ≤ last_date pack.layout
    → (job : Job) × (slot jobs n ≡ Some job) × (jobs' ≡ slice_set jobs n (Some (reset_job job)))
    → (serial : ℕ) (files : Files SpecVersion) (w : UnderKeys)
    → step pack serial (state_of files w jobs) (Calls n Reset moment) ≡ (Done, state_of files w jobs')
reset_row pack jobs jobs' n moment timely (job, there, set) serial files w =
    called pack jobs n Reset moment serial files w timely job there
    ∙ ap (λ s. (Done, s)) (job_set files w jobs n (reset_job job) ∙ ap (state_of files w) (sym set))

-- if nobody has the number
pub nobody_row : (pack : Pack) (jobs jobs' : List (Option Job)) (n : ℕ) (moment : Moment)
    → moment.date ≤ last_date pack.layout → slot jobs n ≡ None → jobs' ≡ jobs
    → (serial : ℕ) (files : Files SpecVersion) (w : UnderKeys)
    → step pack serial (state_of files w jobs) (Calls n Reset moment) ≡ (NoJob, state_of files w jobs')
nobody_row pack jobs jobs' n moment timely none same serial files w =
    no_job pack jobs n Reset moment serial files w timely none ∙ ap (λ js. (NoJob, state_of files w js)) (sym same)

-- It leaves the disk alone, and answers as a pack requires, whatever the disk's layout.
module _ {D : Type 0} (state : D → DiskState) (disk disk' : D) (map map' : MemoryMap) (failed failed' : Bool)
    (jobs jobs' : List (Option Job)) (n : ℕ) (moment : Moment) (alive : failed ≡ false)
    (untouched : (disk' ≡ disk) × (failed' ≡ failed)) (keyed : AreKeyed map'.pending jobs')
    (reading : AreReading map'.live jobs') (leaves : OnlyDrops map map') where
  pub reset_leads : (pack : Pack) (reply : Reply) → ((serial : ℕ) (files : Files SpecVersion) (w : UnderKeys)
      → step pack serial (state_of files w jobs) (Calls n Reset moment) ≡ (reply, state_of files w jobs'))
      → (old : Service) → Serves (state disk) map failed jobs old
      → (new : Service) × Serves (state disk') map' failed' jobs' new × Answers pack old (Calls n Reset moment) reply
      new
  reset_leads pack reply steps old serves =
      on_disk state disk disk' failed failed' map' jobs' (Answers pack old (Calls n Reset moment) reply) untouched
      (row (state disk) map map' failed jobs jobs' keyed reading leaves pack (Calls n Reset moment) reply steps alive
      old serves)
