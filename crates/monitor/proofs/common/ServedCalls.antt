-- A call that is served is answered as the machine does, and leaves what it leaves.
use Rattle.std.proofs.Common.{◌≡◌, ℕ, Bool, false, List, Option, None, Some, sym, ap, subst, ◌∙◌, slice_set}
use Rattle.words36.specs.declared.moment.Moment.{Moment}
use Rattle.blockdisk.specs.Common.{DiskState}
use Rattle.spec_image.specs.Common.{Files, SpecVersion, pack_of}
use Rattle.spec_machine.specs.Common.{slot, Service, Answers, step}
use Rattle.spec_machine.specs.declared.call.Call.{Call}
use Rattle.spec_machine.specs.declared.call.Event.TheVariants.{Call as Calls}
use Rattle.spec_machine.specs.declared.call.Reply.{Reply}
use Rattle.spec_machine.specs.declared.call.Reply.TheVariants.{NoJob}
use Rattle.volume.specs.Common.{MemoryMap}
use Rattle.monitor.specs.Common.{IsRow, KeepsSides, KeepsReading, Serves, AreKeyed, AreReading, IsTimely, UnderKeys}
use Rattle.monitor.specs.Common.{state_of}
use Rattle.monitor.specs.declared.job.Job.{Job}
use Rattle.monitor.proofs.common.EventAnswers.{row, slot_of, job_set, no_job, called}
use Rattle.monitor.proofs.common.Dropped.{leaves_none, keeps_keyed}
use Rattle.monitor.proofs.common.JobReaders.{keeps_reading}

module _ (d : DiskState) (map : MemoryMap) (failed : Bool) (jobs : List (Option Job)) (n : ℕ) (call : Call)
    (moment : Moment) (serves : failed ≡ false) (timely : IsTimely d moment) where
  abbrev pub Answered : MemoryMap → List (Option Job) → Reply → Type 0
  Answered map' jobs' reply = (old : Service) → Serves d map failed jobs old → (new : Service)
      × Serves d map' failed jobs' new × Answers (pack_of d) old (Calls n call moment) reply new

  pub nobody : d.honest → (jobs' : List (Option Job)) → AreKeyed map.pending jobs → AreReading map.live jobs → slot
      jobs n ≡ None
      → jobs' ≡ jobs → Answered map jobs' NoJob
  nobody honest jobs' keyed reading none same =
      subst (λ js. Answered map js NoJob) (sym same)
      (row d map map failed jobs jobs keyed reading (leaves_none map) (pack_of d) (Calls n call moment) NoJob
      (λ serial files w. no_job (pack_of d) jobs n call moment serial files w (timely honest) none) serves)

  -- a row of the job alone
  pub row_is : d.honest → (jobs' : List (Option Job)) (job job' : Job) (reply : Reply) → slot jobs n ≡ Some job
      → jobs' ≡ slice_set jobs n (Some job') → IsRow job job' call reply
      → (serial : ℕ) (files : Files SpecVersion) (w : UnderKeys)
      → step (pack_of d) serial (state_of files w jobs) (Calls n call moment) ≡ (reply, state_of files w jobs')
  row_is honest jobs' job job' reply there set is serial files w =
      called (pack_of d) jobs n call moment serial files w (timely honest) job there
      ∙ is (pack_of d) serial (state_of files w jobs) n w moment (slot_of w jobs n (Some job) there)
      ∙ ap (λ s. (reply, s)) (job_set files w jobs n job' ∙ ap (state_of files w) (sym set))

  pub alone_keyed : (jobs' : List (Option Job)) (job job' : Job) → AreKeyed map.pending jobs → slot jobs n ≡ Some job
      → jobs' ≡ slice_set jobs n (Some job') → KeepsSides map.pending map.pending job job' → AreKeyed map.pending jobs'
  alone_keyed jobs' job job' keyed there set keeps = subst (AreKeyed map.pending) (sym set)
      (keeps_keyed map.pending map.pending jobs n job job' keyed there keeps)

  pub alone_reading : (jobs' : List (Option Job)) (job job' : Job) → AreReading map.live jobs → slot jobs n ≡ Some job
      → jobs' ≡ slice_set jobs n (Some job') → KeepsReading map.live map.live job job' → AreReading map.live jobs'
  alone_reading jobs' job job' reading there set reads = subst (AreReading map.live) (sym set)
      (keeps_reading map.live map.live jobs n job job' reading there reads)

  pub alone : d.honest → (jobs' : List (Option Job)) (job job' : Job) (reply : Reply) → AreKeyed map.pending jobs
      → AreReading map.live jobs → slot jobs n ≡ Some job → jobs' ≡ slice_set jobs n (Some job')
      → KeepsSides map.pending map.pending job job' → KeepsReading map.live map.live job job'
      → IsRow job job' call reply
      → Answered map jobs' reply
  alone honest jobs' job job' reply keyed reading there set keeps reads is =
      row d map map failed jobs jobs' (alone_keyed jobs' job job' keyed there set keeps)
      (alone_reading jobs' job job' reading there set reads) (leaves_none map) (pack_of d) (Calls n call moment) reply
      (row_is honest jobs' job job' reply there set is) serves
