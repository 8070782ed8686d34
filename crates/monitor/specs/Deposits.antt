-- Words that are put into a job's core one after the other.
use Rattle.std.specs.Prelude.{◌≡◌, ◌+◌, ℕ, Bool, List, [], ◌∷◌, Option}
use Rattle.blockdisk.specs.Common.{DiskState}
use Rattle.spec_image.specs.Common.{pack_of}
use Rattle.spec_machine.specs.Common.{Service, Answers}
use Rattle.spec_machine.specs.declared.call.Event.TheVariants.{Deposit}
use Rattle.spec_machine.specs.declared.call.Reply.TheVariants.{Done}
use Rattle.volume.specs.Common.{MemoryMap}
use Rattle.monitor.specs.Serves.{Serves}
use Rattle.monitor.specs.declared.job.Job.{Job}

-- The words were deposited for job n from the address `first`, each by an event of its own that was answered Done;
-- nothing changed except the jobs.
abbrev pub DepositsBy : DiskState → MemoryMap → Bool → ℕ → List (Option Job) → ℕ → List ℕ → List (Option Job) → Type 0
DepositsBy d map failed n jobs first [] last = last ≡ jobs
DepositsBy d map failed n jobs first (word ∷ words) last = (mid : List (Option Job))
    × ((old : Service) → Serves d map failed jobs old → (new : Service) × Serves d map failed mid new
    × Answers (pack_of d) old (Deposit n first word) Done new)
    × DepositsBy d map failed n mid (first + 1) words last
