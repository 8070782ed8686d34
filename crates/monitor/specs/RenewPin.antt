-- An input side that unpins its version, or pins another version of its file.
use Rattle.std.specs.Prelude.{◌≡◌, ℕ, [], true, false, Option, Some, Ok, option_to_list}
use Rattle.words36.specs.declared.names.FileName.{FileName}
use Rattle.blockdisk.specs.Common.{DiskState}
use Rattle.spec_image.specs.Common.{File, Files, get}
use Rattle.volume.specs.Common.{MemoryMap, pending_at, IsWholeMemory, IsPinAnswer, RestsAt}
use Rattle.volume.specs.declared.pending.PendingVersion.{PendingVersion}
use Rattle.monitor.specs.CloseChannel.{output_closed, closed_in}
use Rattle.monitor.specs.CloseSides.{Closes}
use Rattle.monitor.specs.LookupFile.{IsHolding}
use Rattle.monitor.specs.Sides.{pins_of}
use Rattle.monitor.specs.declared.channel.OpenChannel.{OpenChannel}
use Rattle.monitor.specs.declared.input.Input.{Input}
use Rattle.monitor.specs.declared.job.Job.{Job}

-- The version that a side had pinned, if any, is unpinned; what is written stays.
pub record LetsGo (c c' : MemoryMap) (input : Option Input) : Type 0 where
  pub closed : Closes c c' [] (pins_of (option_to_list input))
  pub pending : c'.pending ≡ c.pending

-- It pins the version that a place has now, whose file has this protection, and the one that it had pinned is unpinned;
-- its next block stays.
pub record Renews (c c' : MemoryMap) (input renewed : Input) (ppn : ℕ) (file : FileName)
    (protection : ℕ) : Type 0 where
  -- the version, pinned once more
  pub held : Input
  pub at : (held.ppn ≡ ppn) × (held.file ≡ file)
  pub between : MemoryMap
  pub holds : IsHolding c between held
  pub closed : Closes between c' [] (pins_of (option_to_list (Some input)))
  pub pending : c'.pending ≡ between.pending
  pub renewed_is : renewed ≡ record input { pin = held.pin; protection = protection }

-- What becomes of an input side that stays: it pins the version that is published, whose place this is.
pub record HoldsPublished (d' : DiskState) (c b c' : MemoryMap) (key : ℕ) (job job' : Job) (number : ℕ)
    (channel : OpenChannel) (input : Input) : Type 0 where
  pub renewed : Input
  pub ppn : ℕ
  pub file : FileName
  pub protection : ℕ
  pub renews : Renews b c' input renewed ppn file protection
  pub place : (p : PendingVersion) → pending_at c.pending key ≡ Some p → (ppn ≡ p.prime.ppn) × (file ≡ p.prime.file)
      × (protection ≡ p.prime.protection)
  pub whole : IsWholeMemory d'.size b
  pub pinned : d'.honest → (files : Files File) → RestsAt d' files
      → IsPinAnswer d'.contents renews.between.live file (Ok renewed.pin) (get files ppn)
  pub job_is : job' ≡ closed_in job number channel true false (Some (output_closed channel renewed))
