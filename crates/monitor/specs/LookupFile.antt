-- What a LOOKUP does to a job and to a volume in memory.
use Rattle.std.specs.Prelude.{◌≡◌, ℕ, ◌+◌, true, List, [], ◌∷◌, length, Option, None, Some, slice_set, option_to_list}
use Rattle.blockdisk.specs.Common.{Contents}
use Rattle.spec_machine.specs.Common.{after_writes, State, slot, cleared, lookup_answer, place_at, with_attributes}
use Rattle.spec_machine.specs.Common.{size_word, refused_at}
use Rattle.spec_image.specs.Common.{SpecVersion, file_at, place_of}
use Rattle.spec_machine.specs.declared.call.Reply.{Reply}
use Rattle.spec_machine.specs.declared.call.Reply.TheVariants.{Done, NoChannel}
use Rattle.volume.specs.Common.{as_known, MemoryMap, slot as version_at, IsVersionOf, prime_at}
use Rattle.volume.specs.declared.live.LiveVersion.{LiveVersion}
use Rattle.monitor.specs.CloseSides.{Closes}
use Rattle.monitor.specs.Sides.{UnderKeys, pins_of, job_of}
use Rattle.monitor.specs.declared.channel.OpenChannel.{OpenChannel}
use Rattle.monitor.specs.declared.input.Input.{Input}
use Rattle.monitor.specs.declared.job.Job.{Job}
use Rattle.spec_machine.specs.Jobs as machine

-- the channel with an input side that has read nothing
abbrev pub looking : OpenChannel → Input → OpenChannel
looking c input = record c { status = cleared c.status; input = Some input }

-- The version that memory has for the input's place has one reader more; nothing else changes.
pub record IsHolding (c c' : MemoryMap) (input : Input) : Type 0 where
  pub at : (v : LiveVersion) × (version_at c.live input.pin.key ≡ Some v) × (v.is_current ≡ true)
      × (prime_at c input.ppn input.file ≡ Some v.at)
  pub pinned : (v : LiveVersion) × (version_at c.live input.pin.key ≡ Some v)
      × (version_at c'.live input.pin.key ≡ Some (record v { readers = v.readers + 1 }))
  pub others : (k : ℕ) → (k ≡ input.pin.key → ⊥) → version_at c'.live k ≡ version_at c.live k
  pub map : c' ≡ record c { live = c'.live }

-- A version is pinned for a channel that had no output side; then the one that the channel read before is unpinned.
pub record IsLookingUp (c held c' : MemoryMap) (job job' : Job) (number address : ℕ) (channel : OpenChannel)
    (input : Input) : Type 0 where
  pub there : slot job.channels number ≡ Some channel
  pub free : channel.output ≡ None
  pub next : input.next ≡ 1
  pub place : (under : UnderKeys) → place_of input.ppn input.file ≡ place_at (job_of under job) address
  pub holds : IsHolding c held input
  pub closed : Closes held c' [] (pins_of (option_to_list channel.input))
  pub job_is : job'
      ≡ record job { core = job'.core; channels = slice_set job.channels number (Some (looking channel input)) }

-- The version that is pinned is the machine's at the place, and the attributes and the size of its file are put into
-- the words.
pub record IsLookedUp (contents : Contents) (live : List (Option LiveVersion)) (s : State) (job job' : Job)
    (address : ℕ) (input : Input) : Type 0 where
  pub version : SpecVersion
  pub there : file_at s.files (place_of input.ppn input.file) ≡ Some version
  pub protection : input.protection ≡ version.file.protection
  pub held : (v : LiveVersion) × (version_at live input.pin.key ≡ Some v)
      × IsVersionOf contents (as_known v) version.file
  pub core : job'.core ≡ after_writes (with_attributes 2 job.core address version.file)
      ((address + 3, size_word (length version.file.body)) ∷ [])

-- The answer on this channel, and what every answer except Done leaves of the job.
abbrev pub IsLookupRow : State → machine.SpecJob → machine.SpecJob → Option machine.Channel → ℕ → Reply → Type 0
IsLookupRow s job job' None e reply = (reply ≡ NoChannel) × (job' ≡ job)
IsLookupRow s job job' (Some c) e reply = (lookup_answer s job c e (place_at job e) ≡ reply)
    × ((reply ≡ Done → ⊥) → job' ≡ refused_at job e reply)
