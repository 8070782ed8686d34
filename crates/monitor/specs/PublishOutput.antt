-- A CLOSE or RELEAS publishes what an output side has written: the version under its key becomes the file of its name.
use Rattle.std.specs.Prelude.{◌≡◌, ◌⊎◌, ◌<◌, ◌+◌, ℕ, Bool, true, false, if◌then◌else◌, List, [], length, Option, Some}
use Rattle.std.specs.Prelude.{None, slice_set}
use Rattle.words36.specs.declared.moment.Moment.{Moment}
use Rattle.blockdisk.specs.Common.{DiskState, LeavesOnly, SameDisk, one_more}
use Rattle.spec_image.specs.Common.{File, Files, pack_of, StandsOn, without_serials, HasBody, splice, length_after}
use Rattle.spec_machine.specs.Common.{State, cleared, block_too_large, is_buffered, last_words, Service, Serving}
use Rattle.spec_machine.specs.Common.{Answers, step}
use Rattle.spec_machine.specs.declared.call.Call.{Call}
use Rattle.spec_machine.specs.declared.call.Event.TheVariants.{Call as Calls}
use Rattle.spec_machine.specs.declared.call.Reply.{Reply}
use Rattle.spec_machine.specs.declared.call.Reply.TheVariants.{Done, Value, Refused, Stopped, NoChannel, AddressCheck}
use Rattle.spec_machine.specs.declared.call.Reply.TheVariants.{NoJob, NoMemory, Device, Failed, DateRange}
use Rattle.retrieval.specs.Common.{mode_number}
use Rattle.volume.specs.Common.{MemoryMap, slot, pending_at, IsPublishedMemory, file_of, files_published, RestsAt}
use Rattle.volume.specs.Common.{StandsForOneOf, KeepsRead, KeepsWritten}
use Rattle.volume.specs.declared.live.LiveVersion.{LiveVersion}
use Rattle.volume.specs.declared.pending.PendingVersion.{PendingVersion}
use Rattle.monitor.specs.WriteOut.{FindsNone}
use Rattle.monitor.specs.Serves.{AreKeyed, ArePlaced, AreReading, IsState, IsTimely, Serves}
use Rattle.monitor.specs.declared.channel.OpenChannel.{OpenChannel}
use Rattle.monitor.specs.declared.job.Job.{Job}
use Rattle.monitor.specs.declared.output.Output.{Output}
use Rattle.spec_machine.specs.Jobs as machine

-- The words of a channel's last buffer, which are put before it publishes: none in dump mode. None is AddressCheck.
abbrev pub last_at : List ℕ → OpenChannel → Option (List ℕ)
last_at core c = if is_buffered (mode_number c.mode) then last_words core c.output_header else Some []

-- What holds whatever the answer, if these are the last words.
pub record MayPublish (d d' : DiskState) (c c' : MemoryMap) (o : Output) (last : List ℕ) : Type 0 where
  -- a crash leaves the files from before, or those with the version whole
  pub crash : d'.honest → (f : Files File) → RestsAt d f → (p : PendingVersion)
      → pending_at c.pending o.pending.key ≡ Some p
      → (body : List ℕ) → length body ≡ p.version.words → HasBody d.contents p.version.blocks body
      → LeavesOnly d d' (StandsForOneOf (pack_of d) f
      (files_published f p.prime.ppn p.prime.file (file_of p.prime (splice body o.next last))))
  -- all other versions stay
  pub others : (k : ℕ) → (k ≡ o.pending.key → ⊥) → pending_at c'.pending k ≡ pending_at c.pending k
  pub held : (k : ℕ) (v : LiveVersion) → slot c.live k ≡ Some v → 0 < v.readers
      → (b : Bool) × (slot c'.live k ≡ Some (record v { is_current = b }))

-- What holds if it is done.
pub record HasPublished (d d' : DiskState) (c c' : MemoryMap) (o : Output) (last : List ℕ) : Type 0 where
  pub fits : (p : PendingVersion) → pending_at c.pending o.pending.key ≡ Some p
      → FindsNone d.size c p o (length last) → ⊥
  pub files : d'.honest → (f : Files File) → RestsAt d f → (p : PendingVersion)
      → pending_at c.pending o.pending.key ≡ Some p
      → (body : List ℕ) → length body ≡ p.version.words → HasBody d.contents p.version.blocks body
      → RestsAt d' (files_published f p.prime.ppn p.prime.file (file_of p.prime (splice body o.next last)))
  -- the blocks of all other versions stay
  pub readers : d'.honest → KeepsRead d.contents d'.contents c
  pub writers : d'.honest → KeepsWritten d.contents d'.contents c o.pending.key
  pub map : (p : PendingVersion) → pending_at c.pending o.pending.key ≡ Some p
      → IsPublishedMemory d.size c c' o.pending.key p (length_after p.version.words o.next (length last))
  pub gone : pending_at c'.pending o.pending.key ≡ None

-- What each answer states of the volume, and of how often the disk has failed; there is no other answer.
abbrev pub IsPublishing : (d d' : DiskState) (c c' : MemoryMap) (failed failed' : Bool) (channel : OpenChannel)
    (o : Output)
    (last : Option (List ℕ)) → Reply → Type 0
IsPublishing d d' c c' failed failed' channel o last Done = (words : List ℕ) × (last ≡ Some words)
    × HasPublished d d' c c' o words × (failed ≡ false) × (failed' ≡ false) × (d'.failures ≡ d.failures)
IsPublishing d d' c c' failed failed' channel o last (Value word) = ⊥
IsPublishing d d' c c' failed failed' channel o last (Refused code) = ⊥
IsPublishing d d' c c' failed failed' channel o last (Stopped status) = (words : List ℕ) × (last ≡ Some words)
    × (status ≡ cleared channel.status + block_too_large)
    × ((p : PendingVersion) → pending_at c.pending o.pending.key ≡ Some p → FindsNone d.size c p o (length words))
    × (failed ≡ false) × (failed' ≡ false)
IsPublishing d d' c c' failed failed' channel o last NoChannel = ⊥
IsPublishing d d' c c' failed failed' channel o last AddressCheck = (last ≡ None) × (failed ≡ false) × (failed' ≡ false)
IsPublishing d d' c c' failed failed' channel o last NoJob = ⊥
IsPublishing d d' c c' failed failed' channel o last NoMemory = (words : List ℕ) × (last ≡ Some words)
    × (failed ≡ false) × (failed' ≡ false)
IsPublishing d d' c c' failed failed' channel o last Device = (words : List ℕ) × (last ≡ Some words)
    × ((p : PendingVersion) → pending_at c.pending o.pending.key ≡ Some p → FindsNone d.size c p o (length words) → ⊥)
    × (failed ≡ false) × (failed' ≡ true) × (d'.failures ≡ one_more d.failures)
IsPublishing d d' c c' failed failed' channel o last Failed = ((failed ≡ true) ⊎ (d'.honest → ⊥)) × (failed' ≡ true)
    × (d'.failures ≡ d.failures)
IsPublishing d d' c c' failed failed' channel o last DateRange = ⊥

-- A version is published, after which memory is `between`. What is unpinned or pinned after that is not stated here.
pub record PublishesBy (d d' : DiskState) (c between : MemoryMap) (failed failed' : Bool) (channel : OpenChannel)
    (o : Output) (last : Option (List ℕ)) (reply : Reply) : Type 0 where
  pub whatever : (words : List ℕ) → last ≡ Some words → MayPublish d d' c between o words
  pub answered : IsPublishing d d' c between failed failed' channel o last reply
  pub same : SameDisk d d'

-- What the caller has become, and the answer, are those of the machine's row, whichever job made the call.
abbrev pub IsPublishRow : (d d' : DiskState) (c c' : MemoryMap) (failed' : Bool) → Job → Job → Call → Reply → Type 0
IsPublishRow d d' c c' failed' job job' call reply =
    d'.honest → ArePlaced c → (jobs : List (Option Job)) (n : ℕ) (moment : Moment) → machine.slot jobs n ≡ Some job
    → IsTimely d moment → (s : State) → IsState d c jobs s
    → (new : Service) × Serves d' c' failed' (slice_set jobs n (Some job')) new
    × Answers (pack_of d) (Serving s) (Calls n call moment) reply new

-- A crash leaves the files from before, or those of the machine's row.
abbrev pub CrashesAsRow : (d d' : DiskState) (c : MemoryMap) → Job → Call → Type 0
CrashesAsRow d d' c job call =
    d'.honest → (jobs : List (Option Job)) (n : ℕ) (moment : Moment) → machine.slot jobs n ≡ Some job
    → IsTimely d moment → (s : State) → IsState d c jobs s
    → LeavesOnly d d' (λ contents. StandsOn (pack_of d) contents (without_serials s.files)
    ⊎ ((serial : ℕ)
    × StandsOn (pack_of d) contents (without_serials ((step (pack_of d) serial s (Calls n call moment)).1.files))))

-- If the volume hasn't failed, the sides of all jobs are still those of the versions that are being written and read,
-- and each that is written may be published.
abbrev pub StillStands : (c c' : MemoryMap) (failed' : Bool) → Job → Job → Type 0
StillStands c c' failed' job job' =
    (jobs : List (Option Job)) (n : ℕ) → machine.slot jobs n ≡ Some job → AreKeyed c.pending jobs → ArePlaced c
    → AreReading c.live jobs → failed' ≡ false
    → AreKeyed c'.pending (slice_set jobs n (Some job')) × ArePlaced c'
    × AreReading c'.live (slice_set jobs n (Some job'))
