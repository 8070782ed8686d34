-- OUT: the words that it finds in core, and what it does to the version that is written.
use Rattle.std.specs.Prelude.{◌≡◌, ◌⊎◌, ℕ, ◌+◌, ◌<◌, true, false, if◌then◌else◌, List, length, Option, None, Some}
use Rattle.std.specs.Prelude.{option_map, slice_set}
use Rattle.blockdisk.specs.Common.{DiskState}
use Rattle.spec_machine.specs.Common.{dump_list, after_writes, joined, lacks_header, slot, cleared, block_too_large}
use Rattle.spec_machine.specs.Common.{is_before_end, is_buffered, byte_size, out_ready, out_writes, ring_words}
use Rattle.spec_image.specs.Common.{blocks_of, HasBody, splice, length_after}
use Rattle.spec_machine.specs.declared.area.Area.{Area}
use Rattle.spec_machine.specs.declared.call.Reply.{Reply}
use Rattle.spec_machine.specs.declared.call.Reply.TheVariants.{Done, Value, Refused, Stopped, NoChannel, AddressCheck}
use Rattle.spec_machine.specs.declared.call.Reply.TheVariants.{NoJob, NoMemory, Device, Failed, DateRange}
use Rattle.alloctab.specs.Common.{space}
use Rattle.retrieval.specs.Common.{mode_number, VersionState}
use Rattle.volume.specs.Common.{rise, IsTooLong, Outgrows, MemoryMap, pending_at}
use Rattle.volume.specs.declared.pending.PendingVersion.{PendingVersion}
use Rattle.monitor.specs.Sides.{kind_of}
use Rattle.monitor.specs.declared.channel.OpenChannel.{OpenChannel}
use Rattle.monitor.specs.declared.output.Output.{Output}
use Rattle.monitor.specs.declared.job.Job.{Job}
use Rattle.spec_machine.specs.Outputs as outputs

-- What it finds: the words that the command list at an address names, or those of a ring's current buffer; and the core
-- that it leaves. None is AddressCheck.

abbrev pub words_listed : List ℕ → List Area → outputs.Outgoing
words_listed core areas = record { words = joined core areas; core = core }

abbrev pub buffer_put : OpenChannel → List ℕ → outputs.Outgoing
buffer_put c ready = record {
  words = ring_words ready c.output_header;
  core = after_writes ready (out_writes ready c.output_header (byte_size (mode_number c.mode)));
}

abbrev pub outgoing_at : List ℕ → OpenChannel → ℕ → Option outputs.Outgoing
outgoing_at core c a =
    if is_buffered (mode_number c.mode)
    then option_map (buffer_put c) (out_ready core c.output_header (byte_size (mode_number c.mode)))
    else option_map (words_listed core) (dump_list core a)

-- the channel after this many words were put
abbrev pub moved : OpenChannel → Output → ℕ → OpenChannel
moved c o count = record c { status = cleared c.status; output = Some (record o { next = o.next + blocks_of count }) }

-- This many words find no place at the next block of this side's version: they make it too long, or cost more than
-- there is room for or than the directory has left, or would be put over what an append began with.
abbrev pub FindsNone : ℕ → MemoryMap → PendingVersion → Output → ℕ → Type 0
FindsNone size c p o count =
    (0 < count) × (IsTooLong p o.next count ⊎ (space size < c.known.table.booked + rise p o.next count)
    ⊎ Outgrows c p o.next count ⊎ (is_before_end (kind_of o.kind) o.next ≡ true))

-- Whatever room there is, they may not be put there, for one of the last two reasons.
abbrev pub IsBarred : MemoryMap → PendingVersion → Output → ℕ → Type 0
IsBarred c p o count =
    (0 < count) × (((IsTooLong p o.next count → ⊥) × Outgrows c p o.next count)
    ⊎ (is_before_end (kind_of o.kind) o.next ≡ true))

-- An open channel with an output side, and with a ring's header if it needs one.
pub record IsAtOutput (job : Job) (number : ℕ) : Type 0 where
  pub channel : OpenChannel
  pub there : slot job.channels number ≡ Some channel
  pub output : Output
  pub side : channel.output ≡ Some output
  pub has : lacks_header (mode_number channel.mode) channel.output_header ≡ false

-- The same, with the words that an OUT finds for it, and the core that it leaves.
pub record OutgoingSide (job : Job) (number a : ℕ) : Type 0 where
  pub at : IsAtOutput job number
  pub words : List ℕ
  pub core : List ℕ
  pub found : outgoing_at job.core at.channel a ≡ Some (record { words = words; core = core })

-- The words are put at the side's next block of its version.
pub record Puts (d d' : DiskState) (c c' : MemoryMap) (o : Output) (words : List ℕ) (p : PendingVersion) : Type 0 where
  pub fits : FindsNone d.size c p o (length words) → ⊥
  pub version : VersionState
  pub here : pending_at c'.pending o.pending.key ≡ Some (record p { version = version })
  pub length_is : version.words ≡ length_after p.version.words o.next (length words)
  pub body : d'.honest → (body : List ℕ) → length body ≡ p.version.words → HasBody d.contents p.version.blocks body
      → HasBody d'.contents version.blocks (splice body o.next words)

-- As `OutgoingSide`, but the words themselves were not gathered.
pub record HasOutgoing (job : Job) (number a : ℕ) : Type 0 where
  pub at : IsAtOutput job number
  pub found : outgoing_at job.core at.channel a ≡ None → ⊥

-- a version is not that of an output side
abbrev pub IsOtherSide : Option Output → ℕ → Type 0
IsOtherSide None key = Unit {0}
IsOtherSide (Some o) key = key ≡ o.pending.key → ⊥

-- nor that of a channel's output side, if it has one
abbrev pub IsOther : Option OpenChannel → ℕ → Type 0
IsOther None key = Unit {0}
IsOther (Some c) key = IsOtherSide c.output key

-- What an OUT does to its job and to the version, by its answer; `same` states that disk and volume are as they were.
abbrev pub IsOut : DiskState → DiskState → MemoryMap → MemoryMap → Type 0 → Job → Job → ℕ → ℕ → Reply → Type 0
IsOut d d' c c' same job job' number a Done =
    (out : OutgoingSide job number a) × (job' ≡ record job {
      core = out.core;
      channels = slice_set job.channels number (Some (moved out.at.channel out.at.output (length out.words)));
    })
    × ((p : PendingVersion) → pending_at c.pending out.at.output.pending.key ≡ Some p
    → Puts d d' c c' out.at.output out.words p)
IsOut d d' c c' same job job' number a (Stopped status) =
    (out : OutgoingSide job number a) × (status ≡ cleared out.at.channel.status + block_too_large)
    × (job' ≡ record job {
      channels = slice_set job.channels number (Some (record out.at.channel { status = status }));
    })
    × ((p : PendingVersion) → pending_at c.pending out.at.output.pending.key ≡ Some p
    → FindsNone d.size c p out.at.output (length out.words)) × same
IsOut d d' c c' same job job' number a (Refused code) = (code ≡ 5) × (job' ≡ job) × same × (c : OpenChannel)
    × (slot job.channels number ≡ Some c)
    × ((c.output ≡ None) ⊎ (lacks_header (mode_number c.mode) c.output_header ≡ true))
IsOut d d' c c' same job job' number a NoChannel = (job' ≡ job) × same × (slot job.channels number ≡ None)
IsOut d d' c c' same job job' number a AddressCheck = (job' ≡ job) × same × (at : IsAtOutput job number)
    × (outgoing_at job.core at.channel a ≡ None)
IsOut d d' c c' same job job' number a NoMemory = (job' ≡ job) × same × HasOutgoing job number a
IsOut d d' c c' same job job' number a Device = (job' ≡ job) × HasOutgoing job number a
IsOut d d' c c' same job job' number a Failed = d'.honest → ⊥
IsOut d d' c c' same job job' number a (Value word) = ⊥
IsOut d d' c c' same job job' number a NoJob = ⊥
IsOut d d' c c' same job job' number a DateRange = ⊥
