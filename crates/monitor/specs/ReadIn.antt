-- IN: what it does to a channel, and to the core that its words are moved into.
use Rattle.std.specs.Prelude.{◌≡◌, ◌⊎◌, ◌↔◌, ◌<◌, ℕ, ◌+◌, Bool, true, false, if◌then◌else◌, List, [], ◌∷◌, length}
use Rattle.std.specs.Prelude.{min, IsTrue, Option, None, Some, option_map, take, slice_set}
use Rattle.blockdisk.specs.Common.{DiskState, SameDisk, one_more}
use Rattle.changeset.specs.Common.{OnlyReads}
use Rattle.spec_machine.specs.Common.{dump_list, word_count, after_writes, dealt, lacks_header, slot, cleared}
use Rattle.spec_machine.specs.Common.{end_of_file, is_buffered, byte_size, data_words, in_ready, in_writes}
use Rattle.spec_image.specs.Common.{blocks_of, File, Files, HasBody, words_from}
use Rattle.spec_machine.specs.declared.area.Area.{Area}
use Rattle.spec_machine.specs.declared.call.Reply.{Reply}
use Rattle.spec_machine.specs.declared.call.Reply.TheVariants.{Done, Value, Refused, Stopped, NoChannel, AddressCheck}
use Rattle.spec_machine.specs.declared.call.Reply.TheVariants.{NoJob, NoMemory, Device, Failed, DateRange}
use Rattle.retrieval.specs.Common.{mode_number, VersionState}
use Rattle.volume.specs.Common.{MemoryMap, version_under, RestsAt}
use Rattle.volume.specs.declared.handles.VersionHandle.{VersionHandle}
use Rattle.volume.specs.declared.handles.VersionHandle.TheVariants.{Pinned, Pending}
use Rattle.monitor.specs.declared.channel.OpenChannel.{OpenChannel}
use Rattle.monitor.specs.declared.input.Input.{Input}
use Rattle.monitor.specs.declared.output.Output.{Output}
use Rattle.monitor.specs.declared.job.Job.{Job}
use Rattle.monitor.specs.declared.read_in.ReadIn.{ReadIn}
use Rattle.monitor.specs.declared.read_in.ReadIn.TheVariants as ends

-- the channel after this many words were read
abbrev pub read_on : OpenChannel → Input → ℕ → OpenChannel
read_on c i count = record c { status = cleared c.status; input = Some (record i { next = i.next + blocks_of count }) }

-- What an IN finds in core: the number of words that it asks for, and the core after the words of a file from some
-- place were moved in; it takes as many of these as it asks for.
pub record Asked : Type 0 where
  pub count : ℕ
  -- nothing is asked for, which is done even if the body has no words
  pub none : Bool
  pub filled : List ℕ → List ℕ

-- a command list that names nothing
abbrev pub names_none : List Area → Bool
names_none [] = true
names_none (area ∷ areas) = false

-- into areas of core
abbrev pub areas_asked : List ℕ → List Area → Asked
areas_asked core areas = record {
  count = word_count areas;
  none = names_none areas;
  filled = λ words. after_writes core (dealt areas words);
}

-- into the next buffer of a ring, in the core in which that buffer is ready for it
abbrev pub buffer_asked : OpenChannel → List ℕ → Asked
buffer_asked c ready = record {
  count = data_words;
  none = false;
  filled = λ words. after_writes ready
      (in_writes ready c.input_header (byte_size (mode_number c.mode)) (cleared c.status) (take data_words words));
}

-- By the channel's mode. None is AddressCheck.
abbrev pub asked_at : List ℕ → OpenChannel → ℕ → Option Asked
asked_at core c a =
    if is_buffered (mode_number c.mode)
    then option_map (buffer_asked c) (in_ready core c.input_header (byte_size (mode_number c.mode)))
    else option_map (areas_asked core) (dump_list core a)

-- An open channel with an input side, and with a ring's header if it needs one.
pub record IsAtInput (job : Job) (number : ℕ) : Type 0 where
  pub channel : OpenChannel
  pub there : slot job.channels number ≡ Some channel
  pub input : Input
  pub side : channel.input ≡ Some input
  pub has : lacks_header (mode_number channel.mode) channel.input_header ≡ false

-- The same, with what an IN finds for it in core.
pub record Ingoing (job : Job) (number a : ℕ) : Type 0 where
  pub at : IsAtInput job number
  pub asked : Asked
  pub found : asked_at job.core at.channel a ≡ Some asked

-- the version that a channel reads: while its output side is open, the one that this side writes; else the one that is
-- pinned
abbrev pub handle_read : Option Output → Input → VersionHandle
handle_read None i = Pinned i.pin
handle_read (Some o) i = Pending o.pending

-- This many words of a version are moved, from a block, into a core, which is then this one.
pub record Moves (d d' : DiskState) (c : MemoryMap) (core' : List ℕ) (handle : VersionHandle) (block : ℕ)
    (asked : Asked) (count : ℕ) : Type 0 where
  -- an IN that asks for words gets some
  pub some : count ≡ 0 → asked.none ≡ true
  pub many : (v : VersionState) → version_under c handle ≡ Some v → (body : List ℕ) → length body ≡ v.words
      → count ≡ min asked.count (length (words_from body block))
  pub words : d'.honest → (v : VersionState) → version_under c handle ≡ Some v → (body : List ℕ)
      → length body ≡ v.words → HasBody d.contents v.blocks body
      → core' ≡ asked.filled (words_from body block)

-- The version's body ends before the block, and something is asked for.
abbrev pub EndsBefore : MemoryMap → VersionHandle → ℕ → Asked → Type 0
EndsBefore c handle block asked =
    (v : VersionState) → version_under c handle ≡ Some v → (body : List ℕ) → length body ≡ v.words
    → (asked.none ≡ false) × (words_from body block ≡ [])

-- What an IN does to its job, by its answer, and by the disk before it and after it.
abbrev pub IsIn : DiskState → DiskState → MemoryMap → Job → Job → ℕ → ℕ → Reply → Type 0
IsIn d d' c job job' number a Done =
    (read : Ingoing job number a) × (count : ℕ) × (core : List ℕ)
    × (job' ≡ record job {
      core = core;
      channels = slice_set job.channels number (Some (read_on read.at.channel read.at.input count));
    })
    × Moves d d' c core (handle_read read.at.channel.output read.at.input) read.at.input.next read.asked count
IsIn d d' c job job' number a (Stopped status) =
    (read : Ingoing job number a) × (status ≡ cleared read.at.channel.status + end_of_file)
    × (job' ≡ record job {
      channels = slice_set job.channels number
          (Some (record read.at.channel { status = status }));
    })
    × EndsBefore c (handle_read read.at.channel.output read.at.input) read.at.input.next read.asked
IsIn d d' c job job' number a (Refused code) = (job' ≡ job) × (code ≡ 5) × (c : OpenChannel)
    × (slot job.channels number ≡ Some c)
    × ((c.input ≡ None) ⊎ (lacks_header (mode_number c.mode) c.input_header ≡ true))
IsIn d d' c job job' number a NoChannel = (job' ≡ job) × (slot job.channels number ≡ None)
IsIn d d' c job job' number a AddressCheck = (job' ≡ job) × (at : IsAtInput job number)
    × (asked_at job.core at.channel a ≡ None)
IsIn d d' c job job' number a NoMemory = (job' ≡ job) × Ingoing job number a
IsIn d d' c job job' number a Device = (job' ≡ job) × Ingoing job number a
IsIn d d' c job job' number a Failed = (job' ≡ job) × (d'.honest → ⊥)
IsIn d d' c job job' number a (Value word) = ⊥
IsIn d d' c job job' number a NoJob = ⊥
IsIn d d' c job job' number a DateRange = ⊥

-- What an IN leaves, however it ends: nothing is written, and core changes only if words were moved. `untouched` states
-- that the disk wasn't called, `broke` whether the volume has failed afterwards.
pub record LeavesRead (s s' : DiskState) (c c' : MemoryMap) (core core' : List ℕ) (untouched : Type 0) (broke : Bool)
    (result : ReadIn) : Type 0 where
  pub reads : s'.honest → OnlyReads s s'
  pub rests : s'.honest → (files : Files File) → RestsAt s files → RestsAt s' files
  pub volume : c' ≡ c
  pub kept : ((n : ℕ) → 0 < n → result ≡ ends.Moved n → ⊥) → core' ≡ core
  pub long : length core' ≡ length core
  pub idle : (result ≡ ends.AddressCheck) ⊎ (result ≡ ends.AtEnd) ⊎ (result ≡ ends.Moved 0)
      ⊎ (result ≡ ends.NoMemory) → untouched
  -- it fails with the volume, and blames the device if that failed
  pub failed : IsTrue broke ↔ ((result ≡ ends.Device) ⊎ (result ≡ ends.Failed))
  pub blamed : result ≡ ends.Failed → s'.honest → ⊥
  pub counted : result ≡ ends.Device → s'.failures ≡ one_more s.failures
  pub served : (result ≡ ends.Device → ⊥) → s'.failures ≡ s.failures
  pub same : SameDisk s s'
