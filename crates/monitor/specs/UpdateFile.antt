-- What an ENTER does on a channel that reads a file: it updates that file as it is now, or appends to it.
use Rattle.std.specs.Prelude.{◌≡◌, ℕ, ◌+◌, ◌&&◌, ◌==◌, if◌then◌else◌, true, Bool, None, Some, Result, Ok, Err}
use Rattle.std.specs.Prelude.{slice_set}
use Rattle.blockdisk.specs.Common.{Contents}
use Rattle.spec_image.specs.Common.{File, Files, Place, get, Pack, place_of}
use Rattle.spec_machine.specs.Common.{State, slot, cleared, place_at, with_attributes, has_no_directory, file_digit}
use Rattle.spec_machine.specs.Common.{directory_digit, may_look, may_append, may_update, update_answer}
use Rattle.spec_image.specs.declared.code.ErrorCode.{ErrorCode}
use Rattle.spec_image.specs.declared.code.ErrorCode.TheVariants.{NotFound, NoDirectory}
use Rattle.spec_machine.specs.declared.call.Reply.{Reply}
use Rattle.spec_machine.specs.declared.call.Reply.TheVariants.{Refused}
use Rattle.retrieval.specs.declared.prime.Prime.{Prime}
use Rattle.volume.specs.Common.{is_update, IsBegun, MemoryMap, pending_at, as_written, IsVersionOf, IsPinAnswer}
use Rattle.volume.specs.declared.pending.PendingKind.{PendingKind}
use Rattle.volume.specs.declared.pending.PendingVersion.{PendingVersion}
use Rattle.monitor.specs.FoundPlaces.{begun_as, file_begun}
use Rattle.monitor.specs.LookupAnswers.{named_in}
use Rattle.monitor.specs.RenewPin.{Renews}
use Rattle.monitor.specs.Sides.{UnderKeys, job_of}
use Rattle.monitor.specs.declared.channel.OpenChannel.{OpenChannel}
use Rattle.monitor.specs.declared.found.Found.{Found}
use Rattle.monitor.specs.declared.input.Input.{Input}
use Rattle.monitor.specs.declared.job.Job.{Job}
use Rattle.monitor.specs.declared.output.OutputKind.{OutputKind}
use Rattle.monitor.specs.declared.output.OutputKind.TheVariants.{Update, Append}
use Rattle.monitor.specs.declared.output.Output.{Output}
use Rattle.spec_machine.specs.Jobs as machine
use Rattle.volume.specs.declared.pending.PendingKind.TheVariants as kinds
use Rattle.monitor.specs.declared.found.Found.TheVariants as found

-- How a job may write over the file of a place, or why not: `who` asks, in the directory of `owner`.

-- by the job's digit for the file, if it may do one of the two
abbrev pub update_kind : ℕ → PendingKind
update_kind digit = if may_update digit then kinds.Update else kinds.Append

abbrev pub allowed_update : Found → ℕ → ℕ → Bool → Bool → Result PendingKind ErrorCode
allowed_update found.NoDirectory who owner is_zero is_claimed = Err NoDirectory
allowed_update (found.Absent p) who owner is_zero is_claimed = Err NotFound
allowed_update (found.Present p q) who owner is_zero is_claimed = begun_as (update_kind (file_digit q who owner))
    (may_look (directory_digit p who owner) && may_append (file_digit q who owner)) is_zero is_claimed

-- what the machine answers to an ENTER that may still begin, on a channel that reads the file of the place
abbrev pub update_answer_at : Pack → State → machine.SpecJob → Place → Reply
update_answer_at pack s job place =
    if has_no_directory s place then Refused 1
    else if place.name.name == 0 then Refused 0
    else update_answer pack s job place

-- The output side of a version that was begun in this way: an append keeps its blocks, and writes after them.

abbrev pub updating_kind : PendingKind → ℕ → OutputKind
updating_kind kinds.Create blocks = Update
updating_kind kinds.Supersede blocks = Update
updating_kind kinds.Update blocks = Update
updating_kind kinds.Append blocks = Append blocks

abbrev pub first_block : PendingKind → ℕ → ℕ
first_block kinds.Create blocks = 1
first_block kinds.Supersede blocks = 1
first_block kinds.Update blocks = 1
first_block kinds.Append blocks = blocks + 1

abbrev pub updating_side : ℕ → PendingKind → ℕ → Output
updating_side key kind blocks = record {
  pending = record { key = key };
  kind = updating_kind kind blocks;
  next = first_block kind blocks;
}

-- the channel with both sides
abbrev pub updating : OpenChannel → Input → Output → OpenChannel
updating c input output = record c { status = cleared c.status; input = Some input; output = Some output }

-- A version is begun under this key for the file that the channel reads, and its input side then pins the version that
-- the file has now.
pub record IsUpdating (c c' : MemoryMap) (job job' : Job) (number address : ℕ) (channel : OpenChannel) (input : Input)
    (key : ℕ) : Type 0 where
  pub there : slot job.channels number ≡ Some channel
  pub side : channel.input ≡ Some input
  pub free : channel.output ≡ None
  -- the words name the place of what is read
  pub named : (under : UnderKeys) → place_of input.ppn input.file ≡ place_at (job_of under job) address
  pub kind : PendingKind
  pub updates : is_update kind ≡ true
  pub prime : Prime
  pub prime_is : (prime.ppn ≡ input.ppn) × (prime.file ≡ input.file)
  pub between : MemoryMap
  pub begun : IsBegun c between key kind prime
  pub version : PendingVersion
  pub version_is : pending_at between.pending key ≡ Some version
  pub renewed : Input
  pub renews : Renews between c' input renewed input.ppn input.file version.prime.protection
  pub job_is : job' ≡ record job {
    core = with_attributes 2 job.core address (file_begun version.prime);
    channels = slice_set job.channels number
        (Some (updating channel renewed (updating_side key kind version.kept_blocks)));
  }

-- What holds for it if this is the file of its place, and the contents have the words of both versions.
pub record IsUpdateOf (contents : Contents) (job : Job) (input : Input) (kind : PendingKind) (version : PendingVersion)
    (held : MemoryMap) (renewed : Input) (files : Files File) : Type 0 where
  pub file : File
  pub there : named_in (get files input.ppn) input.file ≡ Some file
  pub begins : IsVersionOf contents (as_written version) file
  pub pinned : IsPinAnswer contents held.live input.file (Ok renewed.pin) (get files input.ppn)
  pub kind_is : kind ≡ update_kind (file_digit file.protection job.ppn input.ppn)
