-- What a call does to the job that makes it, by the machine's row.
use Rattle.std.specs.Prelude.{◌≡◌, ◌⊎◌, ℕ, ◌+◌, ◌==◌, ◌||◌, ◌&&◌, not, is_some, false, Bool, if◌then◌else◌, ◌++◌}
use Rattle.std.specs.Prelude.{List, Option, None, Some}
use Rattle.std.specs.List.{AllByRecursion}
use Rattle.words36.specs.declared.moment.Moment.{Moment}
use Rattle.spec_machine.specs.Common.{keeps_output, discards, after_writes, State, job_at, with_job, disk, mode_at}
use Rattle.spec_machine.specs.Common.{device_at, output_header_at, input_header_at, is_mode, header_opened, is_buffered}
use Rattle.spec_machine.specs.Common.{call_of}
use Rattle.spec_image.specs.Common.{times, Pack}
use Rattle.spec_machine.specs.declared.call.Call.{Call}
use Rattle.spec_machine.specs.declared.call.Reply.{Reply}
use Rattle.retrieval.specs.Common.{mode_number}
use Rattle.retrieval.specs.declared.mode.Mode.{Mode}
use Rattle.volume.specs.Common.{pending_at, slot, is_creation}
use Rattle.volume.specs.declared.live.LiveVersion.{LiveVersion}
use Rattle.volume.specs.declared.pending.PendingVersion.{PendingVersion}
use Rattle.monitor.specs.Readers.{readers_of}
use Rattle.monitor.specs.Serves.{present, IsSide, HasReaders}
use Rattle.monitor.specs.Sides.{UnderKeys, sides_in, keys_of, readers_in, pins_of, job_of}
use Rattle.monitor.specs.declared.channel.OpenChannel.{OpenChannel}
use Rattle.monitor.specs.declared.output.Output.{Output}
use Rattle.monitor.specs.declared.job.Job.{Job}
use Rattle.spec_machine.specs.Jobs as machine

-- The job is this one after the call, with this answer, whatever is written and read; and nothing else changes.
abbrev pub IsRow : Job → Job → Call → Reply → Type 0
IsRow job job' call reply =
    (pack : Pack) (serial : ℕ) (s : State) (n : ℕ) (under : UnderKeys) (moment : Moment)
    → job_at s n ≡ Some (job_of under job)
    → call_of pack serial s n (job_of under job) call moment ≡ (reply, with_job s n (job_of under job'))

-- a version that was not there, or that was there and is new in its directory exactly if it was before
abbrev pub IsOldOrNew : Option PendingVersion → PendingVersion → Type 0
IsOldOrNew was p = (was ≡ None) ⊎ ((q : PendingVersion) × (was ≡ Some q) × (is_creation p ≡ is_creation q))

-- Versions come and go with the output sides of a job.
pub record KeepsSides (pending pending' : List (Option PendingVersion)) (job job' : Job) : Type 0 where
  pub once : (key : ℕ) → present (pending_at pending' key) + times key (keys_of (sides_in (Some job)))
      ≡ present (pending_at pending key) + times key (keys_of (sides_in (Some job')))
  pub known : (key : ℕ) (p : PendingVersion) → pending_at pending' key ≡ Some p → IsOldOrNew (pending_at pending key) p
  pub each : AllByRecursion (IsSide pending') (sides_in (Some job))
      → AllByRecursion (IsSide pending') (sides_in (Some job'))

-- Versions are pinned and unpinned with the input sides of a job, which stay valid.
pub record KeepsReading (live live' : List (Option LiveVersion)) (job job' : Job) : Type 0 where
  pub once : (key : ℕ) → readers_of (slot live' key) + times key (pins_of (readers_in (Some job)))
      ≡ readers_of (slot live key) + times key (pins_of (readers_in (Some job')))
  pub each : HasReaders job → HasReaders job'

-- OPEN.

-- the device isn't the disk, or there is no such mode
abbrev pub improper_at : List ℕ → ℕ → Bool
improper_at core a = not (device_at core a == disk) || not (is_mode (mode_at core a))

-- the channel that is opened in a mode
abbrev pub opened_at : Mode → List ℕ → ℕ → OpenChannel
opened_at mode core a = record {
  mode = mode;
  input_header = input_header_at core a;
  output_header = output_header_at core a;
  status = mode_at core a;
  input = None;
  output = None;
}

-- the core, in which each header that a mode with buffers asks for has a ring that isn't set up yet, the output's first
abbrev pub rings_opened : List ℕ → OpenChannel → List ℕ
rings_opened core c =
    if is_buffered (mode_number c.mode)
    then after_writes core (header_opened (mode_number c.mode) c.output_header
    ++ header_opened (mode_number c.mode) c.input_header)
    else core

-- CLOSE.

-- a channel has an output side, and a CLOSE with these bits publishes it
abbrev pub publishes_at : Option OpenChannel → ℕ → Bool
publishes_at None bits = false
publishes_at (Some c) bits = is_some c.output && not (keeps_output bits) && not (discards bits)

-- the same for a job's channel, if there is such a job
abbrev pub publishes_by : ℕ → ℕ → Option Job → Bool
publishes_by number bits None = false
publishes_by number bits (Some job) = publishes_at (machine.slot job.channels number) bits

-- The job's open channel has this output side, which a CLOSE with these bits publishes.
pub record ClosesSide (job : Job) (number bits : ℕ) (c : OpenChannel) (o : Output) : Type 0 where
  pub there : machine.slot job.channels number ≡ Some c
  pub side : c.output ≡ Some o
  pub closes : keeps_output bits ≡ false
  pub keeps : discards bits ≡ false
