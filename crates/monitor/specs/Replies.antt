-- The answers to events, whatever the disk does.
use Rattle.std.specs.Prelude.{◌≡◌, ◌⊎◌, ℕ, nat_lt, if◌then◌else◌, length, Option, None, Some, slice_index}
use Rattle.monitor.specs.declared.job.Job.{Job}
use Rattle.spec_machine.specs.Common.{last_date}
use Rattle.spec_machine.specs.declared.call.Reply.{Reply}
use Rattle.spec_machine.specs.declared.call.Reply.TheVariants.{Done, Value, Refused, Stopped, NoChannel, AddressCheck}
use Rattle.spec_machine.specs.declared.call.Reply.TheVariants.{NoJob, NoMemory, Device, Failed, DateRange}

-- what a list is refused with: there is no such directory, or it may not be listed; the device is never blamed
abbrev pub IsListRefusal : Reply → Type 0
IsListRefusal Done = ⊥
IsListRefusal (Value word) = ⊥
IsListRefusal (Refused code) = (code ≡ 1) ⊎ (code ≡ 2)
IsListRefusal (Stopped status) = ⊥
IsListRefusal NoChannel = ⊥
IsListRefusal AddressCheck = ⊥
IsListRefusal NoJob = Unit {0}
IsListRefusal NoMemory = Unit {0}
IsListRefusal Device = ⊥
IsListRefusal Failed = Unit {0}
IsListRefusal DateRange = ⊥

-- the answer to a RESET, by the job, if there is one
abbrev pub reset_of : Option Job → Reply
reset_of None = NoJob
reset_of (Some job) = Done

-- the same at a date, on a disk of this layout
abbrev pub reset_answer : (layout date : ℕ) → Option Job → Reply
reset_answer layout date job = if nat_lt (last_date layout) date then DateRange else reset_of job

-- the answer to a deposit of a word into the core of a job, if there is one
abbrev pub deposit_of : ℕ → Option Job → Reply
deposit_of address None = NoJob
deposit_of address (Some job) = if nat_lt address (length job.core) then Done else AddressCheck

-- the answer to an examine of a word of it
abbrev pub examine_of : ℕ → Option Job → Reply
examine_of address None = NoJob
examine_of address (Some job) = if nat_lt address (length job.core) then Value (slice_index job.core address)
    else AddressCheck
