-- Logging in, words of a core, RESET, and the list of a directory.
use Rattle.std.specs.Prelude.{ℕ, ◌==◌, ◌&&◌, ◌||◌, nat_lt, nat_le, not, Bool, if◌then◌else◌, List, length, map}
use Rattle.std.specs.Prelude.{replicate, Option, Some, None, slice_index, slice_set, Result, Ok, Err}
use Rattle.words36.specs.declared.names.FileName.{FileName}
use Rattle.spec_image.specs.Common.{get, entries, Directory, blocks_of, SpecVersion}
use Rattle.spec_machine.specs.Rights.{may_look, directory_digit}
use Rattle.spec_machine.specs.Cores.{first_free, rings_begin, with_right}
use Rattle.spec_machine.specs.Jobs.{SpecJob, State, job_at, all_closed}
use Rattle.spec_image.specs.declared.entry.Entry.{Entry}
use Rattle.spec_machine.specs.declared.call.Reply.{Reply}
use Rattle.spec_machine.specs.declared.call.Reply.TheVariants.{Done, Value, Refused, AddressCheck, NoJob}

abbrev pub is_job_number : ℕ → Bool
is_job_number n = not (n == 0) && nat_le n 64

abbrev pub login_answer : ℕ → ℕ → Reply
login_answer n words =
    if not (is_job_number n) then NoJob
    else if nat_lt words 0o1000 || nat_lt 0o400000 words then AddressCheck
    else Done

-- a job that logs in: nothing is left of an earlier job with its number
abbrev pub new_job : ℕ → ℕ → SpecJob
new_job ppn words = record {
  ppn = ppn;
  core = slice_set (replicate words 0) first_free rings_begin;
  channels = all_closed;
}

abbrev pub deposit_answer : SpecJob → ℕ → Reply
deposit_answer job address = if nat_lt address (length job.core) then Done else AddressCheck

abbrev pub deposit_done : SpecJob → ℕ → ℕ → SpecJob
deposit_done job address word = record job { core = slice_set job.core address word }

abbrev pub examine_answer : SpecJob → ℕ → Reply
examine_answer job address = if nat_lt address (length job.core) then Value (slice_index job.core address)
    else AddressCheck

-- RESET: all channels are closed and what they wrote is dropped; of the core, only the right half of job word 121
-- (octal) changes
abbrev pub resets : SpecJob → Reply × SpecJob
resets job = (Done, record job { core = with_right job.core first_free rings_begin; channels = all_closed })

-- The list of a directory, by name and then extension.

abbrev pub entry : FileName × SpecVersion → Entry
entry e = record {
  name = e.0;
  protection = e.1.file.protection;
  mode = e.1.file.mode;
  date = e.1.file.date;
  time = e.1.file.time;
  length = length e.1.file.body;
  blocks = blocks_of (length e.1.file.body);
}

abbrev pub listed : SpecJob → ℕ → Option (Directory SpecVersion) → Result (List Entry) Reply
listed job owner None = Err (Refused 1)
listed job owner (Some d) = if may_look (directory_digit d.protection job.ppn owner)
    then Ok (map entry (entries d.files)) else Err (Refused 2)

abbrev pub list_for : State → Option SpecJob → ℕ → Result (List Entry) Reply
list_for s None owner = Err NoJob
list_for s (Some job) owner = listed job owner (get s.files owner)

abbrev pub list : State → ℕ → ℕ → Result (List Entry) Reply
list s n owner = list_for s (job_at s n) owner
