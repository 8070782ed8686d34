-- Jobs and their channels, and the state of the service.
use Rattle.std.specs.Prelude.{ℕ, ◌%◌, ◌^◌, Bool, true, false, List, replicate, Option, Some, None, slice_set}
use Rattle.std.specs.Prelude.{slice_get, option_and_then}
use Rattle.spec_image.specs.Common.{File, Files, Place, SpecVersion}

-- What a channel reads: the version that its LOOKUP found, where it was found, and the next block.
pub record SpecInput : Type 0 where
  pub place : Place
  pub version : SpecVersion
  pub next : ℕ

-- how an output side began; an append also has the number of blocks that its version had then
pub data Kind : Type 0 where
  Create : Kind
  Supersede : Kind
  Update : Kind
  Append : ℕ → Kind

abbrev pub is_create : Kind → Bool
is_create Create = true
is_create Supersede = false
is_create Update = false
is_create (Append blocks) = false

-- What a channel writes: the place that the file will have, how the side began, the file so far, and the next block.
pub record SpecOutput : Type 0 where
  pub place : Place
  pub kind : Kind
  pub pending : File
  pub next : ℕ

-- an open channel
pub record Channel : Type 0 where
  pub mode : ℕ
  -- the addresses of the headers of the two sides' rings, 0 for none
  pub input_header : ℕ
  pub output_header : ℕ
  -- 18 bits
  pub status : ℕ
  pub input : Option SpecInput
  pub output : Option SpecOutput

pub record SpecJob : Type 0 where
  pub ppn : ℕ
  pub core : List ℕ
  -- sixteen channels, each open or closed
  pub channels : List (Option Channel)

pub record State : Type 0 where
  pub files : Files SpecVersion
  -- a slot for each job number; that of 0 stays empty
  pub jobs : List (Option SpecJob)

-- what is in a slot of a list, if there is such a slot and it isn't empty
abbrev pub slot : {X : Type 0} → List (Option X) → ℕ → Option X
slot xs n = option_and_then (λ x. x) (slice_get xs n)

-- the open channel of a number
abbrev pub channel_at : SpecJob → ℕ → Option Channel
channel_at job number = slot job.channels number

abbrev pub with_channel : SpecJob → ℕ → Option Channel → SpecJob
with_channel job number c = record job { channels = slice_set job.channels number c }

abbrev pub all_closed : List (Option Channel)
all_closed = replicate 16 None

-- the job that is logged in under a number, 1 to 64
abbrev pub job_at : State → ℕ → Option SpecJob
job_at s n = slot s.jobs n

abbrev pub with_job : State → ℕ → SpecJob → State
with_job s n job = record s { jobs = slice_set s.jobs n (Some job) }

abbrev pub no_jobs : List (Option SpecJob)
no_jobs = replicate 65 None

-- The status: five bits that a call may report, and below them what stays, which is the mode.

abbrev pub cleared : ℕ → ℕ
cleared status = status % 2 ^ 13

abbrev pub improper_mode : ℕ
improper_mode = 0o400000

abbrev pub block_too_large : ℕ
block_too_large = 0o40000

abbrev pub end_of_file : ℕ
end_of_file = 0o20000
