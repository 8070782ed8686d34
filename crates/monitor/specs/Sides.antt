-- The sides of jobs' channels, and the records of the file machine that jobs stand for.
use Rattle.std.specs.Prelude.{ℕ, List, [], map, flat_map, filter_map, replicate, Option, None, Some, option_map}
use Rattle.std.specs.Prelude.{slice_set}
use Rattle.spec_machine.specs.Common.{first_free, rings_begin, with_right}
use Rattle.spec_image.specs.Common.{File, Files, Place, SpecVersion, with_protection, place_of}
use Rattle.retrieval.specs.Common.{mode_number}
use Rattle.monitor.specs.declared.input.Input.{Input}
use Rattle.monitor.specs.declared.output.OutputKind.{OutputKind}
use Rattle.monitor.specs.declared.output.OutputKind.TheVariants.{Create, Supersede, Update, Append}
use Rattle.monitor.specs.declared.output.Output.{Output}
use Rattle.monitor.specs.declared.channel.OpenChannel.{OpenChannel}
use Rattle.monitor.specs.declared.job.Job.{Job}
use Rattle.spec_machine.specs.Jobs as machine

-- what the channels of a job have, found in each by the function `side`
abbrev pub within : {Y : Type 0} → (Option OpenChannel → Option Y) → Option Job → List Y
within side None = []
within side (Some job) = filter_map side job.channels

-- Output sides.

abbrev pub side_of : Option OpenChannel → Option Output
side_of None = None
side_of (Some c) = c.output

abbrev pub sides_in : Option Job → List Output
sides_in o = within side_of o

-- all that there are
abbrev pub sides : List (Option Job) → List Output
sides jobs = flat_map sides_in jobs

-- the keys of the versions that they write
abbrev pub keys_of : List Output → List ℕ
keys_of outputs = map (λ o. o.pending.key) outputs

-- Input sides.

abbrev pub reader_of : Option OpenChannel → Option Input
reader_of None = None
reader_of (Some c) = c.input

abbrev pub readers_in : Option Job → List Input
readers_in o = within reader_of o

-- all that there are
abbrev pub readers : List (Option Job) → List Input
readers jobs = flat_map readers_in jobs

-- the keys of the versions that they read
abbrev pub pins_of : List Input → List ℕ
pins_of inputs = map (λ i. i.pin.key) inputs

-- Jobs as the machine has them, if it is known what is under each key.

-- what is written: the place that it will have, and the file so far
pub record Writing : Type 0 where
  pub place : Place
  pub file : File

-- What the machine has under the keys of versions that are written, and of those that are read.
pub record UnderKeys : Type 0 where
  pub written : ℕ → Writing
  pub read : ℕ → SpecVersion

abbrev pub kind_of : OutputKind → machine.Kind
kind_of Create = machine.Create
kind_of Supersede = machine.Supersede
kind_of Update = machine.Update
kind_of (Append blocks) = machine.Append blocks

abbrev pub output_of : UnderKeys → Output → machine.SpecOutput
output_of under o = record {
  place = (under.written o.pending.key).place;
  kind = kind_of o.kind;
  pending = (under.written o.pending.key).file;
  next = o.next;
}

-- RENAME changes a file's protection, but not that of a version which was found before.
abbrev pub input_of : UnderKeys → Input → machine.SpecInput
input_of under i = record {
  place = place_of i.ppn i.file;
  version = with_protection (under.read i.pin.key) i.protection;
  next = i.next;
}

abbrev pub channel_of : UnderKeys → OpenChannel → machine.Channel
channel_of under c = record {
  mode = mode_number c.mode;
  input_header = c.input_header;
  output_header = c.output_header;
  status = c.status;
  input = option_map (input_of under) c.input;
  output = option_map (output_of under) c.output;
}

abbrev pub job_of : UnderKeys → Job → machine.SpecJob
job_of under job = record {
  ppn = job.ppn;
  core = job.core;
  channels = map (option_map (channel_of under)) job.channels;
}

abbrev pub jobs_of : UnderKeys → List (Option Job) → List (Option machine.SpecJob)
jobs_of under jobs = map (option_map (job_of under)) jobs

abbrev pub state_of : Files SpecVersion → UnderKeys → List (Option Job) → machine.State
state_of files under jobs = record { files = files; jobs = jobs_of under jobs }

-- Jobs that log in, or are reset.

abbrev pub no_jobs : List (Option Job)
no_jobs = replicate 65 None

abbrev pub new_job : ℕ → ℕ → Job
new_job ppn words = record {
  ppn = ppn;
  core = slice_set (replicate words 0) first_free rings_begin;
  channels = replicate 16 None;
}

abbrev pub reset_job : Job → Job
reset_job job = record job { core = with_right job.core first_free rings_begin; channels = replicate 16 None }
