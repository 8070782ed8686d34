-- What a refusal leaves, whatever the disk does.
use Rattle.std.specs.Prelude.{◌≡◌, ℕ, ◌+◌, List, Option, Some, slice_set}
use Rattle.spec_machine.specs.Common.{with_right, slot}
use Rattle.spec_machine.specs.declared.call.Call.{Call}
use Rattle.spec_machine.specs.declared.call.Call.TheVariants.{Open, Inbuf, Outbuf, Lookup, Enter, Rename, In, Out}
use Rattle.spec_machine.specs.declared.call.Call.TheVariants.{Useti, Useto, Close, Releas, Getsts, Reset, MakeDir}
use Rattle.spec_machine.specs.declared.call.Call.TheVariants.{DeleteDir, Quota}
use Rattle.monitor.specs.declared.job.Job.{Job}

-- the job with the code in the right half of the second of the words at an address
abbrev pub with_code : Job → ℕ → ℕ → Job
with_code job address code = record job { core = with_right job.core (address + 1) code }

-- what it leaves of the job that made the call: if the call names a block of words, the code is put there; otherwise
-- the job is as it was
abbrev pub refused_with : Call → Job → ℕ → Job
refused_with (Open channel address) job code = job
refused_with (Inbuf channel count) job code = job
refused_with (Outbuf channel count) job code = job
refused_with (Lookup channel address) job code = with_code job address code
refused_with (Enter channel address) job code = with_code job address code
refused_with (Rename channel address) job code = with_code job address code
refused_with (In channel address) job code = job
refused_with (Out channel address) job code = job
refused_with (Close channel bits) job code = job
refused_with (Releas channel) job code = job
refused_with (Useti channel block) job code = job
refused_with (Useto channel block) job code = job
refused_with (Getsts channel) job code = job
refused_with Reset job code = job
refused_with (MakeDir address) job code = with_code job address code
refused_with (DeleteDir address) job code = with_code job address code
refused_with (Quota address) job code = with_code job address code

-- There is a job of this number, and it is as the refusal leaves it; all others are as they were.
pub record IsRefused (call : Call) (number code : ℕ) (jobs jobs' : List (Option Job)) : Type 0 where
  pub job : Job
  pub there : slot jobs number ≡ Some job
  pub jobs_are : jobs' ≡ slice_set jobs number (Some (refused_with call job code))
