-- What an event leaves whose answer isn't Done: the code of a refusal in the block that the call named, or the status
-- in the channel that couldn't continue, and otherwise nothing.
use Rattle.std.specs.Prelude.{ℕ, Option, Some, None}
use Rattle.spec_machine.specs.Jobs.{Channel, SpecJob, State, channel_at, job_at, with_job}
use Rattle.spec_machine.specs.Outcomes.{stopped_in, refused_at}
use Rattle.spec_machine.specs.declared.call.Call.{Call}
use Rattle.spec_machine.specs.declared.call.Call.TheVariants.{Open, Inbuf, Outbuf, Lookup, Enter, Rename, In, Out}
use Rattle.spec_machine.specs.declared.call.Call.TheVariants.{Useti, Useto, Close, Releas, Getsts, Reset, MakeDir}
use Rattle.spec_machine.specs.declared.call.Call.TheVariants.{DeleteDir, Quota}
use Rattle.spec_machine.specs.declared.call.Event.{Event}
use Rattle.spec_machine.specs.declared.call.Event.TheVariants.{Login, Deposit, Examine, Call as Calls}
use Rattle.spec_machine.specs.declared.call.Reply.{Reply}

abbrev pub stopped_on : SpecJob → ℕ → Option Channel → Reply → SpecJob
stopped_on job number None reply = job
stopped_on job number (Some c) reply = stopped_in job number c reply

abbrev pub job_undone : SpecJob → Call → Reply → SpecJob
job_undone job (Open ch a) reply = job
job_undone job (Inbuf ch n) reply = job
job_undone job (Outbuf ch n) reply = job
job_undone job (Lookup ch e) reply = refused_at job e reply
job_undone job (Enter ch e) reply = refused_at job e reply
job_undone job (Rename ch e) reply = refused_at job e reply
job_undone job (In ch a) reply = stopped_on job ch (channel_at job ch) reply
job_undone job (Out ch a) reply = stopped_on job ch (channel_at job ch) reply
job_undone job (Useti ch n) reply = stopped_on job ch (channel_at job ch) reply
job_undone job (Useto ch n) reply = stopped_on job ch (channel_at job ch) reply
job_undone job (Close ch bits) reply = stopped_on job ch (channel_at job ch) reply
job_undone job (Releas ch) reply = stopped_on job ch (channel_at job ch) reply
job_undone job (Getsts ch) reply = job
job_undone job Reset reply = job
job_undone job (MakeDir e) reply = refused_at job e reply
job_undone job (DeleteDir e) reply = refused_at job e reply
job_undone job (Quota e) reply = refused_at job e reply

abbrev pub call_undone : State → ℕ → Option SpecJob → Call → Reply → State
call_undone s n None call reply = s
call_undone s n (Some job) call reply = with_job s n (job_undone job call reply)

abbrev pub undone : State → Event → Reply → State
undone s (Login n ppn words) reply = s
undone s (Deposit n address word) reply = s
undone s (Examine n address) reply = s
undone s (Calls n call moment) reply = call_undone s n (job_at s n) call reply
