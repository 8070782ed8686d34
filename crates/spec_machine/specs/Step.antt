-- What the service answers to an event, and the state after it.
use Rattle.std.specs.Prelude.{ℕ, ◌==◌, nat_lt, nat_le, if◌then◌else◌, Option, Some, None, slice_set}
use Rattle.words36.specs.declared.moment.Moment.{Moment}
use Rattle.spec_image.specs.Common.{Files, SpecVersion, Pack}
use Rattle.spec_machine.specs.Jobs.{Channel, SpecJob, State, channel_at, job_at, with_job}
use Rattle.spec_machine.specs.Open.{opens, sets_up}
use Rattle.spec_machine.specs.Lookup.{lookup}
use Rattle.spec_machine.specs.Enter.{enter}
use Rattle.spec_machine.specs.Inputs.{reads, useti}
use Rattle.spec_machine.specs.Outputs.{puts, useto}
use Rattle.spec_machine.specs.Close.{closes, releases}
use Rattle.spec_machine.specs.Rename.{renames}
use Rattle.spec_machine.specs.MakeDir.{makes, removes, limits}
use Rattle.spec_machine.specs.Sessions.{login_answer, new_job, deposit_answer, deposit_done, examine_answer, resets}
use Rattle.spec_machine.specs.Outcomes.{settled}
use Rattle.spec_machine.specs.declared.call.Call.{Call}
use Rattle.spec_machine.specs.declared.call.Call.TheVariants.{Open, Inbuf, Outbuf, Lookup, Enter, Rename, In, Out}
use Rattle.spec_machine.specs.declared.call.Call.TheVariants.{Useti, Useto, Close, Releas, Getsts, Reset, MakeDir}
use Rattle.spec_machine.specs.declared.call.Call.TheVariants.{DeleteDir, Quota}
use Rattle.spec_machine.specs.declared.call.Event.{Event}
use Rattle.spec_machine.specs.declared.call.Event.TheVariants.{Login, Deposit, Examine, Call as Calls}
use Rattle.spec_machine.specs.declared.call.Reply.{Reply}
use Rattle.spec_machine.specs.declared.call.Reply.TheVariants.{Value, NoChannel, NoJob, DateRange}

-- the job that the event is for
abbrev pub job_of : Event → ℕ
job_of (Login n ppn words) = n
job_of (Deposit n address word) = n
job_of (Examine n address) = n
job_of (Calls n call moment) = n

-- What a call may change: its own job's record, or this and the files.

abbrev pub of_job : State → ℕ → Reply × SpecJob → Reply × State
of_job s n r = (r.0, with_job s n r.1)

abbrev pub of_files : State → ℕ → Reply × (SpecJob × Files SpecVersion) → Reply × State
of_files s n r = (r.0, record s { files = r.1.1; jobs = slice_set s.jobs n (Some r.1.0) })

-- a call on a channel, which has to be open
abbrev pub on_channel : State → Option Channel → (Channel → Reply × State) → Reply × State
on_channel s None row = (NoChannel, s)
on_channel s (Some c) row = row c

-- only OPEN takes any of the sixteen channels
abbrev pub open_on : State → ℕ → SpecJob → ℕ → ℕ → Reply × State
open_on s n job ch a = if nat_le ch 15 then of_job s n (opens job ch a) else (NoChannel, s)

-- a call of a job that is logged in, a line for each row of the table
abbrev pub call_of : Pack → ℕ → State → ℕ → SpecJob → Call → Moment → Reply × State
call_of pack serial s n job (Open ch a) moment = open_on s n job ch a
call_of pack serial s n job (Inbuf ch k) moment = on_channel s (channel_at job ch)
    (λ c. of_job s n (sets_up job ch c c.input_header k))
call_of pack serial s n job (Outbuf ch k) moment = on_channel s (channel_at job ch)
    (λ c. of_job s n (sets_up job ch c c.output_header k))
call_of pack serial s n job (Lookup ch e) moment = on_channel s (channel_at job ch)
    (λ c. of_job s n (lookup pack s job ch c e))
call_of pack serial s n job (Enter ch e) moment = on_channel s (channel_at job ch)
    (λ c. of_job s n (enter pack s job ch c e moment))
call_of pack serial s n job (Rename ch e) moment = on_channel s (channel_at job ch)
    (λ c. of_files s n (renames pack s job ch c e))
call_of pack serial s n job (In ch a) moment = on_channel s (channel_at job ch) (λ c. of_job s n (reads job ch c a))
call_of pack serial s n job (Out ch a) moment = on_channel s (channel_at job ch)
    (λ c. of_job s n (puts pack s job ch c a))
call_of pack serial s n job (Useti ch k) moment = on_channel s (channel_at job ch) (λ c. of_job s n (useti job ch c k))
call_of pack serial s n job (Useto ch k) moment = on_channel s (channel_at job ch) (λ c. of_job s n (useto job ch c k))
call_of pack serial s n job (Close ch bits) moment = on_channel s (channel_at job ch)
    (λ c. of_files s n (closes pack serial s job ch c bits))
call_of pack serial s n job (Releas ch) moment = on_channel s (channel_at job ch)
    (λ c. of_files s n (releases pack serial s job ch c))
call_of pack serial s n job (Getsts ch) moment = on_channel s (channel_at job ch) (λ c. (Value c.status, s))
call_of pack serial s n job Reset moment = of_job s n (resets job)
call_of pack serial s n job (MakeDir e) moment = of_files s n (makes pack s job e)
call_of pack serial s n job (DeleteDir e) moment = of_files s n (removes s job e)
call_of pack serial s n job (Quota e) moment = of_files s n (limits pack s job e)

-- an event of a job, which has to be logged in
abbrev pub on_job : State → Option SpecJob → (SpecJob → Reply × State) → Reply × State
on_job s None row = (NoJob, s)
on_job s (Some job) row = row job

-- the last date that a layout can store
abbrev pub last_date : ℕ → ℕ
last_date layout = if layout == 1 then 4095 else 32767

abbrev pub login : State → ℕ → ℕ → ℕ → Reply × State
login s n ppn words = settled (login_answer n words) (with_job s n (new_job ppn words)) (λ reply. s)

abbrev pub deposit : State → ℕ → SpecJob → ℕ → ℕ → Reply × State
deposit s n job address word = settled (deposit_answer job address) (with_job s n (deposit_done job address word))
    (λ reply. s)

-- `serial` is the one free choice: that of a version that the event publishes.
abbrev pub step : Pack → ℕ → State → Event → Reply × State
step pack serial s (Login n ppn words) = login s n ppn words
step pack serial s (Deposit n address word) = on_job s (job_at s n) (λ job. deposit s n job address word)
step pack serial s (Examine n address) = on_job s (job_at s n) (λ job. (examine_answer job address, s))
step pack serial s (Calls n call moment) =
    if nat_lt (last_date pack.layout) moment.date then (DateRange, s)
    else on_job s (job_at s n) (λ job. call_of pack serial s n job call moment)
