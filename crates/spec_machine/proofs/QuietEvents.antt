-- Events that leave the files, whatever is answered.
use Rattle.std.proofs.Common.{◌≡◌, ℕ, Bool, true, false, if◌then◌else◌, Option, Some, None, refl, sym, ap, ◌∙◌}
use Rattle.std.specs.Prelude.{nat_lt, nat_le}
use Rattle.words36.specs.declared.moment.Moment.{Moment}
use Rattle.spec_image.specs.Common.{Pack}
use Rattle.spec_machine.specs.Jobs.{Channel, SpecJob, State, job_at, channel_at, with_job}
use Rattle.spec_machine.specs.Runs.{Steps}
use Rattle.spec_machine.specs.Outcomes.{settled}
use Rattle.spec_machine.specs.Step.{step, last_date, on_job, on_channel, of_job, call_of, deposit}
use Rattle.spec_machine.specs.Sessions.{login_answer, new_job, deposit_answer, deposit_done}
use Rattle.spec_machine.specs.declared.call.Call.{Call}
use Rattle.spec_machine.specs.declared.call.Call.TheVariants.{Open, Inbuf, Outbuf, Lookup, Enter, Rename, In, Out}
use Rattle.spec_machine.specs.declared.call.Call.TheVariants.{Useti, Useto, Close, Releas, Getsts, Reset, MakeDir}
use Rattle.spec_machine.specs.declared.call.Call.TheVariants.{DeleteDir, Quota}
use Rattle.spec_machine.specs.declared.call.Event.{Event}
use Rattle.spec_machine.specs.declared.call.Event.TheVariants.{Login, Deposit, Examine, Call as Calls}
use Rattle.spec_machine.specs.declared.call.Reply.{Reply}
use Rattle.spec_machine.specs.declared.call.Reply.TheVariants.{NoChannel, DateRange}
use Rattle.spec_machine.proofs.OutcomeLaws.{settled_by}

abbrev pub IsQuietCall : Call → Type 0
IsQuietCall (Open ch a) = Unit {0}
IsQuietCall (Inbuf ch k) = Unit {0}
IsQuietCall (Outbuf ch k) = Unit {0}
IsQuietCall (Lookup ch e) = Unit {0}
IsQuietCall (Enter ch e) = Unit {0}
IsQuietCall (Rename ch e) = ⊥
IsQuietCall (In ch a) = Unit {0}
IsQuietCall (Out ch a) = Unit {0}
IsQuietCall (Useti ch k) = Unit {0}
IsQuietCall (Useto ch k) = Unit {0}
IsQuietCall (Close ch bits) = ⊥
IsQuietCall (Releas ch) = ⊥
IsQuietCall (Getsts ch) = Unit {0}
IsQuietCall Reset = Unit {0}
IsQuietCall (MakeDir e) = ⊥
IsQuietCall (DeleteDir e) = ⊥
IsQuietCall (Quota e) = ⊥

abbrev pub IsQuiet : Event → Type 0
IsQuiet (Login n ppn words) = Unit {0}
IsQuiet (Deposit n address word) = Unit {0}
IsQuiet (Examine n address) = Unit {0}
IsQuiet (Calls n call moment) = IsQuietCall call

abbrev Same : State → Reply × State → Type 0
Same s r = r.1.files ≡ s.files

same_if : (s : State) (late : Bool) (r : Reply × State) → Same s r → Same s (if late then (DateRange, s) else r)
same_if s true r h = refl
same_if s false r h = h

same_job : (s : State) (row : SpecJob → Reply × State) (o : Option SpecJob) → ((job : SpecJob) → Same s (row job))
    → Same s (on_job s o row)
same_job s row None h = refl
same_job s row (Some job) h = h job

same_channel : (s : State) (row : Channel → Reply × State) (o : Option Channel) → ((c : Channel) → Same s (row c))
    → Same s (on_channel s o row)
same_channel s row None h = refl
same_channel s row (Some c) h = h c

same_open : (s : State) (b : Bool) (n : ℕ) (r : Reply × SpecJob) → Same s (if b then of_job s n r else (NoChannel, s))
same_open s true n r = refl
same_open s false n r = refl

same_call : (pack : Pack) (serial : ℕ) (s : State) (n : ℕ) (job : SpecJob) (call : Call) (moment : Moment)
    → IsQuietCall call
    → Same s (call_of pack serial s n job call moment)
same_call pack serial s n job (Open ch a) moment q = same_open s (nat_le ch 15) n _
same_call pack serial s n job (Inbuf ch k) moment q = same_channel s _ (channel_at job ch) (λ c. refl)
same_call pack serial s n job (Outbuf ch k) moment q = same_channel s _ (channel_at job ch) (λ c. refl)
same_call pack serial s n job (Lookup ch a) moment q = same_channel s _ (channel_at job ch) (λ c. refl)
same_call pack serial s n job (Enter ch a) moment q = same_channel s _ (channel_at job ch) (λ c. refl)
same_call pack serial s n job (Rename ch e) moment q = absurd q
same_call pack serial s n job (In ch a) moment q = same_channel s _ (channel_at job ch) (λ c. refl)
same_call pack serial s n job (Out ch a) moment q = same_channel s _ (channel_at job ch) (λ c. refl)
same_call pack serial s n job (Useti ch a) moment q = same_channel s _ (channel_at job ch) (λ c. refl)
same_call pack serial s n job (Useto ch a) moment q = same_channel s _ (channel_at job ch) (λ c. refl)
same_call pack serial s n job (Close ch a) moment q = absurd q
same_call pack serial s n job (Releas ch) moment q = absurd q
same_call pack serial s n job (Getsts ch) moment q = same_channel s _ (channel_at job ch) (λ c. refl)
same_call pack serial s n job Reset moment q = refl
same_call pack serial s n job (MakeDir e) moment q = absurd q
same_call pack serial s n job (DeleteDir e) moment q = absurd q
same_call pack serial s n job (Quota e) moment q = absurd q

same_settled : (s : State) (reply : Reply) (done : State) (other : Reply → State) → done.files ≡ s.files
    → ((r : Reply) → (other r).files ≡ s.files) → Same s (settled reply done other)
same_settled s reply done other d o = settled_by (Same s) reply done other (λ is. d) (λ is. o reply)

same_step : (pack : Pack) (serial : ℕ) (s : State) (event : Event) → IsQuiet event → Same s (step pack serial s event)
same_step pack serial s (Login n ppn words) q = same_settled s (login_answer n words)
    (with_job s n (new_job ppn words)) (λ r. s) refl (λ r. refl)
same_step pack serial s (Deposit n address word) q = same_job s (λ job. deposit s n job address word) (job_at s n)
    (λ job. same_settled s (deposit_answer job address) (with_job s n (deposit_done job address word)) (λ r. s) refl
    (λ r. refl))
same_step pack serial s (Examine n address) q = same_job s _ (job_at s n) (λ job. refl)
same_step pack serial s (Calls n call moment) q = same_if s (nat_lt (last_date pack.layout) moment.date) _
    (same_job s _ (job_at s n) (λ job. same_call pack serial s n job call moment q))

pub quiet_files : (pack : Pack) (s : State) (event : Event) (reply : Reply) (t : State) → IsQuiet event
    → Steps pack s event reply t → t.files ≡ s.files
quiet_files pack s event reply t q (serial, fresh, e) = ap (λ r. r.1.files) (sym e) ∙ same_step pack serial s event q
