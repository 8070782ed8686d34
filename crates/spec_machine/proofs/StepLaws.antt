-- Laws of one event: what isn't done leaves the files, and no event of another job changes a job's record.
use Rattle.std.proofs.Common.{◌≡◌, ℕ, Bool, true, false, if◌then◌else◌, Option, Some, None, refl, ◌≢◌}
use Rattle.std.specs.Prelude.{nat_lt, nat_le}
use Rattle.words36.specs.declared.moment.Moment.{Moment}
use Rattle.spec_image.specs.Common.{Files, SpecVersion, Pack}
use Rattle.spec_machine.specs.Jobs.{Channel, SpecJob, State, channel_at, job_at, with_job}
use Rattle.spec_machine.specs.Outcomes.{settled}
use Rattle.spec_machine.specs.Step.{step, job_of, last_date, on_job, on_channel, of_job, of_files, call_of}
use Rattle.spec_machine.specs.declared.call.Call.{Call}
use Rattle.spec_machine.specs.declared.call.Call.TheVariants.{Open, Inbuf, Outbuf, Lookup, Enter, Rename, In, Out}
use Rattle.spec_machine.specs.declared.call.Call.TheVariants.{Useti, Useto, Close, Releas, Getsts, Reset, MakeDir}
use Rattle.spec_machine.specs.declared.call.Call.TheVariants.{DeleteDir, Quota}
use Rattle.spec_machine.specs.declared.call.Event.{Event}
use Rattle.spec_machine.specs.declared.call.Event.TheVariants.{Login, Deposit, Examine, Call as Calls}
use Rattle.spec_machine.specs.declared.call.Reply.{Reply}
use Rattle.spec_machine.specs.declared.call.Reply.TheVariants.{Done, NoChannel, DateRange}
use Rattle.spec_machine.proofs.OutcomeLaws.{settled_by}
use Rattle.spec_machine.proofs.SlotLaws.{slot-set_other}

-- What isn't done leaves the files unchanged.

kept : {A : Type 0} (files : A → Files SpecVersion) (were : Files SpecVersion) (reply : Reply) (done : A)
    (other : Reply → A)
    → ((r : Reply) → files (other r) ≡ were) → (settled reply done other).0 ≢ Done
    → files (settled reply done other).1 ≡ were
kept files were reply done other h =
    settled_by (λ r. r.0 ≢ Done → files r.1 ≡ were) reply done other (λ is differs. absurd (differs refl))
    (λ other differs. h reply)

abbrev pub Keeps : State → Reply × State → Type 0
Keeps s r = r.0 ≢ Done → r.1.files ≡ s.files

keeps_on_channel : (s : State) (row : Channel → Reply × State) (c : Option Channel) → ((c : Channel) → Keeps s (row c))
    → Keeps s (on_channel s c row)
keeps_on_channel s row None h differs = refl
keeps_on_channel s row (Some c) h differs = h c differs

keeps_of_files : (s : State) (n : ℕ) (reply : Reply) (done : SpecJob × Files SpecVersion)
    (other : Reply → SpecJob × Files SpecVersion)
    → ((r : Reply) → (other r).1 ≡ s.files) → Keeps s (of_files s n (settled reply done other))
keeps_of_files s n reply done other h differs = kept (λ x. x.1) s.files reply done other h differs

keeps_if : (s : State) (b : Bool) (reply : Reply) (r : Reply × State) → Keeps s r
    → Keeps s (if b then (reply, s) else r)
keeps_if s true reply r h differs = refl
keeps_if s false reply r h differs = h differs

keeps_open : (s : State) (b : Bool) (n : ℕ) (r : Reply × SpecJob) → Keeps s (if b then of_job s n r else (NoChannel, s))
keeps_open s true n r differs = refl
keeps_open s false n r differs = refl

keeps_call : (pack : Pack) (serial : ℕ) (s : State) (n : ℕ) (job : SpecJob) (call : Call) (moment : Moment)
    → Keeps s (call_of pack serial s n job call moment)
keeps_call pack serial s n job (Open ch a) moment = keeps_open s (nat_le ch 15) n _
keeps_call pack serial s n job (Inbuf ch k) moment = keeps_on_channel s _ (channel_at job ch) (λ c differs. refl)
keeps_call pack serial s n job (Outbuf ch k) moment = keeps_on_channel s _ (channel_at job ch) (λ c differs. refl)
keeps_call pack serial s n job (Lookup ch a) moment = keeps_on_channel s _ (channel_at job ch) (λ c differs. refl)
keeps_call pack serial s n job (Enter ch a) moment = keeps_on_channel s _ (channel_at job ch) (λ c differs. refl)
keeps_call pack serial s n job (Rename ch e) moment = keeps_on_channel s _ (channel_at job ch)
    (λ c. keeps_of_files s n _ _ _ (λ r. refl))
keeps_call pack serial s n job (In ch a) moment = keeps_on_channel s _ (channel_at job ch) (λ c differs. refl)
keeps_call pack serial s n job (Out ch a) moment = keeps_on_channel s _ (channel_at job ch) (λ c differs. refl)
keeps_call pack serial s n job (Useti ch a) moment = keeps_on_channel s _ (channel_at job ch) (λ c differs. refl)
keeps_call pack serial s n job (Useto ch a) moment = keeps_on_channel s _ (channel_at job ch) (λ c differs. refl)
keeps_call pack serial s n job (Close ch a) moment = keeps_on_channel s _ (channel_at job ch)
    (λ c. keeps_of_files s n _ _ _ (λ r. refl))
keeps_call pack serial s n job (Releas ch) moment = keeps_on_channel s _ (channel_at job ch)
    (λ c. keeps_of_files s n _ _ _ (λ r. refl))
keeps_call pack serial s n job (Getsts ch) moment = keeps_on_channel s _ (channel_at job ch) (λ c differs. refl)
keeps_call pack serial s n job Reset moment = λ differs. refl
keeps_call pack serial s n job (MakeDir e) moment = keeps_of_files s n _ _ _ (λ r. refl)
keeps_call pack serial s n job (DeleteDir e) moment = keeps_of_files s n _ _ _ (λ r. refl)
keeps_call pack serial s n job (Quota e) moment = keeps_of_files s n _ _ _ (λ r. refl)

keeps_on_job : (s : State) (row : SpecJob → Reply × State) (job : Option SpecJob)
    → ((job : SpecJob) → Keeps s (row job))
    → Keeps s (on_job s job row)
keeps_on_job s row None h differs = refl
keeps_on_job s row (Some job) h differs = h job differs

pub keeps_step : (pack : Pack) (serial : ℕ) (s : State) (event : Event) → Keeps s (step pack serial s event)
keeps_step pack serial s (Login n ppn words) = kept (λ (x : State). x.files) s.files _ _ _ (λ r. refl)
keeps_step pack serial s (Deposit n address word) = keeps_on_job s _ (job_at s n)
    (λ job. kept (λ (x : State). x.files) s.files _ _ _ (λ r. refl))
keeps_step pack serial s (Examine n address) = keeps_on_job s _ (job_at s n) (λ job differs. refl)
keeps_step pack serial s (Calls n call moment) =
    keeps_if s (nat_lt (last_date pack.layout) moment.date) DateRange _
    (keeps_on_job s _ (job_at s n) (λ job. keeps_call pack serial s n job call moment))

-- No event of another job changes a job's record.

abbrev pub Spares : ℕ → State → Reply × State → Type 0
Spares m s r = job_at r.1 m ≡ job_at s m

spares_settled : (m : ℕ) (s : State) (reply : Reply) (done : State) → job_at done m ≡ job_at s m
    → Spares m s (settled reply done (λ r. s))
spares_settled m s reply done h = settled_by (Spares m s) reply done (λ r. s) (λ is. h) (λ differs. refl)

spares_channel : (m : ℕ) (s : State) (row : Channel → Reply × State) (c : Option Channel)
    → ((c : Channel) → Spares m s (row c)) → Spares m s (on_channel s c row)
spares_channel m s row None h = refl
spares_channel m s row (Some c) h = h c

spares_job : (m : ℕ) (s : State) (row : SpecJob → Reply × State) (job : Option SpecJob)
    → ((job : SpecJob) → Spares m s (row job))
    → Spares m s (on_job s job row)
spares_job m s row None h = refl
spares_job m s row (Some job) h = h job

spares_if : (m : ℕ) (s : State) (b : Bool) (one other : Reply × State) → Spares m s one → Spares m s other
    → Spares m s (if b then one else other)
spares_if m s true one other g h = g
spares_if m s false one other g h = h

module _ (pack : Pack) (serial : ℕ) (s : State) (n m : ℕ) (apart : m ≢ n) where
  spares_with : (job : SpecJob) → job_at (with_job s n job) m ≡ job_at s m
  spares_with job = slot-set_other s.jobs n m (Some job) apart

  spares_call : (job : SpecJob) (call : Call) (moment : Moment) → Spares m s (call_of pack serial s n job call moment)
  spares_call job (Open ch a) moment = spares_if m s (nat_le ch 15) _ _ (spares_with _) refl
  spares_call job (Inbuf ch k) moment = spares_channel m s _ (channel_at job ch) (λ c. spares_with _)
  spares_call job (Outbuf ch k) moment = spares_channel m s _ (channel_at job ch) (λ c. spares_with _)
  spares_call job (Lookup ch a) moment = spares_channel m s _ (channel_at job ch) (λ c. spares_with _)
  spares_call job (Enter ch a) moment = spares_channel m s _ (channel_at job ch) (λ c. spares_with _)
  spares_call job (Rename ch e) moment = spares_channel m s _ (channel_at job ch) (λ c. spares_with _)
  spares_call job (In ch a) moment = spares_channel m s _ (channel_at job ch) (λ c. spares_with _)
  spares_call job (Out ch a) moment = spares_channel m s _ (channel_at job ch) (λ c. spares_with _)
  spares_call job (Useti ch a) moment = spares_channel m s _ (channel_at job ch) (λ c. spares_with _)
  spares_call job (Useto ch a) moment = spares_channel m s _ (channel_at job ch) (λ c. spares_with _)
  spares_call job (Close ch a) moment = spares_channel m s _ (channel_at job ch) (λ c. spares_with _)
  spares_call job (Releas ch) moment = spares_channel m s _ (channel_at job ch) (λ c. spares_with _)
  spares_call job (Getsts ch) moment = spares_channel m s _ (channel_at job ch) (λ c. refl)
  spares_call job Reset moment = spares_with _
  spares_call job (MakeDir e) moment = spares_with _
  spares_call job (DeleteDir e) moment = spares_with _
  spares_call job (Quota e) moment = spares_with _

  pub spares_call_event : (call : Call) (moment : Moment) → Spares m s (step pack serial s (Calls n call moment))
  spares_call_event call moment =
      spares_if m s (nat_lt (last_date pack.layout) moment.date) _ _ refl
      (spares_job m s _ (job_at s n) (λ job. spares_call job call moment))

  pub spares_login : (ppn words : ℕ) → Spares m s (step pack serial s (Login n ppn words))
  spares_login ppn words = spares_settled m s _ _ (spares_with _)

  pub spares_deposit : (address word : ℕ) → Spares m s (step pack serial s (Deposit n address word))
  spares_deposit address word = spares_job m s _ (job_at s n) (λ job. spares_settled m s _ _ (spares_with _))

  pub spares_examine : (address : ℕ) → Spares m s (step pack serial s (Examine n address))
  spares_examine address = spares_job m s _ (job_at s n) (λ job. refl)

pub spares_step : (pack : Pack) (serial : ℕ) (s : State) (m : ℕ) (event : Event) → m ≢ job_of event
    → job_at (step pack serial s event).1 m ≡ job_at s m
spares_step pack serial s m (Login n ppn words) apart = spares_login pack serial s n m apart ppn words
spares_step pack serial s m (Deposit n address word) apart = spares_deposit pack serial s n m apart address word
spares_step pack serial s m (Examine n address) apart = spares_examine pack serial s n m apart address
spares_step pack serial s m (Calls n call moment) apart = spares_call_event pack serial s n m apart call moment
