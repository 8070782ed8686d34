-- What isn't done leaves what Undone states, and with it the files and the room.
use Rattle.std.proofs.Common.{◌≡◌, ◌≢◌, ℕ, ◌+◌, ◌++◌, Bool, true, false, if◌then◌else◌, List, length, Option, Some}
use Rattle.std.proofs.Common.{None, refl, sym, ap, ◌∙◌}
use Rattle.std.specs.Prelude.{nat_lt, nat_le, pos, ◌-ℤ◌, ◌==◌, ◌&&◌, flat_map}
use Rattle.words36.specs.declared.moment.Moment.{Moment}
use Rattle.spec_image.specs.Common.{size, values, total, sum_entries, Files, version_cost, directory_cost, SpecVersion}
use Rattle.spec_image.specs.Common.{Pack}
use Rattle.spec_machine.specs.Jobs.{Channel, SpecJob, SpecOutput, State, is_create, channel_at, job_at, with_job}
use Rattle.spec_machine.specs.Jobs.{with_channel}
use Rattle.spec_machine.specs.Room.{room, space, booked, distinct_cost, outputs_of, pinned_by, output_of, version_of}
use Rattle.spec_machine.specs.Outcomes.{settled, stopped_in, refused_at}
use Rattle.spec_machine.specs.Step.{step, last_date, on_job, on_channel, of_job, of_files, call_of}
use Rattle.spec_machine.specs.Undone.{stopped_on, job_undone, call_undone, undone}
use Rattle.spec_machine.specs.declared.call.Call.{Call}
use Rattle.spec_machine.specs.declared.call.Call.TheVariants.{Open, Inbuf, Outbuf, Lookup, Enter, Rename, In, Out}
use Rattle.spec_machine.specs.declared.call.Call.TheVariants.{Useti, Useto, Close, Releas, Getsts, Reset, MakeDir}
use Rattle.spec_machine.specs.declared.call.Call.TheVariants.{DeleteDir, Quota}
use Rattle.spec_machine.specs.declared.call.Event.{Event}
use Rattle.spec_machine.specs.declared.call.Event.TheVariants.{Login, Deposit, Examine, Call as Calls}
use Rattle.spec_machine.specs.declared.call.Reply.{Reply}
use Rattle.spec_machine.specs.declared.call.Reply.TheVariants.{Done, NoChannel, DateRange}
use Rattle.spec_machine.proofs.OutcomeLaws.{settled_by, stopped_by, refused_by}
use Rattle.spec_machine.proofs.SlotLaws.{set-slot, flat_map-set, filter_map-set}

abbrev Leaves : (Reply → State) → Reply × State → Type 0
Leaves left r = r.0 ≢ Done → r.1 ≡ left r.0

-- One call of a job that exists.

module _ (s : State) (n : ℕ) (job : SpecJob) (there : job_at s n ≡ Some job) where
  pub put_back : s ≡ with_job s n job
  put_back = ap (λ jobs. record s { jobs = jobs }) (sym (set-slot s.jobs n job there))

  of_job_leaves : (reply : Reply) (done : SpecJob) (other : Reply → SpecJob)
      → Leaves (λ r. with_job s n (other r)) (of_job s n (settled reply done other))
  of_job_leaves reply done other =
      settled_by (λ r. r.0 ≢ Done → with_job s n r.1 ≡ with_job s n (other r.0)) reply done other
      (λ is differs. absurd (differs refl)) (λ no differs. refl)

  of_files_leaves : (reply : Reply) (done : SpecJob × Files SpecVersion) (other : Reply → SpecJob)
      → Leaves (λ r. with_job s n (other r)) (of_files s n (settled reply done (λ r. (other r, s.files))))
  of_files_leaves reply done other =
      settled_by (λ r. r.0 ≢ Done → (of_files s n r).1 ≡ with_job s n (other r.0)) reply done (λ r. (other r, s.files))
      (λ is differs. absurd (differs refl)) (λ no differs. refl)

  on_channel_leaves : (left : Reply → SpecJob) (row : Channel → Reply × State) (o : Option Channel)
      → left NoChannel ≡ job
      → ((c : Channel) → o ≡ Some c → Leaves (λ r. with_job s n (left r)) (row c))
      → Leaves (λ r. with_job s n (left r)) (on_channel s o row)
  on_channel_leaves left row None h rows differs = put_back ∙ ap (with_job s n) (sym h)
  on_channel_leaves left row (Some c) h rows differs = rows c refl differs

  -- a row that stops with a status in its channel
  stops : (ch : ℕ) (c : Channel) (reply : Reply) (done : SpecJob) → channel_at job ch ≡ Some c
      → Leaves (λ r. with_job s n (stopped_on job ch (channel_at job ch) r))
      (of_job s n (settled reply done (stopped_in job ch c)))
  stops ch c reply done e differs =
      of_job_leaves reply done (stopped_in job ch c) differs
      ∙ ap (λ o. with_job s n (stopped_on job ch o (settled reply done (stopped_in job ch c)).0)) (sym e)

  stops_files : (ch : ℕ) (c : Channel) (reply : Reply) (done : SpecJob × Files SpecVersion) → channel_at job ch ≡ Some c
      → Leaves (λ r. with_job s n (stopped_on job ch (channel_at job ch) r))
      (of_files s n (settled reply done (λ r. (stopped_in job ch c r, s.files))))
  stops_files ch c reply done e differs =
      of_files_leaves reply done (stopped_in job ch c) differs
      ∙ ap (λ o. with_job s n (stopped_on job ch o (settled reply done (λ r. (stopped_in job ch c r, s.files))).0))
      (sym e)

  -- two answers that name no status
  no_channel : (ch : ℕ) (o : Option Channel) → stopped_on job ch o NoChannel ≡ job
  no_channel ch None = refl
  no_channel ch (Some c) = refl

  late : (ch : ℕ) (o : Option Channel) → stopped_on job ch o DateRange ≡ job
  late ch None = refl
  late ch (Some c) = refl

  opens_leaves : (ch : ℕ) (b : Bool) (reply : Reply) (done : SpecJob)
      → Leaves (λ r. with_job s n job) (if b then of_job s n (settled reply done (λ r. job)) else (NoChannel, s))
  opens_leaves ch true reply done = of_job_leaves reply done (λ r. job)
  opens_leaves ch false reply done = λ differs. put_back

  call_leaves : (pack : Pack) (serial : ℕ) (call : Call) (moment : Moment)
      → Leaves (λ r. with_job s n (job_undone job call r)) (call_of pack serial s n job call moment)
  call_leaves pack serial (Open ch a) moment = opens_leaves ch (nat_le ch 15) _ _
  call_leaves pack serial (Inbuf ch k) moment = on_channel_leaves (λ r. job) _ (channel_at job ch) refl
      (λ c f. of_job_leaves _ _ (λ r. job))
  call_leaves pack serial (Outbuf ch k) moment = on_channel_leaves (λ r. job) _ (channel_at job ch) refl
      (λ c f. of_job_leaves _ _ (λ r. job))
  call_leaves pack serial (Lookup ch e) moment = on_channel_leaves (refused_at job e) _ (channel_at job ch) refl
      (λ c f. of_job_leaves _ _ (refused_at job e))
  call_leaves pack serial (Enter ch e) moment = on_channel_leaves (refused_at job e) _ (channel_at job ch) refl
      (λ c f. of_job_leaves _ _ (refused_at job e))
  call_leaves pack serial (Rename ch e) moment = on_channel_leaves (refused_at job e) _ (channel_at job ch) refl
      (λ c f. of_files_leaves _ _ (refused_at job e))
  call_leaves pack serial (In ch a) moment = on_channel_leaves (stopped_on job ch (channel_at job ch)) _
      (channel_at job ch) (no_channel ch (channel_at job ch)) (λ c f. stops ch c _ _ f)
  call_leaves pack serial (Out ch a) moment = on_channel_leaves (stopped_on job ch (channel_at job ch)) _
      (channel_at job ch) (no_channel ch (channel_at job ch)) (λ c f. stops ch c _ _ f)
  call_leaves pack serial (Useti ch k) moment = on_channel_leaves (stopped_on job ch (channel_at job ch)) _
      (channel_at job ch) (no_channel ch (channel_at job ch)) (λ c f. stops ch c _ _ f)
  call_leaves pack serial (Useto ch k) moment = on_channel_leaves (stopped_on job ch (channel_at job ch)) _
      (channel_at job ch) (no_channel ch (channel_at job ch)) (λ c f. stops ch c _ _ f)
  call_leaves pack serial (Close ch bits) moment = on_channel_leaves (stopped_on job ch (channel_at job ch)) _
      (channel_at job ch) (no_channel ch (channel_at job ch)) (λ c f. stops_files ch c _ _ f)
  call_leaves pack serial (Releas ch) moment = on_channel_leaves (stopped_on job ch (channel_at job ch)) _
      (channel_at job ch) (no_channel ch (channel_at job ch)) (λ c f. stops_files ch c _ _ f)
  call_leaves pack serial (Getsts ch) moment = on_channel_leaves (λ r. job) _ (channel_at job ch) refl
      (λ c f differs. put_back)
  call_leaves pack serial Reset moment = λ differs. absurd (differs refl)
  call_leaves pack serial (MakeDir e) moment = of_files_leaves _ _ (refused_at job e)
  call_leaves pack serial (DeleteDir e) moment = of_files_leaves _ _ (refused_at job e)
  call_leaves pack serial (Quota e) moment = of_files_leaves _ _ (refused_at job e)

  out_of_time : (call : Call) → job_undone job call DateRange ≡ job
  out_of_time (Open ch a) = refl
  out_of_time (Inbuf ch k) = refl
  out_of_time (Outbuf ch k) = refl
  out_of_time (Lookup ch e) = refl
  out_of_time (Enter ch e) = refl
  out_of_time (Rename ch e) = refl
  out_of_time (In ch a) = late ch (channel_at job ch)
  out_of_time (Out ch a) = late ch (channel_at job ch)
  out_of_time (Useti ch k) = late ch (channel_at job ch)
  out_of_time (Useto ch k) = late ch (channel_at job ch)
  out_of_time (Close ch bits) = late ch (channel_at job ch)
  out_of_time (Releas ch) = late ch (channel_at job ch)
  out_of_time (Getsts ch) = refl
  out_of_time Reset = refl
  out_of_time (MakeDir e) = refl
  out_of_time (DeleteDir e) = refl
  out_of_time (Quota e) = refl

-- Any event.

state_leaves : (s : State) (reply : Reply) (done : State) → Leaves (λ r. s) (settled reply done (λ r. s))
state_leaves s reply done = settled_by (Leaves (λ r. s)) reply done (λ r. s) (λ is differs. absurd (differs refl))
    (λ no differs. refl)

event_leaves : (pack : Pack) (serial : ℕ) (s : State) (n : ℕ) (call : Call) (moment : Moment) (late : Bool)
    (o : Option SpecJob) → job_at s n ≡ o
    → Leaves (call_undone s n o call) (if late then (DateRange, s)
    else on_job s o (λ job. call_of pack serial s n job call moment))
event_leaves pack serial s n call moment true None e differs = refl
event_leaves pack serial s n call moment true (Some job) e differs = put_back s n job e
    ∙ ap (with_job s n) (sym (out_of_time s n job e call))
event_leaves pack serial s n call moment false None e differs = refl
event_leaves pack serial s n call moment false (Some job) e differs = call_leaves s n job e pack serial
    call moment differs

words_leave : (s : State) (row : SpecJob → Reply × State) (o : Option SpecJob)
    → ((job : SpecJob) → Leaves (λ r. s) (row job))
    → Leaves (λ r. s) (on_job s o row)
words_leave s row None h differs = refl
words_leave s row (Some job) h differs = h job differs

pub step_leaves : (pack : Pack) (serial : ℕ) (s : State) (event : Event) → (step pack serial s event).0 ≢ Done
    → (step pack serial s event).1 ≡ undone s event (step pack serial s event).0
step_leaves pack serial s (Login n ppn words) = state_leaves s _ _
step_leaves pack serial s (Deposit n address word) = words_leave s _ (job_at s n) (λ job. state_leaves s _ _)
step_leaves pack serial s (Examine n address) = words_leave s _ (job_at s n) (λ job differs. refl)
step_leaves pack serial s (Calls n call moment) = event_leaves pack serial s n call moment
    (nat_lt (last_date pack.layout) moment.date) (job_at s n) refl

-- The room.

-- what is booked, of files, pinned versions and output sides
abbrev pub booked_of : Files SpecVersion → List SpecVersion → List SpecOutput → ℕ
booked_of files versions outs =
    (directory_cost (size files) + sum_entries
    (λ ppn d. directory_cost (size d.files + total (λ o. if is_create o.kind && (o.place.ppn == ppn) then 1
    else 0) outs)) files)
    + distinct_cost (flat_map (λ d. values d.files) (values files) ++ versions)
    + total (λ o. version_cost (length o.pending.body)) outs

-- the same versions pinned, the same output sides
abbrev pub SameSides : SpecJob → SpecJob → Type 0
SameSides new old = (pinned_by (Some new) ≡ pinned_by (Some old)) × (outputs_of (Some new) ≡ outputs_of (Some old))

pub booked-same_sides : (s : State) (n : ℕ) (new old : SpecJob) → job_at s n ≡ Some old → SameSides new old
    → booked (with_job s n new) ≡ booked s
booked-same_sides s n new old e h = λ i. booked_of s.files (flat_map-set pinned_by s.jobs n new old e h.0 i)
    (flat_map-set outputs_of s.jobs n new old e h.1 i)

pub same_sides : (job : SpecJob) (core : List ℕ) (ch : ℕ) (c d : Channel) → channel_at job ch ≡ Some c
    → version_of (Some d) ≡ version_of (Some c) → d.output ≡ c.output
    → SameSides (with_channel (record job { core = core }) ch (Some d)) job
same_sides job core ch c d e v o = (
  filter_map-set version_of job.channels ch d c e v,
  filter_map-set output_of job.channels ch d c e o,
)

stopped_sides : (job : SpecJob) (ch : ℕ) (o : Option Channel) → channel_at job ch ≡ o → (reply : Reply)
    → SameSides (stopped_on job ch o reply) job
stopped_sides job ch None e reply = (refl, refl)
stopped_sides job ch (Some c) e reply =
    stopped_by (λ j. SameSides j job) job ch c reply (refl, refl)
    (λ status. same_sides job job.core ch c (record c { status = status }) e refl refl)

refused_sides : (job : SpecJob) (e : ℕ) (reply : Reply) → SameSides (refused_at job e reply) job
refused_sides job e reply = refused_by (λ j. SameSides j job) job e reply (λ core. (refl, refl))

pub undone_sides : (job : SpecJob) (call : Call) (reply : Reply) → SameSides (job_undone job call reply) job
undone_sides job (Open ch a) reply = (refl, refl)
undone_sides job (Inbuf ch k) reply = (refl, refl)
undone_sides job (Outbuf ch k) reply = (refl, refl)
undone_sides job (Lookup ch e) reply = refused_sides job e reply
undone_sides job (Enter ch e) reply = refused_sides job e reply
undone_sides job (Rename ch e) reply = refused_sides job e reply
undone_sides job (In ch a) reply = stopped_sides job ch (channel_at job ch) refl reply
undone_sides job (Out ch a) reply = stopped_sides job ch (channel_at job ch) refl reply
undone_sides job (Useti ch k) reply = stopped_sides job ch (channel_at job ch) refl reply
undone_sides job (Useto ch k) reply = stopped_sides job ch (channel_at job ch) refl reply
undone_sides job (Close ch bits) reply = stopped_sides job ch (channel_at job ch) refl reply
undone_sides job (Releas ch) reply = stopped_sides job ch (channel_at job ch) refl reply
undone_sides job (Getsts ch) reply = (refl, refl)
undone_sides job Reset reply = (refl, refl)
undone_sides job (MakeDir e) reply = refused_sides job e reply
undone_sides job (DeleteDir e) reply = refused_sides job e reply
undone_sides job (Quota e) reply = refused_sides job e reply

call_undone_booked : (s : State) (n : ℕ) (o : Option SpecJob) (call : Call) (reply : Reply) → job_at s n ≡ o
    → booked (call_undone s n o call reply) ≡ booked s
call_undone_booked s n None call reply e = refl
call_undone_booked s n (Some job) call reply e = booked-same_sides s n (job_undone job call reply) job e
    (undone_sides job call reply)

undone_booked : (s : State) (event : Event) (reply : Reply) → booked (undone s event reply) ≡ booked s
undone_booked s (Login n ppn words) reply = refl
undone_booked s (Deposit n address word) reply = refl
undone_booked s (Examine n address) reply = refl
undone_booked s (Calls n call moment) reply = call_undone_booked s n (job_at s n) call reply refl

pub keeps_room : (pack : Pack) (serial : ℕ) (s : State) (event : Event) → (step pack serial s event).0 ≢ Done
    → room pack (step pack serial s event).1 ≡ room pack s
keeps_room pack serial s event differs =
    ap (room pack) (step_leaves pack serial s event differs)
    ∙ ap (λ b. pos (space pack) -ℤ pos b) (undone_booked s event (step pack serial s event).0)
