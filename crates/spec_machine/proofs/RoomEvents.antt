-- Each call that is done costs no more than before, or no more than there is room for.
use Rattle.std.proofs.Common.{◌≡◌, ◌≢◌, ℕ, ◌+◌, ◌-◌, ◌≤◌, Bool, true, false, if◌then◌else◌, length, Option, Some}
use Rattle.std.proofs.Common.{None, refl, sym, ap, subst, ◌∙◌, ◌⊎◌, inl, inr, arith}
use Rattle.std.proofs.Math.IntN.{+ℤ-neg_ℤ_cancel}
use Rattle.std.specs.Prelude.{pos, ◌-ℤ◌, ◌<◌, slice_set, slice_index, nat_lt, nat_le}
use Rattle.words36.specs.declared.moment.Moment.{Moment}
use Rattle.spec_image.specs.Common.{insert, remove, Files, SpecVersion, Pack, files_limited}
use Rattle.spec_machine.specs.Jobs.{Channel, SpecJob, State, channel_at, job_at, with_channel}
use Rattle.spec_machine.specs.Room.{booked, space, room}
use Rattle.spec_machine.specs.Runs.{IsFresh}
use Rattle.spec_machine.specs.Sound.{IsSound}
use Rattle.spec_machine.specs.Outcomes.{stopped_in, refused_at}
use Rattle.spec_machine.specs.Open.{opens}
use Rattle.spec_machine.specs.Lookup.{place_at}
use Rattle.spec_machine.specs.Enter.{enter_answer, enter_done}
use Rattle.spec_machine.specs.Outputs.{out_answer, out_done}
use Rattle.spec_machine.specs.Close.{close_answer, close_done, core_closed, files_closed, closes, releases}
use Rattle.spec_machine.specs.Rename.{renames, rename_answer, rename_done, files_renamed}
use Rattle.spec_machine.specs.MakeDir.{makes, make_answer, removes, remove_answer, owner_at, directory_made, limits}
use Rattle.spec_machine.specs.MakeDir.{limit_answer, quota_at}
use Rattle.spec_machine.specs.Sessions.{login_answer, deposit_answer, deposit_done, examine_answer}
use Rattle.spec_machine.specs.Step.{step, last_date, on_job, on_channel, of_job, of_files, call_of}
use Rattle.spec_machine.specs.declared.call.Call.{Call}
use Rattle.spec_machine.specs.declared.call.Call.TheVariants.{Open, Inbuf, Outbuf, Lookup, Enter, Rename, In, Out}
use Rattle.spec_machine.specs.declared.call.Call.TheVariants.{Useti, Useto, Close, Releas, Getsts, Reset, MakeDir}
use Rattle.spec_machine.specs.declared.call.Call.TheVariants.{DeleteDir, Quota}
use Rattle.spec_machine.specs.declared.call.Event.{Event}
use Rattle.spec_machine.specs.declared.call.Event.TheVariants.{Login, Deposit, Examine, Call as Calls}
use Rattle.spec_machine.specs.declared.call.Reply.{Reply}
use Rattle.spec_machine.specs.declared.call.Reply.TheVariants.{Done, Value, NoChannel, AddressCheck, DateRange}
use Rattle.spec_machine.proofs.OutcomeLaws.{settled_by}
use Rattle.spec_machine.proofs.UndoneLaws.{booked-same_sides}
use Rattle.spec_machine.proofs.SlotLaws.{set-slot}
use Rattle.spec_machine.proofs.SoundSteps.{make_needs}
use Rattle.spec_machine.proofs.RoomSteps.{Fine, same_le, fine_row, fine_open, fine_lookup, fine_in, fine_useti}
use Rattle.spec_machine.proofs.RoomSteps.{fine_useto, fine_out, fine_enter, fine_ring, fine_closed, made_fine}
use Rattle.spec_machine.proofs.CloseRoom.{fine_close, fine_release}
use Rattle.spec_machine.proofs.RemovalRoom.{fine_rename, fine_remove, fine_limit}

abbrev FineEvent : Pack → State → Reply × State → Type 0
FineEvent pack s r = r.0 ≡ Done → Fine pack s r.1

channel_event : (pack : Pack) (s : State) (row : Channel → Reply × State) (o : Option Channel)
    → ((c : Channel) → o ≡ Some c → FineEvent pack s (row c)) → FineEvent pack s (on_channel s o row)
channel_event pack s row None h done = let wrong = done in cc
channel_event pack s row (Some c) h done = h c refl done

job_event : (pack : Pack) (s : State) (row : SpecJob → Reply × State) (o : Option SpecJob)
    → ((job : SpecJob) → o ≡ Some job → FineEvent pack s (row job)) → FineEvent pack s (on_job s o row)
job_event pack s row None h done = let wrong = done in cc
job_event pack s row (Some job) h done = h job refl done

timely_event : (pack : Pack) (s : State) (late : Bool) (r : Reply × State) → FineEvent pack s r
    → FineEvent pack s (if late then (DateRange, s) else r)
timely_event pack s true r h done = let wrong = done in cc
timely_event pack s false r h done = h done

module _ (pack : Pack) (serial : ℕ) (s : State) (fresh : IsFresh s serial) (sound : IsSound s) (n : ℕ)
    (job : SpecJob) (there : job_at s n ≡ Some job) where
  open_event : (ch a : ℕ) (b : Bool) → FineEvent pack s (if b then of_job s n (opens job ch a) else (NoChannel, s))
  open_event ch a true done = fine_open pack s sound n job there ch a done
  open_event ch a false done = let wrong = done in cc

  -- a directory is made, and the job is unchanged
  made_state : (files : Files SpecVersion)
      → record s { files = files } ≡ record s { files = files; jobs = slice_set s.jobs n (Some job) }
  made_state files = ap (λ jobs. record s { files = files; jobs = jobs }) (sym (set-slot s.jobs n job there))

  make_event : (e : ℕ) → FineEvent pack s (of_files s n (makes pack s job e))
  make_event e = settled_by (λ r. r.0 ≡ Done
      → Fine pack s (of_files s n r).1) (make_answer pack s job e (owner_at job e))
      (job, insert s.files (owner_at job e) (directory_made job e)) (λ r. (refused_at job e r, s.files))
      (λ is done. let needs = make_needs pack s job e (owner_at job e) is in
      subst (Fine pack s) (made_state (insert s.files (owner_at job e) (directory_made job e)))
      (inr (made_fine pack s sound (owner_at job e) (directory_made job e).protection needs.0 needs.1)))
      (λ differs done. absurd (differs done))

  rename_event : (ch : ℕ) (c : Channel) (e : ℕ) → channel_at job ch ≡ Some c
      → FineEvent pack s (of_files s n (renames pack s job ch c e))
  rename_event ch c e f = settled_by (λ r. r.0 ≡ Done → Fine pack s (of_files s n r).1) (rename_answer pack s job c e)
      (rename_done job ch c, files_renamed s.files job e c.input) (λ r. (refused_at job e r, s.files))
      (λ is done. fine_rename pack s sound n job there ch c f e is) (λ differs done. absurd (differs done))

  close_event : (ch : ℕ) (c : Channel) (bits : ℕ) → channel_at job ch ≡ Some c
      → FineEvent pack s (of_files s n (closes pack serial s job ch c bits))
  close_event ch c bits f =
      settled_by (λ r. r.0 ≡ Done → Fine pack s (of_files s n r).1) (close_answer pack s job c bits)
      (close_done serial job ch c bits, files_closed serial s.files job c bits) (λ r. (stopped_in job ch c r, s.files))
      (λ is done. fine_close pack s sound n job there ch c f serial bits fresh is)
      (λ differs done. absurd (differs done))

  release_event : (ch : ℕ) (c : Channel) → channel_at job ch ≡ Some c
      → FineEvent pack s (of_files s n (releases pack serial s job ch c))
  release_event ch c f =
      settled_by (λ r. r.0 ≡ Done → Fine pack s (of_files s n r).1) (close_answer pack s job c 0)
      (with_channel (record job { core = core_closed job.core c 0 }) ch None, files_closed serial s.files job c 0)
      (λ r. (stopped_in job ch c r, s.files)) (λ is done. fine_release pack s sound n job there ch c f serial fresh is)
      (λ differs done. absurd (differs done))

  remove_event : (e : ℕ) → FineEvent pack s (of_files s n (removes s job e))
  remove_event e = settled_by (λ r. r.0 ≡ Done
      → Fine pack s (of_files s n r).1) (remove_answer s job e (owner_at job e)) (job, remove s.files (owner_at job e))
      (λ r. (refused_at job e r, s.files))
      (λ is done. inl (fine_remove s sound n job there e is)) (λ differs done. absurd (differs done))

  limit_event : (e : ℕ) → FineEvent pack s (of_files s n (limits pack s job e))
  limit_event e = settled_by (λ r. r.0 ≡ Done → Fine pack s (of_files s n r).1)
      (limit_answer pack s job e (owner_at job e))
      (job, files_limited s.files (owner_at job e) (quota_at job e)) (λ r. (refused_at job e r, s.files))
      (λ is done. inl (fine_limit pack s sound n job there e is)) (λ differs done. absurd (differs done))

  call_event : (call : Call) (moment : Moment) → FineEvent pack s (call_of pack serial s n job call moment)
  call_event (Open ch a) moment = open_event ch a (nat_le ch 15)
  call_event (Inbuf ch k) moment = channel_event pack s _ (channel_at job ch)
      (λ c f. fine_ring pack s sound n job there ch c c.input_header k f)
  call_event (Outbuf ch k) moment = channel_event pack s _ (channel_at job ch)
      (λ c f. fine_ring pack s sound n job there ch c c.output_header k f)
  call_event (Lookup ch e) moment = channel_event pack s _ (channel_at job ch)
      (λ c f. fine_lookup pack s sound n job there ch c e f)
  call_event (Enter ch e) moment = channel_event pack s _ (channel_at job ch) (λ c f.
      fine_row pack s sound n job there (enter_answer pack s job c e (place_at job e))
      (enter_done pack s job ch c e moment (place_at job e)) (refused_at job e)
      (λ done. fine_enter pack s sound n job there ch c f e moment done))
  call_event (Rename ch e) moment = channel_event pack s _ (channel_at job ch) (λ c f. rename_event ch c e f)
  call_event (In ch a) moment = channel_event pack s _ (channel_at job ch)
      (λ c f. fine_in pack s sound n job there ch c a f)
  call_event (Out ch a) moment = channel_event pack s _ (channel_at job ch) (λ c f.
      fine_row pack s sound n job there (out_answer pack s job c a) (out_done job ch c a) (stopped_in job ch c)
      (λ done. fine_out pack s sound n job there ch c f a done))
  call_event (Useti ch k) moment = channel_event pack s _ (channel_at job ch)
      (λ c f. fine_useti pack s sound n job there ch c k f)
  call_event (Useto ch k) moment = channel_event pack s _ (channel_at job ch)
      (λ c f. fine_useto pack s sound n job there ch c k f)
  call_event (Close ch bits) moment = channel_event pack s _ (channel_at job ch) (λ c f. close_event ch c bits f)
  call_event (Releas ch) moment = channel_event pack s _ (channel_at job ch) (λ c f. release_event ch c f)
  call_event (Getsts ch) moment = channel_event pack s _ (channel_at job ch) (λ c f done. let wrong = done in cc)
  call_event Reset moment = λ done. inl (fine_closed s n job.ppn _ sound)
  call_event (MakeDir e) moment = make_event e
  call_event (DeleteDir e) moment = remove_event e
  call_event (Quota e) moment = limit_event e

pub examined : (job : SpecJob) (address : ℕ) → examine_answer job address ≢ Done
examined job address = decide (nat_lt address (length job.core))
  where
    decide : (b : Bool) → (if b then Value (slice_index job.core address) else AddressCheck) ≢ Done
    decide true e = cc
    decide false e = cc

pub fine_step : (pack : Pack) (serial : ℕ) (s : State) (event : Event) → IsFresh s serial → IsSound s
    → FineEvent pack s (step pack serial s event)
fine_step pack serial s (Login n ppn words) fresh sound =
    settled_by (λ r. r.0 ≡ Done → Fine pack s r.1) (login_answer n words) _ (λ r. s)
    (λ is done. inl (fine_closed s n ppn _ sound)) (λ differs done. absurd (differs done))
fine_step pack serial s (Deposit n address word) fresh sound = job_event pack s _ (job_at s n) (λ job there.
    settled_by (λ r. r.0 ≡ Done → Fine pack s r.1) (deposit_answer job address) _ (λ r. s)
    (λ is done. inl (same_le (booked-same_sides s n (deposit_done job address word) job there (refl, refl))))
    (λ differs done. absurd (differs done)))
fine_step pack serial s (Examine n address) fresh sound = job_event pack s _ (job_at s n)
    (λ job there done. absurd (examined job address done))
fine_step pack serial s (Calls n call moment) fresh sound =
    timely_event pack s (nat_lt (last_date pack.layout) moment.date) _
    (job_event pack s _ (job_at s n) (λ job there. call_event pack serial s fresh sound n job there call moment))

at_last : (a b c : ℕ) → (b ≤ a) ⊎ (b ≤ c) → a + 1 ≤ b → b ≤ c
at_last a b c (inl h) l = omega (arith, h, l)
at_last a b c (inr h) l = h

-- A call that is done and books more leaves no more booked than there are blocks.
pub room_left : (pack : Pack) (serial : ℕ) (s : State) (event : Event) → IsFresh s serial → IsSound s
    → (step pack serial s event).0 ≡ Done
    → booked s + 1 ≤ booked (step pack serial s event).1 → booked (step pack serial s event).1 ≤ space pack
room_left pack serial s event fresh sound done more = at_last (booked s) (booked (step pack serial s event).1)
    (space pack) (fine_step pack serial s event fresh sound done) more

room_is : (a c : ℕ) → c ≤ a → pos a -ℤ pos c ≡ pos (a - c)
room_is a c h = let e : a ≡ (a - c) + c = omega (arith, h) in ap (λ k. pos k -ℤ pos c) e
    ∙ +ℤ-neg_ℤ_cancel (pos (a - c)) (pos c)

-- The same for the room: if it falls, it is a natural number.
pub room_stays : (pack : Pack) (serial : ℕ) (s : State) (event : Event) → IsFresh s serial → IsSound s
    → (step pack serial s event).0 ≡ Done
    → booked s < booked (step pack serial s event).1 → (k : ℕ) × (room pack (step pack serial s event).1 ≡ pos k)
room_stays pack serial s event fresh sound done more = (
  space pack - booked (step pack serial s event).1,
  room_is (space pack) (booked (step pack serial s event).1)
      (room_left pack serial s event fresh sound done (omega (arith, more))),
)
