-- No call takes a directory above its quota.
use Rattle.std.proofs.Common.{◌≡◌, ◌≢◌, ℕ, ◌≤◌, Bool, true, false, if◌then◌else◌, Option, Some, None, refl, ap, subst}
use Rattle.std.proofs.Common.{◌∙◌, ◌⊎◌, inl, inr, ⊎_elim, arith}
use Rattle.std.specs.Prelude.{nat_lt, nat_le}
use Rattle.words36.specs.declared.moment.Moment.{Moment}
use Rattle.spec_image.specs.Common.{insert, remove, Pack, files_limited}
use Rattle.spec_machine.specs.Jobs.{Channel, SpecJob, State, channel_at, job_at, with_channel}
use Rattle.spec_machine.specs.Charges.{charge, quota_of, is_limited}
use Rattle.spec_machine.specs.Runs.{Steps}
use Rattle.spec_machine.specs.Sound.{IsSound}
use Rattle.spec_machine.specs.Outcomes.{stopped_in, refused_at}
use Rattle.spec_machine.specs.Open.{opens}
use Rattle.spec_machine.specs.Lookup.{place_at}
use Rattle.spec_machine.specs.Enter.{enter_answer, enter_done}
use Rattle.spec_machine.specs.Outputs.{out_answer, out_done}
use Rattle.spec_machine.specs.Close.{close_answer, close_done, core_closed, files_closed, closes, releases}
use Rattle.spec_machine.specs.Rename.{renames, rename_answer, rename_done, files_renamed}
use Rattle.spec_machine.specs.MakeDir.{makes, make_answer, removes, remove_answer, owner_at, directory_made, limits}
use Rattle.spec_machine.specs.MakeDir.{limit_answer, quota_at}
use Rattle.spec_machine.specs.Sessions.{login_answer, deposit_answer, deposit_done}
use Rattle.spec_machine.specs.Undone.{call_undone, job_undone, undone}
use Rattle.spec_machine.specs.Step.{step, last_date, on_job, on_channel, of_job, of_files, call_of}
use Rattle.spec_machine.specs.declared.call.Call.{Call}
use Rattle.spec_machine.specs.declared.call.Call.TheVariants.{Open, Inbuf, Outbuf, Lookup, Enter, Rename, In, Out}
use Rattle.spec_machine.specs.declared.call.Call.TheVariants.{Useti, Useto, Close, Releas, Getsts, Reset, MakeDir}
use Rattle.spec_machine.specs.declared.call.Call.TheVariants.{DeleteDir, Quota}
use Rattle.spec_machine.specs.declared.call.Event.{Event}
use Rattle.spec_machine.specs.declared.call.Event.TheVariants.{Login, Deposit, Examine, Call as Calls}
use Rattle.spec_machine.specs.declared.call.Reply.{Reply}
use Rattle.spec_machine.specs.declared.call.Reply.TheVariants.{Done, Value, Refused, Stopped, NoChannel, AddressCheck}
use Rattle.spec_machine.specs.declared.call.Reply.TheVariants.{NoJob, NoMemory, Device, Failed, DateRange}
use Rattle.spec_machine.proofs.OutcomeLaws.{settled_by}
use Rattle.spec_machine.proofs.UndoneLaws.{step_leaves, undone_sides}
use Rattle.spec_machine.proofs.RoomSteps.{same_le}
use Rattle.spec_machine.proofs.RoomEvents.{examined}
use Rattle.spec_machine.proofs.ChargeSteps.{Within, charge-same_sides, within_closed, within_row, within_open}
use Rattle.spec_machine.proofs.ChargeSteps.{within_ring, within_lookup, within_in, within_useti, within_useto}
use Rattle.spec_machine.proofs.ChargeSteps.{within_out, within_enter}
use Rattle.spec_machine.proofs.ChargedFiles.{within_close, within_release, within_rename, within_make, within_remove}
use Rattle.spec_machine.proofs.ChargedFiles.{within_limit}

done_or_not : (reply : Reply) → (reply ≡ Done) ⊎ (reply ≢ Done)
done_or_not Done = inl refl
done_or_not (Value w) = inr (λ e. cc)
done_or_not (Refused w) = inr (λ e. cc)
done_or_not (Stopped w) = inr (λ e. cc)
done_or_not NoChannel = inr (λ e. cc)
done_or_not AddressCheck = inr (λ e. cc)
done_or_not NoJob = inr (λ e. cc)
done_or_not NoMemory = inr (λ e. cc)
done_or_not Device = inr (λ e. cc)
done_or_not Failed = inr (λ e. cc)
done_or_not DateRange = inr (λ e. cc)

-- What isn't done charges what was charged before.

call_undone_charge : (s : State) (p n : ℕ) (o : Option SpecJob) (call : Call) (reply : Reply) → job_at s n ≡ o
    → charge (call_undone s n o call reply) p ≡ charge s p
call_undone_charge s p n None call reply e = refl
call_undone_charge s p n (Some job) call reply e =
    charge-same_sides s p n (job_undone job call reply) job e (undone_sides job call reply)

undone_charge : (s : State) (p : ℕ) (event : Event) (reply : Reply) → charge (undone s event reply) p ≡ charge s p
undone_charge s p (Login n ppn words) reply = refl
undone_charge s p (Deposit n address word) reply = refl
undone_charge s p (Examine n address) reply = refl
undone_charge s p (Calls n call moment) reply = call_undone_charge s p n (job_at s n) call reply refl

module _ (s : State) (p : ℕ) (limited : is_limited s p ≡ true) where
  abbrev WithinEvent : Reply × State → Type 0
  WithinEvent r = r.0 ≡ Done → Within s p limited r.1

  channel_event : (row : Channel → Reply × State) (o : Option Channel)
      → ((c : Channel) → o ≡ Some c → WithinEvent (row c)) → WithinEvent (on_channel s o row)
  channel_event row None h done = let wrong = done in cc
  channel_event row (Some c) h done = h c refl done

  job_event : (row : SpecJob → Reply × State) (o : Option SpecJob)
      → ((job : SpecJob) → o ≡ Some job → WithinEvent (row job))
      → WithinEvent (on_job s o row)
  job_event row None h done = let wrong = done in cc
  job_event row (Some job) h done = h job refl done

  timely_event : (late : Bool) (r : Reply × State) → WithinEvent r → WithinEvent (if late then (DateRange, s) else r)
  timely_event true r h done = let wrong = done in cc
  timely_event false r h done = h done

  module _ (pack : Pack) (serial : ℕ) (sound : IsSound s) (n : ℕ) (job : SpecJob) (there : job_at s n ≡ Some job) where
    open_event : (ch a : ℕ) (b : Bool) → WithinEvent (if b then of_job s n (opens job ch a) else (NoChannel, s))
    open_event ch a true done = within_open s p limited pack sound n job there ch a done
    open_event ch a false done = let wrong = done in cc

    make_event : (e : ℕ) → WithinEvent (of_files s n (makes pack s job e))
    make_event e = settled_by (λ r. r.0 ≡ Done → Within s p limited (of_files s n r).1)
        (make_answer pack s job e (owner_at job e)) (job, insert s.files (owner_at job e) (directory_made job e))
        (λ r. (refused_at job e r, s.files)) (λ is done. within_make s p limited pack sound n job there e is)
        (λ differs done. absurd (differs done))

    rename_event : (ch : ℕ) (c : Channel) (e : ℕ) → channel_at job ch ≡ Some c
        → WithinEvent (of_files s n (renames pack s job ch c e))
    rename_event ch c e f = settled_by (λ r. r.0 ≡ Done → Within s p limited (of_files s n r).1)
        (rename_answer pack s job c e) (rename_done job ch c, files_renamed s.files job e c.input)
        (λ r. (refused_at job e r, s.files)) (λ is done. within_rename s p limited pack sound n job there ch c f e is)
        (λ differs done. absurd (differs done))

    close_event : (ch : ℕ) (c : Channel) (bits : ℕ) → channel_at job ch ≡ Some c
        → WithinEvent (of_files s n (closes pack serial s job ch c bits))
    close_event ch c bits f = settled_by (λ r. r.0 ≡ Done → Within s p limited (of_files s n r).1)
        (close_answer pack s job c bits)
        (close_done serial job ch c bits, files_closed serial s.files job c bits)
        (λ r. (stopped_in job ch c r, s.files))
        (λ is done. within_close s p limited pack sound n job there ch c f serial bits is)
        (λ differs done. absurd (differs done))

    release_event : (ch : ℕ) (c : Channel) → channel_at job ch ≡ Some c
        → WithinEvent (of_files s n (releases pack serial s job ch c))
    release_event ch c f = settled_by (λ r. r.0 ≡ Done → Within s p limited (of_files s n r).1)
        (close_answer pack s job c 0)
        (with_channel (record job { core = core_closed job.core c 0 }) ch None, files_closed serial s.files job c 0)
        (λ r. (stopped_in job ch c r, s.files))
        (λ is done. within_release s p limited pack sound n job there ch c f serial is)
        (λ differs done. absurd (differs done))

    remove_event : (e : ℕ) → WithinEvent (of_files s n (removes s job e))
    remove_event e = settled_by (λ r. r.0 ≡ Done → Within s p limited (of_files s n r).1)
        (remove_answer s job e (owner_at job e)) (job, remove s.files (owner_at job e))
        (λ r. (refused_at job e r, s.files))
        (λ is done. within_remove s p limited pack sound n job there (owner_at job e))
        (λ differs done. absurd (differs done))

    limit_event : (e : ℕ) → WithinEvent (of_files s n (limits pack s job e))
    limit_event e = settled_by (λ r. r.0 ≡ Done → Within s p limited (of_files s n r).1)
        (limit_answer pack s job e (owner_at job e))
        (job, files_limited s.files (owner_at job e) (quota_at job e)) (λ r. (refused_at job e r, s.files))
        (λ is done. within_limit s p limited pack sound n job there (owner_at job e) (quota_at job e))
        (λ differs done. absurd (differs done))

    call_event : (call : Call) (moment : Moment) → WithinEvent (call_of pack serial s n job call moment)
    call_event (Open ch a) moment = open_event ch a (nat_le ch 15)
    call_event (Inbuf ch k) moment = channel_event _ (channel_at job ch)
        (λ c f. within_ring s p limited pack sound n job there ch c c.input_header k f)
    call_event (Outbuf ch k) moment = channel_event _ (channel_at job ch)
        (λ c f. within_ring s p limited pack sound n job there ch c c.output_header k f)
    call_event (Lookup ch e) moment = channel_event _ (channel_at job ch)
        (λ c f. within_lookup s p limited pack sound n job there ch c e f)
    call_event (Enter ch e) moment = channel_event _ (channel_at job ch) (λ c f.
        within_row s p limited pack sound n job there (enter_answer pack s job c e (place_at job e))
        (enter_done pack s job ch c e moment (place_at job e)) (refused_at job e)
        (λ done. within_enter s p limited pack sound n job there ch c f e moment done))
    call_event (Rename ch e) moment = channel_event _ (channel_at job ch) (λ c f. rename_event ch c e f)
    call_event (In ch a) moment = channel_event _ (channel_at job ch)
        (λ c f. within_in s p limited pack sound n job there ch c a f)
    call_event (Out ch a) moment = channel_event _ (channel_at job ch) (λ c f.
        within_row s p limited pack sound n job there (out_answer pack s job c a) (out_done job ch c a)
        (stopped_in job ch c) (λ done. within_out s p limited pack sound n job there ch c f a done))
    call_event (Useti ch k) moment = channel_event _ (channel_at job ch)
        (λ c f. within_useti s p limited pack sound n job there ch c k f)
    call_event (Useto ch k) moment = channel_event _ (channel_at job ch)
        (λ c f. within_useto s p limited pack sound n job there ch c k f)
    call_event (Close ch bits) moment = channel_event _ (channel_at job ch) (λ c f. close_event ch c bits f)
    call_event (Releas ch) moment = channel_event _ (channel_at job ch) (λ c f. release_event ch c f)
    call_event (Getsts ch) moment = channel_event _ (channel_at job ch) (λ c f done. let wrong = done in cc)
    call_event Reset moment = λ done. within_closed s p limited n job.ppn _
    call_event (MakeDir e) moment = make_event e
    call_event (DeleteDir e) moment = remove_event e
    call_event (Quota e) moment = limit_event e

  within_done : (pack : Pack) (serial : ℕ) (event : Event) → IsSound s → WithinEvent (step pack serial s event)
  within_done pack serial (Login n ppn words) sound =
      settled_by (λ r. r.0 ≡ Done → Within s p limited r.1) (login_answer n words) _ (λ r. s)
      (λ is done. within_closed s p limited n ppn _) (λ differs done. absurd (differs done))
  within_done pack serial (Deposit n address word) sound = job_event _ (job_at s n) (λ job there.
      settled_by (λ r. r.0 ≡ Done → Within s p limited r.1) (deposit_answer job address) _ (λ r. s)
      (λ is done. inl (same_le (charge-same_sides s p n (deposit_done job address word) job there (refl, refl))))
      (λ differs done. absurd (differs done)))
  within_done pack serial (Examine n address) sound = job_event _ (job_at s n)
      (λ job there done. absurd (examined job address done))
  within_done pack serial (Calls n call moment) sound =
      timely_event (nat_lt (last_date pack.layout) moment.date) _
      (job_event _ (job_at s n) (λ job there. call_event pack serial sound n job there call moment))

  within_step : (pack : Pack) (serial : ℕ) (event : Event) → IsSound s
      → Within s p limited (step pack serial s event).1
  within_step pack serial event sound = ⊎_elim
      (λ done. within_done pack serial event sound done)
      (λ differs. inl (same_le (ap (λ t. charge t p) (step_leaves pack serial s event differs)
      ∙ undone_charge s p event (step pack serial s event).0)))
      (done_or_not (step pack serial s event).0)

at_last : (now was quota : ℕ) → (now ≤ was) ⊎ (now ≤ quota) → was ≤ quota → now ≤ quota
at_last now was quota (inl h) few = omega (arith, h, few)
at_last now was quota (inr h) few = h

-- A charge that is within the directory's quota stays so.
pub quota_kept : (pack : Pack) (s t : State) (event : Event) (reply : Reply) (p : ℕ) → IsSound s
    → Steps pack s event reply t → is_limited s p ≡ true → charge s p ≤ quota_of s p → charge t p ≤ quota_of s p
quota_kept pack s t event reply p sound (serial, fresh, e) limited few =
    subst (λ (r : Reply × State). charge r.1 p ≤ quota_of s p) e
    (at_last (charge (step pack serial s event).1 p) (charge s p) (quota_of s p)
    (within_step s p limited pack serial event sound) few)
