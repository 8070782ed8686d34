-- Each event leads to a sound state.
use Rattle.std.proofs.Common.{◌≡◌, ℕ, Bool, true, false, if◌then◌else◌, Option, Some, None, refl, sym, subst, inl}
use Rattle.std.specs.Prelude.{slice_set, nat_lt, nat_le}
use Rattle.words36.specs.declared.moment.Moment.{Moment}
use Rattle.spec_image.specs.Common.{insert, remove, SpecVersion, Pack, files_limited}
use Rattle.spec_machine.specs.Jobs.{Channel, SpecJob, State, channel_at, job_at, with_channel}
use Rattle.spec_machine.specs.Outcomes.{stopped_in, refused_at}
use Rattle.spec_machine.specs.Open.{opens}
use Rattle.spec_machine.specs.Inputs.{in_answer, useti_answer}
use Rattle.spec_machine.specs.Outputs.{useto_answer}
use Rattle.spec_machine.specs.Close.{close_answer, close_done, output_put, core_closed, files_closed, closes}
use Rattle.spec_machine.specs.Close.{releases}
use Rattle.spec_machine.specs.Rename.{renames, rename_answer, rename_done, files_renamed}
use Rattle.spec_machine.specs.MakeDir.{makes, make_answer, removes, remove_answer, owner_at, directory_made, limits}
use Rattle.spec_machine.specs.MakeDir.{limit_answer, quota_at}
use Rattle.spec_machine.specs.Sessions.{login_answer, new_job, deposit_answer, deposit_done}
use Rattle.spec_machine.specs.Step.{step, last_date, on_job, on_channel, of_job, of_files, call_of}
use Rattle.spec_machine.specs.Runs.{IsFresh}
use Rattle.spec_machine.specs.Sound.{IsSound}
use Rattle.spec_machine.specs.declared.call.Call.{Call}
use Rattle.spec_machine.specs.declared.call.Call.TheVariants.{Open, Inbuf, Outbuf, Lookup, Enter, Rename, In, Out}
use Rattle.spec_machine.specs.declared.call.Call.TheVariants.{Useti, Useto, Close, Releas, Getsts, Reset, MakeDir}
use Rattle.spec_machine.specs.declared.call.Call.TheVariants.{DeleteDir, Quota}
use Rattle.spec_machine.specs.declared.call.Event.{Event}
use Rattle.spec_machine.specs.declared.call.Event.TheVariants.{Login, Deposit, Examine, Call as Calls}
use Rattle.spec_machine.specs.declared.call.Reply.{Reply}
use Rattle.spec_machine.specs.declared.call.Reply.TheVariants.{NoChannel, DateRange}
use Rattle.spec_machine.proofs.OutcomeLaws.{settled_by}
use Rattle.spec_image.proofs.Common.{keeps_insert, found_with_directory, stays_with_directory}
use Rattle.spec_machine.proofs.SoundLaws.{Goes, GoodJob, good_self, good_closed, goes_with, goes_job, goes_nowhere}
use Rattle.spec_machine.proofs.SoundLaws.{sound_goes}
use Rattle.spec_machine.proofs.SoundSteps.{make_needs, blank, would_be, like_itself, like_at, same_moved}
use Rattle.spec_machine.proofs.SoundSteps.{same_input_at, good_row, good_stopped, good_refused, good_open, good_ring}
use Rattle.spec_machine.proofs.SoundSteps.{good_out, good_lookup, good_enter}
use Rattle.spec_machine.proofs.CloseSteps.{would_be_serial, closes_goes, releases_goes}
use Rattle.spec_machine.proofs.RemovalSteps.{renamed_goes, removed_goes, limited_goes}

abbrev pub Going : ℕ → State → State → Type 0
Going serial s s' = (v : SpecVersion) × (n : ℕ) × (ch : ℕ) × (v.serial ≡ serial) × Goes s s' v n ch

nowhere : (serial : ℕ) (s : State) → Going serial s s
nowhere serial s = (blank serial, 0, 0, refl, goes_nowhere s (blank serial) 0 0)

by_job : (serial : ℕ) (s : State) (n ch : ℕ) (job : SpecJob) → GoodJob s (blank serial) n ch job
    → Going serial s (record s { jobs = slice_set s.jobs n (Some job) })
by_job serial s n ch job good = (blank serial, n, ch, refl, goes_job s (blank serial) n ch job good)

on_channel_goes : (serial : ℕ) (s : State) (row : Channel → Reply × State) (o : Option Channel)
    → ((c : Channel) → o ≡ Some c → Going serial s (row c).1) → Going serial s (on_channel s o row).1
on_channel_goes serial s row None h = nowhere serial s
on_channel_goes serial s row (Some c) h = h c refl

module _ (pack : Pack) (serial : ℕ) (s : State) (sound : IsSound s) (n : ℕ) (job : SpecJob) (there : job_at s n
    ≡ Some job) where
  rename_goes : (ch : ℕ) (c : Channel) (e : ℕ) → channel_at job ch ≡ Some c
      → Going serial s (of_files s n (renames pack s job ch c e)).1
  rename_goes ch c e is =
      settled_by (λ r. Going serial s (of_files s n r).1) (rename_answer pack s job c e)
      (rename_done job ch c, files_renamed s.files job e c.input) (λ r. (refused_at job e r, s.files))
      (λ done. (blank serial, n, ch, refl, renamed_goes pack s n job there ch c is (blank serial) e done))
      (λ differs. by_job serial s n ch _ (good_refused s (blank serial) n job there ch e _))

  remove_goes : (e : ℕ) → Going serial s (of_files s n (removes s job e)).1
  remove_goes e =
      settled_by (λ r. Going serial s (of_files s n r).1) (remove_answer s job e (owner_at job e))
      (job, remove s.files (owner_at job e)) (λ r. (refused_at job e r, s.files))
      (λ done. (blank serial, n, 0, refl, removed_goes s sound n job there (blank serial) e done))
      (λ differs. by_job serial s n 0 _ (good_refused s (blank serial) n job there 0 e _))

  limit_goes : (e : ℕ) → Going serial s (of_files s n (limits pack s job e)).1
  limit_goes e =
      settled_by (λ r. Going serial s (of_files s n r).1) (limit_answer pack s job e (owner_at job e))
      (job, files_limited s.files (owner_at job e) (quota_at job e)) (λ r. (refused_at job e r, s.files))
      (λ done. (blank serial, n, 0, refl, limited_goes s n job there (blank serial) e))
      (λ differs. by_job serial s n 0 _ (good_refused s (blank serial) n job there 0 e _))

  close_goes : (ch : ℕ) (c : Channel) (bits : ℕ) → channel_at job ch ≡ Some c
      → Going serial s (of_files s n (closes pack serial s job ch c bits)).1
  close_goes ch c bits is =
      settled_by (λ r. Going serial s (of_files s n r).1) (close_answer pack s job c bits)
      (close_done serial job ch c bits, files_closed serial s.files job c bits) (λ r. (stopped_in job ch c r, s.files))
      (λ done. (
        would_be serial (output_put job c),
        n,
        ch,
        would_be_serial serial (output_put job c),
        closes_goes s serial n job there ch c is bits,
      ))
      (λ differs. by_job serial s n ch _ (good_stopped s (blank serial) n job there ch c _ is))

  release_goes : (ch : ℕ) (c : Channel) → channel_at job ch ≡ Some c
      → Going serial s (of_files s n (releases pack serial s job ch c)).1
  release_goes ch c is =
      settled_by (λ r. Going serial s (of_files s n r).1) (close_answer pack s job c 0)
      (with_channel (record job { core = core_closed job.core c 0 }) ch None, files_closed serial s.files job c 0)
      (λ r. (stopped_in job ch c r, s.files))
      (λ done. (
        would_be serial (output_put job c),
        n,
        ch,
        would_be_serial serial (output_put job c),
        releases_goes s serial n job there ch c is,
      ))
      (λ differs. by_job serial s n ch _ (good_stopped s (blank serial) n job there ch c _ is))

  open_goes : (ch a : ℕ) (b : Bool) → Going serial s (if b then of_job s n (opens job ch a) else (NoChannel, s)).1
  open_goes ch a true = by_job serial s n ch _ (good_open s (blank serial) n job there ch a)
  open_goes ch a false = nowhere serial s

  make_goes : (e : ℕ) → Going serial s (of_files s n (makes pack s job e)).1
  make_goes e =
      settled_by (λ r. Going serial s (of_files s n r).1) (make_answer pack s job e (owner_at job e))
      (job, insert s.files (owner_at job e) (directory_made job e)) (λ r. (refused_at job e r, s.files))
      (λ done. let none = (make_needs pack s job e (owner_at job e) done).0 in (
        blank serial,
        n,
        0,
        refl,
        goes_with s (blank serial) n 0 _ job (good_self s (blank serial) n 0 job there job.core)
            (λ place w is. inl (inl (place, found_with_directory s.files (owner_at job e) _ 0 none place w is)))
            (λ place is. stays_with_directory s.files (owner_at job e) _ 0 none place is)
            (λ ppn is. keeps_insert s.files (owner_at job e) (directory_made job e) ppn is),
      ))
      (λ differs. by_job serial s n 0 _ (good_refused s (blank serial) n job there 0 e _))

  call_goes : (call : Call) (moment : Moment) → Going serial s (call_of pack serial s n job call moment).1
  call_goes (Open ch a) moment = open_goes ch a (nat_le ch 15)
  call_goes (Inbuf ch k) moment = on_channel_goes serial s _ (channel_at job ch)
      (λ c f. by_job serial s n ch _ (good_ring s (blank serial) n job there ch c c.input_header k f))
  call_goes (Outbuf ch k) moment = on_channel_goes serial s _ (channel_at job ch)
      (λ c f. by_job serial s n ch _ (good_ring s (blank serial) n job there ch c c.output_header k f))
  call_goes (Lookup ch e) moment = on_channel_goes serial s _ (channel_at job ch)
      (λ c f. by_job serial s n ch _ (good_lookup s (blank serial) n job there pack ch c e f))
  call_goes (Enter ch e) moment = on_channel_goes serial s _ (channel_at job ch)
      (λ c f. by_job serial s n ch _ (good_enter s (blank serial) n job there pack ch c e moment f))
  call_goes (Rename ch e) moment = on_channel_goes serial s _ (channel_at job ch) (λ c f. rename_goes ch c e f)
  call_goes (In ch a) moment = on_channel_goes serial s _ (channel_at job ch) (λ c f.
      by_job serial s n ch _ (good_row s (blank serial) n job there ch c _ _ (in_answer job c a) f
      (like_itself c.output) (same_moved c.input _)))
  call_goes (Out ch a) moment = on_channel_goes serial s _ (channel_at job ch)
      (λ c f. by_job serial s n ch _ (good_out s (blank serial) n job there pack ch c a f))
  call_goes (Useti ch k) moment = on_channel_goes serial s _ (channel_at job ch) (λ c f.
      by_job serial s n ch _ (good_row s (blank serial) n job there ch c _ job.core (useti_answer c k) f
      (like_itself c.output) (same_input_at c.input k)))
  call_goes (Useto ch k) moment = on_channel_goes serial s _ (channel_at job ch) (λ c f.
      by_job serial s n ch _ (good_row s (blank serial) n job there ch c _ job.core (useto_answer c k) f
      (like_at c.output k) refl))
  call_goes (Close ch bits) moment = on_channel_goes serial s _ (channel_at job ch) (λ c f. close_goes ch c bits f)
  call_goes (Releas ch) moment = on_channel_goes serial s _ (channel_at job ch) (λ c f. release_goes ch c f)
  call_goes (Getsts ch) moment = on_channel_goes serial s _ (channel_at job ch) (λ c f. nowhere serial s)
  call_goes Reset moment = by_job serial s n 0 _ (good_closed s (blank serial) n 0 job.ppn _)
  call_goes (MakeDir e) moment = make_goes e
  call_goes (DeleteDir e) moment = remove_goes e
  call_goes (Quota e) moment = limit_goes e

on_job_goes : (serial : ℕ) (s : State) (row : SpecJob → Reply × State) (o : Option SpecJob)
    → ((job : SpecJob) → o ≡ Some job → Going serial s (row job).1) → Going serial s (on_job s o row).1
on_job_goes serial s row None h = nowhere serial s
on_job_goes serial s row (Some job) h = h job refl

in_time_goes : (serial : ℕ) (s : State) (late : Bool) (r : Reply × State) → Going serial s r.1
    → Going serial s (if late then (DateRange, s) else r).1
in_time_goes serial s true r h = nowhere serial s
in_time_goes serial s false r h = h

step_goes : (pack : Pack) (serial : ℕ) (s : State) (event : Event) → IsSound s
    → Going serial s (step pack serial s event).1
step_goes pack serial s (Login n ppn words) sound =
    settled_by (λ r. Going serial s r.1) (login_answer n words) _ (λ r. s)
    (λ is. by_job serial s n 0 (new_job ppn words) (good_closed s (blank serial) n 0 ppn _))
    (λ differs. nowhere serial s)
step_goes pack serial s (Deposit n address word) sound = on_job_goes serial s _ (job_at s n) (λ job there.
    settled_by (λ r. Going serial s r.1) (deposit_answer job address) _ (λ r. s)
    (λ is. by_job serial s n 0 (deposit_done job address word) (good_self s (blank serial) n 0 job there _))
    (λ differs. nowhere serial s))
step_goes pack serial s (Examine n address) sound = on_job_goes serial s _ (job_at s n) (λ job there. nowhere serial s)
step_goes pack serial s (Calls n call moment) sound =
    in_time_goes serial s (nat_lt (last_date pack.layout) moment.date) _
    (on_job_goes serial s _ (job_at s n) (λ job there. call_goes pack serial s sound n job there call moment))

pub sound_step : (pack : Pack) (serial : ℕ) (s : State) (event : Event) → IsFresh s serial → IsSound s
    → IsSound (step pack serial s event).1
sound_step pack serial s event fresh sound =
    let g = step_goes pack serial s event sound in
    sound_goes s (step pack serial s event).1 g.0 g.1 g.2 sound g.4 (subst (IsFresh s) (sym g.3) fresh)
