-- Each event does the same in a state with other serials.
use Rattle.std.proofs.Common.{◌≡◌, ℕ, Bool, true, false, if◌then◌else◌, List, [], ◌∷◌, map, Option, Some, None, refl}
use Rattle.std.proofs.Common.{ap, ◌∙◌, option_map}
use Rattle.std.specs.Prelude.{nat_lt, nat_le, Ok, Err}
use Rattle.words36.specs.declared.moment.Moment.{Moment}
use Rattle.words36.specs.declared.names.FileName.{FileName}
use Rattle.spec_image.specs.Common.{get, entries, map_values, Directory, Files, map_directory, SpecVersion, Pack}
use Rattle.spec_machine.specs.Jobs.{Channel, SpecJob, State, channel_at, job_at, with_job}
use Rattle.spec_machine.specs.Open.{opens, sets_up}
use Rattle.spec_machine.specs.Lookup.{lookup}
use Rattle.spec_machine.specs.Enter.{enter}
use Rattle.spec_machine.specs.Rename.{renames}
use Rattle.spec_machine.specs.Inputs.{reads, useti}
use Rattle.spec_machine.specs.Outputs.{puts, useto}
use Rattle.spec_machine.specs.Close.{closes, releases}
use Rattle.spec_machine.specs.MakeDir.{makes, removes, limits}
use Rattle.spec_machine.specs.Rights.{may_look, directory_digit}
use Rattle.spec_machine.specs.Sessions.{login_answer, new_job, deposit_answer, deposit_done, resets, entry, listed}
use Rattle.spec_machine.specs.Sessions.{list_for, list}
use Rattle.spec_machine.specs.Step.{step, last_date, on_job, on_channel, of_job, of_files, call_of}
use Rattle.spec_machine.specs.declared.call.Call.{Call}
use Rattle.spec_machine.specs.declared.call.Call.TheVariants.{Open, Inbuf, Outbuf, Lookup, Enter, Rename, In, Out}
use Rattle.spec_machine.specs.declared.call.Call.TheVariants.{Useti, Useto, Close, Releas, Getsts, Reset, MakeDir}
use Rattle.spec_machine.specs.declared.call.Call.TheVariants.{DeleteDir, Quota}
use Rattle.spec_machine.specs.declared.call.Event.{Event}
use Rattle.spec_machine.specs.declared.call.Event.TheVariants.{Login, Deposit, Examine, Call as Calls}
use Rattle.spec_machine.specs.declared.call.Reply.{Reply}
use Rattle.spec_machine.specs.declared.call.Reply.TheVariants.{Refused, NoChannel, DateRange}
use Rattle.spec_image.proofs.Common.{entries-map_values, name_total}
use Rattle.spec_machine.proofs.SerialMaps.{set-map, re_version, re_channel, re_job, re_files, re_state, get-re}
use Rattle.spec_machine.proofs.SerialMaps.{channel-re, job-re, with_job-re}
use Rattle.spec_machine.proofs.SerialRows.{on_value, settled-re, re_both, opens-re, sets_up-re, lookup-re, enter-re}
use Rattle.spec_machine.proofs.SerialRows.{renames-re, puts-re, closes-re, releases-re, makes-re, removes-re}
use Rattle.spec_machine.proofs.SerialRows.{reads-re, useti-re, useto-re, limits-re}

module _ (f : ℕ → ℕ) where
  abbrev pub re_out : Reply × State → Reply × State
  re_out r = (r.0, re_state f r.1)

  of_job-re : (s : State) (n : ℕ) (r' r : Reply × SpecJob) → r' ≡ on_value (re_job f) r
      → of_job (re_state f s) n r' ≡ re_out (of_job s n r)
  of_job-re s n r' r e = ap (of_job (re_state f s) n) e ∙ (λ i. (r.0, with_job-re f s n r.1 i))

  of_files-re : (s : State) (n : ℕ) (r' r : Reply × (SpecJob × Files SpecVersion)) → r' ≡ on_value (re_both f) r
      → of_files (re_state f s) n r' ≡ re_out (of_files s n r)
  of_files-re s n r' r e =
      ap (of_files (re_state f s) n) e ∙ (λ i.
      (r.0, record { files = re_files f r.1.1; jobs = set-map (option_map (re_job f)) s.jobs n (Some r.1.0) i }))

  channel_out : (s : State) (row' row : Channel → Reply × State)
      → ((c : Channel) → row' (re_channel f c) ≡ re_out (row c)) → (o : Option Channel)
      → on_channel (re_state f s) (option_map (re_channel f) o) row' ≡ re_out (on_channel s o row)
  channel_out s row' row h None = refl
  channel_out s row' row h (Some c) = h c

  at_channel : (s : State) (job : SpecJob) (ch : ℕ) (row' row : Channel → Reply × State)
      → ((c : Channel) → row' (re_channel f c) ≡ re_out (row c))
      → on_channel (re_state f s) (channel_at (re_job f job) ch) row' ≡ re_out (on_channel s (channel_at job ch) row)
  at_channel s job ch row' row h = ap (λ o. on_channel (re_state f s) o row') (channel-re f job ch)
      ∙ channel_out s row' row h (channel_at job ch)

  job_out : (s : State) (row' row : SpecJob → Reply × State)
      → ((job : SpecJob) → row' (re_job f job) ≡ re_out (row job))
      → (o : Option SpecJob) → on_job (re_state f s) (option_map (re_job f) o) row' ≡ re_out (on_job s o row)
  job_out s row' row h None = refl
  job_out s row' row h (Some job) = h job

  at_job : (s : State) (n : ℕ) (row' row : SpecJob → Reply × State)
      → ((job : SpecJob) → row' (re_job f job) ≡ re_out (row job))
      → on_job (re_state f s) (job_at (re_state f s) n) row' ≡ re_out (on_job s (job_at s n) row)
  at_job s n row' row h = ap (λ o. on_job (re_state f s) o row') (job-re f s n) ∙ job_out s row' row h (job_at s n)

  if_out : (b : Bool) (reply : Reply) (s : State) (r' r : Reply × State) → r' ≡ re_out r
      → (if b then (reply, re_state f s) else r') ≡ re_out (if b then (reply, s) else r)
  if_out true reply s r' r e = refl
  if_out false reply s r' r e = e

  open_out : (b : Bool) (s : State) (r' r : Reply × State) → r' ≡ re_out r
      → (if b then r' else (NoChannel, re_state f s)) ≡ re_out (if b then r else (NoChannel, s))
  open_out true s r' r e = e
  open_out false s r' r e = refl

  module _ (exact : (a b : ℕ) → f a ≡ f b → a ≡ b) (pack : Pack) (serial : ℕ) (s : State) where
    call-re : (n : ℕ) (job : SpecJob) (call : Call) (moment : Moment)
        → call_of pack (f serial) (re_state f s) n (re_job f job) call moment
        ≡ re_out (call_of pack serial s n job call moment)
    call-re n job (Open ch a) moment = open_out (nat_le ch 15) s _ _
        (of_job-re s n _ (opens job ch a) (opens-re f job ch a))
    call-re n job (Inbuf ch k) moment = at_channel s job ch _ _
        (λ c. of_job-re s n _ (sets_up job ch c c.input_header k) (sets_up-re f job ch c c.input_header k))
    call-re n job (Outbuf ch k) moment = at_channel s job ch _ _
        (λ c. of_job-re s n _ (sets_up job ch c c.output_header k) (sets_up-re f job ch c c.output_header k))
    call-re n job (Lookup ch e) moment = at_channel s job ch _ _
        (λ c. of_job-re s n _ (lookup pack s job ch c e) (lookup-re f pack s job ch c e))
    call-re n job (Enter ch e) moment = at_channel s job ch _ _
        (λ c. of_job-re s n _ (enter pack s job ch c e moment) (enter-re f exact pack s job ch c e moment))
    call-re n job (Rename ch e) moment = at_channel s job ch _ _
        (λ c. of_files-re s n _ (renames pack s job ch c e) (renames-re f exact pack s job ch c e))
    call-re n job (In ch a) moment = at_channel s job ch _ _
        (λ c. of_job-re s n _ (reads job ch c a) (reads-re f job ch c a))
    call-re n job (Out ch a) moment = at_channel s job ch _ _
        (λ c. of_job-re s n _ (puts pack s job ch c a) (puts-re f exact pack s job ch c a))
    call-re n job (Useti ch k) moment = at_channel s job ch _ _
        (λ c. of_job-re s n _ (useti job ch c k) (useti-re f job ch c k))
    call-re n job (Useto ch k) moment = at_channel s job ch _ _
        (λ c. of_job-re s n _ (useto job ch c k) (useto-re f job ch c k))
    call-re n job (Close ch bits) moment = at_channel s job ch _ _
        (λ c. of_files-re s n _ (closes pack serial s job ch c bits) (closes-re f exact pack s serial job ch c bits))
    call-re n job (Releas ch) moment = at_channel s job ch _ _
        (λ c. of_files-re s n _ (releases pack serial s job ch c) (releases-re f exact pack s serial job ch c))
    call-re n job (Getsts ch) moment = at_channel s job ch _ _ (λ c. refl)
    call-re n job Reset moment = of_job-re s n (resets (re_job f job)) (resets job) refl
    call-re n job (MakeDir e) moment = of_files-re s n _ (makes pack s job e) (makes-re f exact pack s job e)
    call-re n job (DeleteDir e) moment = of_files-re s n _ (removes s job e) (removes-re f exact pack s job e)
    call-re n job (Quota e) moment = of_files-re s n _ (limits pack s job e) (limits-re f exact pack s job e)

    pub step-re : (event : Event) → step pack (f serial) (re_state f s) event ≡ re_out (step pack serial s event)
    step-re (Login n ppn words) = settled-re (re_state f) (login_answer n words) (login_answer n words)
        (with_job s n (new_job ppn words)) (with_job (re_state f s) n (new_job ppn words)) (λ r. s) (λ r. re_state f s)
        refl (with_job-re f s n (new_job ppn words)) (λ r. refl)
    step-re (Deposit n address word) = at_job s n _ _ (λ job.
        settled-re (re_state f) (deposit_answer job address) (deposit_answer job address)
        (with_job s n (deposit_done job address word))
        (with_job (re_state f s) n (deposit_done (re_job f job) address word))
        (λ r. s) (λ r. re_state f s) refl (with_job-re f s n (deposit_done job address word)) (λ r. refl))
    step-re (Examine n address) = at_job s n _ _ (λ job. refl)
    step-re (Calls n call moment) = if_out (nat_lt (last_date pack.layout) moment.date) DateRange s _ _
        (at_job s n _ _ (λ job. call-re n job call moment))

  -- The list of a directory.

  entry_map : (es : List (FileName × SpecVersion))
      → map entry (map (λ (e : FileName × SpecVersion). (e.0, re_version f e.1)) es) ≡ map entry es
  entry_map [] = refl
  entry_map (e ∷ es) = ap (λ zs. entry e ∷ zs) (entry_map es)

  listed_re : (job : SpecJob) (owner : ℕ) (o : Option (Directory SpecVersion))
      → listed (re_job f job) owner (option_map (map_directory (re_version f)) o) ≡ listed job owner o
  listed_re job owner None = refl
  listed_re job owner (Some d) =
      let same : map entry (entries (map_values (re_version f) d.files))
      ≡ map entry (entries d.files) = ap (map entry) (entries-map_values name_total (re_version f) d.files)
      ∙ entry_map (entries d.files) in
      λ i. if may_look (directory_digit d.protection job.ppn owner) then Ok (same i) else Err (Refused 2)

  for_re : (s : State) (owner : ℕ) (o : Option SpecJob) → list_for (re_state f s) (option_map (re_job f) o) owner
      ≡ list_for s o owner
  for_re s owner None = refl
  for_re s owner (Some job) = ap (listed (re_job f job) owner) (get-re f s.files owner)
      ∙ listed_re job owner (get s.files owner)

  pub list-re : (s : State) (n owner : ℕ) → list (re_state f s) n owner ≡ list s n owner
  list-re s n owner = ap (λ o. list_for (re_state f s) o owner) (job-re f s n) ∙ for_re s owner (job_at s n)
