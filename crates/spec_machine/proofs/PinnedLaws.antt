-- A channel that looked a file up continues to read that version, whatever others do.
use Rattle.std.proofs.Common.{◌≡◌, ℕ, Bool, true, false, if◌then◌else◌, not, List, Option, Some, None, refl, sym, ap}
use Rattle.std.proofs.Common.{subst, ◌∙◌, ◌≢◌, option_map, ⊎_elim}
use Rattle.std.specs.Prelude.{nat_lt, nat_le, ◌==◌, ◌||◌, is_some, ◌+◌}
use Rattle.words36.specs.declared.moment.Moment.{Moment}
use Rattle.spec_image.specs.Common.{Files, Place, SpecVersion, file_at, words_from, Pack}
use Rattle.spec_machine.specs.Cores.{lies_outside}
use Rattle.spec_machine.specs.Jobs.{Channel, SpecJob, SpecInput, SpecOutput, State, channel_at, job_at, with_job}
use Rattle.spec_machine.specs.Jobs.{with_channel}
use Rattle.spec_machine.specs.Jobs.{improper_mode}
use Rattle.spec_machine.specs.Outcomes.{settled, clean, stopped_in, refused_at}
use Rattle.spec_machine.specs.Open.{opens, open_done, mode_at, device_at, disk, is_mode, misses_headers}
use Rattle.spec_machine.specs.Open.{ring_answer, sets_up}
use Rattle.spec_machine.specs.Lookup.{lookup, lookup_answer, looked_up, place_at}
use Rattle.spec_machine.specs.Enter.{enter, enter_answer}
use Rattle.spec_machine.specs.Inputs.{words_ahead, moved_on, input_at, reads, useti}
use Rattle.spec_machine.specs.Outputs.{Outgoing, outgoing, put_on, put_done, out_answer, out_done, output_at, puts}
use Rattle.spec_machine.specs.Outputs.{useto}
use Rattle.spec_machine.specs.Close.{close_answer, closes, releases}
use Rattle.spec_machine.specs.Rename.{renames, rename_answer}
use Rattle.spec_machine.specs.MakeDir.{makes, make_answer, removes, remove_answer, owner_at, limits, limit_answer}
use Rattle.spec_machine.specs.Sessions.{deposit_answer, deposit_done, examine_answer}
use Rattle.spec_machine.specs.Step.{step, last_date, on_job, deposit, call_of, on_channel, of_job, of_files}
use Rattle.spec_machine.specs.PinnedVersions.{SparesCall, SparesEvent, version_read, pinned_on, pinned_in, pinned_for}
use Rattle.spec_machine.specs.PinnedVersions.{pinned_at}
use Rattle.spec_machine.specs.declared.call.Call.{Call}
use Rattle.spec_machine.specs.declared.call.Call.TheVariants.{Open, Inbuf, Outbuf, Lookup, Enter, Rename, In, Out}
use Rattle.spec_machine.specs.declared.call.Call.TheVariants.{Useti, Useto, Close, Releas, Getsts, Reset, MakeDir}
use Rattle.spec_machine.specs.declared.call.Call.TheVariants.{DeleteDir, Quota}
use Rattle.spec_machine.specs.declared.call.Event.{Event}
use Rattle.spec_machine.specs.declared.call.Event.TheVariants.{Login, Deposit, Examine, Call as Calls}
use Rattle.spec_machine.specs.declared.call.Reply.{Reply}
use Rattle.spec_machine.specs.declared.call.Reply.TheVariants.{Done, Refused, Stopped, NoChannel, AddressCheck}
use Rattle.spec_machine.specs.declared.call.Reply.TheVariants.{DateRange}
use Rattle.spec_image.proofs.Common.{some_same}
use Rattle.spec_machine.proofs.OutcomeLaws.{settled_by, stopped_by, refused_by}
use Rattle.spec_machine.proofs.SlotLaws.{slot-set_same, slot-set_other, slot-set_shown, slot-set_new}
use Rattle.spec_machine.proofs.StepLaws.{spares_call_event, spares_login}

-- what such a channel's IN reads is that version's body
pub words_held : (v : SpecVersion) (o : Option SpecOutput) (i : Option SpecInput) → version_read o i ≡ Some v
    → (n : ℕ) → option_map (λ i. i.next) i ≡ Some n → words_ahead i o ≡ words_from v.file.body n
words_held v (Some o) i e n f = let wrong = e in cc
words_held v None None e n f = let wrong = e in cc
words_held v None (Some i) e n f = λ k. words_from (some_same e k).file.body (some_same f k)

-- A call's answer that isn't Done leaves what a channel reads.

settled_held : {A : Type 0} (job : A → SpecJob) (was : SpecJob) (ch : ℕ) (reply : Reply) (done : A) (other : Reply → A)
    → pinned_in (job done) ch ≡ pinned_in was ch → ((r : Reply) → pinned_in (job (other r)) ch ≡ pinned_in was ch)
    → pinned_in (job (settled reply done other).1) ch ≡ pinned_in was ch
settled_held job was ch reply done other h g = settled_by (λ r. pinned_in (job r.1) ch ≡ pinned_in was ch) reply done
    other
    (λ is. h) (λ differs. g reply)

stopped_held : (job : SpecJob) (k : ℕ) (c : Channel) (ch : ℕ) → channel_at job k ≡ Some c → (r : Reply)
    → pinned_in (stopped_in job k c r) ch ≡ pinned_in job ch
stopped_held job k c ch e r =
    stopped_by (λ j. pinned_in j ch ≡ pinned_in job ch) job k c r refl
    (λ status. slot-set_shown pinned_on job.channels k ch (record c { status = status }) c e refl)

refused_held : (job : SpecJob) (e ch : ℕ) (r : Reply) → pinned_in (refused_at job e r) ch ≡ pinned_in job ch
refused_held job e ch r = refused_by (λ j. pinned_in j ch ≡ pinned_in job ch) job e r (λ core. refl)

-- a row that keeps its channel's sides, except for the place that is read next
row_held : (job : SpecJob) (core : List ℕ) (k : ℕ) (c d : Channel) (ch : ℕ) (reply : Reply) → channel_at job k ≡ Some c
    → pinned_on (Some d) ≡ pinned_on (Some c)
    → pinned_in (settled reply (with_channel (record job { core = core }) k (Some d)) (stopped_in job k c)).1 ch
    ≡ pinned_in job ch
row_held job core k c d ch reply e h =
    settled_held (λ j. j) job ch reply _ (stopped_in job k c) (slot-set_shown pinned_on job.channels k ch d c e h)
    (stopped_held job k c ch e)

same_read : (o : Option SpecOutput) (i : Option SpecInput) (k : ℕ) → version_read o (moved_on i k) ≡ version_read o i
same_read (Some o) i k = refl
same_read None None k = refl
same_read None (Some i) k = refl

same_placed : (o : Option SpecOutput) (i : Option SpecInput) (k : ℕ) → version_read o (input_at i k) ≡ version_read o i
same_placed (Some o) i k = refl
same_placed None None k = refl
same_placed None (Some i) k = refl

same_put : (o : Option SpecOutput) (i : Option SpecInput) (ws : List ℕ)
    → version_read (put_on o ws) i ≡ version_read o i
same_put (Some o) i ws = refl
same_put None i ws = refl

same_output_at : (o : Option SpecOutput) (i : Option SpecInput) (n : ℕ)
    → version_read (output_at o n) i ≡ version_read o i
same_output_at (Some o) i n = refl
same_output_at None i n = refl

useti_held : (job : SpecJob) (k : ℕ) (c : Channel) (n ch : ℕ) → channel_at job k ≡ Some c
    → pinned_in (useti job k c n).1 ch ≡ pinned_in job ch
useti_held job k c n ch e = row_held job job.core k c _ ch _ e (same_placed c.output c.input n)

useto_held : (job : SpecJob) (k : ℕ) (c : Channel) (n ch : ℕ) → channel_at job k ≡ Some c
    → pinned_in (useto job k c n).1 ch ≡ pinned_in job ch
useto_held job k c n ch e = row_held job job.core k c _ ch _ e (same_output_at c.output c.input n)

in_held : (job : SpecJob) (k : ℕ) (c : Channel) (a ch : ℕ) → channel_at job k ≡ Some c
    → pinned_in (reads job k c a).1 ch ≡ pinned_in job ch
in_held job k c a ch e = row_held job _ k c _ ch _ e (same_read c.output c.input _)

out_held : (pack : Pack) (s : State) (job : SpecJob) (k : ℕ) (c : Channel) (a ch : ℕ) → channel_at job k ≡ Some c
    → pinned_in (puts pack s job k c a).1 ch ≡ pinned_in job ch
out_held pack s job k c a ch e =
    settled_held (λ j. j) job ch (out_answer pack s job c a) (out_done job k c a) (stopped_in job k c)
    (by_found (outgoing job c a)) (stopped_held job k c ch e)
  where
    by_found : (found : Option Outgoing) → pinned_in (put_done job k c found) ch ≡ pinned_in job ch
    by_found None = refl
    by_found (Some found) = slot-set_shown pinned_on job.channels k ch _ c e (same_put c.output c.input found.words)

ring_held : (job : SpecJob) (k : ℕ) (c : Channel) (header n ch : ℕ) → channel_at job k ≡ Some c
    → pinned_in (sets_up job k c header n).1 ch ≡ pinned_in job ch
ring_held job k c header n ch e = settled_held (λ j. j) job ch (ring_answer job c header n) _ (λ r. job)
    (slot-set_shown pinned_on job.channels k ch (clean c) c e refl) (λ r. refl)

-- another channel's slot
other_held : (job : SpecJob) (core : List ℕ) (k ch : ℕ) (x : Option Channel) → ch ≢ k
    → pinned_in (with_channel (record job { core = core }) k x) ch ≡ pinned_in job ch
other_held job core k ch x apart = ap pinned_on (slot-set_other job.channels k ch x apart)

looked_up_held : (pack : Pack) (job : SpecJob) (k : ℕ) (c : Channel) (e : ℕ) (place : Place) (ch : ℕ) → ch ≢ k
    → (found : Option SpecVersion) → pinned_in (looked_up pack job k c e place found) ch ≡ pinned_in job ch
looked_up_held pack job k c e place ch apart None = refl
looked_up_held pack job k c e place ch apart (Some v) = other_held job job.core k ch _ apart

lookup_held : (pack : Pack) (s : State) (job : SpecJob) (k : ℕ) (c : Channel) (e ch : ℕ) → ch ≢ k
    → pinned_in (lookup pack s job k c e).1 ch ≡ pinned_in job ch
lookup_held pack s job k c e ch apart =
    settled_held (λ j. j) job ch (lookup_answer s job c e (place_at job e)) _ (refused_at job e)
    (looked_up_held pack job k c e (place_at job e) ch apart (file_at s.files (place_at job e))) (refused_held job e ch)

enter_held : (pack : Pack) (s : State) (job : SpecJob) (k : ℕ) (c : Channel) (e ch : ℕ) (moment : Moment)
    → ch ≢ k → pinned_in (enter pack s job k c e moment).1 ch ≡ pinned_in job ch
enter_held pack s job k c e ch moment apart =
    settled_held (λ j. j) job ch (enter_answer pack s job c e (place_at job e)) _ (refused_at job e)
    (other_held job job.core k ch _ apart) (refused_held job e ch)

make_held : (pack : Pack) (s : State) (job : SpecJob) (e ch : ℕ)
    → pinned_in (makes pack s job e).1.0 ch ≡ pinned_in job ch
make_held pack s job e ch = settled_held (λ (x : SpecJob × Files SpecVersion). x.0) job ch
    (make_answer pack s job e (owner_at job e)) _ (λ r. (refused_at job e r, s.files)) refl (refused_held job e ch)

rename_held : (pack : Pack) (s : State) (job : SpecJob) (k : ℕ) (c : Channel) (e ch : ℕ) → ch ≢ k
    → pinned_in (renames pack s job k c e).1.0 ch ≡ pinned_in job ch
rename_held pack s job k c e ch apart =
    settled_held (λ (x : SpecJob × Files SpecVersion). x.0) job ch (rename_answer pack s job c e) _
    (λ r. (refused_at job e r, s.files)) (other_held job job.core k ch _ apart) (refused_held job e ch)

remove_held : (s : State) (job : SpecJob) (e ch : ℕ) → pinned_in (removes s job e).1.0 ch ≡ pinned_in job ch
remove_held s job e ch = settled_held (λ (x : SpecJob × Files SpecVersion). x.0) job ch
    (remove_answer s job e (owner_at job e)) _ (λ r. (refused_at job e r, s.files)) refl (refused_held job e ch)

limit_held : (pack : Pack) (s : State) (job : SpecJob) (e ch : ℕ)
    → pinned_in (limits pack s job e).1.0 ch ≡ pinned_in job ch
limit_held pack s job e ch = settled_held (λ (x : SpecJob × Files SpecVersion). x.0) job ch
    (limit_answer pack s job e (owner_at job e)) _ (λ r. (refused_at job e r, s.files)) refl (refused_held job e ch)

close_held : (pack : Pack) (serial : ℕ) (s : State) (job : SpecJob) (k : ℕ) (c : Channel) (bits ch : ℕ)
    → channel_at job k ≡ Some c → ch ≢ k → pinned_in (closes pack serial s job k c bits).1.0 ch ≡ pinned_in job ch
close_held pack serial s job k c bits ch f apart =
    settled_held (λ (x : SpecJob × Files SpecVersion). x.0) job ch (close_answer pack s job c bits) _
    (λ r. (stopped_in job k c r, s.files)) (other_held job job.core k ch _ apart) (stopped_held job k c ch f)

release_held : (pack : Pack) (serial : ℕ) (s : State) (job : SpecJob) (k : ℕ) (c : Channel) (ch : ℕ)
    → channel_at job k ≡ Some c → ch ≢ k → pinned_in (releases pack serial s job k c).1.0 ch ≡ pinned_in job ch
release_held pack serial s job k c ch f apart =
    settled_held (λ (x : SpecJob × Files SpecVersion). x.0) job ch (close_answer pack s job c 0) _
    (λ r. (stopped_in job k c r, s.files)) (other_held job job.core k ch _ apart) (stopped_held job k c ch f)

-- OPEN takes a closed channel, so another one than a channel that reads.

abbrev open_with : SpecJob → ℕ → Option Channel → Reply
open_with job a o =
    if lies_outside job.core a 3 || misses_headers job.core a then AddressCheck
    else if is_some o then Refused 5
    else if not (device_at job.core a == disk) || not (is_mode (mode_at job.core a))
    then Stopped (improper_mode + mode_at job.core a)
    else Done

refused_open : (job : SpecJob) (ch : ℕ) (done : SpecJob) (b : Bool)
    → pinned_in (settled (if b then AddressCheck else Refused 5) done (λ r. job)).1 ch ≡ pinned_in job ch
refused_open job ch done true = refl
refused_open job ch done false = refl

there_is : (o : Option Channel) (v : SpecVersion) → pinned_on o ≡ Some v → (c : Channel) × (o ≡ Some c)
there_is None v e = let wrong = e in cc
there_is (Some c) v e = (c, refl)

open_held : (job : SpecJob) (k a ch : ℕ) (v : SpecVersion) → pinned_in job ch ≡ Some v → (o : Option Channel)
    → channel_at job k ≡ o
    → pinned_in (settled (open_with job a o) (open_done job k a) (λ r. job)).1 ch ≡ pinned_in job ch
open_held job k a ch v held None e =
    let there = there_is (channel_at job ch) v held in
    settled_held (λ j. j) job ch (open_with job a None) (open_done job k a) (λ r. job)
    (ap pinned_on (slot-set_new job.channels k ch _ there.0 e there.1)) (λ r. refl)
open_held job k a ch v held (Some c) e = refused_open job ch (open_done job k a) _

-- Any call of the job itself that spares the channel.

of_job_held : (s : State) (n : ℕ) (job : SpecJob) (r : Reply × SpecJob) (ch : ℕ) → job_at s n ≡ Some job
    → pinned_in r.1 ch ≡ pinned_in job ch → pinned_at (of_job s n r).1 n ch ≡ pinned_at s n ch
of_job_held s n job r ch e h = ap (pinned_for ch) (slot-set_same s.jobs n r.1 job e) ∙ h ∙ ap (pinned_for ch) (sym e)

of_files_held : (s : State) (n : ℕ) (job : SpecJob) (r : Reply × (SpecJob × Files SpecVersion)) (ch : ℕ)
    → job_at s n ≡ Some job
    → pinned_in r.1.0 ch ≡ pinned_in job ch → pinned_at (of_files s n r).1 n ch ≡ pinned_at s n ch
of_files_held s n job r ch e h = ap (pinned_for ch) (slot-set_same s.jobs n r.1.0 job e) ∙ h
    ∙ ap (pinned_for ch) (sym e)

channel_held : (s : State) (n ch : ℕ) (row : Channel → Reply × State) (o : Option Channel)
    → ((c : Channel) → o ≡ Some c → pinned_at (row c).1 n ch ≡ pinned_at s n ch)
    → pinned_at (on_channel s o row).1 n ch ≡ pinned_at s n ch
channel_held s n ch row None h = refl
channel_held s n ch row (Some c) h = h c refl

open_on_held : (s : State) (n : ℕ) (job : SpecJob) (k a ch : ℕ) (b : Bool) → job_at s n ≡ Some job
    → pinned_in (opens job k a).1 ch ≡ pinned_in job ch
    → pinned_at (if b then of_job s n (opens job k a) else (NoChannel, s)).1 n ch ≡ pinned_at s n ch
open_on_held s n job k a ch true e h = of_job_held s n job (opens job k a) ch e h
open_on_held s n job k a ch false e h = refl

call_held : (pack : Pack) (serial : ℕ) (s : State) (n : ℕ) (job : SpecJob) (call : Call) (moment : Moment)
    (ch : ℕ) (v : SpecVersion)
    → job_at s n ≡ Some job → pinned_in job ch ≡ Some v → SparesCall ch call
    → pinned_at (call_of pack serial s n job call moment).1 n ch ≡ pinned_at s n ch
call_held pack serial s n job (Open k a) moment ch v e h spared = open_on_held s n job k a ch (nat_le k 15) e
    (open_held job k a ch v h (channel_at job k) refl)
call_held pack serial s n job (Inbuf k x) moment ch v e h spared = channel_held s n ch _ (channel_at job k)
    (λ c f. of_job_held s n job (sets_up job k c c.input_header x) ch e (ring_held job k c c.input_header x ch f))
call_held pack serial s n job (Outbuf k x) moment ch v e h spared = channel_held s n ch _ (channel_at job k)
    (λ c f. of_job_held s n job (sets_up job k c c.output_header x) ch e (ring_held job k c c.output_header x ch f))
call_held pack serial s n job (Lookup k a) moment ch v e h spared = channel_held s n ch _ (channel_at job k)
    (λ c f. of_job_held s n job (lookup pack s job k c a) ch e (lookup_held pack s job k c a ch spared))
call_held pack serial s n job (Enter k a) moment ch v e h spared = channel_held s n ch _ (channel_at job k)
    (λ c f. of_job_held s n job (enter pack s job k c a moment) ch e (enter_held pack s job k c a ch moment spared))
call_held pack serial s n job (Rename k a) moment ch v e h spared = channel_held s n ch _ (channel_at job k)
    (λ c f. of_files_held s n job (renames pack s job k c a) ch e (rename_held pack s job k c a ch spared))
call_held pack serial s n job (In k a) moment ch v e h spared = channel_held s n ch _ (channel_at job k)
    (λ c f. of_job_held s n job (reads job k c a) ch e (in_held job k c a ch f))
call_held pack serial s n job (Out k a) moment ch v e h spared = channel_held s n ch _ (channel_at job k)
    (λ c f. of_job_held s n job (puts pack s job k c a) ch e (out_held pack s job k c a ch f))
call_held pack serial s n job (Useti k a) moment ch v e h spared = channel_held s n ch _ (channel_at job k)
    (λ c f. of_job_held s n job (useti job k c a) ch e (useti_held job k c a ch f))
call_held pack serial s n job (Useto k a) moment ch v e h spared = channel_held s n ch _ (channel_at job k)
    (λ c f. of_job_held s n job (useto job k c a) ch e (useto_held job k c a ch f))
call_held pack serial s n job (Close k a) moment ch v e h spared = channel_held s n ch _ (channel_at job k)
    (λ c f. of_files_held s n job (closes pack serial s job k c a) ch e
    (close_held pack serial s job k c a ch f spared))
call_held pack serial s n job (Releas k) moment ch v e h spared = channel_held s n ch _ (channel_at job k)
    (λ c f. of_files_held s n job (releases pack serial s job k c) ch e
    (release_held pack serial s job k c ch f spared))
call_held pack serial s n job (Getsts k) moment ch v e h spared = channel_held s n ch _ (channel_at job k) (λ c f. refl)
call_held pack serial s n job Reset moment ch v e h spared = absurd spared
call_held pack serial s n job (MakeDir a) moment ch v e h spared = of_files_held s n job (makes pack s job a) ch e
    (make_held pack s job a ch)
call_held pack serial s n job (DeleteDir a) moment ch v e h spared = of_files_held s n job (removes s job a) ch e
    (remove_held s job a ch)
call_held pack serial s n job (Quota a) moment ch v e h spared = of_files_held s n job (limits pack s job a) ch e
    (limit_held pack s job a ch)

job_there : (o : Option SpecJob) (ch : ℕ) (v : SpecVersion) → pinned_for ch o ≡ Some v → (job : SpecJob)
    × (o ≡ Some job)
    × (pinned_in job ch ≡ Some v)
job_there None ch v e = let wrong = e in cc
job_there (Some job) ch v e = (job, refl, e)

own_call : (pack : Pack) (serial : ℕ) (s : State) (n ch : ℕ) (v : SpecVersion) (call : Call) (moment : Moment)
    (late : Bool)
    → pinned_at s n ch ≡ Some v → SparesCall ch call
    → (job : SpecJob) (o : Option SpecJob) → job_at s n ≡ o → o ≡ Some job → pinned_in job ch ≡ Some v
    → pinned_at (if late then (DateRange, s) else on_job s o (λ job. call_of pack serial s n job call moment)).1 n ch
    ≡ Some v
own_call pack serial s n ch v call moment true h spared job o e f g = h
own_call pack serial s n ch v call moment false h spared job None e f g = let wrong = f in cc
own_call pack serial s n ch v call moment false h spared job (Some other) e f g =
    call_held pack serial s n other call moment ch v e (ap (λ j. pinned_in j ch) (some_same f) ∙ g) spared ∙ h

settled_at : (s done : State) (n ch : ℕ) (reply : Reply) → pinned_at done n ch ≡ pinned_at s n ch
    → pinned_at (settled reply done (λ r. s)).1 n ch ≡ pinned_at s n ch
settled_at s done n ch reply h = settled_by (λ r. pinned_at r.1 n ch ≡ pinned_at s n ch) reply done (λ r. s)
    (λ is. h) (λ differs. refl)

deposit_held : (s : State) (n m address word ch : ℕ) (o : Option SpecJob) → job_at s m ≡ o
    → pinned_at (on_job s o (λ job. deposit s m job address word)).1 n ch ≡ pinned_at s n ch
deposit_held s n m address word ch None e = refl
deposit_held s n m address word ch (Some job) e =
    let new : SpecJob = deposit_done job address word in
    settled_at s (with_job s m new) n ch (deposit_answer job address)
    (slot-set_shown (pinned_for ch) s.jobs m n new job e refl)

examine_held : (s : State) (n ch : ℕ) (o : Option SpecJob) (reply : SpecJob → Reply)
    → pinned_at (on_job s o (λ job. (reply job, s))).1 n ch ≡ pinned_at s n ch
examine_held s n ch None reply = refl
examine_held s n ch (Some job) reply = refl

pub event_held : (pack : Pack) (serial : ℕ) (s : State) (n ch : ℕ) (v : SpecVersion) (event : Event)
    → SparesEvent n ch event → pinned_at s n ch ≡ Some v → pinned_at (step pack serial s event).1 n ch ≡ Some v
event_held pack serial s n ch v (Login m ppn words) apart h = ap (pinned_for ch)
    (spares_login pack serial s m n apart ppn words) ∙ h
event_held pack serial s n ch v (Deposit m address word) spared h = deposit_held s n m address word ch (job_at s m) refl
    ∙ h
event_held pack serial s n ch v (Examine m address) spared h = examine_held s n ch (job_at s m)
    (λ job. examine_answer job address) ∙ h
event_held pack serial s n ch v (Calls m call moment) spared h =
    ⊎_elim (λ apart. ap (pinned_for ch) (spares_call_event pack serial s m n apart call moment) ∙ h)
    (λ own. subst (λ k. pinned_at (step pack serial s (Calls k call moment)).1 n ch ≡ Some v) own.0
    (let there = job_there (job_at s n) ch v h in
    own_call pack serial s n ch v call moment (nat_lt (last_date pack.layout) moment.date) h own.1 there.0
    (job_at s n) refl there.1 there.2))
    spared
