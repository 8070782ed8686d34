-- No call except QUOTA changes a directory's quota.
use Rattle.std.proofs.Common.{◌≡◌, ◌≢◌, ℕ, Bool, true, false, if◌then◌else◌, Option, Some, None, refl, sym, ap, subst}
use Rattle.std.proofs.Common.{◌∙◌, ⊎_elim}
use Rattle.std.specs.Prelude.{nat_lt}
use Rattle.std.specs.Cmp.{nat_cmp_total}
use Rattle.std.specs.FinMap.{nat_cmp-IsAntisymmetric}
use Rattle.words36.specs.declared.moment.Moment.{Moment}
use Rattle.spec_image.specs.Common.{get, insert, remove, Files, Directory, Place, SpecVersion, file_at, with_file}
use Rattle.spec_image.specs.Common.{with_file_in, without_file, without_file_in, with_protection, Pack}
use Rattle.spec_machine.specs.Jobs.{Channel, SpecJob, SpecInput, SpecOutput, State, channel_at, job_at, with_channel}
use Rattle.spec_machine.specs.Charges.{quota_in}
use Rattle.spec_machine.specs.Runs.{Steps}
use Rattle.spec_machine.specs.Outcomes.{settled, stopped_in, refused_at}
use Rattle.spec_machine.specs.Lookup.{place_at}
use Rattle.spec_machine.specs.Close.{published, close_answer, close_done, core_closed, files_with, files_closed}
use Rattle.spec_machine.specs.Close.{closes, releases, publishes, output_put}
use Rattle.spec_machine.specs.Rename.{renames, rename_answer, rename_done, files_moved, files_renamed, deletes_at}
use Rattle.spec_machine.specs.Rename.{protection_at}
use Rattle.spec_machine.specs.MakeDir.{makes, make_answer, removes, remove_answer, owner_at, directory_made}
use Rattle.spec_machine.specs.Step.{last_date, on_job, on_channel, of_files, call_of}
use Rattle.spec_machine.specs.declared.call.Call.{Call}
use Rattle.spec_machine.specs.declared.call.Call.TheVariants.{Open, Inbuf, Outbuf, Lookup, Enter, Rename, In, Out}
use Rattle.spec_machine.specs.declared.call.Call.TheVariants.{Useti, Useto, Close, Releas, Getsts, Reset, MakeDir}
use Rattle.spec_machine.specs.declared.call.Call.TheVariants.{DeleteDir, Quota}
use Rattle.spec_machine.specs.declared.call.Event.{Event}
use Rattle.spec_machine.specs.declared.call.Event.TheVariants.{Login, Deposit, Examine, Call as Calls}
use Rattle.spec_machine.specs.declared.call.Reply.{Reply}
use Rattle.spec_machine.specs.declared.call.Reply.TheVariants.{Done, NoChannel, NoJob, DateRange}
use Rattle.spec_image.proofs.Common.{some_same, some_none, same_or_other, get-insert_same, get-insert_other}
use Rattle.spec_image.proofs.Common.{get-removed, get-remove_other}
use Rattle.spec_machine.proofs.OutcomeLaws.{settled_by}
use Rattle.spec_machine.proofs.QuietEvents.{IsQuiet, quiet_files}
use Rattle.spec_machine.proofs.SoundSteps.{make_needs}

module _ (p : ℕ) where
  -- a directory that stays keeps its quota
  abbrev pub KeepsQuota : Files SpecVersion → Files SpecVersion → Type 0
  KeepsQuota was now = (d new : Directory SpecVersion) → get was p ≡ Some d → get now p ≡ Some new → new.quota ≡ d.quota

  by_quotas : (was now : Files SpecVersion) → quota_in (get now p) ≡ quota_in (get was p) → KeepsQuota was now
  by_quotas was now same d new e f = ap quota_in (sym f) ∙ same ∙ ap quota_in e

  quota-insert : (files : Files SpecVersion) (k : ℕ) (d new : Directory SpecVersion) → get files k ≡ Some d
      → new.quota ≡ d.quota → quota_in (get (insert files k new) p) ≡ quota_in (get files p)
  quota-insert files k d new is same = ⊎_elim
      (λ here. ap (λ q. quota_in (get (insert files k new) q)) here
      ∙ ap quota_in (get-insert_same nat_cmp_total files k new) ∙ same
      ∙ ap quota_in (sym is) ∙ ap (λ q. quota_in (get files q)) (sym here))
      (λ other. ap quota_in (get-insert_other nat_cmp_total nat_cmp-IsAntisymmetric files k new p other))
      (same_or_other nat_cmp_total nat_cmp-IsAntisymmetric p k)

  quota-with : (files : Files SpecVersion) (place : Place) (v : SpecVersion)
      → quota_in (get (with_file files place v) p) ≡ quota_in (get files p)
  quota-with files place v = by (get files place.ppn) refl
    where
      by : (o : Option (Directory SpecVersion)) → get files place.ppn ≡ o
          → quota_in (get (with_file_in o files place v) p) ≡ quota_in (get files p)
      by None is = refl
      by (Some d) is = quota-insert files place.ppn d (record d { files = insert d.files place.name v }) is refl

  quota-without : (files : Files SpecVersion) (place : Place)
      → quota_in (get (without_file files place) p) ≡ quota_in (get files p)
  quota-without files place = by (get files place.ppn) refl
    where
      by : (o : Option (Directory SpecVersion)) → get files place.ppn ≡ o
          → quota_in (get (without_file_in o files place) p) ≡ quota_in (get files p)
      by None is = refl
      by (Some d) is = quota-insert files place.ppn d (record d { files = remove d.files place.name }) is refl

  quota-closed : (files : Files SpecVersion) (serial : ℕ) (publishes : Bool) (o : Option SpecOutput)
      → quota_in (get (if publishes then files_with files serial o else files) p) ≡ quota_in (get files p)
  quota-closed files serial false o = refl
  quota-closed files serial true None = refl
  quota-closed files serial true (Some o) = quota-with files o.place (published serial o)

  quota-moved : (files : Files SpecVersion) (old new : Place) (protection : ℕ) (found : Option SpecVersion)
      → quota_in (get (files_moved files old new protection found) p) ≡ quota_in (get files p)
  quota-moved files old new protection None = refl
  quota-moved files old new protection (Some v) =
      quota-with (without_file files old) new (with_protection v protection) ∙ quota-without files old

  quota-renamed : (files : Files SpecVersion) (job : SpecJob) (e : ℕ) (input : Option SpecInput)
      → quota_in (get (files_renamed files job e input) p) ≡ quota_in (get files p)
  quota-renamed files job e None = refl
  quota-renamed files job e (Some i) = by (deletes_at job e)
    where
      by : (b : Bool) → quota_in (get (if b then without_file files i.place
          else files_moved files i.place (place_at job e) (protection_at job e) (file_at files i.place)) p)
          ≡ quota_in (get files p)
      by true = quota-without files i.place
      by false = quota-moved files i.place (place_at job e) (protection_at job e) (file_at files i.place)

  module _ (s : State) where
    abbrev Keeps : Reply × State → Type 0
    Keeps r = KeepsQuota s.files r.1.files

    stays : (reply : Reply) → Keeps (reply, s)
    stays reply = by_quotas s.files s.files refl

    timely_keeps : (late : Bool) (r : Reply × State) → Keeps r → Keeps (if late then (DateRange, s) else r)
    timely_keeps true r h = stays DateRange
    timely_keeps false r h = h

    job_keeps : (row : SpecJob → Reply × State) (o : Option SpecJob) → ((job : SpecJob) → Keeps (row job))
        → Keeps (on_job s o row)
    job_keeps row None h = stays NoJob
    job_keeps row (Some job) h = h job

    channel_keeps : (row : Channel → Reply × State) (o : Option Channel) → ((c : Channel) → Keeps (row c))
        → Keeps (on_channel s o row)
    channel_keeps row None h = stays NoChannel
    channel_keeps row (Some c) h = h c

    -- a row that may change the files
    row_keeps : (n : ℕ) (reply : Reply) (done : SpecJob × Files SpecVersion) (other : Reply → SpecJob)
        → (reply ≡ Done → KeepsQuota s.files done.1)
        → Keeps (of_files s n (settled reply done (λ r. (other r, s.files))))
    row_keeps n reply done other h = settled_by (λ r. KeepsQuota s.files r.1.1) reply done (λ r. (other r, s.files))
        (λ is. h is) (λ differs. by_quotas s.files s.files refl)

    make_keeps : (pack : Pack) (n : ℕ) (job : SpecJob) (e : ℕ) → Keeps (of_files s n (makes pack s job e))
    make_keeps pack n job e = row_keeps n (make_answer pack s job e (owner_at job e)) _ (refused_at job e)
        (λ done d new is now. ⊎_elim
        (λ here. absurd (some_none (sym is ∙ ap (get s.files) here
        ∙ (make_needs pack s job e (owner_at job e) done).0)))
        (λ other. let same : Some new ≡ Some d = sym now
        ∙ get-insert_other nat_cmp_total nat_cmp-IsAntisymmetric s.files (owner_at job e) (directory_made job e) p other
        ∙ is in ap (λ (x : Directory SpecVersion). x.quota) (some_same same))
        (same_or_other nat_cmp_total nat_cmp-IsAntisymmetric p (owner_at job e)))

    remove_keeps : (n : ℕ) (job : SpecJob) (e : ℕ) → Keeps (of_files s n (removes s job e))
    remove_keeps n job e = row_keeps n (remove_answer s job e (owner_at job e)) _ (refused_at job e)
        (λ done d new is now. ⊎_elim
        (λ here. absurd (some_none (sym now ∙ ap (get (remove s.files (owner_at job e))) here
        ∙ get-removed nat_cmp_total s.files (owner_at job e))))
        (λ other. let same : Some new ≡ Some d = sym now
        ∙ get-remove_other nat_cmp_total nat_cmp-IsAntisymmetric s.files (owner_at job e) p other
        ∙ is in ap (λ (x : Directory SpecVersion). x.quota) (some_same same))
        (same_or_other nat_cmp_total nat_cmp-IsAntisymmetric p (owner_at job e)))

    close_keeps : (pack : Pack) (serial n : ℕ) (job : SpecJob) (ch : ℕ) (c : Channel) (bits : ℕ)
        → Keeps (of_files s n (closes pack serial s job ch c bits))
    close_keeps pack serial n job ch c bits =
        row_keeps n (close_answer pack s job c bits) (close_done serial job ch c bits, _) (stopped_in job ch c)
        (λ done. by_quotas s.files (files_closed serial s.files job c bits)
        (quota-closed s.files serial (publishes c bits) (output_put job c)))

    release_keeps : (pack : Pack) (serial n : ℕ) (job : SpecJob) (ch : ℕ) (c : Channel)
        → Keeps (of_files s n (releases pack serial s job ch c))
    release_keeps pack serial n job ch c =
        row_keeps n (close_answer pack s job c 0)
        (with_channel (record job { core = core_closed job.core c 0 }) ch None, _) (stopped_in job ch c)
        (λ done. by_quotas s.files (files_closed serial s.files job c 0)
        (quota-closed s.files serial (publishes c 0) (output_put job c)))

    rename_keeps : (pack : Pack) (n : ℕ) (job : SpecJob) (ch : ℕ) (c : Channel) (e : ℕ)
        → Keeps (of_files s n (renames pack s job ch c e))
    rename_keeps pack n job ch c e =
        row_keeps n (rename_answer pack s job c e) (rename_done job ch c, _) (refused_at job e)
        (λ done. by_quotas s.files (files_renamed s.files job e c.input) (quota-renamed s.files job e c.input))

pub quota_stays : (pack : Pack) (s t : State) (event : Event) (reply : Reply) (p : ℕ)
    → ((n e : ℕ) (moment : Moment) → event ≢ Calls n (Quota e) moment) → Steps pack s event reply t
    → KeepsQuota p s.files t.files
quota_stays pack s t event reply p = by event
  where
    quiet : (event : Event) → IsQuiet event → Steps pack s event reply t → KeepsQuota p s.files t.files
    quiet event is steps = by_quotas p s.files t.files
        (ap (λ files. quota_in (get files p)) (quiet_files pack s event reply t is steps))

    loud : (n : ℕ) (call : Call) (moment : Moment)
        → ((serial : ℕ) (job : SpecJob) → Keeps p s (call_of pack serial s n job call moment))
        → Steps pack s (Calls n call moment) reply t → KeepsQuota p s.files t.files
    loud n call moment h (serial, fresh, is) = subst (λ (r : Reply × State). Keeps p s r) is
        (timely_keeps p s (nat_lt (last_date pack.layout) moment.date) _ (job_keeps p s _ (job_at s n) (h serial)))

    by : (event : Event) → ((n e : ℕ) (moment : Moment) → event ≢ Calls n (Quota e) moment)
        → Steps pack s event reply t → KeepsQuota p s.files t.files
    by (Login n ppn words) other = quiet (Login n ppn words) tt
    by (Deposit n address word) other = quiet (Deposit n address word) tt
    by (Examine n address) other = quiet (Examine n address) tt
    by (Calls n (Open ch a) moment) other = quiet (Calls n (Open ch a) moment) tt
    by (Calls n (Inbuf ch k) moment) other = quiet (Calls n (Inbuf ch k) moment) tt
    by (Calls n (Outbuf ch k) moment) other = quiet (Calls n (Outbuf ch k) moment) tt
    by (Calls n (Lookup ch e) moment) other = quiet (Calls n (Lookup ch e) moment) tt
    by (Calls n (Enter ch e) moment) other = quiet (Calls n (Enter ch e) moment) tt
    by (Calls n (In ch a) moment) other = quiet (Calls n (In ch a) moment) tt
    by (Calls n (Out ch a) moment) other = quiet (Calls n (Out ch a) moment) tt
    by (Calls n (Useti ch k) moment) other = quiet (Calls n (Useti ch k) moment) tt
    by (Calls n (Useto ch k) moment) other = quiet (Calls n (Useto ch k) moment) tt
    by (Calls n (Getsts ch) moment) other = quiet (Calls n (Getsts ch) moment) tt
    by (Calls n Reset moment) other = quiet (Calls n Reset moment) tt
    by (Calls n (Rename ch e) moment) other = loud n (Rename ch e) moment (λ serial job.
        channel_keeps p s _ (channel_at job ch) (λ c. rename_keeps p s pack n job ch c e))
    by (Calls n (Close ch bits) moment) other = loud n (Close ch bits) moment (λ serial job.
        channel_keeps p s _ (channel_at job ch) (λ c. close_keeps p s pack serial n job ch c bits))
    by (Calls n (Releas ch) moment) other = loud n (Releas ch) moment (λ serial job.
        channel_keeps p s _ (channel_at job ch) (λ c. release_keeps p s pack serial n job ch c))
    by (Calls n (MakeDir e) moment) other = loud n (MakeDir e) moment (λ serial job. make_keeps p s pack n job e)
    by (Calls n (DeleteDir e) moment) other = loud n (DeleteDir e) moment (λ serial job. remove_keeps p s n job e)
    by (Calls n (Quota e) moment) other = absurd (other n e moment refl)
