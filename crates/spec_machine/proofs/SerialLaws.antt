-- The serial that an event chooses is seen neither in its reply nor in the files without serials.
use Rattle.std.proofs.Common.{◌≡◌, ℕ, Bool, true, false, if◌then◌else◌, Option, Some, None, refl, sym, ap, ◌∙◌}
use Rattle.std.specs.Prelude.{nat_lt}
use Rattle.std.specs.Cmp.{nat_cmp_total}
use Rattle.std.specs.FinMap.{nat_cmp-IsAntisymmetric}
use Rattle.spec_image.specs.Common.{get, insert, map_values, File, Files, Directory, Place, map_directory, SpecVersion}
use Rattle.spec_image.specs.Common.{without_serials, with_file_in, Pack}
use Rattle.spec_machine.specs.Outcomes.{settled, stopped_in}
use Rattle.spec_machine.specs.Close.{published, publishes, files_with, files_closed, output_put, close_answer}
use Rattle.spec_machine.proofs.OutcomeLaws.{settled_both}
use Rattle.words36.specs.declared.moment.Moment.{Moment}
use Rattle.spec_machine.specs.Jobs.{Channel, SpecJob, SpecOutput, State, channel_at, job_at}
use Rattle.spec_machine.specs.Step.{step, last_date, on_job, on_channel, of_files, call_of}
use Rattle.spec_machine.specs.declared.call.Call.{Call}
use Rattle.spec_machine.specs.declared.call.Call.TheVariants.{Open, Inbuf, Outbuf, Lookup, Enter, Rename, In, Out}
use Rattle.spec_machine.specs.declared.call.Call.TheVariants.{Useti, Useto, Close, Releas, Getsts, Reset, MakeDir}
use Rattle.spec_machine.specs.declared.call.Call.TheVariants.{DeleteDir, Quota}
use Rattle.spec_machine.specs.declared.call.Event.{Event}
use Rattle.spec_machine.specs.declared.call.Event.TheVariants.{Login, Deposit, Examine, Call as Calls}
use Rattle.spec_machine.specs.declared.call.Reply.{Reply}
use Rattle.spec_machine.specs.declared.call.Reply.TheVariants.{DateRange}
use Rattle.spec_image.proofs.Common.{map_values-insert, name_total, name_exact}

same_on_channel : (s : State) (row other : Channel → Reply × State) (o : Option Channel)
    → ((c : Channel) → (row c).0 ≡ (other c).0) → (on_channel s o row).0 ≡ (on_channel s o other).0
same_on_channel s row other None h = refl
same_on_channel s row other (Some c) h = h c

same_call : (pack : Pack) (a b : ℕ) (s : State) (n : ℕ) (job : SpecJob) (call : Call) (moment : Moment)
    → (call_of pack a s n job call moment).0 ≡ (call_of pack b s n job call moment).0
same_call pack a b s n job (Open ch x) moment = refl
same_call pack a b s n job (Inbuf ch k) moment = refl
same_call pack a b s n job (Outbuf ch k) moment = refl
same_call pack a b s n job (Lookup ch e) moment = refl
same_call pack a b s n job (Enter ch e) moment = refl
same_call pack a b s n job (Rename ch e) moment = refl
same_call pack a b s n job (In ch x) moment = refl
same_call pack a b s n job (Out ch x) moment = refl
same_call pack a b s n job (Useti ch k) moment = refl
same_call pack a b s n job (Useto ch k) moment = refl
same_call pack a b s n job (Close ch bits) moment = same_on_channel s _ _ (channel_at job ch)
    (λ c. settled_both (λ x y. x.0 ≡ y.0) (close_answer pack s job c bits) _ _ _ refl (λ r. refl))
same_call pack a b s n job (Releas ch) moment = same_on_channel s _ _ (channel_at job ch)
    (λ c. settled_both (λ x y. x.0 ≡ y.0) (close_answer pack s job c 0) _ _ _ refl (λ r. refl))
same_call pack a b s n job (Getsts ch) moment = refl
same_call pack a b s n job Reset moment = refl
same_call pack a b s n job (MakeDir e) moment = refl
same_call pack a b s n job (DeleteDir e) moment = refl
same_call pack a b s n job (Quota e) moment = refl

same_job : (s : State) (row other : SpecJob → Reply × State) (o : Option SpecJob)
    → ((job : SpecJob) → (row job).0 ≡ (other job).0)
    → (on_job s o row).0 ≡ (on_job s o other).0
same_job s row other None h = refl
same_job s row other (Some job) h = h job

same_if : (late : Bool) (s : State) (x y : Reply × State) → x.0 ≡ y.0
    → (if late then (DateRange, s) else x).0 ≡ (if late then (DateRange, s) else y).0
same_if true s x y h = refl
same_if false s x y h = h

pub same_reply : (pack : Pack) (a b : ℕ) (s : State) (event : Event) → (step pack a s event).0 ≡ (step pack b s event).0
same_reply pack a b s (Login n ppn words) = refl
same_reply pack a b s (Deposit n address word) = refl
same_reply pack a b s (Examine n address) = refl
same_reply pack a b s (Calls n call moment) =
    same_if (nat_lt (last_date pack.layout) moment.date) s _ _
    (same_job s _ _ (job_at s n) (λ job. same_call pack a b s n job call moment))

-- The files without serials.

module _ (files : Files SpecVersion) (place : Place) (a b : SpecVersion) (same : a.file ≡ b.file) where
  names_same : (d : Directory SpecVersion) → map_values (λ (v : SpecVersion). v.file) (insert d.files place.name a)
      ≡ map_values (λ (v : SpecVersion). v.file) (insert d.files place.name b)
  names_same d =
      map_values-insert name_total name_exact (λ (v : SpecVersion). v.file) d.files place.name a
      ∙ ap (insert (map_values (λ (v : SpecVersion). v.file) d.files) place.name) same
      ∙ sym (map_values-insert name_total name_exact (λ (v : SpecVersion). v.file) d.files place.name b)

  put_same_in : (o : Option (Directory SpecVersion)) → without_serials (with_file_in o files place a)
      ≡ without_serials (with_file_in o files place b)
  put_same_in None = refl
  put_same_in (Some d) =
      let f : Directory SpecVersion → Directory File = map_directory (λ v. v.file) in
      map_values-insert nat_cmp_total nat_cmp-IsAntisymmetric f files place.ppn
      (record d { files = insert d.files place.name a })
      ∙ ap (insert (map_values f files) place.ppn)
      (λ i. record { protection = d.protection; quota = d.quota; files = names_same d i })
      ∙ sym (map_values-insert nat_cmp_total nat_cmp-IsAntisymmetric f files place.ppn
      (record d { files = insert d.files place.name b }))

closed_same : (files : Files SpecVersion) (a b : ℕ) (is_published : Bool) (o : Option SpecOutput)
    → without_serials (if is_published then files_with files a o else files)
    ≡ without_serials (if is_published then files_with files b o else files)
closed_same files a b true None = refl
closed_same files a b true (Some o) = put_same_in files o.place (published a o) (published b o) refl
    (get files o.place.ppn)
closed_same files a b false o = refl

abbrev SameFiles : Reply × State → Reply × State → Type 0
SameFiles x y = without_serials x.1.files ≡ without_serials y.1.files

closed_files : (pack : Pack) (a b : ℕ) (s : State) (n : ℕ) (job : SpecJob) (ch : ℕ) (c : Channel) (bits : ℕ)
    (one two : SpecJob)
    → SameFiles (of_files s n (settled (close_answer pack s job c bits) (one, files_closed a s.files job c bits)
    (λ r. (stopped_in job ch c r, s.files))))
    (of_files s n (settled (close_answer pack s job c bits) (two, files_closed b s.files job c bits)
    (λ r. (stopped_in job ch c r, s.files))))
closed_files pack a b s n job ch c bits one two =
    settled_both {A = SpecJob × Files SpecVersion} (λ x y. without_serials x.1.1 ≡ without_serials y.1.1)
    (close_answer pack s job c bits) (one, files_closed a s.files job c bits) (two, files_closed b s.files job c bits)
    (λ r. (stopped_in job ch c r, s.files)) (closed_same s.files a b (publishes c bits) (output_put job c)) (λ r. refl)

files_on_channel : (s : State) (row other : Channel → Reply × State) (o : Option Channel)
    → ((c : Channel) → SameFiles (row c) (other c)) → SameFiles (on_channel s o row) (on_channel s o other)
files_on_channel s row other None h = refl
files_on_channel s row other (Some c) h = h c

files_call : (pack : Pack) (a b : ℕ) (s : State) (n : ℕ) (job : SpecJob) (call : Call) (moment : Moment)
    → SameFiles (call_of pack a s n job call moment) (call_of pack b s n job call moment)
files_call pack a b s n job (Open ch x) moment = refl
files_call pack a b s n job (Inbuf ch k) moment = refl
files_call pack a b s n job (Outbuf ch k) moment = refl
files_call pack a b s n job (Lookup ch e) moment = refl
files_call pack a b s n job (Enter ch e) moment = refl
files_call pack a b s n job (Rename ch e) moment = refl
files_call pack a b s n job (In ch x) moment = refl
files_call pack a b s n job (Out ch x) moment = refl
files_call pack a b s n job (Useti ch k) moment = refl
files_call pack a b s n job (Useto ch k) moment = refl
files_call pack a b s n job (Close ch bits) moment = files_on_channel s _ _ (channel_at job ch)
    (λ c. closed_files pack a b s n job ch c bits _ _)
files_call pack a b s n job (Releas ch) moment = files_on_channel s _ _ (channel_at job ch)
    (λ c. closed_files pack a b s n job ch c 0 _ _)
files_call pack a b s n job (Getsts ch) moment = refl
files_call pack a b s n job Reset moment = refl
files_call pack a b s n job (MakeDir e) moment = refl
files_call pack a b s n job (DeleteDir e) moment = refl
files_call pack a b s n job (Quota e) moment = refl

files_job : (s : State) (row other : SpecJob → Reply × State) (o : Option SpecJob)
    → ((job : SpecJob) → SameFiles (row job) (other job)) → SameFiles (on_job s o row) (on_job s o other)
files_job s row other None h = refl
files_job s row other (Some job) h = h job

files_if : (late : Bool) (s : State) (x y : Reply × State) → SameFiles x y
    → SameFiles (if late then (DateRange, s) else x) (if late then (DateRange, s) else y)
files_if true s x y h = refl
files_if false s x y h = h

pub same_files : (pack : Pack) (a b : ℕ) (s : State) (event : Event)
    → without_serials (step pack a s event).1.files ≡ without_serials (step pack b s event).1.files
same_files pack a b s (Login n ppn words) = refl
same_files pack a b s (Deposit n address word) = refl
same_files pack a b s (Examine n address) = refl
same_files pack a b s (Calls n call moment) =
    files_if (nat_lt (last_date pack.layout) moment.date) s _ _
    (files_job s _ _ (job_at s n) (λ job. files_call pack a b s n job call moment))
