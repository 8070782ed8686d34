-- Quota: the machine's row, and the state after it.
use Rattle.std.proofs.Common.{◌≡◌, ◌≤◌, ℕ, List, [], ◌∷◌, ◌++◌, map, flat_map, Option, None, Some, refl, sym, ap}
use Rattle.std.proofs.Common.{subst, ◌∙◌, slice_set}
use Rattle.std.specs.Prelude.{option_map}
use Rattle.std.specs.Cmp.{nat_cmp_total}
use Rattle.std.specs.FinMap.{nat_cmp-IsAntisymmetric}
use Rattle.std.specs.Ordering.{nat_cmp}
use Rattle.words36.specs.declared.moment.Moment.{Moment}
use Rattle.words36.specs.declared.names.FileName.{FileName}
use Rattle.blockdisk.specs.Common.{DiskState}
use Rattle.spec_image.specs.Common.{Files, Directory, Place, map_directory, name_cmp, pack_of, with_quota}
use Rattle.spec_image.specs.Common.{files_limited, FinMap, get, insert, entries, values, map_values, SpecVersion}
use Rattle.spec_image.specs.Common.{without_serials, file_at}
use Rattle.spec_machine.specs.Common.{State, slot, limit_answer, settled, refused_at, HaveDistinctSerials, step}
use Rattle.spec_machine.specs.Common.{of_files, last_date}
use Rattle.spec_machine.specs.declared.call.Call.TheVariants.{Quota}
use Rattle.spec_machine.specs.declared.call.Event.TheVariants.{Call as Calls}
use Rattle.spec_machine.specs.declared.call.Reply.{Reply}
use Rattle.spec_machine.specs.declared.call.Reply.TheVariants.{Done}
use Rattle.spec_image.proofs.Common.{insert_same, get-map_values, entries-map_values, map_values-insert}
use Rattle.spec_image.proofs.Common.{file_at-limited}
use Rattle.volume.specs.Common.{MemoryMap, pending_at, prime_at, RestsAt, KeepsRead, KeepsEachWritten}
use Rattle.volume.specs.declared.pending.PendingVersion.{PendingVersion}
use Rattle.monitor.specs.Common.{asked_owner, asked_quota, AreKeyed, AreReading, IsState, UnderKeys, job_of, state_of}
use Rattle.monitor.specs.declared.job.Job.{Job}
use Rattle.monitor.proofs.common.EventAnswers.{job_set, called, settled_with}
use Rattle.monitor.proofs.common.Growths.{shown_at}
use Rattle.monitor.proofs.common.ReadBookings.{versions_of}
use Rattle.monitor.proofs.common.ReadStays.{reads_go}
use Rattle.monitor.proofs.common.WrittenStays.{writing_stays}
use Rattle.spec_machine.specs.Sound as machine_states

-- The machine's row, by its answer.
module _ (d : DiskState) (files : Files SpecVersion) (w : UnderKeys) (jobs : List (Option Job))
    (n : ℕ) (job : Job) (there : slot jobs n ≡ Some job) (e : ℕ) (moment : Moment)
    (timely : moment.date ≤ last_date (pack_of d).layout) where
  abbrev t : State
  t = state_of files w jobs

  -- the files with the quota
  abbrev limited : Files SpecVersion
  limited = files_limited files (asked_owner job.core e) (asked_quota job.core e)

  abbrev by_answer : Reply → Reply × State
  by_answer reply = of_files t n
      (settled reply (job_of w job, limited) (λ r. (refused_at (job_of w job) e r, files)))

  abbrev answer : Reply
  answer = limit_answer (pack_of d) t (job_of w job) e (asked_owner job.core e)

  asks : (serial : ℕ) → step (pack_of d) serial t (Calls n (Quota e) moment) ≡ by_answer answer
  asks serial = called (pack_of d) jobs n (Quota e) moment serial files w timely job there

  pub row_done : answer ≡ Done → (serial : ℕ)
      → step (pack_of d) serial t (Calls n (Quota e) moment)
      ≡ (Done, state_of limited w (slice_set jobs n (Some job)))
  row_done is serial = asks serial ∙ ap by_answer is ∙ ap (λ x. (Done, x)) (job_set limited w jobs n job)

  -- another answer
  pub row_kept : (reply : Reply) (job' : Job) → answer ≡ reply → (reply ≡ Done → ⊥)
      → refused_at (job_of w job) e reply ≡ job_of w job' → (serial : ℕ)
      → step (pack_of d) serial t (Calls n (Quota e) moment)
      ≡ (reply, state_of files w (slice_set jobs n (Some job')))
  row_kept reply job' is not_done left serial =
      asks serial ∙ ap by_answer is ∙ ap (of_files t n) (settled_with reply (job_of w job, limited)
      (λ r. (refused_at (job_of w job) e r, files)) not_done ∙ ap (λ j. (reply, (j, files))) left)
      ∙ ap (λ x. (reply, x)) (job_set files w jobs n job')

-- The versions of files, by the files that each directory has.
abbrev files_in : Directory SpecVersion → FinMap name_cmp SpecVersion
files_in d = d.files

shape : (es : List (ℕ × Directory SpecVersion))
    → flat_map (λ (d : Directory SpecVersion). values d.files) (map (λ (e : ℕ × Directory SpecVersion). e.1) es)
    ≡ flat_map (λ (m : FinMap name_cmp SpecVersion). values m) (map (λ (e : ℕ × FinMap name_cmp SpecVersion). e.1)
    (map (λ (e : ℕ × Directory SpecVersion). (e.0, files_in e.1)) es))
shape [] = refl
shape (e ∷ es) = ap (λ vs. values e.1.files ++ vs) (shape es)

by_files : (files : Files SpecVersion) → versions_of files
    ≡ flat_map (λ (m : FinMap name_cmp SpecVersion). values m) (values (map_values files_in files))
by_files files = shape (entries files)
    ∙ ap (λ es. flat_map (λ (m : FinMap name_cmp SpecVersion). values m)
    (map (λ (e : ℕ × FinMap name_cmp SpecVersion). e.1) es)) (sym (entries-map_values nat_cmp_total files_in files))

-- A directory that has the same files leaves the same versions.
same_versions : (files : Files SpecVersion) (owner : ℕ) (D new : Directory SpecVersion) → get files owner ≡ Some D
    → new.files ≡ D.files → versions_of (insert files owner new) ≡ versions_of files
same_versions files owner D new there same =
    by_files (insert files owner new)
    ∙ ap (λ (m : FinMap nat_cmp (FinMap name_cmp SpecVersion)). flat_map (λ (n : FinMap name_cmp SpecVersion). values n)
    (values m))
    (map_values-insert nat_cmp_total nat_cmp-IsAntisymmetric files_in files owner new
    ∙ ap (insert (map_values files_in files) owner) same
    ∙ insert_same nat_cmp_total nat_cmp-IsAntisymmetric (map_values files_in files) owner D.files
    (get-map_values nat_cmp_total files_in files owner ∙ ap (option_map files_in) there))
    ∙ sym (by_files files)

-- The files with a quota.
module _ (files : Files SpecVersion) (owner quota : ℕ) where
  -- the volume's, too
  shown_by : (o : Option (Directory SpecVersion)) → without_serials (with_quota files owner quota o)
      ≡ with_quota (without_serials files) owner quota (option_map (map_directory (λ (v : SpecVersion). v.file)) o)
  shown_by None = refl
  shown_by (Some D) = map_values-insert nat_cmp_total nat_cmp-IsAntisymmetric
      (map_directory (λ (v : SpecVersion). v.file)) files owner
      (record D { quota = quota })

  pub shown_limited : without_serials (files_limited files owner quota)
      ≡ files_limited (without_serials files) owner quota
  shown_limited = shown_by (get files owner)
      ∙ ap (with_quota (without_serials files) owner quota) (sym (shown_at files owner))

  -- no version is another
  versions_by : (o : Option (Directory SpecVersion)) → get files owner ≡ o
      → versions_of (with_quota files owner quota o) ≡ versions_of files
  versions_by None there = refl
  versions_by (Some D) there = same_versions files owner D (record D { quota = quota }) there refl

  pub versions_limited : versions_of (files_limited files owner quota) ≡ versions_of files
  versions_limited = versions_by (get files owner) refl

-- The state that the monitor stands for.
module _ (d d' : DiskState) (c c' : MemoryMap) (jobs jobs' : List (Option Job)) (s : State)
    (state : IsState d c jobs s) (keyed : AreKeyed c'.pending jobs') (reading : AreReading c'.live jobs')
    (live : c'.live ≡ c.live) (pending : c'.pending ≡ c.pending)
    (primes : (ppn : ℕ) (name : FileName) → prime_at c' ppn name ≡ prime_at c ppn name)
    (readers : KeepsRead d.contents d'.contents c) (writers : KeepsEachWritten d.contents d'.contents c)
    (owner quota : ℕ) (rests : RestsAt d' (files_limited (without_serials s.files) owner quota)) where
  was : (key : ℕ) (p : PendingVersion) → pending_at c'.pending key ≡ Some p → pending_at c.pending key ≡ Some p
  was key p at = ap (λ ps. pending_at ps key) (sym pending) ∙ at

  same_at : (q : Place) → file_at (files_limited s.files owner quota) q ≡ file_at s.files q
  same_at q = file_at-limited s.files owner quota q

  pub limited_state : machine_states.IsSound (state_of (files_limited s.files owner quota) state.under jobs')
      → IsState d' c' jobs' (state_of (files_limited s.files owner quota) state.under jobs')
  limited_state still = record {
    files = subst (RestsAt d') (sym (shown_limited s.files owner quota)) rests;
    serials = subst HaveDistinctSerials (sym (versions_limited s.files owner quota)) state.serials;
    under = state.under;
    versions = λ key p at.
        let is = state.versions key p (was key p at) in
        writing_stays d d' p (state.under.written key) is (writers key p (was key p at));
    absent = λ key p at new. same_at (state.under.written key).place ∙ state.absent key p (was key p at) new;
    keyed = keyed;
    read = reads_go d d' c c' state.under.read live readers s.files (files_limited s.files owner quota)
        (λ ppn name m is. primes ppn name ∙ is) (λ q x is. same_at q ∙ is)
        (versions_limited s.files owner quota) state.read;
    reading = reading;
    jobs_are = refl;
    sound = still;
  }
