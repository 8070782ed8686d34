-- MakeDir: the machine's row, and the state after it.
use Rattle.std.proofs.Common.{◌≡◌, ◌≤◌, ◌+◌, ℕ, false, List, Option, None, Some, refl, sym, ap, subst, ◌∙◌, ⊎_elim}
use Rattle.std.proofs.Common.{slice_set, map}
use Rattle.std.specs.Cmp.{nat_cmp_total}
use Rattle.std.specs.FinMap.{nat_cmp-IsAntisymmetric}
use Rattle.words36.specs.declared.moment.Moment.{Moment}
use Rattle.words36.specs.declared.names.FileName.{FileName}
use Rattle.blockdisk.specs.Common.{DiskState}
use Rattle.spec_machine.specs.Common.{with_right, State, slot, make_answer, directory_made, settled, refused_at}
use Rattle.spec_machine.specs.Common.{booked, HaveDistinctSerials, is_plain, step, of_files, last_date}
use Rattle.spec_image.specs.Common.{Files, Directory, Place, map_directory, name_cmp, get, insert, empty, map_values}
use Rattle.spec_image.specs.Common.{from_entries, SpecVersion, without_serials, file_in, file_at, pack_of}
use Rattle.spec_machine.specs.declared.call.Call.TheVariants.{MakeDir}
use Rattle.spec_machine.specs.declared.call.Event.TheVariants.{Call as Calls}
use Rattle.spec_machine.specs.declared.call.Reply.{Reply}
use Rattle.spec_machine.specs.declared.call.Reply.TheVariants.{Done, Refused}
use Rattle.spec_image.proofs.Common.{same_or_other, entries-empty, get-empty, get-insert_same, get-insert_other}
use Rattle.spec_image.proofs.Common.{map_values-insert}
use Rattle.volume.specs.Common.{MemoryMap, pending_at, IsWholeMemory, files_made, prime_at, IsSoundMemory, RestsAt}
use Rattle.volume.specs.Common.{KeepsRead, KeepsEachWritten}
use Rattle.volume.specs.declared.pending.PendingVersion.{PendingVersion}
use Rattle.volume.proofs.common.Answers.{Holds, rest_holds}
use Rattle.monitor.specs.Common.{asked_owner, directory_protection_asked, early_answer, IsAbsent, IsCrowded}
use Rattle.monitor.specs.Common.{IsRefusedBy, AreKeyed, AreReading, IsState, UnderKeys, job_of, state_of}
use Rattle.monitor.specs.declared.job.Job.{Job}
use Rattle.monitor.proofs.common.EventAnswers.{state_is, job_set, called, settled_with, settled_reply}
use Rattle.monitor.proofs.common.KnownState.{known}
use Rattle.monitor.proofs.MakeDir.Calls.{decided, refused_by, may_make, not_plain}
use Rattle.monitor.proofs.common.Changes.{versions_made, none_in, none_there}
use Rattle.monitor.proofs.common.ReadStays.{reads_made}
use Rattle.monitor.proofs.common.WrittenStays.{writing_stays}
use Rattle.spec_machine.specs.Sound as machine_states

-- the files with one directory more, as the volume has them
pub shown_made : (files : Files SpecVersion) (owner protection : ℕ)
    → without_serials (insert files owner (record { protection = protection; quota = 0; files = empty }))
    ≡ files_made (without_serials files) owner protection
shown_made files owner protection =
    map_values-insert nat_cmp_total nat_cmp-IsAntisymmetric (map_directory (λ (v : SpecVersion). v.file)) files owner
    (record { protection = protection; quota = 0; files = empty })
    ∙ ap (λ fs. insert (without_serials files) owner (record { protection = protection; quota = 0; files = fs })) none
  where
    none : map_values (λ (v : SpecVersion). v.file) (empty {R = name_cmp}) ≡ empty
    none = ap (λ es. from_entries (map (λ e. (e.0, e.1.file)) es)) (entries-empty name_cmp SpecVersion)

-- The machine's row.
module _ (d : DiskState) (c : MemoryMap) (files : Files SpecVersion) (w : UnderKeys) (jobs : List (Option Job))
    (whole : IsWholeMemory d.size c) (holds : Holds d c.known (without_serials files))
    (books : booked (state_of files w jobs) ≡ c.known.table.booked)
    (n : ℕ) (job : Job) (there : slot jobs n ≡ Some job) (e : ℕ) (moment : Moment)
    (timely : moment.date ≤ last_date (pack_of d).layout) where
  abbrev t : State
  t = state_of files w jobs

  -- the files with the directory
  abbrev pub made : Files SpecVersion
  made = insert files (asked_owner job.core e) (directory_made (job_of w job) e)

  -- the row, by its answer
  abbrev by_answer : Reply → Reply × State
  by_answer reply = of_files t n (settled reply (job_of w job, made) (λ r. (refused_at (job_of w job) e r, files)))

  abbrev answer : Reply
  answer = make_answer (pack_of d) t (job_of w job) e (asked_owner job.core e)

  asks : (serial : ℕ) → step (pack_of d) serial t (Calls n (MakeDir e) moment) ≡ by_answer answer
  asks serial = called (pack_of d) jobs n (MakeDir e) moment serial files w timely job there

  pub row_done : early_answer job.ppn job.core e ≡ Done → IsAbsent c (asked_owner job.core e) → (IsCrowded d.size c → ⊥)
      → (serial : ℕ)
      → step (pack_of d) serial t (Calls n (MakeDir e) moment) ≡ (Done, state_of made w (slice_set jobs n (Some job)))
  row_done early absent fits serial = asks serial
      ∙ ap by_answer (may_make d c files w jobs whole holds books job e early absent fits)
      ∙ ap (λ x. (Done, x)) (job_set made w jobs n job)

  -- another answer
  row_kept : (reply : Reply) (job' : Job) → answer ≡ reply → (reply ≡ Done → ⊥)
      → refused_at (job_of w job) e reply ≡ job_of w job' → (serial : ℕ)
      → step (pack_of d) serial t (Calls n (MakeDir e) moment)
      ≡ (reply, state_of files w (slice_set jobs n (Some job')))
  row_kept reply job' is not_done left serial =
      asks serial ∙ ap by_answer is ∙ ap (of_files t n) (settled_with reply (job_of w job, made)
      (λ r. (refused_at (job_of w job) e r, files)) not_done ∙ ap (λ j. (reply, (j, files))) left)
      ∙ ap (λ x. (reply, x)) (job_set files w jobs n job')

  pub row_early : (reply : Reply) (job' : Job) → early_answer job.ppn job.core e ≡ reply → (reply ≡ Done → ⊥)
      → refused_at (job_of w job) e reply ≡ job_of w job' → (serial : ℕ)
      → step (pack_of d) serial t (Calls n (MakeDir e) moment)
      ≡ (reply, state_of files w (slice_set jobs n (Some job')))
  row_early reply job' early not_done = row_kept reply job'
      (decided d c files w jobs whole holds books job e reply early not_done) not_done

  pub row_refused : (code : ℕ) → early_answer job.ppn job.core e ≡ Done
      → IsRefusedBy d.size c (asked_owner job.core e) code → (serial : ℕ)
      → step (pack_of d) serial t (Calls n (MakeDir e) moment)
      ≡ (
        Refused code,
        state_of files w (slice_set jobs n (Some (record job { core = with_right job.core (e + 1) code }))),
      )
  row_refused code early why = row_kept (Refused code) (record job { core = with_right job.core (e + 1) code })
      (refused_by d c files w jobs whole holds books job e code early why) (λ is. cc is) refl

  -- it isn't decided before memory and the disk are needed
  pub row_undecided : early_answer job.ppn job.core e ≡ Done
      → is_plain ((step (pack_of d) 0 t (Calls n (MakeDir e) moment)).0) ≡ false
  row_undecided early =
      ap (λ (r : Reply × State). is_plain r.0) (asks 0)
      ∙ ap is_plain (settled_reply answer (job_of w job, made) (λ r. (refused_at (job_of w job) e r, files)))
      ∙ not_plain d c files w jobs whole holds books job e early

-- a file that isn't there isn't in the new directory
made_elsewhere : (files : Files SpecVersion) (owner : ℕ) (v : Directory SpecVersion) (q : Place) → v.files ≡ empty
    → file_at files q ≡ None → file_at (insert files owner v) q ≡ None
made_elsewhere files owner v q bare none =
    ⊎_elim
    (λ here. ap (λ o. file_in o q.name) (ap (get (insert files owner v)) here
    ∙ get-insert_same nat_cmp_total files owner v) ∙ ap (λ fs. get fs q.name) bare
    ∙ get-empty name_cmp SpecVersion q.name)
    (λ other. ap (λ o. file_in o q.name)
    (get-insert_other nat_cmp_total nat_cmp-IsAntisymmetric files owner v q.ppn other) ∙ none)
    (same_or_other nat_cmp_total nat_cmp-IsAntisymmetric q.ppn owner)

-- The state that the monitor stands for.
module _ (d : DiskState) (c : MemoryMap) (jobs : List (Option Job)) (job : Job) (e : ℕ)
    (sound : IsSoundMemory d c false)
    (honest : d.honest) (s : State) (state : IsState d c jobs s) where
  abbrev pub before : State
  before = state_of s.files state.under jobs

  pub before_is : s ≡ before
  before_is = state_is s state.under jobs state.jobs_are

  pub held : Holds d c.known (without_serials s.files)
  held = rest_holds d c false sound honest refl (without_serials s.files) state.files

  pub books : booked before ≡ c.known.table.booked
  books = subst (λ y. booked y ≡ c.known.table.booked) before_is (known d c jobs s state sound honest).booked_is

  -- the files with the directory, as the machine and as the volume have them
  abbrev pub files' : Files SpecVersion
  files' = insert s.files (asked_owner job.core e) (directory_made (job_of state.under job) e)

  pub shown : without_serials files'
      ≡ files_made (without_serials s.files) (asked_owner job.core e) (directory_protection_asked job.core e)
  shown = shown_made s.files (asked_owner job.core e) (directory_protection_asked job.core e)

  -- The directory is made.
  module _ (d' : DiskState) (c' : MemoryMap) (jobs' : List (Option Job)) (keyed : AreKeyed c'.pending jobs')
      (reading : AreReading c'.live jobs') (live : c'.live ≡ c.live) (pending : c'.pending ≡ c.pending)
      (primes : (ppn : ℕ) (name : FileName) (m : ℕ) → prime_at c ppn name ≡ Some m → prime_at c' ppn name
      ≡ Some m) (readers : KeepsRead d.contents d'.contents c) (writers : KeepsEachWritten d.contents d'.contents c)
      (rests : RestsAt d' (files_made (without_serials s.files) (asked_owner job.core e)
      (directory_protection_asked job.core e)))
      (absent : IsAbsent c (asked_owner job.core e)) where
    was : (key : ℕ) (p : PendingVersion) → pending_at c'.pending key ≡ Some p → pending_at c.pending key ≡ Some p
    was key p at = ap (λ ps. pending_at ps key) (sym pending) ∙ at

    pub made_state : machine_states.IsSound (state_of files' state.under jobs')
        → IsState d' c' jobs' (state_of files' state.under jobs')
    made_state still = record {
      files = subst (RestsAt d') (sym shown) rests;
      serials = subst HaveDistinctSerials (sym (versions_made s.files (asked_owner job.core e)
          (directory_made (job_of state.under job) e) none_in
          (none_there d c s.files held (asked_owner job.core e) absent))) state.serials;
      under = state.under;
      versions = λ key p at.
          let is = state.versions key p (was key p at) in
          writing_stays d d' p (state.under.written key) is (writers key p (was key p at));
      absent = λ key p at new. made_elsewhere s.files (asked_owner job.core e)
          (directory_made (job_of state.under job) e) (state.under.written key).place refl
          (state.absent key p (was key p at) new);
      keyed = keyed;
      read = reads_made d d' c c' state.under.read live readers s.files (asked_owner job.core e)
          (directory_made (job_of state.under job) e) refl (none_there d c s.files held (asked_owner job.core e) absent)
          primes state.read;
      reading = reading;
      jobs_are = refl;
      sound = still;
    }
