-- DeleteDir: the machine's row, and the state after it.
use Rattle.std.proofs.Common.{◌≡◌, ◌≤◌, ℕ, List, Option, None, Some, refl, sym, ap, subst, ◌∙◌, ⊎_elim, slice_set}
use Rattle.std.specs.Cmp.{nat_cmp_total}
use Rattle.std.specs.FinMap.{nat_cmp-IsAntisymmetric}
use Rattle.words36.specs.declared.moment.Moment.{Moment}
use Rattle.words36.specs.declared.names.FileName.{FileName}
use Rattle.blockdisk.specs.Common.{DiskState}
use Rattle.spec_image.specs.Common.{Files, Directory, Place, map_directory, name_cmp, get, remove, empty, size}
use Rattle.spec_image.specs.Common.{values, SpecVersion, without_serials, file_in, file_at, pack_of}
use Rattle.spec_machine.specs.Common.{State, slot, remove_answer, settled, refused_at, HaveDistinctSerials, step}
use Rattle.spec_machine.specs.Common.{of_files, last_date}
use Rattle.spec_machine.specs.declared.call.Call.TheVariants.{DeleteDir}
use Rattle.spec_machine.specs.declared.call.Event.TheVariants.{Call as Calls}
use Rattle.spec_machine.specs.declared.call.Reply.{Reply}
use Rattle.spec_machine.specs.declared.call.Reply.TheVariants.{Done}
use Rattle.spec_image.proofs.Common.{some_none, same_or_other, get-empty, get-removed, get-remove_other, insert_same}
use Rattle.spec_image.proofs.Common.{insert-removed, map_values-remove, empty_of_size}
use Rattle.volume.specs.Common.{MemoryMap, pending_at, prime_at, directory_removed, RestsAt, KeepsRead}
use Rattle.volume.specs.Common.{KeepsEachWritten}
use Rattle.volume.specs.declared.pending.PendingVersion.{PendingVersion}
use Rattle.monitor.specs.Common.{asked_owner, AreKeyed, AreReading, IsState, UnderKeys, job_of, state_of}
use Rattle.monitor.specs.declared.job.Job.{Job}
use Rattle.monitor.proofs.common.EventAnswers.{job_set, called, settled_with}
use Rattle.monitor.proofs.common.Changes.{versions_made, none_in}
use Rattle.monitor.proofs.common.ReadBookings.{versions_of}
use Rattle.monitor.proofs.common.ReadStays.{reads_go}
use Rattle.monitor.proofs.common.WrittenStays.{writing_stays}
use Rattle.spec_machine.specs.Sound as machine_states

-- The machine's row, by its answer.
module _ (d : DiskState) (files : Files SpecVersion) (w : UnderKeys) (jobs : List (Option Job))
    (n : ℕ) (job : Job) (there : slot jobs n ≡ Some job) (e : ℕ) (moment : Moment)
    (timely : moment.date ≤ last_date (pack_of d).layout) where
  abbrev t : State
  t = state_of files w jobs

  -- the files without the directory
  abbrev removed : Files SpecVersion
  removed = remove files (asked_owner job.core e)

  abbrev by_answer : Reply → Reply × State
  by_answer reply = of_files t n
      (settled reply (job_of w job, removed) (λ r. (refused_at (job_of w job) e r, files)))

  abbrev answer : Reply
  answer = remove_answer t (job_of w job) e (asked_owner job.core e)

  asks : (serial : ℕ) → step (pack_of d) serial t (Calls n (DeleteDir e) moment) ≡ by_answer answer
  asks serial = called (pack_of d) jobs n (DeleteDir e) moment serial files w timely job there

  pub row_done : answer ≡ Done → (serial : ℕ)
      → step (pack_of d) serial t (Calls n (DeleteDir e) moment)
      ≡ (Done, state_of removed w (slice_set jobs n (Some job)))
  row_done is serial = asks serial ∙ ap by_answer is ∙ ap (λ x. (Done, x)) (job_set removed w jobs n job)

  -- another answer
  pub row_kept : (reply : Reply) (job' : Job) → answer ≡ reply → (reply ≡ Done → ⊥)
      → refused_at (job_of w job) e reply ≡ job_of w job' → (serial : ℕ)
      → step (pack_of d) serial t (Calls n (DeleteDir e) moment)
      ≡ (reply, state_of files w (slice_set jobs n (Some job')))
  row_kept reply job' is not_done left serial =
      asks serial ∙ ap by_answer is ∙ ap (of_files t n) (settled_with reply (job_of w job, removed)
      (λ r. (refused_at (job_of w job) e r, files)) not_done ∙ ap (λ j. (reply, (j, files))) left)
      ∙ ap (λ x. (reply, x)) (job_set files w jobs n job')

-- The files without a directory that has none.
module _ (files : Files SpecVersion) (owner : ℕ) where
  -- the volume's, too
  pub shown_removed : without_serials (remove files owner) ≡ directory_removed (without_serials files) owner
  shown_removed = map_values-remove nat_cmp_total nat_cmp-IsAntisymmetric (map_directory (λ (v : SpecVersion). v.file))
      files owner

  -- a file that isn't there isn't there now
  pub absent_still : (q : Place) → file_at files q ≡ None → file_at (remove files owner) q ≡ None
  absent_still q none = ⊎_elim
      (λ here. ap (λ o. file_in o q.name) (ap (get (remove files owner)) here ∙ get-removed nat_cmp_total files owner))
      (λ other. ap (λ o. file_in o q.name)
      (get-remove_other nat_cmp_total nat_cmp-IsAntisymmetric files owner q.ppn other) ∙ none)
      (same_or_other nat_cmp_total nat_cmp-IsAntisymmetric q.ppn owner)

  module _ (v : Directory SpecVersion) (there : get files owner ≡ Some v) (bare : size v.files ≡ 0) where
    is_empty : v.files ≡ empty
    is_empty = empty_of_size v.files bare

    -- all files that are there stay
    pub file_stays : (q : Place) (x : SpecVersion) → file_at files q ≡ Some x → file_at (remove files owner) q ≡ Some x
    file_stays q x is = ⊎_elim
        (λ here. absurd (some_none (sym is ∙ ap (λ o. file_in o q.name) (ap (get files) here ∙ there)
        ∙ ap (λ fs. get fs q.name) is_empty ∙ get-empty name_cmp SpecVersion q.name)))
        (λ other. ap (λ o. file_in o q.name)
        (get-remove_other nat_cmp_total nat_cmp-IsAntisymmetric files owner q.ppn other) ∙ is)
        (same_or_other nat_cmp_total nat_cmp-IsAntisymmetric q.ppn owner)

    -- and no version is another
    pub versions_removed : versions_of (remove files owner) ≡ versions_of files
    versions_removed =
        sym (versions_made (remove files owner) owner v (ap values is_empty ∙ none_in)
        (get-removed nat_cmp_total files owner))
        ∙ ap versions_of (insert-removed nat_cmp_total nat_cmp-IsAntisymmetric files owner v
        ∙ insert_same nat_cmp_total nat_cmp-IsAntisymmetric files owner v there)

-- The state that the monitor stands for.
module _ (d d' : DiskState) (c c' : MemoryMap) (jobs jobs' : List (Option Job)) (s : State)
    (state : IsState d c jobs s) (keyed : AreKeyed c'.pending jobs') (reading : AreReading c'.live jobs')
    (live : c'.live ≡ c.live) (pending : c'.pending ≡ c.pending)
    (primes : (ppn : ℕ) (name : FileName) → prime_at c' ppn name ≡ prime_at c ppn name)
    (readers : KeepsRead d.contents d'.contents c) (writers : KeepsEachWritten d.contents d'.contents c)
    (owner : ℕ) (v : Directory SpecVersion) (there : get s.files owner ≡ Some v) (bare : size v.files ≡ 0)
    (rests : RestsAt d' (directory_removed (without_serials s.files) owner)) where
  was : (key : ℕ) (p : PendingVersion) → pending_at c'.pending key ≡ Some p → pending_at c.pending key ≡ Some p
  was key p at = ap (λ ps. pending_at ps key) (sym pending) ∙ at

  pub removed_state : machine_states.IsSound (state_of (remove s.files owner) state.under jobs')
      → IsState d' c' jobs' (state_of (remove s.files owner) state.under jobs')
  removed_state still = record {
    files = subst (RestsAt d') (sym (shown_removed s.files owner)) rests;
    serials = subst HaveDistinctSerials (sym (versions_removed s.files owner v there bare)) state.serials;
    under = state.under;
    versions = λ key p at.
        let is = state.versions key p (was key p at) in
        writing_stays d d' p (state.under.written key) is (writers key p (was key p at));
    absent = λ key p at new. absent_still s.files owner (state.under.written key).place
        (state.absent key p (was key p at) new);
    keyed = keyed;
    read = reads_go d d' c c' state.under.read live readers s.files (remove s.files owner)
        (λ ppn name m is. primes ppn name ∙ is) (file_stays s.files owner v there bare)
        (versions_removed s.files owner v there bare) state.read;
    reading = reading;
    jobs_are = refl;
    sound = still;
  }
