-- DeleteDir: what it promises, by what it finds and by what the volume answers.
use Rattle.std.proofs.Common.{◌≡◌, ℕ, Bool, true, false, List, Option, Some, Result, Ok, Err, refl, sym, ap, subst}
use Rattle.std.proofs.Common.{◌∙◌, slice_set, IsErrOf, OnOk}
use Rattle.words36.specs.declared.moment.Moment.{Moment}
use Rattle.words36.specs.declared.names.FileName.{FileName}
use Rattle.blockdisk.specs.Common.{Contents, DiskState, MayLeave}
use Rattle.spec_machine.specs.Common.{lies_outside, State, pending_creations, step}
use Rattle.spec_image.specs.Common.{pack_of, remove, total, without_serials}
use Rattle.spec_machine.specs.declared.call.Call.TheVariants.{DeleteDir}
use Rattle.spec_machine.specs.declared.call.Event.TheVariants.{Call as Calls}
use Rattle.spec_machine.specs.declared.call.Reply.{Reply}
use Rattle.spec_machine.specs.declared.call.Reply.TheVariants.{AddressCheck, Done, Refused}
use Rattle.volume.specs.Common.{IsDirectoryOf, ChangesFiles, DeviceAnswer, CurrentDirectory, MemoryMap, creates}
use Rattle.volume.specs.Common.{prime_at, directory_removed, IsSoundMemory, RestsAt}
use Rattle.volume.specs.declared.error.CallError.{CallError}
use Rattle.volume.specs.declared.error.CallError.TheVariants.{Device}
use Rattle.volume.proofs.common.Answers.{Holds, rest_holds}
use Rattle.monitor.specs.Common.{IsKeptBy, IsRemovable, asked_owner, IsAmong, IsCallReady, IsServing, ServesAlways}
use Rattle.monitor.specs.Common.{with_code, KeepsReading, IsState, IsTimely, state_of}
use Rattle.monitor.specs.declared.job.Job.{Job}
use Rattle.monitor.proofs.common.EventAnswers.{state_is}
use Rattle.monitor.proofs.common.CallRows.{reads_same}
use Rattle.monitor.proofs.common.ChangeServes.{told_serves, broken_serves, done_serves}
use Rattle.monitor.proofs.DeleteDir.Calls.{answer_checked, refused_by, may_delete, empty_one}
use Rattle.monitor.proofs.DeleteDir.States.{row_done, row_kept, shown_removed, removed_state}
use Rattle.monitor.proofs.DeleteDir.Asked.{placed_removed}
use Rattle.monitor.proofs.common.Dropped.{keeps_keyed}
use Rattle.monitor.proofs.common.KnownState.{known}
use Rattle.monitor.proofs.common.Changes.{keeps_core}
use Rattle.monitor.proofs.common.JobReaders.{keeps_reading}
use Rattle.monitor.proofs.common.Refusals.{same_code}
use Rattle.monitor.proofs.RenameFile.NoMemory.{rename_serves}
use Rattle.spec_machine.specs.declared.call.Reply.TheVariants as replies

module _ {D : Type 0} (state : D → DiskState) (only_now : (disk : D) (contents : Contents) → (state disk).honest
    → (state disk).left_since (state disk).clock contents → MayLeave (state disk) contents) (disk : D)
    (c : MemoryMap) (failed : Bool) (job : Job) (ready : IsCallReady (state disk) c failed job) (e : ℕ) where
  abbrev d : DiskState
  d = state disk

  abbrev owner : ℕ
  owner = asked_owner job.core e

  sound : IsSoundMemory d c false
  sound = subst (IsSoundMemory d c) ready.alive ready.sound

  module _ (moment : Moment) (timely : IsTimely d moment) (jobs : List (Option Job)) (n : ℕ)
      (among : IsAmong c jobs n job) where
    abbrev jobs_with : Job → List (Option Job)
    jobs_with x = slice_set jobs n (Some x)

    module _ (honest : d.honest) (s : State) (is : IsState d c jobs s) where
      holds : Holds d c.known (without_serials s.files)
      holds = rest_holds d c false sound honest refl (without_serials s.files) is.files

      -- a state with the same parts
      abbrev before : State
      before = state_of s.files is.under jobs

      creations : (ppn : ℕ) → pending_creations before ppn ≡ total (creates ppn) c.pending
      creations ppn = subst (λ y. pending_creations y ppn ≡ total (creates ppn) c.pending)
          (state_is s is.under jobs is.jobs_are) ((known d c jobs s is sound honest).creations ppn)

      -- the machine's answer and state, by those of it
      from_before : (reply : Reply) (after : State)
          → ((serial : ℕ) → step (pack_of d) serial before (Calls n (DeleteDir e) moment) ≡ (reply, after))
          → (serial : ℕ) → step (pack_of d) serial s (Calls n (DeleteDir e) moment) ≡ (reply, after)
      from_before reply after steps serial =
          subst (λ (y : State). step (pack_of d) serial y (Calls n (DeleteDir e) moment) ≡ (reply, after))
          (sym (state_is s is.under jobs is.jobs_are)) (steps serial)

    checked : lies_outside job.core e 2 ≡ true
        → IsServing state disk disk c c failed jobs (jobs_with job) n (DeleteDir e) moment AddressCheck
    checked outside =
        told_serves state only_now disk c failed ready.alive ready.placed job (DeleteDir e) (λ light. light)
        (λ kept. kept) moment jobs n among job.core AddressCheck (λ x. cc x, λ x. cc x, λ x. cc x) (λ code is. cc is)
        (λ is. refl)
        (λ honest s is. from_before honest s is AddressCheck (state_of s.files is.under (jobs_with job))
        (row_kept d s.files is.under jobs n job among.there e moment (timely honest) AddressCheck job
        (answer_checked d c s.files is.under jobs sound.whole (holds honest s is) (creations honest s is) owner honest
        is.files job e outside)
        (λ is. cc is) refl))

    kept : (code : ℕ) → lies_outside job.core e 2 ≡ false → IsKeptBy d c job.ppn owner code
        → IsServing state disk disk c c failed jobs (jobs_with (with_code job e code)) n (DeleteDir e) moment
        (Refused code)
    kept code inside why =
        told_serves state only_now disk c failed ready.alive ready.placed job (DeleteDir e) (λ light. light)
        (λ kept. kept) moment jobs n among (with_code job e code).core (Refused code)
        (λ x. cc x, λ x. cc x, λ x. cc x) (λ k is. ap (with_code job e) (same_code is)) (λ is. absurd is)
        (λ honest s is. from_before honest s is (Refused code)
        (state_of s.files is.under (jobs_with (with_code job e code)))
        (row_kept d s.files is.under jobs n job among.there e moment (timely honest) (Refused code)
        (with_code job e code)
        (refused_by d c s.files is.under jobs sound.whole (holds honest s is) (creations honest s is) owner honest
        is.files job e code inside why)
        (λ is. cc is) refl))

    row : lies_outside job.core e 2 ≡ false → IsRemovable d c job.ppn owner → d.honest → (s : State)
        (is : IsState d c jobs s) → (after : State)
        × ((serial : ℕ) → step (pack_of d) serial s (Calls n (DeleteDir e) moment) ≡ (Done, after))
        × (without_serials after.files ≡ directory_removed (without_serials s.files) owner)
    row inside may honest s is = (
      state_of (remove s.files owner) is.under (jobs_with job),
      from_before honest s is Done (state_of (remove s.files owner) is.under (jobs_with job))
          (row_done d s.files is.under jobs n job among.there e moment (timely honest)
          (may_delete d c s.files is.under jobs sound.whole (holds honest s is) (creations honest s is) owner honest
          is.files job e inside may)),
      shown_removed s.files owner,
    )

  -- The two words aren't both in core.
  pub checked_serves : lies_outside job.core e 2 ≡ true
      → ServesAlways state disk disk c c failed job job (DeleteDir e) AddressCheck
  checked_serves outside moment timely jobs n among = checked moment timely jobs n among outside

  -- It is refused, with disk and volume as they were.
  pub kept_serves : (code : ℕ) → lies_outside job.core e 2 ≡ false → IsKeptBy d c job.ppn owner code
      → (disk' : D) (c' : MemoryMap) (failed' : Bool) → (disk' ≡ disk) × (c' ≡ c) × (failed' ≡ failed)
      → (job' : Job) (reply : Reply) → job' ≡ with_code job e code → reply ≡ Refused code
      → ServesAlways state disk disk' c c' failed' job job' (DeleteDir e) reply
  kept_serves code inside why disk' c' failed' same job' reply job_is answer_is =
      rename_serves state disk disk disk' c c c' failed failed' job job' (with_code job e code) (DeleteDir e) reply
      (Refused code) (sym same.0) (sym same.1) (sym same.2) (sym job_is) (sym answer_is)
      (λ moment timely jobs n among. kept moment timely jobs n among code inside why)

  -- The volume was called.
  module _ (inside : lies_outside job.core e 2 ≡ false) (may : IsRemovable d c job.ppn owner) (disk' : D)
      (c' : MemoryMap) (failed' : Bool) (result : Result (Unit {0}) CallError)
      (files : ChangesFiles d (state disk') c (λ f. directory_removed f owner) result)
      (answer : DeviceAnswer d (state disk') failed failed' result) where
    pub removal_broken : result ≡ Err Device
        → ServesAlways state disk disk' c c' failed' job job (DeleteDir e) replies.Device
    removal_broken is moment timely jobs n among =
        broken_serves state only_now disk c failed ready.alive ready.placed job (DeleteDir e) (λ light. light)
        (λ kept. kept) moment jobs n among disk' c' failed' (λ f. directory_removed f owner) result files answer
        (row moment timely jobs n among inside may) (λ s. refl) is

    pub removal_done : result ≡ Ok tt → c'.live ≡ c.live → c'.pending ≡ c.pending
        → ((ppn : ℕ) (x : CurrentDirectory) → IsDirectoryOf c ppn x → (ppn ≡ owner → ⊥) → IsDirectoryOf c' ppn x)
        → ((ppn : ℕ) (name : FileName) → prime_at c' ppn name ≡ prime_at c ppn name)
        → ServesAlways state disk disk' c c' failed' job job (DeleteDir e) Done
    unfolding row
    removal_done is live pending directories primes moment timely jobs n among =
        let fine : IsErrOf result Device → ⊥ = λ error. let wrong = sym is ∙ error in cc in
        let keyed = keeps_keyed c.pending c'.pending jobs n job job among.keyed among.there
        (keeps_core c.pending c'.pending job job.core pending) in
        let reading = keeps_reading c.live c'.live jobs n job job among.reading among.there
        (subst (λ l. KeepsReading c.live l job job) (sym live) (reads_same c.live job)) in
        done_serves state only_now disk c failed ready.alive ready.placed job (DeleteDir e) (λ light. light)
        (λ kept. kept) moment jobs n among disk' c' failed' (λ f. directory_removed f owner) result files answer
        (row moment timely jobs n among inside may) job is keyed
        (placed_removed c c' owner pending directories may.2 ready.placed) reading
        (λ works honest s state_s.
        let was = answer.same.was_honest honest in
        let bare = empty_one d c s.files state_s.under jobs sound.whole (holds moment timely jobs n among was s state_s)
        (creations moment timely jobs n among was s state_s) owner was state_s.files job.ppn may in
        removed_state d (state disk') c c' jobs (jobs_with moment timely jobs n among job) s state_s keyed reading live
        pending primes (files.readers honest fine) (files.writers honest fine) owner bare.0 bare.1 bare.2
        (subst (λ r. OnOk r (RestsAt (state disk') (directory_removed (without_serials s.files) owner))) is
        (files.done honest (without_serials s.files) state_s.files)))
