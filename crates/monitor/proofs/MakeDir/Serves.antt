-- MakeDir: what it promises, by what it finds and by what the volume answers.
use Rattle.std.proofs.Common.{◌≡◌, ◌⊎◌, ℕ, Bool, false, List, Option, Some, Result, Ok, Err, refl, sym, ap, subst}
use Rattle.std.proofs.Common.{◌∙◌, ⊎_elim, slice_set, IsErrOf, OnOk}
use Rattle.words36.specs.declared.moment.Moment.{Moment}
use Rattle.words36.specs.declared.names.FileName.{FileName}
use Rattle.blockdisk.specs.Common.{Contents, DiskState, MayLeave}
use Rattle.spec_machine.specs.Common.{State, refused_at, is_plain, step}
use Rattle.spec_image.specs.Common.{pack_of, without_serials}
use Rattle.spec_machine.specs.declared.call.Call.TheVariants.{MakeDir}
use Rattle.spec_machine.specs.declared.call.Event.TheVariants.{Call as Calls}
use Rattle.spec_machine.specs.declared.call.Reply.{Reply}
use Rattle.spec_machine.specs.declared.call.Reply.TheVariants.{AddressCheck, Done, Refused}
use Rattle.volume.specs.Common.{IsDirectoryOf, ChangesFiles, DeviceAnswer, CurrentDirectory, MemoryMap, files_made}
use Rattle.volume.specs.Common.{prime_at, IsSoundMemory, RestsAt}
use Rattle.volume.specs.declared.error.CallError.{CallError}
use Rattle.volume.specs.declared.error.CallError.TheVariants.{Device}
use Rattle.monitor.specs.Common.{asked_owner, directory_protection_asked, early_answer, IsAbsent, IsCrowded}
use Rattle.monitor.specs.Common.{IsRefusedBy, IsAmong, IsCallReady, IsServing, ServesAlways, with_code, KeepsReading}
use Rattle.monitor.specs.Common.{IsState, IsTimely, job_of, state_of}
use Rattle.monitor.specs.declared.job.Job.{Job}
use Rattle.monitor.proofs.common.CallRows.{reads_same}
use Rattle.monitor.proofs.common.ChangeServes.{told_serves, memory_serves, broken_serves, done_serves}
use Rattle.monitor.proofs.common.Dropped.{keeps_keyed}
use Rattle.monitor.proofs.common.Changes.{keeps_core}
use Rattle.monitor.proofs.MakeDir.States.{before, before_is, held, books, files', shown, row_done, row_early}
use Rattle.monitor.proofs.MakeDir.States.{row_refused, row_undecided, made_state}
use Rattle.monitor.proofs.common.PlacedVersions.{placed_made}
use Rattle.monitor.proofs.common.JobReaders.{keeps_reading}
use Rattle.monitor.proofs.common.Refusals.{same_code}
use Rattle.monitor.proofs.RenameFile.NoMemory.{rename_serves}
use Rattle.spec_machine.specs.declared.call.Reply.TheVariants as replies

module _ {D : Type 0} (state : D → DiskState) (only_now : (disk : D) (contents : Contents) → (state disk).honest
    → (state disk).left_since (state disk).clock contents → MayLeave (state disk) contents) (disk : D)
    (c : MemoryMap) (failed : Bool) (job : Job) (ready : IsCallReady (state disk) c failed job) (e : ℕ) where
  abbrev d : DiskState
  d = state disk

  abbrev owner : ℕ
  owner = asked_owner job.core e

  abbrev protection : ℕ
  protection = directory_protection_asked job.core e

  abbrev early : Reply
  early = early_answer job.ppn job.core e

  sound : IsSoundMemory d c false
  sound = subst (IsSoundMemory d c) ready.alive ready.sound

  -- It is refused with this code, by the words at the address or for what there is.
  abbrev pub IsDenied : ℕ → Type 0
  IsDenied code = (early ≡ Refused code) ⊎ ((early ≡ Done) × IsRefusedBy d.size c owner code)

  module _ (moment : Moment) (timely : IsTimely d moment) (jobs : List (Option Job)) (n : ℕ)
      (among : IsAmong c jobs n job) where
    abbrev jobs_with : Job → List (Option Job)
    jobs_with x = slice_set jobs n (Some x)

    -- The machine's answer and state, by those of a state with the same parts.
    module _ (honest : d.honest) (s : State) (is : IsState d c jobs s) where
      from_before : (P : State → Type 0) → P (before d c jobs job e sound honest s is) → P s
      from_before P holds = subst P (sym (before_is d c jobs job e sound honest s is)) holds

      steps_early : (reply : Reply) (job' : Job) → early ≡ reply → (reply ≡ Done → ⊥)
          → refused_at (job_of is.under job) e reply ≡ job_of is.under job' → (serial : ℕ)
          → step (pack_of d) serial s (Calls n (MakeDir e) moment)
          ≡ (reply, state_of s.files is.under (jobs_with job'))
      steps_early reply job' why other left serial =
          from_before (λ y. step (pack_of d) serial y (Calls n (MakeDir e) moment)
          ≡ (reply, state_of s.files is.under (jobs_with job')))
          (row_early d c s.files is.under jobs sound.whole (held d c jobs job e sound honest s is)
          (books d c jobs job e sound honest s is) n job among.there e moment (timely honest) reply job' why other left
          serial)

      steps_late : (code : ℕ) → early ≡ Done → IsRefusedBy d.size c owner code → (serial : ℕ)
          → step (pack_of d) serial s (Calls n (MakeDir e) moment)
          ≡ (Refused code, state_of s.files is.under (jobs_with (with_code job e code)))
      steps_late code fine why serial =
          from_before (λ y. step (pack_of d) serial y (Calls n (MakeDir e) moment)
          ≡ (Refused code, state_of s.files is.under (jobs_with (with_code job e code))))
          (row_refused d c s.files is.under jobs sound.whole (held d c jobs job e sound honest s is)
          (books d c jobs job e sound honest s is) n job among.there e moment (timely honest) code fine why serial)

    checked : early ≡ AddressCheck
        → IsServing state disk disk c c failed jobs (jobs_with job) n (MakeDir e) moment AddressCheck
    checked outside =
        told_serves state only_now disk c failed ready.alive ready.placed job (MakeDir e) (λ light. light)
        (λ kept. kept) moment jobs n among job.core AddressCheck (λ x. cc x, λ x. cc x, λ x. cc x) (λ code is. cc is)
        (λ is. refl) (λ honest s is. steps_early honest s is AddressCheck job outside (λ x. cc x) refl)

    denied : (code : ℕ) → IsDenied code
        → IsServing state disk disk c c failed jobs (jobs_with (with_code job e code)) n (MakeDir e) moment
        (Refused code)
    denied code why =
        told_serves state only_now disk c failed ready.alive ready.placed job (MakeDir e) (λ light. light)
        (λ kept. kept) moment jobs n among (with_code job e code).core (Refused code)
        (λ x. cc x, λ x. cc x, λ x. cc x) (λ k is. ap (with_code job e) (same_code is)) (λ is. absurd is)
        (λ honest s is. ⊎_elim
        (λ (first : early ≡ Refused code).
        steps_early honest s is (Refused code) (with_code job e code) first (λ x. cc x) refl)
        (λ (late : (early ≡ Done) × IsRefusedBy d.size c owner code). steps_late honest s is code late.0 late.1)
        why)

    -- the machine's answer isn't one that is found before memory and the disk are needed
    undecided : early ≡ Done → d.honest → (s : State) → IsState d c jobs s
        → is_plain ((step (pack_of d) 0 s (Calls n (MakeDir e) moment)).0) ≡ false
    undecided fine honest s is =
        from_before honest s is (λ y. is_plain ((step (pack_of d) 0 y (Calls n (MakeDir e) moment)).0) ≡ false)
        (row_undecided d c s.files is.under jobs sound.whole (held d c jobs job e sound honest s is)
        (books d c jobs job e sound honest s is) n job among.there e moment (timely honest) fine)

    lacking : early ≡ Done
        → IsServing state disk disk c c failed jobs (jobs_with job) n (MakeDir e) moment replies.NoMemory
    lacking fine =
        memory_serves state only_now disk c failed ready.alive ready.placed job (MakeDir e) (λ light. light)
        (λ kept. kept) moment jobs n among (λ s. refl) (undecided fine)

    row : early ≡ Done → IsAbsent c owner → (IsCrowded d.size c → ⊥) → d.honest → (s : State)
        (is : IsState d c jobs s) → (after : State)
        × ((serial : ℕ) → step (pack_of d) serial s (Calls n (MakeDir e) moment) ≡ (Done, after))
        × (without_serials after.files ≡ files_made (without_serials s.files) owner protection)
    row fine absent fits honest s is = (
      state_of (files' d c jobs job e sound honest s is) is.under (jobs_with job),
      λ serial. from_before honest s is (λ y. step (pack_of d) serial y (Calls n (MakeDir e) moment)
          ≡ (Done, state_of (files' d c jobs job e sound honest s is) is.under (jobs_with job)))
          (row_done d c s.files is.under jobs sound.whole (held d c jobs job e sound honest s is)
          (books d c jobs job e sound honest s is) n job among.there e moment (timely honest) fine absent fits serial),
      shown d c jobs job e sound honest s is,
    )

  -- The two words aren't both in core.
  pub checked_serves : early ≡ AddressCheck → ServesAlways state disk disk c c failed job job (MakeDir e) AddressCheck
  checked_serves outside moment timely jobs n among = checked moment timely jobs n among outside

  -- It is refused, with disk and volume as they were.
  pub denied_serves : (code : ℕ) → IsDenied code → (disk' : D) (c' : MemoryMap) (failed' : Bool)
      → (disk' ≡ disk) × (c' ≡ c) × (failed' ≡ failed) → (job' : Job) (reply : Reply) → job' ≡ with_code job e code
      → reply ≡ Refused code → ServesAlways state disk disk' c c' failed' job job' (MakeDir e) reply
  denied_serves code why disk' c' failed' same job' reply job_is answer_is =
      rename_serves state disk disk disk' c c c' failed failed' job job' (with_code job e code) (MakeDir e) reply
      (Refused code) (sym same.0) (sym same.1) (sym same.2) (sym job_is) (sym answer_is)
      (λ moment timely jobs n among. denied moment timely jobs n among code why)

  -- There is no memory for it, and disk and volume are as they were.
  pub lacking_serves : early ≡ Done → (disk' : D) (c' : MemoryMap) (failed' : Bool)
      → (disk' ≡ disk) × (c' ≡ c) × (failed' ≡ failed)
      → ServesAlways state disk disk' c c' failed' job job (MakeDir e) replies.NoMemory
  lacking_serves fine disk' c' failed' same =
      rename_serves state disk disk disk' c c c' failed failed' job job job (MakeDir e) replies.NoMemory
      replies.NoMemory (sym same.0) (sym same.1) (sym same.2) refl refl
      (λ moment timely jobs n among. lacking moment timely jobs n among fine)

  -- The volume made it, or failed meanwhile.
  module _ (fine : early ≡ Done) (absent : IsAbsent c owner) (fits : IsCrowded d.size c → ⊥) (disk' : D)
      (c' : MemoryMap) (failed' : Bool) (result : Result (Unit {0}) CallError)
      (files : ChangesFiles d (state disk') c (λ f. files_made f owner protection) result)
      (answer : DeviceAnswer d (state disk') failed failed' result) where
    pub make_broken : result ≡ Err Device
        → ServesAlways state disk disk' c c' failed' job job (MakeDir e) replies.Device
    make_broken is moment timely jobs n among =
        broken_serves state only_now disk c failed ready.alive ready.placed job (MakeDir e) (λ light. light)
        (λ kept. kept) moment jobs n among disk' c' failed' (λ f. files_made f owner protection) result files answer
        (row moment timely jobs n among fine absent fits) (λ s. refl) is

    pub make_done : result ≡ Ok tt → c'.live ≡ c.live → c'.pending ≡ c.pending
        → ((owner : ℕ) (x : CurrentDirectory) → IsDirectoryOf c owner x → IsDirectoryOf c' owner x)
        → ((ppn : ℕ) (name : FileName) (m : ℕ) → prime_at c ppn name ≡ Some m → prime_at c' ppn name ≡ Some m)
        → ServesAlways state disk disk' c c' failed' job job (MakeDir e) Done
    unfolding row
    make_done is live pending directories primes moment timely jobs n among =
        let whole : IsErrOf result Device → ⊥ = λ error. let wrong = sym is ∙ error in cc in
        let keyed = keeps_keyed c.pending c'.pending jobs n job job among.keyed among.there
        (keeps_core c.pending c'.pending job job.core pending) in
        let reading = keeps_reading c.live c'.live jobs n job job among.reading among.there
        (subst (λ l. KeepsReading c.live l job job) (sym live) (reads_same c.live job)) in
        done_serves state only_now disk c failed ready.alive ready.placed job (MakeDir e) (λ light. light)
        (λ kept. kept) moment jobs n among disk' c' failed' (λ f. files_made f owner protection) result files answer
        (row moment timely jobs n among fine absent fits) job is keyed
        (placed_made c c' pending directories ready.placed) reading
        (λ works honest s state_s.
        made_state d c jobs job e sound (answer.same.was_honest honest) s state_s (state disk') c'
        (jobs_with moment timely jobs n among job) keyed reading live pending primes (files.readers honest whole)
        (files.writers honest whole)
        (subst (λ r. OnOk r (RestsAt (state disk') (files_made (without_serials s.files) owner protection))) is
        (files.done honest (without_serials s.files) state_s.files)) absent)
