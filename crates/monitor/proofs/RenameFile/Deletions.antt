-- RENAME that deletes, by what the volume answers: what it promises, whichever jobs there are.
use Rattle.std.proofs.Common.{◌≡◌, ◌⊎◌, ℕ, Bool, true, false, List, [], ◌∷◌, Option, Some, None, Result, Ok, Err}
use Rattle.std.proofs.Common.{refl, sym, ap, subst, ◌∙◌, ⊎_elim, slice_index, slice_set}
use Rattle.std.proofs.Math.Path.{subst₂, subst₃}
use Rattle.std.proofs.lemmas.Bool.{eq-eqb}
use Rattle.std.specs.Prelude.{◌↔◌, if◌then◌else◌, is_none, IsErrOf, OnOk, OnErr}
use Rattle.std.specs.Ordering.{nat_cmp}
use Rattle.std.specs.FinMap.Entries.{find}
use Rattle.words36.specs.declared.moment.Moment.{Moment}
use Rattle.words36.specs.declared.names.FileName.{FileName}
use Rattle.blockdisk.specs.Common.{Contents, DiskState, MayLeave}
use Rattle.spec_image.specs.Common.{pack_of, number_of, Directory, Place, name_cmp, get, SpecVersion, without_serials}
use Rattle.spec_image.specs.Common.{file_in, file_at, without_file, place_of}
use Rattle.spec_image.specs.declared.code.ErrorCode.{ErrorCode}
use Rattle.spec_image.specs.declared.code.ErrorCode.TheVariants.{NoDirectory, NotFound}
use Rattle.spec_image.specs.declared.put.Put.{Put}
use Rattle.spec_machine.specs.Common.{lies_outside, State, slot, place_at, deletes_at, rename_from, move_answer}
use Rattle.spec_machine.specs.Common.{files_moved, protection_at, step}
use Rattle.spec_machine.specs.declared.call.Call.TheVariants.{Rename}
use Rattle.spec_machine.specs.declared.call.Event.TheVariants.{Call as Calls}
use Rattle.spec_machine.specs.declared.call.Reply.{Reply}
use Rattle.spec_image.proofs.Common.{some_none}
use Rattle.volume.specs.Common.{IsDirectoryOf, claims, CurrentDirectory, ChangesFiles, DeviceAnswer, MemoryMap}
use Rattle.volume.specs.Common.{files_removed, RemovesFile, IsSoundMemory, RestsAt}
use Rattle.volume.specs.declared.error.CallError.{CallError}
use Rattle.volume.specs.declared.error.CallError.TheVariants.{Refused, Device, Failed, NoMemory}
use Rattle.volume.specs.declared.live.LiveVersion.{LiveVersion}
use Rattle.volume.proofs.common.Answers.{Holds, rest_holds}
use Rattle.monitor.specs.Common.{change_answer, with_input_closed, CloseAfter, changed_reply, changed_job, Closes}
use Rattle.monitor.specs.Common.{IsKnown, IsAmong, IsServing, with_code, ArePlaced, IsState, IsTimely, UnderKeys}
use Rattle.monitor.specs.Common.{job_of, state_of}
use Rattle.monitor.specs.declared.channel.OpenChannel.{OpenChannel}
use Rattle.monitor.specs.declared.input.Input.{Input}
use Rattle.monitor.specs.declared.job.Job.{Job}
use Rattle.monitor.proofs.common.EventAnswers.{state_is, contrary}
use Rattle.monitor.proofs.EnterFile.Begins.{home_of, listed}
use Rattle.monitor.proofs.RenameFile.ChangeAnswers.{rename_goes_on, changed_there}
use Rattle.monitor.proofs.common.ChangeServes.{told_serves, broken_serves, done_serves}
use Rattle.monitor.proofs.RenameFile.DeletedFiles.{files_left}
use Rattle.monitor.proofs.RenameFile.DeletedStates.{placed_deleted, deleted_keyed, deleted_reading, deleted_state}
use Rattle.monitor.proofs.common.InputsClosed.{input_behind}
use Rattle.monitor.proofs.common.KnownState.{known}
use Rattle.monitor.proofs.LookupFile.Lookups.{placed_still}
use Rattle.monitor.proofs.common.ReadsDeleted.{readers_left}
use Rattle.monitor.proofs.common.Refusals.{same_code}
use Rattle.monitor.proofs.RenameFile.Rows.{row_done}
use Rattle.spec_machine.specs.declared.call.Reply.TheVariants as replies

-- What a volume states of a deletion; `Same` states that disk and memory are as they were.
pub record Deletes (d d' : DiskState) (c b : MemoryMap) (Same : Type 0) (failed failed' : Bool) (ppn : ℕ)
    (name : FileName) (result : Result (Unit {0}) CallError) : Type 0 where
  pub files : ChangesFiles d d' c (λ f. files_removed f ppn name) result
  pub removed : OnOk result ((key : ℕ) × (v : LiveVersion) × (puts : List Put)
      × RemovesFile d.size c b ppn name key v puts)
  pub refused : (IsErrOf result Device → ⊥) → OnErr result Same
  pub given_up : IsErrOf result Failed → failed ≡ true
  pub no_directory : failed ≡ false
      → (IsErrOf result (Refused NoDirectory) ↔ (find nat_cmp ppn c.known.master.entries ≡ None))
  pub not_found : failed ≡ false → (IsErrOf result (Refused NotFound) ↔ ((x : CurrentDirectory) × IsDirectoryOf c ppn x
      × (find name_cmp name x.chain.entries ≡ None)))
  pub codes : (code : ErrorCode) → IsErrOf result (Refused code) → (code ≡ NoDirectory) ⊎ (code ≡ NotFound)
  pub memory : IsErrOf result NoMemory → ⊥
  pub answer : DeviceAnswer d d' failed failed' result

-- A file that is there is not refused.
not_refused : (d : DiskState) (c : MemoryMap) (s : State) → IsSoundMemory d c false
    → Holds d c.known (without_serials s.files) → (ppn : ℕ) (name : FileName) (x : SpecVersion)
    → file_at s.files (place_of ppn name) ≡ Some x
    → (result : Result (Unit {0}) CallError) (code : ErrorCode)
    → (IsErrOf result (Refused NoDirectory) ↔ (find nat_cmp ppn c.known.master.entries ≡ None))
    → (IsErrOf result (Refused NotFound) ↔ ((k : CurrentDirectory) × IsDirectoryOf c ppn k
    × (find name_cmp name k.chain.entries ≡ None)))
    → (code ≡ NoDirectory) ⊎ (code ≡ NotFound) → IsErrOf result (Refused code) → ⊥
not_refused d c s sound holds ppn name x at result code gone absent which is = by (get s.files ppn) refl
  where
    by : (was : Option (Directory SpecVersion)) → get s.files ppn ≡ was → ⊥
    by None there = some_none (sym at ∙ ap (λ o. file_in o name) there)
    by (Some D) there = ⊎_elim
        (λ no. listed d c s.files holds sound.whole.map ppn D there (gone.0 (is ∙ ap (λ e. Err (Refused e)) no)))
        (λ none.
        let found = absent.0 (is ∙ ap (λ e. Err (Refused e)) none) in
        let shown = home_of d c s.files holds sound.whole.map ppn name found.0 found.1 in
        let there_is = sym (ap (λ o. file_in o name) shown.there) ∙ at in
        contrary (ap is_none there_is) (sym shown.absent ∙ ap is_none found.2))
        which

module _ {D : Type 0} (state : D → DiskState) (only_now : (disk : D) (contents : Contents) → (state disk).honest
    → (state disk).left_since (state disk).clock contents → MayLeave (state disk) contents) (disk disk' : D)
    (c b c' : MemoryMap) (failed failed' : Bool) (alive : failed ≡ false) (job : Job) (number e : ℕ)
    (channel : OpenChannel) (input : Input) (is_open : slot job.channels number ≡ Some channel)
    (side : channel.input ≡ Some input) (free : channel.output ≡ None) (inside : lies_outside job.core e 4 ≡ false)
    (zero : slice_index job.core e ≡ 0) (sound : IsSoundMemory (state disk) c false) (placed : ArePlaced c)
    (unclaimed : claims c.pending (place_of input.ppn input.file) ≡ false)
    (may : (state disk).honest → (s : State) → IsKnown (state disk) c s → (w : UnderKeys)
    → change_answer s (job_of w job) e (place_of input.ppn input.file) ≡ replies.Done)
    (result : Result (Unit {0}) CallError)
    (is : Deletes (state disk) (state disk') c b ((disk' ≡ disk) × (b ≡ c)) failed failed' input.ppn input.file result)
    (moment : Moment) (timely : IsTimely (state disk) moment) (jobs : List (Option Job)) (n : ℕ)
    (among : IsAmong c jobs n job) where
  abbrev d : DiskState
  d = state disk

  abbrev d' : DiskState
  d' = state disk'

  abbrev place : Place
  place = place_of input.ppn input.file

  abbrev closed : Job
  closed = with_input_closed job number channel

  abbrev jobs' : List (Option Job)
  jobs' = slice_set jobs n (Some closed)

  -- The machine, in a state that the monitor stands for.
  module _ (honest : d.honest) (s : State) (state_s : IsState d c jobs s) where
    abbrev w : UnderKeys
    w = state_s.under

    abbrev before : State
    before = state_of s.files w jobs

    before_is : s ≡ before
    before_is = state_is s w jobs state_s.jobs_are

    allowed : change_answer before (job_of w job) e place ≡ replies.Done
    allowed = subst (λ t. change_answer t (job_of w job) e place ≡ replies.Done) before_is
        (may honest s (known d c jobs s state_s sound honest) w)

    there : (x : SpecVersion) × (file_at s.files place ≡ Some x)
    there = changed_there before (job_of w job) e place allowed

    deletes : deletes_at (job_of w job) e ≡ true
    deletes = eq-eqb (slice_index job.core e) 0 zero

    answer : rename_from (pack_of d) before (job_of w job) e place ≡ replies.Done
    answer = rename_goes_on before (job_of w job) e place (pack_of d) allowed
        ∙ ap (λ b. if b then replies.Done else move_answer (pack_of d) before (job_of w job) place
        (place_at (job_of w job) e)) deletes

    row : (after : State) × ((serial : ℕ) → step (pack_of d) serial s (Calls n (Rename number e) moment)
        ≡ (replies.Done, after))
        × (without_serials after.files ≡ files_removed (without_serials s.files) input.ppn input.file)
    row = (
      state_of (without_file s.files place) w jobs',
      λ serial. subst (λ t. step (pack_of d) serial t (Calls n (Rename number e) moment)
          ≡ (replies.Done, state_of (without_file s.files place) w jobs')) (sym before_is)
          (row_done d s.files w jobs n job among.there number e moment (timely honest) channel is_open input side free
          inside answer serial
          ∙ ap (λ b. (
            replies.Done,
            state_of (if b then without_file s.files place else files_moved s.files place
                (place_at (job_of w job) e) (protection_at (job_of w job) e) (file_at s.files place)) w jobs',
          )) deletes),
      files_left s.files place,
    )

    never_refused : (code : ErrorCode) → IsErrOf result (Refused code) → ⊥
    never_refused code refused = not_refused d c s sound
        (rest_holds d c false sound honest refl (without_serials s.files) state_s.files)
        input.ppn input.file there.0 there.1 result code (is.no_directory alive) (is.not_found alive)
        (is.codes code refused) refused

  abbrev ServesAfter : Result (Unit {0}) CallError → Type 0
  ServesAfter r = IsServing state disk disk' c c' failed' jobs
      (slice_set jobs n (Some (changed_job r job number e channel))) n (Rename number e) moment (changed_reply r)

  -- It is done, and the channel's input side is closed after it.
  done : result ≡ Ok tt → Closes b c' [] (input.pin.key ∷ []) → c'.pending ≡ b.pending → ServesAfter (Ok tt)
  unfolding row
  done ok closes pending =
      let removed = subst (λ r. OnOk r ((key : ℕ) × (v : LiveVersion) × (puts : List Put)
      × RemovesFile d.size c b input.ppn input.file key v puts)) ok is.removed in
      let key = removed.0 in
      let v = removed.1 in
      let puts = removed.2 in
      let removes : RemovesFile d.size c b input.ppn input.file key v puts = removed.3 in
      let fine : IsErrOf result Device → ⊥ = λ error. let wrong = sym ok ∙ error in cc in
      let behind = input_behind job number channel is_open input side c b c' removes.pending
      (readers_left c.live b.live key v removes.there removes.ended removes.others) closes pending in
      done_serves state only_now disk c failed alive placed job (Rename number e) (λ light. light) (λ kept. kept)
      moment jobs n among disk' c' failed' (λ f. files_removed f input.ppn input.file) result is.files is.answer row
      closed ok
      (deleted_keyed d d' c b c' jobs n job closed among.there input.ppn input.file key v puts removes behind
      among.keyed)
      (placed_still b c' pending closes.leaves.known
      (placed_deleted d.size c b input.ppn input.file key v puts removes unclaimed placed))
      (deleted_reading d d' c b c' jobs n job closed among.there input.ppn input.file key v puts removes behind
      among.reading)
      (λ works honest s state_s.
      let x = there (is.answer.same.was_honest honest) s state_s in
      deleted_state d d' c b c' jobs n job closed among.there input.ppn input.file key v puts removes behind s
      state_s sound.whole x.0 x.1 unclaimed
      (subst (λ r. OnOk r (RestsAt d' (files_removed (without_serials s.files) input.ppn input.file))) ok
      (is.files.done honest (without_serials s.files) state_s.files))
      (is.files.readers honest fine) (is.files.writers honest fine) closes.leaves)

  -- It is refused, which happens to no file that is there: so this is no honest disk.
  refused : (code : ErrorCode) → IsErrOf result (Refused code) → c' ≡ b → ServesAfter (Err (Refused code))
  refused code error same =
      let fine : IsErrOf result Device → ⊥ = λ broke. let wrong = sym error ∙ broke in cc in
      let whole : IsErrOf result Failed → ⊥ = λ broke. let wrong = sym error ∙ broke in cc in
      let still = subst (λ r. OnErr r ((disk' ≡ disk) × (b ≡ c))) error (is.refused fine) in
      let job' = with_code job e (number_of code) in
      subst₃ (λ x y z. IsServing state disk x c y z jobs (slice_set jobs n (Some job')) n (Rename number e) moment
      (replies.Refused (number_of code))) (sym still.0) (sym (same ∙ still.1)) (sym (is.answer.still fine whole))
      (told_serves state only_now disk c failed alive placed job (Rename number e) (λ light. light) (λ kept. kept)
      moment jobs n among job'.core (replies.Refused (number_of code)) (λ x. cc x, λ x. cc x, λ x. cc x)
      (λ k at. ap (with_code job e) (same_code at)) (λ is. absurd is)
      (λ honest s state_s. absurd (never_refused honest s state_s code error)))

  -- The device failed.
  broken : IsErrOf result Device → ServesAfter (Err Device)
  broken error =
      broken_serves state only_now disk c failed alive placed job (Rename number e) (λ light. light) (λ kept. kept)
      moment jobs n among disk' c' failed' (λ f. files_removed f input.ppn input.file) result is.files is.answer row
      (λ s. refl) error

  by_result : (r : Result (Unit {0}) CallError) → result ≡ r → CloseAfter r b c' input → ServesAfter r
  by_result (Ok x) at after = done at after.0 after.1
  by_result (Err (Refused code)) at after = refused code at after
  by_result (Err NoMemory) at after = absurd (is.memory at)
  by_result (Err Device) at after = broken at
  by_result (Err Failed) at after = absurd (contrary alive (is.given_up at))

  -- The call's answer, and what it leaves of the job; after the deletion disk and volume are left alone.
  pub deleting_serves : (disk'' : D) (failed'' : Bool) (job' : Job) (reply : Reply)
      → (disk'' ≡ disk') × (failed'' ≡ failed') → CloseAfter result b c' input → reply ≡ changed_reply result
      → job' ≡ changed_job result job number e channel
      → IsServing state disk disk'' c c' failed'' jobs (slice_set jobs n (Some job')) n (Rename number e) moment reply
  deleting_serves disk'' failed'' job' reply same after answer_is job_is =
      subst₂ (λ x y. IsServing state disk x c c' y jobs (slice_set jobs n (Some job')) n (Rename number e) moment
      reply) (sym same.0) (sym same.1)
      (subst₂ (λ x y. IsServing state disk disk' c c' failed' jobs (slice_set jobs n (Some x)) n (Rename number e)
      moment y) (sym job_is) (sym answer_is) (by_result result refl after))
