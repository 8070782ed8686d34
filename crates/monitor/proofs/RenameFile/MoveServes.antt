-- RENAME that moves a file, by what the volume answers: what it promises, among whichever jobs.
use Rattle.std.proofs.Common.{◌≡◌, ◌≢◌, ◌<◌, ◌+◌, ◌/◌, ◌^◌, ℕ, Bool, true, false, if◌then◌else◌, List, [], ◌∷◌}
use Rattle.std.proofs.Common.{Option, Some, None, Result, Ok, Err, refl, sym, ap, subst, ◌∙◌, inr, ⊎_elim, slice_set}
use Rattle.std.proofs.Common.{slice_index, arith}
use Rattle.std.specs.Prelude.{◌==◌, IsErrOf, OnOk}
use Rattle.std.proofs.lemmas.Bool.{cases_eq, ne_eqb}
use Rattle.words36.specs.declared.moment.Moment.{Moment}
use Rattle.words36.specs.declared.names.FileName.{FileName}
use Rattle.blockdisk.specs.Common.{Contents, DiskState, MayLeave}
use Rattle.spec_image.specs.Common.{number_of, Files, Directory, Place, pack_of, get, SpecVersion, without_serials}
use Rattle.spec_image.specs.Common.{without_file, file_at, place_of}
use Rattle.spec_machine.specs.Common.{lies_outside, State, slot, place_at, files_from, files_moved, protection_at}
use Rattle.spec_machine.specs.Common.{step}
use Rattle.spec_image.specs.declared.put.Put.{Put}
use Rattle.spec_image.specs.declared.code.ErrorCode.{ErrorCode}
use Rattle.spec_image.specs.declared.code.ErrorCode.TheVariants.{NoRoom}
use Rattle.spec_machine.specs.declared.call.Call.TheVariants.{Rename}
use Rattle.spec_machine.specs.declared.call.Event.TheVariants.{Call as Calls}
use Rattle.spec_machine.proofs.Common.{slot-set_other}
use Rattle.retrieval.specs.declared.prime.Prime.{Prime}
use Rattle.volume.specs.Common.{claims, ChangesFiles, DeviceAnswer, MemoryMap, slot as version_at, MovesWithin}
use Rattle.volume.specs.Common.{MovesAcross, IsSoundMemory}
use Rattle.volume.specs.declared.error.CallError.{CallError}
use Rattle.volume.specs.declared.error.CallError.TheVariants.{Refused, Device, Failed, NoMemory}
use Rattle.volume.specs.declared.live.LiveVersion.{LiveVersion}
use Rattle.monitor.specs.Common.{arrival_answer, change_answer, with_input_closed, CloseAfter, changed_reply}
use Rattle.monitor.specs.Common.{changed_job, Closes, IsKnown, IsAmong, IsServing, ServesAlways, readers_of}
use Rattle.monitor.specs.Common.{with_code, ArePlaced, IsState, IsTimely, UnderKeys, job_of, state_of}
use Rattle.monitor.specs.declared.channel.OpenChannel.{OpenChannel}
use Rattle.monitor.specs.declared.input.Input.{Input}
use Rattle.monitor.specs.declared.job.Job.{Job}
use Rattle.monitor.proofs.common.EventAnswers.{state_is, contrary}
use Rattle.monitor.proofs.common.InputsClosed.{input_behind}
use Rattle.monitor.proofs.common.KnownState.{known}
use Rattle.monitor.proofs.RenameFile.MovedCore.{MovesFile, moves_within, moves_across}
use Rattle.monitor.proofs.common.Limits.{AllowsMove}
use Rattle.monitor.proofs.RenameFile.MovedFiles.{shown_moved}
use Rattle.monitor.proofs.RenameFile.MovedStates.{readers_moved, moved_keyed, moved_reading, moved_placed}
use Rattle.monitor.proofs.RenameFile.MovedStates.{moved_state}
use Rattle.monitor.proofs.RenameFile.MoveReplies.{IsMoveAnswer, moves_from, moves_home, moves_free, moves_done}
use Rattle.monitor.proofs.RenameFile.MoveReplies.{moves_refused}
use Rattle.monitor.proofs.common.ReadsMoved.{protected_jobs, with_protected}
use Rattle.monitor.proofs.RenameFile.Refusals.{refusing_serves}
use Rattle.monitor.proofs.RenameFile.Rows.{row_done}
use Rattle.monitor.proofs.RenameFile.NoMemory.{wanting_serves, rename_serves}
use Rattle.spec_machine.specs.declared.call.Reply.TheVariants as replies
use Rattle.volume.specs.RenameFile as volume
use Rattle.monitor.proofs.common.ChangeServes as serving

-- What a volume that serves states of a move; `Same` states that disk and memory are as they were.
pub record Moves (d d' : DiskState) (c b : MemoryMap) (Same : Type 0) (failed' : Bool) (ppn : ℕ) (name : FileName)
    (to_ppn : ℕ) (to : FileName) (protection : ℕ) (result : Result (Unit {0}) CallError) : Type 0 where
  pub files : ChangesFiles d d' c (λ f. volume.files_moved f ppn name to_ppn to protection) result
  pub within : to_ppn ≡ ppn → OnOk result ((key : ℕ) × (v : LiveVersion) × (words : List ℕ) × (puts : List Put)
      × MovesWithin d.size c b ppn name to protection key v words puts × (d'.honest → d.contents v.at ≡ Some words))
  pub across : (to_ppn ≡ ppn → ⊥) → OnOk result ((key : ℕ) × (v : LiveVersion) × (words : List ℕ) × (puts : List Put)
      × MovesAcross d.size c b ppn name to_ppn to protection key v words puts
      × (d'.honest → d.contents v.at ≡ Some words))
  pub answers : IsMoveAnswer d.size c ppn name to_ppn to result
  pub refused : (code : ErrorCode) → IsErrOf result (Refused code) → Same
  pub memory : IsErrOf result NoMemory → Same
  pub given_up : IsErrOf result Failed → d'.honest → ⊥
  pub answer : DeviceAnswer d d' false failed' result

-- A version that is read stays so over a move.
pub read_on : (live live' : List (Option LiveVersion)) (key : ℕ) → ((v : LiveVersion) → version_at live key ≡ Some v
    → 0 < v.readers → (prime : Prime) × (version_at live' key ≡ Some (record v { prime = prime })))
    → 0 < readers_of (version_at live key) → (answer : Result (Unit {0}) CallError)
    → OnOk answer (0 < readers_of (version_at live' key))
read_on live live' key stays held (Err error) = tt
read_on live live' key stays held (Ok x) = by (version_at live key) refl held
  where
    by : (was : Option LiveVersion) → version_at live key ≡ was → 0 < readers_of was
        → 0 < readers_of (version_at live' key)
    by None at none = absurd (omega (arith, none))
    by (Some v) at some = let there = stays v at some in subst (λ o. 0 < readers_of o) (sym there.1) some

-- A move that was made, within a directory or to another one.
pub moves_file : (d d' : DiskState) (c b : MemoryMap) (Same : Type 0) (failed' : Bool) (ppn : ℕ) (name : FileName)
    (to_ppn : ℕ) (to : FileName) (protection : ℕ) (x : Unit {0})
    → Moves d d' c b Same failed' ppn name to_ppn to protection (Ok x) → MovesFile c b ppn name to_ppn to protection
moves_file d d' c b Same failed' ppn name to_ppn to protection x is = ⊎_elim
    (λ (here : to_ppn ≡ ppn).
    let (key, v, words, puts, moved, at) = is.within here in
    subst (λ q. MovesFile c b ppn name q to protection) (sym here)
    (moves_within d.size c b ppn name to protection key v words puts moved))
    (λ apart.
    let (key, v, words, puts, moved, at) = is.across apart in
    moves_across d.size c b ppn name to_ppn to protection key v words puts moved)
    (cases_eq to_ppn ppn)

module _ {D : Type 0} (state : D → DiskState) (only_now : (disk : D) (contents : Contents) → (state disk).honest
    → (state disk).left_since (state disk).clock contents → MayLeave (state disk) contents) (disk disk' : D)
    (map b : MemoryMap) (failed' : Bool) (job : Job) (number e : ℕ) (channel : OpenChannel)
    (is_open : slot job.channels number ≡ Some channel) (input : Input) (side : channel.input ≡ Some input)
    (free : channel.output ≡ None) (inside : lies_outside job.core e 4 ≡ false) (named : slice_index job.core e ≡ 0 → ⊥)
    (sound : IsSoundMemory (state disk) map false) (placed : ArePlaced map) (to_ppn : ℕ) (to : FileName)
    (protection : ℕ)
    (place : (w : UnderKeys) → place_of to_ppn to ≡ place_at (job_of w job) e)
    (protects : protection ≡ slice_index job.core (e + 2) / 2 ^ 27)
    (unclaimed : claims map.pending (place_of input.ppn input.file) ≡ false)
    (vacant : place_of to_ppn to ≢ place_of input.ppn input.file → claims map.pending (place_of to_ppn to) ≡ false)
    (changes : (state disk).honest → (s : State) → IsKnown (state disk) map s → (w : UnderKeys)
    → change_answer s (job_of w job) e (place_of input.ppn input.file) ≡ replies.Done)
    (comes : (state disk).honest → (s : State) → IsKnown (state disk) map s → (w : UnderKeys)
    → arrival_answer s (job_of w job) (place_of input.ppn input.file) (place_of to_ppn to) ≡ replies.Done)
    (allows : Bool) (so : allows ≡ true) (quota : AllowsMove map input.ppn input.file to_ppn allows) where
  abbrev d : DiskState
  d = state disk

  abbrev d' : DiskState
  d' = state disk'

  abbrev old : Place
  old = place_of input.ppn input.file

  abbrev new : Place
  new = place_of to_ppn to

  abbrev Same : Type 0
  Same = (disk' ≡ disk) × (b ≡ map)

  abbrev Says : Result (Unit {0}) CallError → Type 0
  Says answer = Moves d d' map b Same failed' input.ppn input.file to_ppn to protection answer

  moves : (slice_index job.core e == 0) ≡ false
  moves = ne_eqb (slice_index job.core e) 0 named

  module _ (moment : Moment) (timely : IsTimely d moment) (jobs : List (Option Job)) (n : ℕ)
      (among : IsAmong map jobs n job) where
    abbrev moved_jobs : List (Option Job)
    moved_jobs = slice_set jobs n (Some (with_input_closed job number channel))

    -- The machine's row.
    module _ (honest : d.honest) (s : State) (is : IsState d map jobs s) where
      abbrev w : UnderKeys
      w = is.under

      abbrev t : State
      t = state_of s.files w jobs

      before : s ≡ t
      before = state_is s w jobs is.jobs_are

      here : IsKnown d map t
      here = subst (IsKnown d map) before (known d map jobs s is sound honest)

      from : (x : SpecVersion) × (file_at s.files old ≡ Some x)
      from = moves_from d map t here sound honest (job_of w job) e input.ppn input.file to_ppn to (place w) moves
          (changes honest t here w) (comes honest t here w)

      home : (D : Directory SpecVersion) × (get s.files to_ppn ≡ Some D)
      home = moves_home d map t here sound honest (job_of w job) e input.ppn input.file to_ppn to (place w) moves
          (changes honest t here w) (comes honest t here w)

      absent : new ≢ old → file_at s.files new ≡ None
      absent = moves_free d map t here sound honest (job_of w job) e input.ppn input.file to_ppn to (place w) moves
          (changes honest t here w) (comes honest t here w)

      abbrev files' : Files SpecVersion
      files' = files_moved s.files old new protection (Some from.0)

      files_are : files_from s.files (job_of w job) e old ≡ files'
      files_are =
          ap (λ b. if b then without_file s.files old else files_moved s.files old (place_at (job_of w job) e)
          (protection_at (job_of w job) e) (file_at s.files old)) moves
          ∙ (λ i. files_moved s.files old (sym (place w) i) (sym protects i) (from.1 i))

      -- what it answers and leaves, whichever key the version has that now has another protection
      row : (answer : Result (Unit {0}) CallError) → Says answer → (answer ≡ Err (Refused NoRoom) → ⊥) → (key : ℕ)
          → (after : State)
          × ((serial : ℕ) → step (pack_of d) serial s (Calls n (Rename number e) moment) ≡ (replies.Done, after))
          × (without_serials after.files
          ≡ volume.files_moved (without_serials s.files) input.ppn input.file to_ppn to protection)
      row answer says fits key = (
        state_of files' (with_protected w key protection) moved_jobs,
        λ serial. subst (λ y. step (pack_of d) serial y (Calls n (Rename number e) moment)
            ≡ (replies.Done, state_of files' (with_protected w key protection) moved_jobs)) (sym before)
            (row_done d s.files w jobs n job among.there number e moment (timely honest) channel is_open input side
            free inside
            (moves_done d map t here sound honest (job_of w job) e input.ppn input.file to_ppn to (place w) moves
            (changes honest t here w) (comes honest t here w) answer says.answers fits allows so quota) serial
            ∙ (λ i. (
              replies.Done,
              record { files = files_are i; jobs = sym (protected_jobs w key protection moved_jobs) i },
            ))),
        shown_moved s.files old new protection from.0 from.1,
      )

    -- It is done.
    pub done_serves : (map' : MemoryMap) (x : Unit {0}) → Says (Ok x) → Closes b map' [] (input.pin.key ∷ [])
        → map'.pending ≡ b.pending
        → IsServing state disk disk' map map' failed' jobs moved_jobs n (Rename number e) moment replies.Done
    unfolding row
    done_serves map' x says closed pending =
        let job' = with_input_closed job number channel in
        let made = moves_file d d' map b Same failed' input.ppn input.file to_ppn to protection x says in
        let behind = input_behind job number channel is_open input side map b map' made.pending
        (readers_moved map b input.ppn input.file to_ppn to protection made) closed pending in
        serving.done_serves state only_now disk map false refl placed job (Rename number e) (λ light. light)
        (λ kept. kept) moment jobs n among disk' map' failed'
        (λ f. volume.files_moved f input.ppn input.file to_ppn to protection) (Ok x) says.files says.answer
        (λ honest s is. row honest s is (Ok x) says (λ e. cc e) made.key) job' refl
        (moved_keyed map b map' jobs n job job' among.there input.ppn input.file to_ppn to protection made behind
        among.keyed)
        (moved_placed map b map' jobs n job job' among.there input.ppn input.file to_ppn to protection made behind
        unclaimed vacant placed)
        (moved_reading map b map' jobs n job job' among.there input.ppn input.file to_ppn to protection made behind
        among.reading)
        (λ works honest' s is.
        let honest = says.answer.same.was_honest honest' in
        let moved_from = from honest s is in
        let moved_home = home honest s is in
        moved_state map b map' jobs n job job' among.there input.ppn input.file to_ppn to protection made behind
        unclaimed vacant d d' s is sound.whole moved_from.0 moved_from.1 moved_home.0 moved_home.1
        (absent honest s is)
        (says.files.done honest' (without_serials s.files) is.files) (says.files.readers honest' (λ e. cc e))
        (says.files.writers honest' (λ e. cc e)) closed.leaves)

    -- The device failed.
    pub device_serves : Says (Err Device)
        → IsServing state disk disk' map b failed' jobs (slice_set jobs n (Some job)) n (Rename number e) moment
        replies.Device
    device_serves says =
        serving.broken_serves state only_now disk map false refl placed job (Rename number e) (λ light. light)
        (λ kept. kept) moment jobs n among disk' b failed'
        (λ f. volume.files_moved f input.ppn input.file to_ppn to protection) (Err Device) says.files says.answer
        (λ honest s is. row honest s is (Err Device) says (λ e. cc e) 0) (λ s. refl) refl

    -- Its prime block was damaged, which no honest disk shows.
    pub failed_serves : Says (Err Failed)
        → IsServing state disk disk' map b failed' jobs (slice_set jobs n (Some job)) n (Rename number e) moment
        replies.Failed
    failed_serves says =
        let is = says.answer.ended refl in
        record {
          keyed = λ serves. absurd (contrary serves is);
          placed = λ serves. absurd (contrary serves is);
          reading = λ serves. absurd (contrary serves is);
          others = λ m other. slot-set_other jobs n m (Some job) other;
          answered = λ honest'. absurd (says.given_up refl honest');
          crash = λ honest'. absurd (says.given_up refl honest');
          idle = λ idle. absurd idle;
          light = λ light. absurd light;
          kept = λ kept. absurd kept;
          memory = λ none. cc none;
          decided = λ is. absurd is;
          refused = λ code refused. cc refused;
          failed = (λ t. inr refl, λ e. is);
          blamed = λ honest' e. says.given_up refl honest';
          counted = λ e. cc e;
          served = λ device. says.answer.served (λ e. cc e);
          same = says.answer.same;
        }

  pub move_serves : (answer : Result (Unit {0}) CallError) → Says answer → (map' : MemoryMap)
      → CloseAfter answer b map' input
      → ServesAlways state disk disk' map map' failed' job (changed_job answer job number e channel) (Rename number e)
      (changed_reply answer)
  move_serves (Ok x) says map' closes = λ moment timely jobs n among.
      done_serves moment timely jobs n among map' x says closes.0 closes.1
  move_serves (Err (Refused code)) says map' closes =
      let same = says.refused code refl in
      rename_serves state disk disk disk' map map map' false failed' job _ _ (Rename number e) _ _ (sym same.0)
      (sym same.1 ∙ sym closes) (sym (says.answer.still (λ e. cc e) (λ e. cc e))) refl refl
      (λ moment timely jobs n among. refusing_serves state only_now disk map false refl job number e channel input
      is_open side free inside sound placed code
      (λ honest s at w. moves_refused d map s at sound honest (job_of w job) e input.ppn input.file to_ppn to (place w)
      moves (changes honest s at w) (comes honest s at w) (Err (Refused code)) says.answers code refl)
      moment timely jobs n among (with_code job e (number_of code)) (replies.Refused (number_of code)) refl refl)
  move_serves (Err NoMemory) says map' closes =
      let same = says.memory refl in
      rename_serves state disk disk disk' map map map' false failed' job _ _ (Rename number e) _ _ (sym same.0)
      (sym same.1 ∙ sym closes) (sym (says.answer.still (λ e. cc e) (λ e. cc e))) refl refl
      (wanting_serves state only_now disk map job number e channel is_open input side free inside placed)
  move_serves (Err Device) says map' closes = λ moment timely jobs n among.
      subst (λ (c : MemoryMap). IsServing state disk disk' map c failed' jobs (slice_set jobs n (Some job)) n
      (Rename number e) moment replies.Device) (sym closes) (device_serves moment timely jobs n among says)
  move_serves (Err Failed) says map' closes = λ moment timely jobs n among.
      subst (λ (c : MemoryMap). IsServing state disk disk' map c failed' jobs (slice_set jobs n (Some job)) n
      (Rename number e) moment replies.Failed) (sym closes) (failed_serves moment timely jobs n among says)
