-- A RENAME that is refused: what it promises, whichever jobs there are.
use Rattle.std.proofs.Common.{◌≡◌, ◌<◌, ◌≤◌, ℕ, Bool, false, List, length, Option, None, Some, Result, Ok, Err, refl}
use Rattle.std.proofs.Common.{sym, ap, subst, slice_index, slice_set, arith}
use Rattle.std.proofs.Math.Path.{subst₂}
use Rattle.std.proofs.lemmas.Bool.{eq-eqb}
use Rattle.std.proofs.lemmas.Bool.Decides.{nat_tests}
use Rattle.std.specs.Prelude.{if◌then◌else◌, OnOk}
use Rattle.words36.specs.declared.moment.Moment.{Moment}
use Rattle.blockdisk.specs.Common.{Contents, DiskState, MayLeave}
use Rattle.spec_image.specs.declared.code.ErrorCode.{ErrorCode}
use Rattle.spec_image.specs.Common.{number_of, pack_of, place_of}
use Rattle.spec_machine.specs.Common.{lies_outside, State, slot, protection_at, rename_from, step}
use Rattle.spec_machine.specs.declared.call.Call.TheVariants.{Rename}
use Rattle.spec_machine.specs.declared.call.Event.TheVariants.{Call as Calls}
use Rattle.spec_machine.specs.declared.call.Reply.{Reply}
use Rattle.spec_machine.specs.declared.call.Reply.TheVariants.{Refused}
use Rattle.volume.specs.Common.{MemoryMap, slot as version_at, IsSoundMemory}
use Rattle.volume.specs.declared.live.LiveVersion.{LiveVersion}
use Rattle.monitor.specs.Common.{asked_protection, IsKnown, IsAmong, IsServing, ServesJob, readers_of, with_code}
use Rattle.monitor.specs.Common.{IsRow, ArePlaced, IsState, IsTimely, UnderKeys, job_of, state_of}
use Rattle.monitor.specs.declared.channel.OpenChannel.{OpenChannel}
use Rattle.monitor.specs.declared.input.Input.{Input}
use Rattle.monitor.specs.declared.job.Job.{Job}
use Rattle.monitor.proofs.common.EventAnswers.{state_is}
use Rattle.monitor.proofs.common.ChangeServes.{told_serves}
use Rattle.monitor.proofs.EnterFile.Readers.{reading_core}
use Rattle.monitor.proofs.common.KnownState.{known}
use Rattle.monitor.proofs.common.Changes.{keeps_core}
use Rattle.monitor.proofs.common.Promised.{alone_serves}
use Rattle.monitor.proofs.RenameFile.Rows.{row_refused}
use Rattle.monitor.proofs.common.Refusals.{same_code}

-- Words that a core has are at addresses of a core.
pub address_fits : (core : List ℕ) (e : ℕ) → lies_outside core e 4 ≡ false → length core ≤ 0o400000 → e < 0o400000
address_fits core e inside few = grind (arith, nat_tests)

-- no protection is asked for if a file is deleted
pub asks_none : (w : UnderKeys) (job : Job) (e : ℕ) → slice_index job.core e ≡ 0
    → None ≡ asked_protection (job_of w job) e
asks_none w job e zero = sym (ap (λ b. if b then None else Some (protection_at (job_of w job) e))
    (eq-eqb (slice_index job.core e) 0 zero))

-- A version that is read stays so over a change of the files.
pub still_read : (live live' : List (Option LiveVersion)) (key : ℕ) → ((v : LiveVersion) → version_at live key ≡ Some v
    → 0 < v.readers → (b : Bool) × (version_at live' key ≡ Some (record v { is_current = b })))
    → 0 < readers_of (version_at live key) → {T E : Type 0} (r : Result T E)
    → OnOk r (0 < readers_of (version_at live' key))
still_read live live' key stays read (Err error) = tt
still_read live live' key stays read (Ok x) = by (version_at live key) refl read
  where
    by : (was : Option LiveVersion) → version_at live key ≡ was → 0 < readers_of was
        → 0 < readers_of (version_at live' key)
    by None at none = absurd (omega (arith, none))
    by (Some v) at some = let there = stays v at some in
        subst (λ o. 0 < readers_of o) (sym there.1) some

-- The place that was looked up, or the new one, is refused.
module _ {D : Type 0} (state : D → DiskState) (only_now : (disk : D) (contents : Contents) → (state disk).honest
    → (state disk).left_since (state disk).clock contents → MayLeave (state disk) contents) (disk : D)
    (c : MemoryMap) (failed : Bool) (alive : failed ≡ false) (job : Job) (number e : ℕ)
    (channel : OpenChannel) (input : Input) (is_open : slot job.channels number ≡ Some channel)
    (side : channel.input ≡ Some input) (free : channel.output ≡ None) (inside : lies_outside job.core e 4 ≡ false)
    (sound : IsSoundMemory (state disk) c false) (placed : ArePlaced c) (code : ErrorCode)
    (refuses : (state disk).honest → (s : State) → IsKnown (state disk) c s → (w : UnderKeys)
    → rename_from (pack_of (state disk)) s (job_of w job) e (place_of input.ppn input.file) ≡ Refused (number_of code))
    (moment : Moment) (timely : IsTimely (state disk) moment) (jobs : List (Option Job)) (n : ℕ)
    (among : IsAmong c jobs n job) where
  abbrev d : DiskState
  d = state disk

  abbrev job' : Job
  job' = with_code job e (number_of code)

  abbrev jobs' : List (Option Job)
  jobs' = slice_set jobs n (Some job')

  step_refused : d.honest → (s : State) (state_s : IsState d c jobs s) (serial : ℕ)
      → step (pack_of d) serial s (Calls n (Rename number e) moment)
      ≡ (Refused (number_of code), state_of s.files state_s.under jobs')
  step_refused honest s state_s serial =
      let w = state_s.under in
      let before_is = state_is s w jobs state_s.jobs_are in
      let place = place_of input.ppn input.file in
      subst (λ t. step (pack_of d) serial t (Calls n (Rename number e) moment)
      ≡ (Refused (number_of code), state_of s.files w jobs')) (sym before_is)
      (row_refused d s.files w jobs n job among.there number e moment (timely honest) channel is_open input side free
      inside
      (number_of code) (subst (λ t. rename_from (pack_of d) t (job_of w job) e place ≡ Refused (number_of code))
      before_is (refuses honest s (known d c jobs s state_s sound honest) w)) serial)

  -- The call's answer, and what it leaves of the job.
  pub refusing_serves : (after : Job) (reply : Reply) → after ≡ job' → reply ≡ Refused (number_of code)
      → IsServing state disk disk c c failed jobs (slice_set jobs n (Some after)) n (Rename number e) moment reply
  refusing_serves after reply job_is answer_is =
      subst₂ (λ j r. IsServing state disk disk c c failed jobs (slice_set jobs n (Some j)) n (Rename number e) moment r)
      (sym job_is) (sym answer_is)
      (told_serves state only_now disk c failed alive placed job (Rename number e) (λ light. light) (λ kept. kept)
      moment jobs n among job'.core (Refused (number_of code)) (λ x. cc x, λ x. cc x, λ x. cc x)
      (λ k at. ap (with_code job e) (same_code at)) (λ is. absurd is) step_refused)

-- It is out of order, whatever there is on the disk.
pub out_of_order : {D : Type 0} (state : D → DiskState) → ((disk : D) (contents : Contents) → (state disk).honest
    → (state disk).left_since (state disk).clock contents → MayLeave (state disk) contents)
    → (disk : D) (c : MemoryMap) (failed : Bool) (job after : Job) (number e : ℕ) (moment : Moment) (reply : Reply)
    → failed ≡ false → ArePlaced c → IsTimely (state disk) moment
    → IsRow job (with_code job e 5) (Rename number e) (Refused 5)
    → after ≡ with_code job e 5 → reply ≡ Refused 5
    → ServesJob state disk disk c c failed job after (Rename number e) moment reply
out_of_order state only_now disk c failed job after number e moment reply alive placed timely row job_is answer_is =
    subst (λ j. ServesJob state disk disk c c failed job j (Rename number e) moment reply) (sym job_is)
    (subst (λ r. ServesJob state disk disk c c failed job (with_code job e 5) (Rename number e) moment r)
    (sym answer_is)
    (alone_serves state only_now disk c failed job (with_code job e 5) (Rename number e) moment (Refused 5) alive
    placed timely row
    (λ pending. keeps_core pending pending job (with_code job e 5).core refl)
    (λ live. reading_core live job (with_code job e 5).core) (λ x. cc x, λ x. cc x, λ x. cc x)
    (λ k at. ap (with_code job e) (same_code at)) (λ is. absurd is)))
