-- A RENAME of what a channel reads that finds no memory, and when its answer is decided.
use Rattle.std.proofs.Common.{◌≡◌, ◌≤◌, ℕ, Bool, false, List, Option, Some, None, refl, sym, ap, subst, ◌∙◌}
use Rattle.std.proofs.Common.{slice_set}
use Rattle.words36.specs.declared.moment.Moment.{Moment}
use Rattle.blockdisk.specs.Common.{Contents, DiskState, MayLeave}
use Rattle.spec_machine.specs.Common.{lies_outside, State, slot, is_plain, step, last_date}
use Rattle.spec_image.specs.Common.{place_of, pack_of}
use Rattle.spec_machine.specs.declared.call.Call.{Call}
use Rattle.spec_machine.specs.declared.call.Call.TheVariants.{Rename}
use Rattle.spec_machine.specs.declared.call.Event.TheVariants.{Call as Calls}
use Rattle.spec_machine.specs.declared.call.Reply.{Reply}
use Rattle.volume.specs.Common.{MemoryMap}
use Rattle.monitor.specs.Common.{IsServing, ServesAlways, ArePlaced, IsState, job_of, state_of}
use Rattle.monitor.specs.declared.channel.OpenChannel.{OpenChannel}
use Rattle.monitor.specs.declared.input.Input.{Input}
use Rattle.monitor.specs.declared.job.Job.{Job}
use Rattle.monitor.proofs.common.EventAnswers.{state_is}
use Rattle.monitor.proofs.common.ChangeServes.{memory_serves}
use Rattle.monitor.proofs.RenameFile.MoveReplies.{rename_late}
use Rattle.monitor.proofs.RenameFile.Rows.{row_answers}
use Rattle.spec_machine.specs.declared.call.Reply.TheVariants as replies

-- it is decided only after memory and the disk are needed
pub rename_undecided : (d : DiskState) (c : MemoryMap) (jobs : List (Option Job)) (s : State)
    (state : IsState d c jobs s)
    (n : ℕ) (job : Job) → slot jobs n ≡ Some job → (number e : ℕ) (moment : Moment)
    → moment.date ≤ last_date (pack_of d).layout
    → (channel : OpenChannel) → slot job.channels number ≡ Some channel → (input : Input) → channel.input ≡ Some input
    → channel.output ≡ None → lies_outside job.core e 4 ≡ false
    → is_plain ((step (pack_of d) 0 s (Calls n (Rename number e) moment)).0) ≡ false
rename_undecided d c jobs s state n job there number e moment timely channel is_open input side free inside =
    subst (λ y. is_plain ((step (pack_of d) 0 y (Calls n (Rename number e) moment)).0) ≡ false)
    (sym (state_is s state.under jobs state.jobs_are))
    (ap is_plain (row_answers d s.files state.under jobs n job there number e moment timely channel is_open input side
    free inside)
    ∙ rename_late (pack_of d) (state_of s.files state.under jobs) (job_of state.under job) e
    (place_of input.ppn input.file))

-- the same if disk, memory and job are these, and this is the answer
pub rename_serves : {D : Type 0} (state : D → DiskState) (disk mid new : D) (map between map' : MemoryMap)
    (failed failed' : Bool) (job job' left : Job) (call : Call) (reply answer : Reply) → mid ≡ new → between ≡ map'
    → failed ≡ failed' → left ≡ job' → answer ≡ reply
    → ServesAlways state disk mid map between failed job left call answer
    → ServesAlways state disk new map map' failed' job job' call reply
rename_serves state disk mid new map between map' failed failed' job job' left call reply answer same kept alive
    set is serves moment timely jobs n among =
    subst (λ r. IsServing state disk new map map' failed' jobs (slice_set jobs n (Some job')) n call moment r) is
    (subst (λ j. IsServing state disk new map map' failed' jobs (slice_set jobs n (Some j)) n call moment answer) set
    (subst (λ b. IsServing state disk new map map' b jobs (slice_set jobs n (Some left)) n call moment answer) alive
    (subst (λ x. IsServing state disk new map x failed jobs (slice_set jobs n (Some left)) n call moment answer) kept
    (subst (λ y. IsServing state disk y map between failed jobs (slice_set jobs n (Some left)) n call moment answer)
    same (serves moment timely jobs n among)))))

module _ {D : Type 0} (state : D → DiskState) (only_now : (disk : D) (contents : Contents) → (state disk).honest
    → (state disk).left_since (state disk).clock contents → MayLeave (state disk) contents) (disk : D)
    (map : MemoryMap) (job : Job) (number e : ℕ) (channel : OpenChannel)
    (is_open : slot job.channels number ≡ Some channel)
    (input : Input) (side : channel.input ≡ Some input) (free : channel.output ≡ None)
    (inside : lies_outside job.core e 4 ≡ false) (placed : ArePlaced map) where
  pub wanting_serves : ServesAlways state disk disk map map false job job (Rename number e) replies.NoMemory
  wanting_serves moment timely jobs n among =
      memory_serves state only_now disk map false refl placed job (Rename number e) (λ light. light) (λ kept. kept)
      moment jobs n among (λ s. refl)
      (λ honest s is. rename_undecided (state disk) map jobs s is n job among.there number e moment (timely honest)
      channel is_open input side free inside)
