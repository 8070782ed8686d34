-- OPEN answers as the machine does.
use Rattle.std.proofs.Common.{◌≡◌, ◌<◌, ◌≤◌, ◌+◌, ℕ, Bool, true, false, nat_le, List, ◌++◌, Option, None, Some, refl}
use Rattle.std.proofs.Common.{sym, ap, subst, ◌∙◌, arith, slice_set}
use Rattle.std.proofs.lemmas.Bool.Decides.{nat_tests}
use Rattle.std.specs.Prelude.{◌||◌, if◌then◌else◌, is_some, option_to_list}
use Rattle.spec_machine.specs.Common.{lies_outside, after_writes, slot, channel_at, improper_mode, mode_at}
use Rattle.spec_machine.specs.Common.{output_header_at, input_header_at, misses_headers, open_answer, open_done}
use Rattle.spec_machine.specs.Common.{opens, header_opened, is_buffered, settled, of_job}
use Rattle.spec_machine.specs.declared.call.Call.TheVariants.{Open}
use Rattle.spec_machine.specs.declared.call.Reply.{Reply}
use Rattle.spec_machine.specs.declared.call.Reply.TheVariants.{Done, Refused, Stopped, NoChannel, AddressCheck}
use Rattle.spec_image.proofs.Common.{some_none}
use Rattle.retrieval.specs.Common.{mode_number}
use Rattle.retrieval.specs.declared.mode.Mode.{Mode}
use Rattle.monitor.specs.Common.{IsRow, KeepsSides, KeepsReading, improper_at, opened_at, rings_opened, UnderKeys}
use Rattle.monitor.specs.Common.{side_of, reader_of, channel_of, job_of, IsSide}
use Rattle.monitor.specs.declared.channel.OpenChannel.{OpenChannel}
use Rattle.monitor.specs.declared.job.Job.{Job}
use Rattle.volume.specs.declared.live.LiveVersion.{LiveVersion}
use Rattle.volume.specs.declared.pending.PendingVersion.{PendingVersion}
use Rattle.std.specs.List.{AllByRecursion}
use Rattle.monitor.proofs.common.EventAnswers.{settled_other}
use Rattle.monitor.proofs.common.CallRows.{channel_is, channel_set, job_same, keeps_channel, reads_channel}
use Rattle.monitor.proofs.common.ReaderLists.{held}
use Rattle.monitor.proofs.common.SideLists.{count}
use Rattle.spec_machine.proofs.Common.{is_some-map}
use Rattle.spec_machine.specs.Jobs as machine

fits : (n : ℕ) → n < 16 → nat_le n 15 ≡ true
fits n few = grind (arith, nat_tests)

past : (n : ℕ) → 16 ≤ n → nat_le n 15 ≡ false
past n many = grind (arith, nat_tests)

-- the answer, by its tests
abbrev chain : Bool → Bool → Bool → Bool → ℕ → Reply
chain outside misses taken improper mode = if outside || misses then AddressCheck else if taken then Refused 5
    else if improper then Stopped (improper_mode + mode) else Done

module _ (job : Job) (number a : ℕ) where
  abbrev pub taken : Bool
  taken = is_some (slot job.channels number)

  pub answer_is : (w : UnderKeys) (b c d e : Bool) → lies_outside job.core a 3 ≡ b → misses_headers job.core a ≡ c
      → taken ≡ d → improper_at job.core a ≡ e → open_answer (job_of w job) number a
      ≡ chain b c d e (mode_at job.core a)
  answer_is w b c d e p q r t =
      let at : is_some (channel_at (job_of w job) number)
      ≡ d = ap is_some (channel_is w job number (slot job.channels number) refl)
      ∙ is_some-map (channel_of w) (slot job.channels number) ∙ r in
      λ i. chain (p i) (q i) (at i) (t i) (mode_at job.core a)

  pub no_channel_row : 16 ≤ number → IsRow job job (Open number a) NoChannel
  no_channel_row many pack serial s n w moment there =
      ap (λ b. if b then of_job s n (opens (job_of w job) number a) else (NoChannel, s)) (past number many)
      ∙ ap (λ t. (NoChannel, t)) (job_same s n (job_of w job) there)

  pub refused_row : number < 16 → (reply : Reply) → ((w : UnderKeys) → open_answer (job_of w job) number a ≡ reply)
      → (reply ≡ Done → ⊥) → IsRow job job (Open number a) reply
  refused_row few reply answer other pack serial s n w moment there =
      ap (λ b. if b then of_job s n (opens (job_of w job) number a) else (NoChannel, s)) (fits number few)
      ∙ ap (of_job s n) (ap (λ r. settled r (open_done (job_of w job) number a) (λ x. job_of w job)) (answer w)
      ∙ settled_other reply (open_done (job_of w job) number a) (job_of w job) other)

  -- the job with a channel that is opened, its rings' headers given their first words
  abbrev pub opened_job : Mode → Job
  opened_job mode = record job {
    core = rings_opened job.core (opened_at mode job.core a);
    channels = slice_set job.channels number (Some (opened_at mode job.core a));
  }

  pub done_row : number < 16 → ((w : UnderKeys) → open_answer (job_of w job) number a ≡ Done)
      → (mode : Mode) → mode_number mode ≡ mode_at job.core a → IsRow job (opened_job mode) (Open number a) Done
  done_row few answer mode is pack serial s n w moment there =
      ap (λ b. if b then of_job s n (opens (job_of w job) number a) else (NoChannel, s)) (fits number few)
      ∙ ap (of_job s n) (ap (λ r. settled r (open_done (job_of w job) number a) (λ x. job_of w job)) (answer w)
      ∙ ap (λ j. (Done, j)) (ap (λ m. machine.with_channel (record (job_of w job) { core = core_in m }) number
      (Some (with_mode m))) (sym is)
      ∙ channel_set w (record job { core = core_in (mode_number mode) }) number (Some (opened_at mode job.core a))))
    where
      core_in : ℕ → List ℕ
      core_in m = if is_buffered m
          then after_writes job.core (header_opened m (output_header_at job.core a)
          ++ header_opened m (input_header_at job.core a))
          else job.core

      with_mode : ℕ → machine.Channel
      with_mode m = record {
        mode = m;
        input_header = input_header_at job.core a;
        output_header = output_header_at job.core a;
        status = mode_at job.core a;
        input = None;
        output = None;
      }

-- a channel that is opened writes nothing
pub keeps_opened : (pending : List (Option PendingVersion)) (job : Job) (number : ℕ) (c : OpenChannel)
    → is_some (slot job.channels number) ≡ false → c.output ≡ None
    → KeepsSides pending pending job (record job { channels = slice_set job.channels number (Some c) })
keeps_opened pending job number c free none =
    keeps_channel pending job number (Some c) (λ key. ap (λ o. count key (option_to_list o)) none
    ∙ by key (slot job.channels number) free)
    (λ all. subst (λ o. AllByRecursion (IsSide pending) (option_to_list o)) (sym none) tt)
  where
    by : (key : ℕ) (o : Option OpenChannel) → is_some o ≡ false → 0 ≡ count key (option_to_list (side_of o))
    by key None e = refl
    by key (Some x) e = cc e

-- and reads nothing
pub reads_opened : (live : List (Option LiveVersion)) (job : Job) (number : ℕ) (c : OpenChannel)
    → is_some (slot job.channels number) ≡ false → c.input ≡ None
    → KeepsReading live live job (record job { channels = slice_set job.channels number (Some c) })
reads_opened live job number c free none =
    reads_channel live job number c (λ key. ap (λ o. held key (option_to_list o)) none
    ∙ by key (slot job.channels number) free) (λ has i is. absurd (some_none (sym is ∙ none)))
  where
    by : (key : ℕ) (o : Option OpenChannel) → is_some o ≡ false → 0 ≡ held key (option_to_list (reader_of o))
    by key None e = refl
    by key (Some x) e = cc e
