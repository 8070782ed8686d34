-- USETI answers as the machine does.
use Rattle.std.proofs.Common.{◌≡◌, ◌<◌, ◌+◌, ℕ, Bool, false, List, Option, None, Some, sym, ap, subst, ◌∙◌, arith}
use Rattle.std.proofs.Common.{slice_set}
use Rattle.std.specs.Prelude.{◌==◌, if◌then◌else◌, is_none, option_map, option_to_list}
use Rattle.std.proofs.lemmas.Bool.Decides.{nat_tests}
use Rattle.std.specs.List.{AllByRecursion}
use Rattle.spec_machine.specs.Common.{slot, with_channel, cleared, block_too_large, settled, clean, reports}
use Rattle.spec_machine.specs.Common.{stopped_in, useti, useti_done, input_at, of_job}
use Rattle.spec_machine.specs.declared.call.Call.TheVariants.{Useti}
use Rattle.spec_machine.specs.declared.call.Reply.{Reply}
use Rattle.spec_machine.specs.declared.call.Reply.TheVariants.{Done, Refused, Stopped, NoChannel}
use Rattle.spec_image.proofs.Common.{some_same}
use Rattle.volume.specs.declared.live.LiveVersion.{LiveVersion}
use Rattle.volume.specs.declared.pending.PendingVersion.{PendingVersion}
use Rattle.monitor.specs.Common.{IsRow, KeepsSides, KeepsReading, IsSide, UnderKeys, side_of, reader_of, input_of}
use Rattle.monitor.specs.Common.{channel_of, job_of}
use Rattle.monitor.specs.declared.channel.OpenChannel.{OpenChannel}
use Rattle.monitor.specs.declared.input.Input.{Input}
use Rattle.monitor.specs.declared.job.Job.{Job}
use Rattle.monitor.proofs.common.ReaderLists.{held}
use Rattle.monitor.proofs.common.SideLists.{count, each-side}
use Rattle.monitor.proofs.common.CallRows.{channel_set, keeps_channel, reads_channel, on_row, on_none}
use Rattle.spec_machine.specs.Jobs as machine

module _ (job : Job) (number block : ℕ) where
  pub useti_none : slot job.channels number ≡ None → IsRow job job (Useti number block) NoChannel
  useti_none none pack serial s n w moment at = on_none s n w job number
      (λ c. of_job s n (useti (job_of w job) number c block)) none at

  module _ (c : OpenChannel) (there : slot job.channels number ≡ Some c) where
    -- the row, by its answer and by what it leaves
    abbrev by_answer : UnderKeys → Reply → machine.Channel → Reply × machine.SpecJob
    by_answer w reply done = settled reply (with_channel (job_of w job) number (Some done))
        (stopped_in (job_of w job) number (channel_of w c))

    abbrev answer_for : UnderKeys → Option machine.SpecInput → Bool → Reply
    answer_for w o zero = if is_none o then Refused 5 else if zero then reports (channel_of w c) block_too_large
        else Done

    pub useti_refused : c.input ≡ None → IsRow job job (Useti number block) (Refused 5)
    useti_refused none pack serial s n w moment at =
        on_row s n w job job number c (Refused 5) (λ x. useti (job_of w job) number x block) there
        (ap (λ o. by_answer w (answer_for w (option_map (input_of w) o) (block == 0))
        (useti_done (channel_of w c) block)) none)

    pub useti_stopped : (i : Input) → c.input ≡ Some i → block ≡ 0 → (job' : Job)
        → job' ≡ record job {
          channels = slice_set job.channels number
              (Some (record c { status = cleared c.status + block_too_large }));
        }
        → IsRow job job' (Useti number block) (Stopped (cleared c.status + block_too_large))
    useti_stopped i some zero job' set pack serial s n w moment at =
        on_row s n w job job' number c (Stopped (cleared c.status + block_too_large))
        (λ x. useti (job_of w job) number x block) there
        (ap (λ p. by_answer w (answer_for w (option_map (input_of w) p) (block == 0))
        (useti_done (channel_of w c) block)) some
        ∙ ap (λ b. by_answer w (answer_for w (Some (input_of w i)) (b == 0)) (useti_done (channel_of w c) block)) zero
        ∙ ap (λ j. (Stopped (cleared c.status + block_too_large), j))
        (channel_set w job number (Some (record c { status = cleared c.status + block_too_large }))
        ∙ ap (job_of w) (sym set)))

    pub useti_moved : (i : Input) → c.input ≡ Some i → 0 < block → (job' : Job)
        → job' ≡ record job {
          channels = slice_set job.channels number
              (Some (record c { status = cleared c.status; input = Some (record i { next = block }) }));
        }
        → IsRow job job' (Useti number block) Done
    useti_moved i some more job' set pack serial s n w moment at =
        on_row s n w job job' number c Done (λ x. useti (job_of w job) number x block) there
        (ap (λ p. by_answer w (answer_for w (option_map (input_of w) p) (block == 0))
        (record (clean (channel_of w c)) { input = input_at (option_map (input_of w) p) block })) some
        ∙ ap (λ b. by_answer w (answer_for w (Some (input_of w i)) b)
        (record (clean (channel_of w c)) { input = input_at (Some (input_of w i)) block })) (not_zero block more)
        ∙ ap (λ j. (Done, j)) (channel_set w job number
        (Some (record c { status = cleared c.status; input = Some (record i { next = block }) }))
        ∙ ap (job_of w) (sym set)))
      where
        not_zero : (k : ℕ) → 0 < k → (k == 0) ≡ false
        not_zero k more = grind (arith, nat_tests)

    -- what it keeps: the channel writes what it wrote, and reads what it read

    pub keeps_read : (pending : List (Option PendingVersion)) (job' : Job) (status : ℕ) (input : Option Input)
        → job' ≡ record job {
          channels = slice_set job.channels number
              (Some (record c { status = status; input = input }));
        } → KeepsSides pending pending job job'
    keeps_read pending job' status input set =
        subst (KeepsSides pending pending job) (sym set)
        (keeps_channel pending job number (Some (record c { status = status; input = input }))
        (λ key. ap (λ p. count key (option_to_list (side_of p))) (sym there))
        (λ all. subst (λ p. AllByRecursion (IsSide pending) (option_to_list (side_of p))) there
        (each-side (IsSide pending) job.channels number all)))

    pub reads_at : (live : List (Option LiveVersion)) (job' : Job) (status : ℕ) (i : Input) → c.input ≡ Some i
        → 0 < block
        → job' ≡ record job {
          channels = slice_set job.channels number
              (Some (record c { status = status; input = Some (record i { next = block }) }));
        } → KeepsReading live live job job'
    reads_at live job' status i some more set =
        subst (KeepsReading live live job) (sym set)
        (reads_channel live job number (record c { status = status; input = Some (record i { next = block }) })
        (λ key. ap (λ p. held key (option_to_list p)) (sym some)
        ∙ ap (λ p. held key (option_to_list (reader_of p))) (sym there))
        (λ has j is. subst (λ (x : Input). 0 < x.next) (some_same is) more))
