-- USETO, CLOSE and RELEAS that publish nothing answer as the machine does.
use Rattle.std.proofs.Common.{◌≡◌, ◌<◌, ◌+◌, ℕ, Bool, false, List, Option, None, Some, refl, sym, ap, subst, ◌∙◌}
use Rattle.std.proofs.Common.{arith, slice_set}
use Rattle.std.specs.List.{AllByRecursion}
use Rattle.std.specs.Prelude.{◌==◌, if◌then◌else◌, is_none, option_map, option_to_list, filter_map}
use Rattle.std.proofs.lemmas.Bool.Decides.{nat_tests}
use Rattle.spec_machine.specs.Common.{slot, with_channel, cleared, block_too_large, settled, clean, reports}
use Rattle.spec_machine.specs.Common.{stopped_in, useto, useto_done, output_at, of_job}
use Rattle.spec_machine.specs.declared.call.Call.TheVariants.{Useto}
use Rattle.spec_machine.specs.declared.call.Reply.{Reply}
use Rattle.spec_machine.specs.declared.call.Reply.TheVariants.{Done, Refused, Stopped, NoChannel}
use Rattle.volume.specs.declared.live.LiveVersion.{LiveVersion}
use Rattle.volume.specs.declared.pending.PendingVersion.{PendingVersion}
use Rattle.monitor.specs.Common.{IsRow, KeepsSides, KeepsReading, IsSide, UnderKeys, side_of, reader_of, output_of}
use Rattle.monitor.specs.Common.{channel_of, job_of}
use Rattle.monitor.specs.declared.channel.OpenChannel.{OpenChannel}
use Rattle.monitor.specs.declared.output.Output.{Output}
use Rattle.monitor.specs.declared.job.Job.{Job}
use Rattle.monitor.proofs.common.CallRows.{channel_set, keeps_channel, reads_channel, on_row, on_none}
use Rattle.monitor.proofs.common.ReaderLists.{held}
use Rattle.monitor.proofs.common.SideLists.{count, each-side}
use Rattle.spec_machine.specs.Jobs as machine

-- USETO.

module _ (job : Job) (number block : ℕ) where
  pub useto_none : slot job.channels number ≡ None → IsRow job job (Useto number block) NoChannel
  useto_none none pack serial s n w moment at = on_none s n w job number
      (λ c. of_job s n (useto (job_of w job) number c block)) none at

  module _ (c : OpenChannel) (there : slot job.channels number ≡ Some c) where
    -- the row, by its answer and by what it leaves
    abbrev by_answer : (UnderKeys) → Reply → machine.Channel → Reply × machine.SpecJob
    by_answer w reply done = settled reply (with_channel (job_of w job) number (Some done))
        (stopped_in (job_of w job) number (channel_of w c))

    abbrev answer_for : (UnderKeys) → Option machine.SpecOutput → Bool → Reply
    answer_for w o zero = if is_none o then Refused 5 else if zero then reports (channel_of w c) block_too_large
        else Done

    pub useto_refused : c.output ≡ None → IsRow job job (Useto number block) (Refused 5)
    useto_refused none pack serial s n w moment at =
        on_row s n w job job number c (Refused 5) (λ x. useto (job_of w job) number x block) there
        (ap (λ o. by_answer w (answer_for w (option_map (output_of w) o) (block == 0))
        (useto_done (channel_of w c) block)) none)

    pub useto_stopped : (o : Output) → c.output ≡ Some o → block ≡ 0 → (job' : Job)
        → job' ≡ record job {
          channels = slice_set job.channels number
              (Some (record c { status = cleared c.status + block_too_large }));
        }
        → IsRow job job' (Useto number block) (Stopped (cleared c.status + block_too_large))
    useto_stopped o some zero job' set pack serial s n w moment at =
        on_row s n w job job' number c (Stopped (cleared c.status + block_too_large))
        (λ x. useto (job_of w job) number x block) there
        (ap (λ p. by_answer w (answer_for w (option_map (output_of w) p) (block == 0))
        (useto_done (channel_of w c) block)) some
        ∙ ap (λ b. by_answer w (answer_for w (Some (output_of w o)) (b == 0)) (useto_done (channel_of w c) block)) zero
        ∙ ap (λ j. (Stopped (cleared c.status + block_too_large), j))
        (channel_set w job number (Some (record c { status = cleared c.status + block_too_large }))
        ∙ ap (job_of w) (sym set)))

    pub useto_moved : (o : Output) → c.output ≡ Some o → 0 < block → (job' : Job)
        → job' ≡ record job {
          channels = slice_set job.channels number
              (Some (record c { status = cleared c.status; output = Some (record o { next = block }) }));
        }
        → IsRow job job' (Useto number block) Done
    useto_moved o some more job' set pack serial s n w moment at =
        on_row s n w job job' number c Done (λ x. useto (job_of w job) number x block) there
        (ap (λ p. by_answer w (answer_for w (option_map (output_of w) p) (block == 0))
        (record (clean (channel_of w c)) { output = output_at (option_map (output_of w) p) block })) some
        ∙ ap (λ b. by_answer w (answer_for w (Some (output_of w o)) b)
        (record (clean (channel_of w c)) { output = output_at (Some (output_of w o)) block })) (not_zero block more)
        ∙ ap (λ j. (Done, j)) (channel_set w job number
        (Some (record c { status = cleared c.status; output = Some (record o { next = block }) }))
        ∙ ap (job_of w) (sym set)))
      where
        not_zero : (k : ℕ) → 0 < k → (k == 0) ≡ false
        not_zero k more = grind (arith, nat_tests)

    -- what it keeps

    same_count : (x : OpenChannel)
        → ((key : ℕ) → count key (option_to_list x.output) ≡ count key (option_to_list c.output))
        → (key : ℕ) → count key (option_to_list (side_of (Some x)))
        ≡ count key (option_to_list (side_of (slot job.channels number)))
    same_count x same key = same key ∙ ap (λ p. count key (option_to_list (side_of p))) (sym there)

    its_side : (pending : List (Option PendingVersion))
        → AllByRecursion (IsSide pending) (filter_map side_of job.channels)
        → AllByRecursion (IsSide pending) (option_to_list c.output)
    its_side pending all = subst (λ p. AllByRecursion (IsSide pending) (option_to_list (side_of p))) there
        (each-side (IsSide pending) job.channels number all)

    pub keeps_status : (pending : List (Option PendingVersion)) (job' : Job) (status : ℕ)
        → job' ≡ record job { channels = slice_set job.channels number (Some (record c { status = status })) }
        → KeepsSides pending pending job job'
    keeps_status pending job' status set =
        subst (KeepsSides pending pending job) (sym set)
        (keeps_channel pending job number (Some (record c { status = status }))
        (same_count (record c { status = status }) (λ key. refl)) (its_side pending))

    pub keeps_moved : (pending : List (Option PendingVersion)) (job' : Job) (status : ℕ) (o : Output)
        → c.output ≡ Some o → 0 < block
        → job' ≡ record job {
          channels = slice_set job.channels number
              (Some (record c { status = status; output = Some (record o { next = block }) }));
        } → KeepsSides pending pending job job'
    keeps_moved pending job' status o some more set =
        subst (KeepsSides pending pending job) (sym set)
        (keeps_channel pending job number
        (Some (record c { status = status; output = Some (record o { next = block }) }))
        (same_count (record c { status = status; output = Some (record o { next = block }) })
        (λ key. ap (λ p. count key (option_to_list p)) (sym some)))
        (λ all. let side = (subst (λ p. AllByRecursion (IsSide pending) (option_to_list p)) some
        (its_side pending all)).0 in (record { starts = more; kind = side.kind }, tt)))

    -- and of what is read

    same_held : (key : ℕ) → held key (option_to_list c.input)
        ≡ held key (option_to_list (reader_of (slot job.channels number)))
    same_held key = ap (λ p. held key (option_to_list (reader_of p))) (sym there)

    pub reads_status : (live : List (Option LiveVersion)) (job' : Job) (status : ℕ)
        → job' ≡ record job { channels = slice_set job.channels number (Some (record c { status = status })) }
        → KeepsReading live live job job'
    reads_status live job' status set =
        subst (KeepsReading live live job) (sym set)
        (reads_channel live job number (record c { status = status }) same_held
        (λ has i is. has.each number c there i is))

    pub reads_moved : (live : List (Option LiveVersion)) (job' : Job) (status : ℕ) (o : Output)
        → job' ≡ record job {
          channels = slice_set job.channels number
              (Some (record c { status = status; output = Some (record o { next = block }) }));
        } → KeepsReading live live job job'
    reads_moved live job' status o set =
        subst (KeepsReading live live job) (sym set)
        (reads_channel live job number (record c { status = status; output = Some (record o { next = block }) })
        same_held (λ has i is. has.each number c there i is))
