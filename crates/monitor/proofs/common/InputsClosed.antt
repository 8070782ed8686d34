-- The input side of a channel closes: what it reads is pinned once less, and all else of the job stays.
use Rattle.std.proofs.Common.{◌≡◌, ℕ, ◌<◌, ◌≤◌, List, [], ◌∷◌, Option, Some, None, refl, sym, ap, subst, ◌∙◌, arith}
use Rattle.std.specs.Prelude.{option_to_list}
use Rattle.spec_machine.specs.Common.{slot}
use Rattle.spec_image.specs.Common.{times}
use Rattle.spec_image.proofs.Common.{some_none, some_same, times_head}
use Rattle.volume.specs.Common.{MemoryMap, slot as version_at}
use Rattle.volume.specs.declared.live.LiveVersion.{LiveVersion}
use Rattle.monitor.specs.Common.{input_closed, with_input_closed, Closes, readers_of, KeepsSides, KeepsReading}
use Rattle.monitor.specs.Common.{reader_of, readers_in, pins_of}
use Rattle.monitor.specs.declared.channel.OpenChannel.{OpenChannel}
use Rattle.monitor.specs.declared.input.Input.{Input}
use Rattle.monitor.specs.declared.job.Job.{Job}
use Rattle.monitor.proofs.CloseChannel.Closes.{keeps_closed, reads_closed}
use Rattle.monitor.proofs.CloseChannel.Publications.{IsBehind}
use Rattle.monitor.proofs.common.ReaderLists.{held, held-channel}

module _ (job : Job) (number : ℕ) (channel : OpenChannel) (there : slot job.channels number ≡ Some channel)
    (input : Input) (side : channel.input ≡ Some input) where
  abbrev pins : List ℕ
  pins = input.pin.key ∷ []

  -- what it reads is pinned
  pub input_is_held : (live : List (Option LiveVersion))
      → ((key : ℕ) → times key (pins_of (readers_in (Some job))) ≤ readers_of (version_at live key))
      → 0 < readers_of (version_at live input.pin.key)
  input_is_held live all =
      let here = all input.pin.key in
      let moved = held-channel input.pin.key job.channels number None (λ e. refl) in
      let was = ap (λ o. held input.pin.key (option_to_list (reader_of o))) there in
      let reads = ap (λ i. held input.pin.key (option_to_list i)) side in
      let one = times_head input.pin.key [] in
      omega arith

  module _ (c between c' : MemoryMap) (same : between.pending ≡ c.pending)
      (readers : (key : ℕ) → readers_of (version_at between.live key) ≡ readers_of (version_at c.live key))
      (closed : Closes between c' [] pins) (pending : c'.pending ≡ between.pending) where
    keeps : KeepsSides between.pending c'.pending job (with_input_closed job number channel)
    keeps = keeps_closed between c' job (with_input_closed job number channel) number channel there
        (Some (input_closed channel)) job.core refl [] pins closed (λ key. omega arith) (λ all. all)

    reads : KeepsReading between.live c'.live job (with_input_closed job number channel)
    reads = reads_closed between c' job (with_input_closed job number channel) number channel there
        (Some (input_closed channel)) job.core refl [] pins closed
        (λ key. let is = ap (λ i. held key (option_to_list i)) side in omega arith)
        (λ reader y is i at. absurd (some_none (sym at ∙ ap (λ (z : OpenChannel). z.input) (sym (some_same is)))))

    -- After a change of the files that leaves each version its readers.
    pub input_behind : IsBehind c between c' job (with_input_closed job number channel)
    input_behind = record {
      pending = pending;
      known = closed.leaves.known;
      keeps = subst (λ ps. KeepsSides ps c'.pending job (with_input_closed job number channel)) same keeps;
      reads = record {
        once = λ key. let before = readers key in let moved = reads.once key in omega arith;
        each = reads.each;
      };
    }
