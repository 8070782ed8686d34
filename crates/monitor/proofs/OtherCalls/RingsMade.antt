-- INBUF and OUTBUF answer as the machine does.
use Rattle.std.proofs.Common.{◌≡◌, ℕ, Bool, true, false, List, Option, None, Some, sym, ap, ◌∙◌, slice_set}
use Rattle.std.specs.Prelude.{◌==◌, ◌||◌, not, if◌then◌else◌, Result, Ok, Err, OnOk, is_err}
use Rattle.spec_machine.specs.Common.{slot, cleared, sets_up, found_or_not, core_or, has_no_ring, settled, clean}
use Rattle.spec_machine.specs.Common.{is_buffered, byte_size, setup, buffers_of, of_job}
use Rattle.spec_machine.specs.declared.call.Call.TheVariants.{Inbuf, Outbuf}
use Rattle.spec_machine.specs.declared.call.Reply.{Reply}
use Rattle.spec_machine.specs.declared.call.Reply.TheVariants.{Done, Refused, NoChannel}
use Rattle.retrieval.specs.Common.{mode_number}
use Rattle.monitor.specs.Common.{UnderKeys, channel_of, job_of, IsRow}
use Rattle.monitor.specs.declared.channel.OpenChannel.{OpenChannel}
use Rattle.monitor.specs.declared.job.Job.{Job}
use Rattle.monitor.proofs.common.CallRows.{channel_set, on_row, on_none}
use Rattle.spec_machine.specs.Jobs as machine

-- what holds at Ok holds if there is no error
pub ok_gives : {X E P : Type 0} (r : Result X E) → OnOk r P → is_err r ≡ false → P
ok_gives (Ok x) p e = p
ok_gives (Err x) p e = cc e

pub ring_there : (mode header : ℕ) (b : Bool) → b ≡ is_buffered mode → b ≡ true → (header == 0) ≡ false
    → has_no_ring mode header ≡ false
ring_there mode header b is buffered some = ap (λ x. not x || (header == 0)) (sym is ∙ buffered) ∙ some

module _ (job : Job) (number : ℕ) (c : OpenChannel) (header count : ℕ) (w : UnderKeys) where
  -- by whether there is no ring, and by the core that has it
  abbrev made : Bool → Option (List ℕ) → Reply × machine.SpecJob
  made none found = settled (if none then Refused 5 else found_or_not found)
      (machine.with_channel (record (job_of w job) { core = core_or job.core found }) number
      (Some (clean (channel_of w c))))
      (λ reply. job_of w job)

  abbrev asked : Option (List ℕ)
  asked = setup job.core header (byte_size (mode_number c.mode)) (buffers_of count)

  pub ring_done : has_no_ring (mode_number c.mode) header ≡ false → (core : List ℕ) → asked ≡ Some core
      → sets_up (job_of w job) number (channel_of w c) header count ≡ (
        Done,
        job_of w (record job {
          core = core;
          channels = slice_set job.channels number (Some (record c { status = cleared c.status }));
        }),
      )
  ring_done some core found = ap (λ b. made b asked) some ∙ ap (made false) found
      ∙ ap (λ j. (Done, j)) (channel_set w (record job { core = core }) number
      (Some (record c { status = cleared c.status })))

module _ (job : Job) (number count : ℕ) where
  pub inbuf_none : slot job.channels number ≡ None → IsRow job job (Inbuf number count) NoChannel
  inbuf_none none pack serial s n w moment at = on_none s n w job number
      (λ c. of_job s n (sets_up (job_of w job) number c c.input_header count)) none at

  pub outbuf_none : slot job.channels number ≡ None → IsRow job job (Outbuf number count) NoChannel
  outbuf_none none pack serial s n w moment at = on_none s n w job number
      (λ c. of_job s n (sets_up (job_of w job) number c c.output_header count)) none at

  module _ (c : OpenChannel) (there : slot job.channels number ≡ Some c) (job' : Job) (reply : Reply) where
    pub inbuf_row : ((w : UnderKeys) → sets_up (job_of w job) number (channel_of w c) c.input_header count
        ≡ (reply, job_of w job')) → IsRow job job' (Inbuf number count) reply
    inbuf_row row pack serial s n w moment at = on_row s n w job job' number c reply
        (λ x. sets_up (job_of w job) number x x.input_header count) there (row w)

    pub outbuf_row : ((w : UnderKeys) → sets_up (job_of w job) number (channel_of w c) c.output_header count
        ≡ (reply, job_of w job')) → IsRow job job' (Outbuf number count) reply
    outbuf_row row pack serial s n w moment at = on_row s n w job job' number c reply
        (λ x. sets_up (job_of w job) number x x.output_header count) there (row w)
