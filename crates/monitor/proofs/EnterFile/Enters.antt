-- An ENTER answers as the machine does.
use Rattle.std.proofs.Common.{◌≡◌, ℕ, ◌+◌, false, List, None, Some, refl, sym, ap, subst, ◌∙◌, inl, inr}
use Rattle.std.specs.Prelude.{◌==◌, ◌||◌, if◌then◌else◌, is_some, option_map}
use Rattle.spec_image.specs.Common.{number_of, Pack}
use Rattle.spec_machine.specs.Common.{lies_outside, with_right, begin_answer, enter_answer, State, slot, channel_at}
use Rattle.spec_machine.specs.Common.{place_at, has_no_directory, is_plain, is_elsewhere}
use Rattle.spec_image.specs.declared.code.ErrorCode.{ErrorCode}
use Rattle.spec_machine.specs.declared.call.Reply.{Reply}
use Rattle.spec_machine.specs.declared.call.Reply.TheVariants.{Done, Refused, AddressCheck, NoMemory}
use Rattle.monitor.specs.Common.{IsEnterAnswer, begin_answer_at, UnderKeys, input_of, output_of, channel_of, job_of}
use Rattle.monitor.specs.declared.channel.OpenChannel.{OpenChannel}
use Rattle.monitor.specs.declared.job.Job.{Job}
use Rattle.monitor.proofs.common.CallRows.{channel_is}
use Rattle.spec_machine.specs.Jobs as machine

module _ (pack : Pack) (s : State) (w : UnderKeys) (job : Job) (number e : ℕ) (c : OpenChannel)
    (there : slot job.channels number ≡ Some c) (inside : lies_outside job.core e 4 ≡ false) (free : c.output
    ≡ None) (unread : c.input ≡ None) where
  -- what is checked before it may begin
  tail : enter_answer pack s (job_of w job) (channel_of w c) e (place_at (job_of w job) e)
      ≡ begin_answer_at pack s (job_of w job) (place_at (job_of w job) e)
  tail = λ i. if inside i then AddressCheck else if is_some (option_map (output_of w) (free i))
      || is_elsewhere (option_map (input_of w) (unread i)) (place_at (job_of w job) e) then Refused 5
      else if has_no_directory s (place_at (job_of w job) e) then Refused 1
      else if (place_at (job_of w job) e).name.name == 0 then Refused 0
      else begin_answer pack s (job_of w job) (option_map (input_of w) (unread i)) (place_at (job_of w job) e)

  answered : (job' : machine.SpecJob) (reply : Reply)
      → IsEnterAnswer pack s (job_of w job) job' (Some (channel_of w c)) e reply
      → IsEnterAnswer pack s (job_of w job) job' (channel_at (job_of w job) number) e reply
  answered job' reply is = subst (λ o. IsEnterAnswer pack s (job_of w job) job' o e reply)
      (sym (channel_is w job number (Some c) there)) is

  pub done : (job' : machine.SpecJob) → begin_answer_at pack s (job_of w job) (place_at (job_of w job) e) ≡ Done
      → IsEnterAnswer pack s (job_of w job) job' (channel_at (job_of w job) number) e Done
  done job' is = answered job' Done (inr (tail ∙ is, λ not. absurd (not refl)))

  pub refused : (core : List ℕ) (reply : Reply) (code : ErrorCode) → reply ≡ Refused (number_of code)
      → core ≡ with_right job.core (e + 1) (number_of code)
      → begin_answer_at pack s (job_of w job) (place_at (job_of w job) e) ≡ Refused (number_of code)
      → IsEnterAnswer pack s (job_of w job) (job_of w (record job { core = core }))
      (channel_at (job_of w job) number) e reply
  refused core reply code answer put is =
      subst (λ r. IsEnterAnswer pack s (job_of w job) (job_of w (record job { core = core }))
      (channel_at (job_of w job) number) e r) (sym answer)
      (answered (job_of w (record job { core = core })) (Refused (number_of code))
      (inr (tail ∙ is, λ not. ap (λ words. job_of w (record job { core = words })) put)))

  pub wanting : is_plain (begin_answer_at pack s (job_of w job) (place_at (job_of w job) e)) ≡ false
      → IsEnterAnswer pack s (job_of w job) (job_of w job) (channel_at (job_of w job) number) e NoMemory
  wanting plain = answered (job_of w job) NoMemory (inl (refl, ap is_plain tail ∙ plain, refl))
