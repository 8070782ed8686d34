-- GETSTS answers as the machine does.
use Rattle.std.proofs.Common.{◌≡◌, ℕ, None, Some, ap, ◌∙◌}
use Rattle.spec_machine.specs.Common.{slot, on_channel}
use Rattle.spec_machine.specs.declared.call.Call.TheVariants.{Getsts}
use Rattle.spec_machine.specs.declared.call.Reply.TheVariants.{Value, NoChannel}
use Rattle.monitor.specs.Common.{IsRow}
use Rattle.monitor.specs.declared.channel.OpenChannel.{OpenChannel}
use Rattle.monitor.specs.declared.job.Job.{Job}
use Rattle.monitor.proofs.common.CallRows.{channel_is, job_same, on_none}

module _ (job : Job) (number : ℕ) where
  pub status_none : slot job.channels number ≡ None → IsRow job job (Getsts number) NoChannel
  status_none none pack serial s n w moment at = on_none s n w job number (λ c. (Value c.status, s)) none at

  pub status_there : (c : OpenChannel) → slot job.channels number ≡ Some c
      → IsRow job job (Getsts number) (Value c.status)
  status_there c there pack serial s n w moment at = ap (λ o. on_channel s o (λ x. (Value x.status, s)))
      (channel_is w job number (Some c) there) ∙ ap (λ t. (Value c.status, t)) (job_same s n _ at)
