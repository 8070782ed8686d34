use Rattle.std.proofs.Common.{sym, subst, ◌∙◌}
use Rattle.spec_machine.specs.declared.call.Call.TheVariants.{Getsts}
use Rattle.spec_machine.specs.declared.call.Reply.TheVariants.{Value}
use Rattle.monitor.specs.Common.{IsRow}
use Rattle.monitor.proofs.OtherCalls.Statuses.{status_none, status_there}
use Rattle.monitor.proofs.getsts.getsts.Goals as goal

pub returns-in_default-clause-row : goal.returns-in_default-clause-row
returns-in_default-clause-row c = status_none c.args.job.now c.args.number (sym c.channel.ensures ∙ c.in_default.is)

pub returns-clause-row : goal.returns-clause-row
returns-clause-row c =
    subst (λ word. IsRow c.args.job.now c.args.job.now (Getsts c.args.number) (Value word))
    (sym (c.from_bits.ensures ∙ c.from.ensures))
    (status_there c.args.job.now c.args.number c.in-Some.channel (sym c.channel.ensures ∙ c.in-Some.is))
