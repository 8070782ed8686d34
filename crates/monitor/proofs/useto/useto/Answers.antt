use Rattle.std.proofs.Common.{sym, ap, ◌∙◌, subst, Some, slice_set, arith}
use Rattle.spec_machine.specs.declared.call.Call.TheVariants.{Useto}
use Rattle.spec_machine.specs.declared.call.Reply.TheVariants.{Refused}
use Rattle.monitor.specs.Common.{IsRow}
use Rattle.monitor.proofs.common.CallRows.{keeps_same}
use Rattle.monitor.proofs.OtherCalls.Usetos.{useto_none, useto_refused, useto_stopped, useto_moved, keeps_status}
use Rattle.monitor.proofs.OtherCalls.Usetos.{keeps_moved, reads_status, reads_moved}
use Rattle.monitor.proofs.useto.useto.Goals as goal

pub returns-in_default-clause-row : goal.returns-in_default-clause-row
returns-in_default-clause-row c = useto_none c.args.job.now c.args.number c.args.block (sym c.channel.ensures
    ∙ c.in_default.is)

pub returns-in_default-clause-keeps : goal.returns-in_default-clause-keeps
returns-in_default-clause-keeps c pending = keeps_same pending c.args.job.now

pub returns-in_default-output-clause-row : goal.returns-in_default-output-clause-row
returns-in_default-output-clause-row c =
    subst (λ code. IsRow c.args.job.now c.args.job.now (Useto c.args.number c.args.block) (Refused code))
    (sym c.number.ensures)
    (useto_refused c.args.job.now c.args.number c.args.block c.in-Some.channel (sym c.channel.ensures
    ∙ c.in-Some.is) c.in_default-output.is)

pub returns-in_default-output-clause-keeps : goal.returns-in_default-output-clause-keeps
returns-in_default-output-clause-keeps c pending = keeps_same pending c.args.job.now

pub returns-then-block-eq0-clause-row : goal.returns-then-block-eq0-clause-row
returns-then-block-eq0-clause-row c =
    subst (IsRow c.args.job.now c.stop.new.job (Useto c.args.number c.args.block)) (sym c.stop.ensures.answered)
    (useto_stopped c.args.job.now c.args.number c.args.block c.in-Some.channel (sym c.channel.ensures
    ∙ c.in-Some.is) c.in-Some-output.output c.in-Some-output.is c.if-block-eq0.true c.stop.new.job c.stop.ensures.kept)

pub returns-then-block-eq0-clause-keeps : goal.returns-then-block-eq0-clause-keeps
returns-then-block-eq0-clause-keeps c pending =
    keeps_status c.args.job.now c.args.number c.args.block c.in-Some.channel (sym c.channel.ensures
    ∙ c.in-Some.is) pending c.stop.new.job _ c.stop.ensures.kept

pub returns-clause-row : goal.returns-clause-row
returns-clause-row c =
    useto_moved c.args.job.now c.args.number c.args.block c.in-Some.channel (sym c.channel.ensures
    ∙ c.in-Some.is) c.in-Some-output.output c.in-Some-output.is (omega arith) c.set_channel.new.self
    (c.set_channel.ensures
    ∙ ap (λ status. record c.args.job.now {
      channels = slice_set c.args.job.now.channels c.args.number
          (Some (record c.in-Some.channel {
            status = status;
            output = Some (record c.in-Some-output.output { next = c.args.block });
          }));
    }) c.cleared.ensures.value)

pub returns-clause-keeps : goal.returns-clause-keeps
returns-clause-keeps c pending =
    keeps_moved c.args.job.now c.args.number c.args.block c.in-Some.channel (sym c.channel.ensures
    ∙ c.in-Some.is) pending c.set_channel.new.self _ c.in-Some-output.output c.in-Some-output.is
    (omega arith) c.set_channel.ensures

pub returns-then-block-eq0-clause-reads : goal.returns-then-block-eq0-clause-reads
returns-then-block-eq0-clause-reads c live =
    reads_status c.args.job.now c.args.number c.args.block c.in-Some.channel (sym c.channel.ensures
    ∙ c.in-Some.is) live c.stop.new.job _ c.stop.ensures.kept

pub returns-clause-reads : goal.returns-clause-reads
returns-clause-reads c live =
    reads_moved c.args.job.now c.args.number c.args.block c.in-Some.channel (sym c.channel.ensures
    ∙ c.in-Some.is) live c.set_channel.new.self _ c.in-Some-output.output c.set_channel.ensures
