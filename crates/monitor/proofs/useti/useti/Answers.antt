use Rattle.std.proofs.Common.{sym, ap, ◌∙◌, subst, Some, slice_set, arith}
use Rattle.spec_machine.specs.declared.call.Call.TheVariants.{Useti}
use Rattle.spec_machine.specs.declared.call.Reply.TheVariants.{Refused}
use Rattle.monitor.specs.Common.{IsRow}
use Rattle.monitor.proofs.common.CallRows.{keeps_same}
use Rattle.monitor.proofs.OtherCalls.Usetis.{useti_none, useti_refused, useti_stopped, useti_moved, keeps_read}
use Rattle.monitor.proofs.OtherCalls.Usetis.{reads_at}
use Rattle.monitor.proofs.OtherCalls.Usetos.{keeps_status, reads_status}
use Rattle.monitor.proofs.useti.useti.Goals as goal

pub returns-in_default-clause-row : goal.returns-in_default-clause-row
returns-in_default-clause-row c = useti_none c.args.job.now c.args.number c.args.block (sym c.channel.ensures
    ∙ c.in_default.is)

pub returns-in_default-clause-keeps : goal.returns-in_default-clause-keeps
returns-in_default-clause-keeps c pending = keeps_same pending c.args.job.now

pub returns-in_default-input_side-clause-row : goal.returns-in_default-input_side-clause-row
returns-in_default-input_side-clause-row c =
    subst (λ code. IsRow c.args.job.now c.args.job.now (Useti c.args.number c.args.block) (Refused code))
    (sym c.number.ensures)
    (useti_refused c.args.job.now c.args.number c.args.block c.in-Some.channel (sym c.channel.ensures
    ∙ c.in-Some.is) (sym c.input_side.ensures ∙ c.in_default-input_side.is))

pub returns-in_default-input_side-clause-keeps : goal.returns-in_default-input_side-clause-keeps
returns-in_default-input_side-clause-keeps c pending = keeps_same pending c.args.job.now

pub returns-then-block-eq0-clause-row : goal.returns-then-block-eq0-clause-row
returns-then-block-eq0-clause-row c =
    subst (IsRow c.args.job.now c.stop.new.job (Useti c.args.number c.args.block)) (sym c.stop.ensures.answered)
    (useti_stopped c.args.job.now c.args.number c.args.block c.in-Some.channel (sym c.channel.ensures
    ∙ c.in-Some.is) c.in-Some-input_side.input (sym c.input_side.ensures
    ∙ c.in-Some-input_side.is) c.if-block-eq0.true c.stop.new.job c.stop.ensures.kept)

pub returns-then-block-eq0-clause-keeps : goal.returns-then-block-eq0-clause-keeps
returns-then-block-eq0-clause-keeps c pending =
    keeps_status c.args.job.now c.args.number c.args.block c.in-Some.channel (sym c.channel.ensures
    ∙ c.in-Some.is) pending c.stop.new.job _ c.stop.ensures.kept

pub returns-clause-row : goal.returns-clause-row
returns-clause-row c =
    useti_moved c.args.job.now c.args.number c.args.block c.in-Some.channel (sym c.channel.ensures
    ∙ c.in-Some.is) c.in-Some-input_side.input (sym c.input_side.ensures ∙ c.in-Some-input_side.is)
    (omega arith) c.set_channel.new.self
    (c.set_channel.ensures
    ∙ ap (λ status. record c.args.job.now {
      channels = slice_set c.args.job.now.channels c.args.number
          (Some (record c.in-Some.channel {
            status = status;
            input = Some (record c.in-Some-input_side.input { next = c.args.block });
          }));
    }) c.cleared.ensures.value)

pub returns-clause-keeps : goal.returns-clause-keeps
returns-clause-keeps c pending =
    keeps_read c.args.job.now c.args.number c.args.block c.in-Some.channel (sym c.channel.ensures
    ∙ c.in-Some.is) pending c.set_channel.new.self _ _ c.set_channel.ensures

pub returns-then-block-eq0-clause-reads : goal.returns-then-block-eq0-clause-reads
returns-then-block-eq0-clause-reads c live =
    reads_status c.args.job.now c.args.number c.args.block c.in-Some.channel (sym c.channel.ensures
    ∙ c.in-Some.is) live c.stop.new.job _ c.stop.ensures.kept

pub returns-clause-reads : goal.returns-clause-reads
returns-clause-reads c live =
    reads_at c.args.job.now c.args.number c.args.block c.in-Some.channel (sym c.channel.ensures
    ∙ c.in-Some.is) live c.set_channel.new.self _ c.in-Some-input_side.input (sym c.input_side.ensures
    ∙ c.in-Some-input_side.is) (omega arith) c.set_channel.ensures
