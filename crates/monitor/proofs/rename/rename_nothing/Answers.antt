use Rattle.std.proofs.Common.{refl, sym, ap, subst, ◌∙◌}
use Rattle.spec_machine.specs.declared.call.Call.TheVariants.{Rename}
use Rattle.spec_machine.specs.declared.call.Reply.TheVariants.{Refused}
use Rattle.monitor.specs.Common.{IsRow, reader_of}
use Rattle.monitor.proofs.common.CallRows.{keeps_same}
use Rattle.monitor.proofs.common.Changes.{keeps_core}
use Rattle.monitor.proofs.RenameFile.OutOfOrder.{rename_none, rename_outside, rename_refused}
use Rattle.monitor.proofs.rename.rename_nothing.Goals as goal

pub returns-in_default-clause-row : goal.returns-in_default-clause-row
returns-in_default-clause-row c = rename_none c.args.job.now c.args.number c.args.address (sym c.channel.ensures
    ∙ c.in_default.is)

pub returns-then-lies_outside-clause-row : goal.returns-then-lies_outside-clause-row
returns-then-lies_outside-clause-row c =
    rename_outside c.args.job.now c.args.number c.args.address c.in-Some._channel (sym c.channel.ensures
    ∙ c.in-Some.is) (sym c.lies_outside.ensures.value ∙ c.if-lies_outside.true)

pub returns-clause-row : goal.returns-clause-row
returns-clause-row c =
    let there = sym c.channel.ensures ∙ c.in-Some.is in
    subst (IsRow c.args.job.now (record c.args.job.now { core = c.refuse.new.core })
    (Rename c.args.number c.args.address)) (sym c.refuse.ensures.answered)
    (subst (λ core. IsRow c.args.job.now (record c.args.job.now { core = core }) (Rename c.args.number c.args.address)
    (Refused 5)) (sym c.refuse.ensures.kept)
    (rename_refused c.args.job.now c.args.number c.args.address c.in-Some._channel there (sym (ap reader_of there)
    ∙ c.requires.unread) (sym c.lies_outside.ensures.value ∙ c.if-lies_outside.false)))

pub returns-in_default-clause-keeps : goal.returns-in_default-clause-keeps
returns-in_default-clause-keeps c pending = keeps_same pending c.args.job.now

pub returns-then-lies_outside-clause-keeps : goal.returns-then-lies_outside-clause-keeps
returns-then-lies_outside-clause-keeps c pending = keeps_same pending c.args.job.now

pub returns-clause-keeps : goal.returns-clause-keeps
returns-clause-keeps c pending = keeps_core pending pending c.args.job.now c.refuse.new.core refl
