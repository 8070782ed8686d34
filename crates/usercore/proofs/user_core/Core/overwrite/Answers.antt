use Rattle.std.proofs.Common.{◌∙◌, length, subst, sym, arith, ap}
use Rattle.spec_machine.specs.Common.{after_writes, placed}
use Rattle.usercore.specs.Common.{IsCore}
use Rattle.usercore.proofs.WriteLaws.{overwritten, core_placed}
use Rattle.usercore.proofs.user_core.Core.overwrite.Goals as goal

pub invariant_of-self : goal.invariant_of-self
invariant_of-self c =
    subst IsCore (sym (overwritten c.self.inside.words.items c.args.words.now c.deref_mut.result.now
    c.copy_from_slice.new.self c.args.first c.self.inside.words.len
    (omega (arith, ap length c.self.view_is)) c.deref_mut.ensures.value
    c.copy_from_slice.ensures.after (omega arith)))
    (core_placed c.self.inside.words.items c.args.words.now c.args.first c.self.invariant c.see_words.ensures)

pub returns-clause-placed : goal.returns-clause-placed
returns-clause-placed c =
    overwritten c.self.inside.words.items c.args.words.now c.deref_mut.result.now
    c.copy_from_slice.new.self c.args.first c.self.inside.words.len
    (omega (arith, ap length c.self.view_is)) c.deref_mut.ensures.value
    c.copy_from_slice.ensures.after (omega arith)
    ∙ ap (λ core. after_writes core (placed c.args.first c.args.words.now)) c.self.view_is
