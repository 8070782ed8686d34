use Rattle.std.proofs.Common.{ℕ, List, sym, ◌∙◌, ap}
use Rattle.alloctab.specs.Common.{TableState, bit, word_bit}
use Rattle.alloctab.proofs.FlagLaws.{bit_is}
use Rattle.alloctab.proofs.table.Table.is_set.Goals as goal

pub returns : goal.returns
returns c =
    c.has_bit.ensures ∙ ap (λ (l : List ℕ). word_bit l c.args.n) c.deref.ensures.value
    ∙ sym (bit_is c.self.inside.size c.self.inside.set.items c.self.invariant.past c.args.n)
    ∙ ap (λ (t : TableState). bit t c.args.n) c.self.view_is
