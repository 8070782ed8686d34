use Rattle.std.proofs.Common.{ℕ, ◌-◌, List, ltb, ltb-true, ltb-false, ◌∙◌, ap, rules, arith}
use Rattle.alloctab.specs.Common.{word_bit}
use Rattle.alloctab.proofs.FlagLaws.{no_digit}
use Rattle.alloctab.proofs.MemoryLaws.{kept_count}
use Rattle.alloctab.proofs.table.Table.unhold.Goals as goal

pub invariant_of-self : goal.invariant_of-self
invariant_of-self c =
    let left = c.index.result.now - 1 in
    kept_count _ _ _ _ _ _ c.self.invariant c.args.n left (ltb 0 left) c.put_bit.new.words.items
    c.lowered-self-inside.result (search rules) c.put_bit.ensures (ltb-true 0 left)
    (λ is. let none = ltb-false 0 left is in omega arith) c.lowered-self-inside.ensures.lower
    (λ is clear. c.lowered-self-inside.ensures.free (let none = ltb-false 0 left is in omega arith)
    (no_digit c.has_bit-is_set.result (c.has_bit-is_set.ensures
    ∙ ap (λ (l : List ℕ). word_bit l c.args.n) c.deref.ensures.value ∙ clear)))
