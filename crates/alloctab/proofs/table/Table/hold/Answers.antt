use Rattle.std.proofs.Common.{◌+◌, true, true≢false, rules, arith}
use Rattle.alloctab.proofs.MemoryLaws.{kept_count}
use Rattle.alloctab.proofs.table.Table.hold.Goals as goal

pub invariant_of-self : goal.invariant_of-self
invariant_of-self c = kept_count _ _ _ _ _ _ c.self.invariant c.args.n (c.index_mut.result.now + 1) true
    c.put_bit.new.words.items c.self.inside.hint (search rules) c.put_bit.ensures (λ is. omega arith)
    (λ is. absurd (true≢false is)) (omega arith) (λ is clear. absurd (true≢false is))
