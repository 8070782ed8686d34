use Rattle.std.proofs.Common.{◌/◌, ◌∙◌, ap, subst, true, true≢false, rules, arith}
use Rattle.alloctab.specs.Common.{TableState, IsTable, bit, bit-taken}
use Rattle.alloctab.proofs.MemoryLaws.{kept_bit, with_bit_is, sound}
use Rattle.alloctab.proofs.table.Table.set.Goals as goal

pub invariant_of-self : goal.invariant_of-self
invariant_of-self c = kept_bit _ _ _ _ _ _ c.self.invariant c.args.n true c.put_bit.new.words.items c.self.inside.hint
    (c.args.n / 4608) (search rules) c.put_bit.ensures (omega arith) (λ is none. absurd (true≢false is))

pub returns-clause-bits : goal.returns-clause-bits
returns-clause-bits c = with_bit_is _ _ _ _ _ _ c.self.invariant c.self.inside.booked c.args.n true
    c.put_bit.new.words.items c.args.self.now (search rules) c.put_bit.ensures c.self.view_is

pub returns-clause-taken : goal.returns-clause-taken
returns-clause-taken c clear m =
    ap (λ (t : TableState). bit t m) (with_bit_is _ _ _ _ _ _ c.self.invariant c.self.inside.booked c.args.n true
    c.put_bit.new.words.items c.args.self.now (search rules) c.put_bit.ensures c.self.view_is)
    ∙ bit-taken c.args.self.now c.args.n
    (subst IsTable c.self.view_is (sound _ _ _ _ _ _ c.self.invariant c.self.inside.booked)) c.requires clear m
