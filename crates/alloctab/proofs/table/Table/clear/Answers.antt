use Rattle.std.proofs.Common.{◌+◌, ◌/◌, [], ◌∷◌, ◌∙◌, ap, subst, false, refl, rules}
use Rattle.std.proofs.lemmas.List.{get_or_read}
use Rattle.spec_image.specs.Common.{times}
use Rattle.alloctab.specs.Common.{TableState, IsTable, bit, bit-freed}
use Rattle.alloctab.proofs.MemoryLaws.{kept_bit, with_bit_is, sound}
use Rattle.alloctab.proofs.table.Table.clear.Goals as goal

pub invariant_of-self : goal.invariant_of-self
invariant_of-self c = kept_bit _ _ _ _ _ _ c.self.invariant c.args.n false c.put_bit.new.words.items
    c.lowered-self-inside.result (c.args.n / 4608) (search rules) c.put_bit.ensures c.lowered-self-inside.ensures.lower
    (λ is none. c.lowered-self-inside.ensures.free (get_or_read c.self.inside.counts.items c.args.n
    c.index.result.now (search rules) c.index.ensures 0 ∙ none) refl)

pub returns-clause-bits : goal.returns-clause-bits
returns-clause-bits c = with_bit_is _ _ _ _ _ _ c.self.invariant c.self.inside.booked c.args.n false
    c.put_bit.new.words.items c.args.self.now (search rules) c.put_bit.ensures c.self.view_is

pub returns-clause-freed : goal.returns-clause-freed
returns-clause-freed c used m =
    ap (λ (t : TableState). bit t m + times m (c.args.n ∷ []))
    (with_bit_is _ _ _ _ _ _ c.self.invariant c.self.inside.booked c.args.n false
    c.put_bit.new.words.items c.args.self.now (search rules) c.put_bit.ensures c.self.view_is)
    ∙ bit-freed c.args.self.now c.args.n
    (subst IsTable c.self.view_is (sound _ _ _ _ _ _ c.self.invariant c.self.inside.booked)) c.requires used m
