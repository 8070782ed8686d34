use Rattle.std.proofs.Common.{◌+◌, ◌∙◌, ap, subst, arith}
use Rattle.alloctab.specs.Common.{TableState, IsFree}
use Rattle.alloctab.proofs.SpaceLaws.{space_used}
use Rattle.alloctab.proofs.MemoryLaws.{kept_raised, taken_not_free}
use Rattle.alloctab.proofs.table.Table.take.Goals as goal

pub invariant_of-self : goal.invariant_of-self
invariant_of-self c =
    let n = c.in_ok-n.n in
    let now = c.self.view_is ∙ c.hold.ensures in
    let size = ap (λ (t : TableState). t.size) now in
    let inside = c.in_ok-n.ensures.free.0 in
    kept_raised _ _ _ _ _ _ c.self.invariant c.self.inside.booked (n + 1) (omega arith) (λ m below free.
    taken_not_free c.args.self.now n c.in_ok-n.ensures.sound inside c.in_ok-n.ensures.lowest m below
    (subst (λ (t : TableState). IsFree t m) now free))

pub returns-in_err-n-clause-booked : goal.returns-in_err-n-clause-booked
returns-in_err-n-clause-booked c fewer fits = absurd
    (let all = space_used c.args.self.now c.lowest_free.ensures.sound c.in_err-n.ensures.none in omega arith)
