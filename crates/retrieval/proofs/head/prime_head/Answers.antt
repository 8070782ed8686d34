use Rattle.std.proofs.Common.{ℕ, ◌%◌, ◌^◌, subst, arith}
use Rattle.std.proofs.lemmas.List.{get_or_default}
use Rattle.retrieval.specs.Common.{IsAttributes}
use Rattle.retrieval.proofs.Spellings.{none_when}
use Rattle.retrieval.proofs.head.prime_head.Goals as goal

pub returns-in_err-attributes-clause-none : goal.returns-in_err-attributes-clause-none
returns-in_err-attributes-clause-none c =
    none_when c.from_residual.result _ c.from_residual.ensures
    (λ p count next head. c.in_err-attributes.ensures.none p.protection p.mode p.time (p.date % 2 ^ 12)
    (subst (λ (n : ℕ). IsAttributes n p.protection p.mode p.time (p.date % 2 ^ 12))
    (get_or_default c.args.block.now 3 0 c.index-block-3.result (let long = c.type_inv.block in
    omega arith)) head.attributes_are))
