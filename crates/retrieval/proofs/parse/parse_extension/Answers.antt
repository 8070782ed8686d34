use Rattle.std.proofs.Common.{ℕ, List, length, drop, sym, subst}
use Rattle.retrieval.specs.Common.{ArePointers}
use Rattle.retrieval.proofs.Spellings.{none_when, words_from, extension_spelled, extension_parts, extension_count}
use Rattle.retrieval.proofs.parse.parse_extension.Goals as goal

pub returns-in_err-head-clause-none : goal.returns-in_err-head-clause-none
returns-in_err-head-clause-none c =
    none_when c.from_residual.result _ c.from_residual.ensures
    (λ runs next s. c.in_err-head.ensures.none (length runs) next (extension_parts c.args.block.now runs next s).0)

pub returns-then-not-are_pointers-clause-none : goal.returns-then-not-are_pointers-clause-none
returns-then-not-are_pointers-clause-none c runs next s =
    let words = c.args.block.now in
    let head = c.in_ok-head.head in
    let parts = extension_parts words runs next s in
    let same = extension_count words head.count (length runs) head.next next c.in_ok-head.ensures.some parts.0 in
    let yes = c.are_pointers.ensures.1 (subst (λ (l : List ℕ). ArePointers l head.count) (sym (words_from 2 words))
    (subst (λ (n : ℕ). ArePointers (drop 2 words) n) same parts.1)) in
    cc

pub returns-clause-some : goal.returns-clause-some
returns-clause-some c =
    let head = c.in_ok-head.head in
    extension_spelled c.args.block.now head.count head.next c.told-block c.in_ok-head.ensures.some
    (subst (λ (l : List ℕ). ArePointers l head.count) (words_from 2 c.args.block.now)
    (c.are_pointers.ensures.0 (let e = c.if-not-are_pointers.false in cc)))
