use Rattle.std.proofs.Common.{ℕ, List, length, drop, sym, subst}
use Rattle.spec_image.specs.Common.{layout_number}
use Rattle.retrieval.specs.Common.{ArePointers, with_length}
use Rattle.retrieval.proofs.Spellings.{none_when, words_from, prime_spelled, prime_parts, prime_count}
use Rattle.retrieval.proofs.parse.parse_prime.Goals as goal

pub returns-in_err-head-clause-none : goal.returns-in_err-head-clause-none
returns-in_err-head-clause-none c =
    none_when c.from_residual.result _ c.from_residual.ensures (λ p runs next s. c.in_err-head.ensures.none p
    (length runs) next (prime_parts (layout_number c.args.layout) c.args.block.now p runs next s).0)

pub returns-then-not-are_pointers-clause-none : goal.returns-then-not-are_pointers-clause-none
returns-then-not-are_pointers-clause-none c p runs next s =
    let layout = layout_number c.args.layout in
    let words = c.args.block.now in
    let head = c.in_ok-head.head in
    let parts = prime_parts layout words p runs next s in
    let same = prime_count layout words (with_length head.prime head.length) p head.count
    (length runs) head.next next c.in_ok-head.ensures.some parts.0 in
    let yes = c.are_pointers.ensures.1 (subst (λ (l : List ℕ). ArePointers l head.count) (sym (words_from 16 words))
    (subst (λ (n : ℕ). ArePointers (drop 16 words) n) same parts.1)) in
    cc

pub returns-clause-some : goal.returns-clause-some
returns-clause-some c =
    let layout = layout_number c.args.layout in
    let head = c.in_ok-head.head in
    prime_spelled layout c.args.block.now (with_length head.prime head.length) head.count head.next c.told-block
    c.in_ok-head.ensures.some (subst (λ (l : List ℕ). ArePointers l head.count) (words_from 16 c.args.block.now)
    (c.are_pointers.ensures.0 (let e = c.if-not-are_pointers.false in cc)))
