use Rattle.std.proofs.Common.{◌≡◌, ◌+◌, ◌-◌, ℕ, length, take, drop, flat_map, Err, sym, ap, subst, ◌∙◌, eq-eqb, arith}
use Rattle.spec_image.specs.Common.{layout_number, run_blocks, RunsInSpace}
use Rattle.retrieval.specs.Common.{runs_of, with_length, IsBadPrime, VersionState}
use Rattle.retrieval.proofs.Stops.{prime_stuck}
use Rattle.retrieval.proofs.Spellings.{count_is, words_counted}
use Rattle.retrieval.proofs.read.start_version.Goals as goal

pub returns-in_default-follow-clause-bad : goal.returns-in_default-follow-clause-bad
returns-in_default-follow-clause-bad c k is =
    let head = c.in-Some.head in
    let tail = drop 16 c.args.block.now in
    let counted = count_is tail head.count
    (words_counted 16 112 c.args.block.now head.count c.told-block head.count_fits) in (
      cc,
      prime_stuck c.args.size (layout_number c.args.layout) c.args.block.now (with_length head.prime head.length)
          (runs_of (take head.count tail)) head.next c.in-Some.ensures.some c.in_default-follow.ensures.named
          (λ full inside. c.in_default-follow.ensures.none (eq-eqb head.count 112 (sym counted ∙ full)) inside),
    )

pub returns-in-Err-Outside-clause-bad : goal.returns-in-Err-Outside-clause-bad
returns-in-Err-Outside-clause-bad c k is =
    let head = c.in-Some.head in
    let tail = drop 16 c.args.block.now in
    let part : 16 + head.count - 16 ≡ head.count = omega arith in (
      cc,
      IsBadPrime.run_outside (with_length head.prime head.length) (runs_of (take head.count tail)) head.next
          c.in-Some.ensures.some
          (λ all. c.in-Err-Outside.ensures.outside (ap Err c.in-Err-Outside.field-0-is)
          (subst (λ (n : ℕ). RunsInSpace c.args.size (runs_of (take n tail))) (sym part) all)),
    )

pub returns-in-Err-TooMany-clause-bad : goal.returns-in-Err-TooMany-clause-bad
returns-in-Err-TooMany-clause-bad c k is =
    let head = c.in-Some.head in
    let tail = drop 16 c.args.block.now in
    let part : 16 + head.count - 16 ≡ head.count = omega arith in
    let none : length c.set_length.new.self.blocks ≡ 0 = ap (λ (v : VersionState). length v.blocks)
    (c.set_length.ensures ∙ ap (λ (v : VersionState). record v { words = head.length }) c.new-version.ensures) in
    let more = c.in-Err-TooMany.ensures.many (ap Err c.in-Err-TooMany.field-0-is) in
    let same = ap (λ (n : ℕ). length (flat_map run_blocks (runs_of (take n tail)))) part in
    let limit = c.blocks_of.ensures.value in (
      cc,
      IsBadPrime.too_many (with_length head.prime head.length) (runs_of (take head.count tail)) head.next
          c.in-Some.ensures.some (omega arith),
    )
