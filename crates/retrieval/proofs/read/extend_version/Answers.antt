use Rattle.std.proofs.Common.{◌≡◌, ◌+◌, ◌-◌, ℕ, inl, take, drop, Err, sym, ap, subst, ◌∙◌, eq-eqb, arith}
use Rattle.spec_image.specs.Common.{RunsInSpace}
use Rattle.retrieval.specs.Common.{runs_of, IsBadExtension}
use Rattle.retrieval.proofs.Stops.{extension_stuck}
use Rattle.retrieval.proofs.Spellings.{count_is, words_counted}
use Rattle.retrieval.proofs.read.extend_version.Goals as goal

pub returns-in_default-follow-clause-bad : goal.returns-in_default-follow-clause-bad
returns-in_default-follow-clause-bad c k is =
    let head = c.in-Some.head in
    let tail = drop 2 c.args.block.now in
    let counted = count_is tail head.count
    (words_counted 2 126 c.args.block.now head.count c.told-block head.count_fits) in
    inl (
      cc,
      extension_stuck c.args.size c.args.block.now (runs_of (take head.count tail)) head.next c.in-Some.ensures.some
          c.in_default-follow.ensures.named
          (λ full inside. c.in_default-follow.ensures.none (eq-eqb head.count 126 (sym counted ∙ full)) inside),
    )

pub returns-in-Err-Outside-clause-bad : goal.returns-in-Err-Outside-clause-bad
returns-in-Err-Outside-clause-bad c k is =
    let head = c.in-Some.head in
    let tail = drop 2 c.args.block.now in
    let part : 2 + head.count - 2 ≡ head.count = omega arith in
    inl (
      cc,
      IsBadExtension.run_outside (runs_of (take head.count tail)) head.next c.in-Some.ensures.some
          (λ all. c.in-Err-Outside.ensures.outside (ap Err c.in-Err-Outside.field-0-is)
          (subst (λ (n : ℕ). RunsInSpace c.args.size (runs_of (take n tail))) (sym part) all)),
    )
