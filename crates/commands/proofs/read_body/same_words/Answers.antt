use Rattle.std.proofs.Common.{sym, ◌∙◌, arith}
use Rattle.commands.proofs.BodyLaws.{same_more, same_still, same_all}
use Rattle.commands.proofs.read_body.same_words.Goals.{then-eq, else-eq}
use Rattle.commands.proofs.read_body.same_words.Goals as goal

pub loop-place-preserved : goal.loop-place-preserved
loop-place-preserved c =
    elim c.if-eq.branch [
      | then-eq w ↦ (
        omega arith,
        same_more c.args.zeros.now c.args.ones.now c.loop-place.place c.index-zeros-place.result
            c.index-ones-place.result c.loop-place.count c.if-eq.count (omega arith) (omega arith)
            (sym c.eq.ensures ∙ w.if-eq.true) c.loop-place.invariant.1 w.count-is,
      )
      | else-eq w ↦ (
        omega arith,
        w.count-is ∙ same_still c.args.zeros.now c.args.ones.now c.loop-place.place c.index-zeros-place.result
            c.index-ones-place.result c.loop-place.count (omega arith) (omega arith)
            (sym c.eq.ensures ∙ w.if-eq.false) c.loop-place.invariant.1,
      )
    ]

pub returns-clause-value : goal.returns-clause-value
returns-clause-value c = same_all c.args.zeros.now c.args.ones.now c.loop-place.place c.loop-place.count
    (omega arith) (omega arith) c.loop-place.invariant.1
