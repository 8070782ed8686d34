use Rattle.std.proofs.Common.{◌≡◌, ◌+◌, List, Bool, sym, ap, subst, ◌∙◌, arith}
use Rattle.spec_image.specs.Common.{bit_of}
use Rattle.alloctab.specs.Common.{digit}
use Rattle.salvage.proofs.FreeTables.{MarksTo, marks_all, marks_more, marks_none, marks_skip}
use Rattle.salvage.proofs.free.mark_free.Goals.{then-not-is_set, else-not-is_set}
use Rattle.salvage.proofs.free.mark_free.Goals as goal

pub loop-n-init : goal.loop-n-init
loop-n-init c = marks_none c.args.size c.args.i c.args.words.now c.args.free.now

pub mark-requires : goal.mark-requires
mark-requires c =
    omega (arith, c.loop-n-test.true, c.min-n-end.ensures, c.loop-n.invariant.long, c.requires.long)

pub loop-n-preserved : goal.loop-n-preserved
loop-n-preserved c =
    let n = c.loop-n.n in
    let words = c.args.words.now in
    let To : List Bool → Type 0 = λ l. MarksTo c.args.size c.args.i words c.args.free.now l (n + 1) in
    elim c.if-not-is_set.branch [
      | then-not-is_set w ↦ marks_more c.args.size c.args.i words c.args.free.now c.loop-n.free n c.loop-n.invariant
          c.if-not-is_set.free (w.free-is ∙ w.mark.ensures.marked)
          (omega (arith, c.loop-n-test.true, c.min-n-end.ensures, c.loop-n.auto.n))
          (omega (arith, c.loop-n-test.true, c.min-n-end.ensures, c.loop-n.invariant.long, c.requires.long))
          (sym c.is_set.ensures ∙ ap digit w.if-not-is_set.true)
      | else-not-is_set w ↦ subst To (sym w.free-is) (marks_skip c.args.size c.args.i words c.args.free.now
          c.loop-n.free n c.loop-n.invariant
          (λ zero. let one : bit_of words n ≡ 1 = sym c.is_set.ensures ∙ ap digit w.if-not-is_set.false in omega arith))
    ]

pub returns-clause-marked : goal.returns-clause-marked
returns-clause-marked c =
    marks_all c.args.size c.args.i c.args.words.now c.args.free.now c.loop-n.free c.loop-n.n c.loop-n.invariant
    (λ k below here. omega (arith, c.loop-n-test.false, c.min-n-end.ensures))

pub returns-clause-long : goal.returns-clause-long
returns-clause-long c = c.loop-n.invariant.long
