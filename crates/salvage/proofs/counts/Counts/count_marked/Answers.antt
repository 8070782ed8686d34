use Rattle.std.proofs.Common.{◌<◌, ◌≤◌, ◌+◌, [], ◌∷◌, ℕ, List, length, take, sym, ap, subst, ◌∙◌, arith}
use Rattle.spec_image.specs.Common.{times}
use Rattle.alloctab.specs.Common.{digit_at}
use Rattle.salvage.proofs.CountLaws.{Adds, adds_on, adds_same}
use Rattle.salvage.proofs.MarkedCounts.{counted_all, counted_marked, counted_unmarked}
use Rattle.salvage.proofs.counts.Counts.count_marked.Goals.{then-is_marked, else-is_marked}
use Rattle.salvage.proofs.counts.Counts.count_marked.Goals as goal

pub loop-n-preserved : goal.loop-n-preserved
loop-n-preserved c =
    let marks = c.args.marks.now in
    let n = c.loop-n.n in
    let old = c.args.self.now in
    let before = c.loop-n.invariant in
    let long = ap length c.self.view_is in
    let inside : n < length marks
    = omega (arith, c.loop-n-test.true, c.len-n-end.ensures, c.self.inside.counts.ok, long, c.requires) in
    elim c.if-is_marked.branch [
      | then-is_marked w ↦ record {
        long = ap length w.self-is ∙ w.count.ensures.length ∙ before.long;
        counted = subst (λ (l : List ℕ). Adds old l (λ m. digit_at (take (n + 1) marks) m)) (sym w.self-is)
            (adds_on old c.loop-n.self w.count.new.self (λ m. digit_at (take n marks) m) (λ m. times m (n ∷ []))
            (λ m. digit_at (take (n + 1) marks) m) before.counted w.count.ensures.counted
            (counted_marked marks n inside (sym c.is_marked.ensures ∙ w.if-is_marked.true)));
      }
      | else-is_marked w ↦ record {
        long = ap length w.self-is ∙ before.long;
        counted = subst (λ (l : List ℕ). Adds old l (λ m. digit_at (take (n + 1) marks) m)) (sym w.self-is)
            (adds_same old c.loop-n.self (λ m. digit_at (take n marks) m) (λ m. digit_at (take (n + 1) marks) m)
            before.counted (counted_unmarked marks n inside (sym c.is_marked.ensures ∙ w.if-is_marked.false)));
      }
    ]

pub returns-clause-counted : goal.returns-clause-counted
returns-clause-counted c =
    let marks = c.args.marks.now in
    let n = c.loop-n.n in
    let long = ap length c.self.view_is in
    let past : length marks ≤ n
    = omega (arith, c.loop-n-test.false, c.len-n-end.ensures, c.self.inside.counts.ok, long, c.requires) in
    adds_same c.args.self.now c.loop-n.self (λ m. digit_at (take n marks) m) (λ m. digit_at marks m)
    c.loop-n.invariant.counted (counted_all marks n past)
