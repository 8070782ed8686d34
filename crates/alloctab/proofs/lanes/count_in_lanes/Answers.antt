use Rattle.std.proofs.Common.{ℕ, ◌+◌, ◌*◌, ◌<◌, ◌≤◌, ◌^◌, length, get_or, refl, sym, ◌∙◌, ap, subst, arith}
use Rattle.std.proofs.Common.{mod-eq_of_lt}
use Rattle.spec_image.specs.Common.{sum_below}
use Rattle.alloctab.specs.Common.{clear_bit}
use Rattle.alloctab.proofs.LaneLaws.{words_counted, sum_few, sum_fits}
use Rattle.alloctab.proofs.lanes.count_in_lanes.Goals as goal

pub returns-clause-count : goal.returns-clause-count
returns-clause-count c =
    let xs = c.clear_lanes.result in
    let long = c.clear_lanes.ensures.eight in
    let fits : (k : ℕ) → k < length xs → get_or xs k 0 < 2 ^ 36 = λ k below. c.clear_lanes.ensures.fits k
    (omega arith) in
    let f = clear_bit c.args.set.now c.args.held.now in
    ap (λ (n : ℕ). sum_below f (36 * c.args.from) + n) (sum_fits _ _ _ (λ a b h. mod-eq_of_lt h) (λ n h. refl)
    (λ n. refl) xs 0 fits (omega arith) ∙ omega arith)
    ∙ words_counted c.args.set.now c.args.held.now xs c.args.from
    (λ k below. c.clear_lanes.ensures.each k (omega arith)) fits
    ∙ ap (λ (n : ℕ). sum_below f (36 * (c.args.from + n))) long

pub returns-clause-few : goal.returns-clause-few
returns-clause-few c =
    let xs = c.clear_lanes.result in
    let long = c.clear_lanes.ensures.eight in
    let fits : (k : ℕ) → k < length xs → get_or xs k 0 < 2 ^ 36 = λ k below. c.clear_lanes.ensures.fits k
    (omega arith) in
    let few = sum_few xs fits in
    subst (λ (n : ℕ). n ≤ 288) (sym (sum_fits _ _ _ (λ a b h. mod-eq_of_lt h) (λ n h. refl) (λ n. refl) xs 0 fits
    (omega arith))) (omega arith)
