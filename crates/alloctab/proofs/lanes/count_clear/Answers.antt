use Rattle.std.proofs.Common.{◌≡◌, ◌*◌, ◌/◌, length, ap, arith}
use Rattle.spec_image.specs.Common.{sum_below}
use Rattle.alloctab.specs.Common.{clear_bit}
use Rattle.alloctab.proofs.LaneLaws.{clear_few}
use Rattle.alloctab.proofs.lanes.count_clear.Goals as goal

pub overflow_add-result : goal.overflow_add-result
overflow_add-result c =
    let set = c.args.set.now in
    let few = clear_few set c.args.held.now (36 * length set) in
    let at : 36 * (8 * c.loop-chunk.chunk) ≡ 36 * (length set / 8 * 8) = omega arith in
    let here = ap (sum_below (clear_bit set c.args.held.now)) at in
    omega (arith, c.count_in_rest.ensures)
