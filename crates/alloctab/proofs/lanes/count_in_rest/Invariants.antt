use Rattle.std.proofs.Common.{◌≡◌, ◌≤◌, ◌+◌, ◌*◌}
use Rattle.spec_image.specs.Common.{sum_below}
use Rattle.alloctab.specs.Common.{clear_bit}
use Rattle.alloctab.proofs.lanes.count_in_rest.Given as goal

abbrev pub invariant-loop-place : goal.invariant-loop-place
invariant-loop-place l = record {
  few : l.count ≤ 36 * l.place;
  counted : sum_below (clear_bit l.set l.held) (36 * l.from) + l.count
      ≡ sum_below (clear_bit l.set l.held) (36 * l.place);
}
