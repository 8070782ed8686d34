use Rattle.std.proofs.Common.{◌≡◌, ◌≤◌, ◌*◌}
use Rattle.spec_image.specs.Common.{sum_below}
use Rattle.alloctab.specs.Common.{clear_bit}
use Rattle.alloctab.proofs.lanes.count_clear.Given as goal

abbrev pub invariant-loop-chunk : goal.invariant-loop-chunk
invariant-loop-chunk l = record {
  few : l.count ≤ 288 * l.chunk;
  counted : l.count ≡ sum_below (clear_bit l.set l.held) (36 * (8 * l.chunk));
}
