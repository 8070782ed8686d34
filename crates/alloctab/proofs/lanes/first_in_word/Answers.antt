use Rattle.std.proofs.Common.{ap, arith}
use Rattle.std.specs.Int.Count.{count_leading_zeros}
use Rattle.alloctab.proofs.LaneLaws.{first_place}
use Rattle.alloctab.proofs.lanes.first_in_word.Goals as goal

pub overflow_sub-result-2 : goal.overflow_sub-result-2
overflow_sub-result-2 c = (first_place c.args.set c.args.held (count_leading_zeros 64 c.clear_bits.result) c.requires
    (omega arith) (ap (count_leading_zeros 64) c.clear_bits.ensures.value)).0

pub returns : goal.returns
returns c = (first_place c.args.set c.args.held (count_leading_zeros 64 c.clear_bits.result) c.requires
    (omega arith) (ap (count_leading_zeros 64) c.clear_bits.ensures.value)).1
