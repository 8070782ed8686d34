use Rattle.std.proofs.Common.{◌∙◌, ◌*◌, ◌<◌, ◌^◌, arith}
use Rattle.words36.proofs.NineLaws.{number-lt, number_there}
use Rattle.words36.proofs.nines.pair_at.Goals as goal

low : (c : goal.After-read_uint128-number) → c.read_uint128-number.result < 2 ^ 72
low c =
    let is = c.read_uint128-number.ensures ∙ number_there c.args.bytes.now (9 * c.args.pair) (omega arith) in
    rw is (number-lt c.args.bytes.now (9 * c.args.pair) c.fits-bytes)

pub overflow_cast-number : goal.overflow_cast-number
overflow_cast-number c = omega (arith, low c)

pub from_bits-first-requires : goal.from_bits-first-requires
from_bits-first-requires c = omega (arith, low c)
