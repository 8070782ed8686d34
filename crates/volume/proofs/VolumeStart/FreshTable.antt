-- The table of a volume that was just made.
use Rattle.std.proofs.Common.{◌≡◌, ℕ, ◌+◌, ◌/◌, ◌≤◌, [], ◌∷◌, arith}
use Rattle.std.proofs.lemmas.Bool.Decides.{nat_tests}
use Rattle.spec_image.specs.Common.{times, IsVolumeSize, table_blocks, space_start, fixed}
use Rattle.volume.specs.Common.{bit_below, fresh_bit}

pub bit_below_few : (limit n : ℕ) → bit_below limit n ≤ 1
bit_below_few limit n = grind (arith, nat_tests)

pub fresh_bit_past : (size n : ℕ) → IsVolumeSize size → table_blocks size ≤ n / 4608 → fresh_bit size n ≡ 0
fresh_bit_past size n volume past =
    let small = volume.small in
    let behind : space_start size + 1 ≤ n = omega arith in
    grind (arith, nat_tests)

pub fresh_bit_is : (size n : ℕ) → fresh_bit size n ≡ fixed size n + (times n (space_start size ∷ []) + 0)
fresh_bit_is size n = grind (arith, nat_tests)
