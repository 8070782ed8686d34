-- The bits of a table, in memory and on the disk.
use Rattle.std.proofs.Common.{◌≡◌, ℕ, ◌+◌, ◌*◌, ◌/◌, ◌<◌, ◌≤◌, Bool, true, false, cond, refl}
use Rattle.std.proofs.Common.{ap, arith, ltb, ltb-true}
use Rattle.blockdisk.specs.Common.{Contents}
use Rattle.spec_image.specs.Common.{table_blocks, table_start, bit_in, table_bit}
use Rattle.alloctab.specs.Common.{flag_at, TableState, bit}
use Rattle.alloctab.proofs.WordLaws.{digit_few}
use Rattle.spec_image.proofs.Common.{fixed_below}
use Rattle.retrieval.specs.Common.{IsFixed}
use Rattle.volume.specs.Common.{CurrentMap, IsWholeMap}

pub bit_few : (t : TableState) (n : ℕ) → bit t n ≤ 1
bit_few t n = digit_few (flag_at t.bits n)

pub whole_fixed : (size : ℕ) (k : CurrentMap) → IsWholeMap size k → IsFixed k.table
whole_fixed size k whole n below =
    let fixed = fixed_below size n (let e = whole.size_is in omega arith) in
    let few = bit_few k.table n in
    let is = whole.bits n in
    omega arith

-- the bits, if the blocks of the table stay
pub bits_same : (size : ℕ) (old new : Contents) → ((i : ℕ) → i < table_blocks size
    → new (table_start size + i) ≡ old (table_start size + i)) → (n : ℕ) → table_bit size new n ≡ table_bit size old n
bits_same size old new same n = by_case (ltb n (4608 * table_blocks size)) refl
  where
    by_case : (b : Bool) → ltb n (4608 * table_blocks size) ≡ b
        → cond b (bit_in (new (table_start size + n / 4608)) n) 0
        ≡ cond b (bit_in (old (table_start size + n / 4608)) n) 0
    by_case true e = ap (λ o. bit_in o n) (same (n / 4608) (let h = ltb-true n (4608 * table_blocks size) e in
        omega arith))
    by_case false e = refl
