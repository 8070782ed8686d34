use Rattle.std.proofs.Common.{subst, sym, arith}
use Rattle.alloctab.specs.Common.{IsTable, changed_blocks-le-most}
use Rattle.alloctab.specs.TableLaws.{sound-with_bit}
use Rattle.test_base.proofs.table_tests.the_last_block_of_each_table.Goals as goal

-- no more blocks are changed than a table has
pub changes-requires : goal.changes-requires
changes-requires g c =
    let most = changed_blocks-le-most c.set.new.self
    (subst IsTable (sym c.set.ensures.bits) (sound-with_bit _ _ _ c.is_free.ensures.sound)) in
    rw c.new-set.ensures (omega (arith, most))
