use Rattle.std.proofs.Common.{◌∙◌}
use Rattle.volume.proofs.common.Tables.{uses_one, uses_two}
use Rattle.volume.proofs.make_dir.bring.Goals.{in-Some, in_default}
use Rattle.volume.proofs.make_dir.bring.Goals as goal

pub returns : goal.returns
returns c before sound takes = elim c.match-fresh.branch [
  | in-Some w ↦ uses_two before c.args.fresh.directory w.in-Some.n c.args.fresh.master c.args.table.now
      c.match-fresh.table c.use_block-2.new.table w.in-Some.is sound takes (w.table-is
      ∙ w.use_block.ensures) c.use_block-2.ensures
  | in_default w ↦ uses_one before c.args.fresh.directory c.args.fresh.master c.args.table.now c.match-fresh.table
      c.use_block-2.new.table w.in_default.is sound takes w.table-is c.use_block-2.ensures
]
