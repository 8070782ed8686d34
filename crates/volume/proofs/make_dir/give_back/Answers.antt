use Rattle.std.proofs.Common.{◌∙◌}
use Rattle.volume.proofs.common.Tables.{first_of, gives_back, gives_two}
use Rattle.volume.proofs.make_dir.give_back.Goals.{in-Some, in_default}
use Rattle.volume.proofs.make_dir.give_back.Goals as goal

pub returns : goal.returns
returns c before sound takes = elim c.match-fresh.branch [
  | in-Some w ↦ gives_two before c.args.fresh.directory w.in-Some.n c.args.fresh.master c.args.table.now
      c.match-fresh.table c.unhold-2.new.self w.in-Some.is sound takes (w.table-is
      ∙ w.unhold.ensures) c.unhold-2.ensures
  | in_default w ↦ gives_back before c.match-fresh.table c.unhold-2.new.self c.args.fresh.directory sound takes.0
      (w.table-is ∙ first_of before c.args.fresh.directory c.args.fresh.master c.args.table.now w.in_default.is takes)
      c.unhold-2.ensures
]
