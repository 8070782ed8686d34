use Rattle.volume.specs.Common.{fresh_list}
use Rattle.volume.proofs.common.Tables.{changed_few, puts_table}
use Rattle.volume.proofs.make_dir.use_blocks.Goals as goal

pub changes-requires : goal.changes-requires
changes-requires c =
    let before = c.requires.taken in
    changed_few before.0 c.bring.new.table (fresh_list c.args.fresh) _
    (c.bring.ensures before.0 before.1 before.2) c.requires.room

pub returns-clause-put : goal.returns-clause-put
returns-clause-put c before sound takes =
    puts_table before c.bring.new.table c.changes.new.self (fresh_list c.args.fresh) c.args.set.now c.changes.new.set
    (c.bring.ensures before sound takes) c.changes.ensures.done
    c.changes.ensures.others c.changes.ensures.spells c.changes.ensures.in_range c.changes.ensures.few
