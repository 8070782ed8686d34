use Rattle.volume.proofs.common.Tables.{second_booked}
use Rattle.volume.proofs.make_dir.take_blocks.Goals as goal

pub take_block-requires-clause-used : goal.take_block-requires-clause-used
take_block-requires-clause-used c =
    second_booked c.args.table.now c.take_block-directory.new.self c.take_block-directory.result c.args.grows
    c.if-not-grows.false c.requires.sound c.requires.fixed
    c.take_block-directory.ensures.free.0 c.take_block-directory.ensures.free.1 c.take_block-directory.ensures.held
    c.requires.used
