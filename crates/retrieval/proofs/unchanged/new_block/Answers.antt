use Rattle.std.proofs.Common.{rules, refl}
use Rattle.retrieval.proofs.NewBlocks.{new_of}
use Rattle.retrieval.proofs.unchanged.new_block.Goals as goal

pub returns : goal.returns
returns c =
    new_of c.args.at c.args.words.now c.args.kept.now.place c.args.kept.now.words c.args.i
    c.unchanged_block-block.result
    _ c.put_over.result (search rules) c.if-i-at.false c.requires.fits c.unchanged_block-block.ensures refl
    c.put_over.ensures
