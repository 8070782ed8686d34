use Rattle.retrieval.proofs.NewBlocks.{no_words}
use Rattle.retrieval.proofs.unchanged.unchanged_block.Goals as goal

pub returns-else-i-kept : goal.returns-else-i-kept
returns-else-i-kept c = no_words c.args.kept.now.place c.args.kept.now.words c.args.i c.if-i-kept.false
