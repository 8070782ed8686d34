use Rattle.directory.proofs.Images.{entry_put}
use Rattle.directory.proofs.image.block_image.Goals as goal

pub loop-i-preserved : goal.loop-i-preserved
loop-i-preserved g c =
    entry_put g.E.ChainEntry.view g.E.ChainEntry.words_of g.met.E.ChainEntry.apart c.args.entries.now c.loop-i.i
    c.index-entries-i.result _ _ _ _ _ c.requires c.loop-i-test.true c.loop-i.invariant c.index-entries-i.is
    c.words.ensures.value c.put_words.ensures
