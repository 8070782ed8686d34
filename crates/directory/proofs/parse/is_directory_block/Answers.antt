use Rattle.std.proofs.Common.{sym}
use Rattle.directory.proofs.BlockEntries.{block_spelled, zeros_of}
use Rattle.directory.proofs.parse.is_directory_block.Goals as goal

pub returns-then-are_entries-clause-yes : goal.returns-then-are_entries-clause-yes
returns-then-are_entries-clause-yes g c is =
    block_spelled g.E.ChainEntry.words_of g.met.E.ChainEntry.apart g.E.ChainEntry.IsEntry c.args.block.now
    c.bits-count.result
    c.index-block-1.result c.told-block c.if-count.false (sym c.bits-count.ensures.value)
    (c.are_entries.ensures.yes c.if-are_entries.true) (c.are_zeros.ensures.0 is)

pub returns-then-are_entries-clause-no : goal.returns-then-are_entries-clause-no
returns-then-are_entries-clause-no g c next es s =
    c.are_zeros.ensures.1
    (zeros_of g.E.ChainEntry.words_of g.met.E.ChainEntry.apart g.E.ChainEntry.IsEntry c.args.block.now
    next es c.index-block-1.result c.bits-count.result c.told-block s (sym c.bits-count.ensures.value))
