use Rattle.directory.specs.Common.{viewed, chain_stands, chain_read, on_kept}
use Rattle.directory.proofs.laws.chain_stands.Goals as goal

pub returns-clause-stands : goal.returns-clause-stands
returns-clause-stands g c contents on = chain_stands g.E.ChainEntry.words_of g.E.ChainEntry.IsEntry contents
    (viewed g.E.ChainEntry.view c.args.chain.now) c.blocks-blocks.ensures.sound on

pub returns-clause-read : goal.returns-clause-read
returns-clause-read g c contents on = chain_read g.E.ChainEntry.words_of g.E.ChainEntry.IsEntry contents
    (viewed g.E.ChainEntry.view c.args.chain.now) c.blocks-blocks.ensures.sound on

pub returns-clause-kept : goal.returns-clause-kept
returns-clause-kept g c old new on agree = on_kept g.E.ChainEntry.words_of old new
    (viewed g.E.ChainEntry.view c.args.chain.now) on agree
