use Rattle.directory.proofs.Steps.{alone_either, renamed_items, renamed_map}
use Rattle.directory.proofs.chain.Chain.rename.Goals as goal

pub replace-requires-clause-alone : goal.replace-requires-clause-alone
replace-requires-clause-alone g c =
    let at = c.in-Some.ensures.found in
    alone_either g.met.E.ChainEntry.total g.E.ChainEntry.IsEntry g.E.ChainEntry.view c.args.self.now c.in-Some.i
    c.args.key.now
    at.0 c.args.entry c.find.ensures.sound at.1 c.requires.free

pub returns-clause-items : goal.returns-clause-items
returns-clause-items g c =
    let at = c.in-Some.ensures.found in
    renamed_items g.met.E.ChainEntry.total g.E.ChainEntry.IsEntry g.E.ChainEntry.view c.args.self.now c.replace.new.self
    c.in-Some.i c.args.key.now at.0 c.args.entry c.replace.ensures.done at.1

pub returns-clause-map : goal.returns-clause-map
returns-clause-map g c =
    let at = c.in-Some.ensures.found in
    renamed_map g.met.E.ChainEntry.total g.E.ChainEntry.IsEntry g.E.ChainEntry.view c.args.self.now c.replace.new.self
    c.in-Some.i c.args.key.now at.0 c.args.entry c.replace.ensures.done at.1 g.met.E.ChainEntry.exact
    (alone_either g.met.E.ChainEntry.total g.E.ChainEntry.IsEntry g.E.ChainEntry.view c.args.self.now c.in-Some.i
    c.args.key.now
    at.0 c.args.entry c.find.ensures.sound at.1 c.requires.free) c.find.ensures.sound
