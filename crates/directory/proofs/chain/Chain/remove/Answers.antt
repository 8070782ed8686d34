use Rattle.directory.proofs.Steps.{removed_items, removed_map}
use Rattle.directory.proofs.chain.Chain.remove.Goals as goal

pub returns-clause-items : goal.returns-clause-items
returns-clause-items g c =
    let at = c.in-Some.ensures.found in
    removed_items g.met.E.ChainEntry.total g.E.ChainEntry.IsEntry g.E.ChainEntry.view c.args.self.now
    c.take_out.new.self
    c.in-Some.i c.args.key.now at.0 c.take_out.ensures.entries at.1

pub returns-clause-map : goal.returns-clause-map
returns-clause-map g c =
    let at = c.in-Some.ensures.found in
    removed_map g.met.E.ChainEntry.total g.E.ChainEntry.IsEntry g.E.ChainEntry.view c.args.self.now c.take_out.new.self
    c.in-Some.i c.args.key.now at.0 c.take_out.ensures.entries at.1 g.met.E.ChainEntry.exact c.find.ensures.sound
