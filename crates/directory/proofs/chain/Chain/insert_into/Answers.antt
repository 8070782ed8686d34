use Rattle.std.proofs.Common.{◌≡◌, map, None, subst}
use Rattle.std.specs.FinMap.Entries.{find}
use Rattle.directory.proofs.Steps.{alone_at, replaced_items, replaced_map, appended_items, appended_map}
use Rattle.directory.proofs.chain.Chain.insert_into.Goals as goal

pub replace-requires-clause-alone : goal.replace-requires-clause-alone
replace-requires-clause-alone g c =
    let at = c.in-Some.ensures.found in
    alone_at g.met.E.ChainEntry.total g.E.ChainEntry.IsEntry g.E.ChainEntry.view c.args.self.now c.in-Some.i
    c.key.result
    at.0 c.args.entry c.find.ensures.sound at.1 c.key.ensures

pub returns-in-Some-clause-items : goal.returns-in-Some-clause-items
returns-in-Some-clause-items g c =
    let at = c.in-Some.ensures.found in
    replaced_items g.met.E.ChainEntry.total g.E.ChainEntry.IsEntry g.E.ChainEntry.view c.args.self.now
    c.replace.new.self
    c.in-Some.i c.key.result at.0 c.args.entry c.replace.ensures.done at.1 c.key.ensures

pub returns-in-Some-clause-map : goal.returns-in-Some-clause-map
returns-in-Some-clause-map g c =
    let at = c.in-Some.ensures.found in
    replaced_map g.met.E.ChainEntry.total g.E.ChainEntry.IsEntry g.E.ChainEntry.view c.args.self.now c.replace.new.self
    c.in-Some.i c.key.result at.0 c.args.entry c.replace.ensures.done at.1
    g.met.E.ChainEntry.exact c.key.ensures c.find.ensures.sound

pub returns-clause-items : goal.returns-clause-items
returns-clause-items g c =
    appended_items g.met.E.ChainEntry.total g.E.ChainEntry.IsEntry g.E.ChainEntry.view c.args.self.now
    c.append_into.new.self
    c.args.entry c.append_into.ensures.entries
    (subst (λ q. find g.E.ChainEntry.order q (map g.E.ChainEntry.view c.args.self.now.entries)
    ≡ None) c.key.ensures c.in_default.ensures.none)

pub returns-clause-map : goal.returns-clause-map
returns-clause-map g c =
    appended_map g.met.E.ChainEntry.total g.E.ChainEntry.IsEntry g.E.ChainEntry.view c.args.self.now
    c.append_into.new.self
    c.args.entry c.append_into.ensures.entries
    (subst (λ q. find g.E.ChainEntry.order q (map g.E.ChainEntry.view c.args.self.now.entries)
    ≡ None) c.key.ensures c.in_default.ensures.none)
    g.met.E.ChainEntry.exact
