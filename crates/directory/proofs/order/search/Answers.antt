use Rattle.std.proofs.Common.{map, slice_get, rules, of_calls}
use Rattle.std.proofs.lemmas.Fn.{always_returns_same}
use Rattle.directory.specs.Common.{order_to}
use Rattle.directory.proofs.KeyPlaces.{search_found, search_gap}
use Rattle.directory.proofs.order.search.Goals as goal

pub returns-clause-found : goal.returns-clause-found
returns-clause-found g c =
    let items = map g.E.ChainEntry.view c.args.list.now in
    search_found g.met.E.ChainEntry.total g.met.E.ChainEntry.exact items c.args.key.now c.args.order.now
    c.binary_search_by.result c.binary_search_by.ensures.bound
    (c.binary_search_by.ensures.position (λ p. order_to g.E.ChainEntry.order c.args.key.now (slice_get items p))
    (always_returns_same _ _ _ (λ a r f k. search (rules, of_calls))))

pub returns-clause-gap : goal.returns-clause-gap
returns-clause-gap g c =
    let items = map g.E.ChainEntry.view c.args.list.now in
    search_gap g.met.E.ChainEntry.total g.met.E.ChainEntry.exact items c.args.key.now c.args.order.now
    c.binary_search_by.result c.binary_search_by.ensures.bound c.requires
    (c.binary_search_by.ensures.position (λ p. order_to g.E.ChainEntry.order c.args.key.now (slice_get items p))
    (always_returns_same _ _ _ (λ a r f k. search (rules, of_calls))))
