use Rattle.std.proofs.Common.{◌≡◌, ◌++◌, map, take, drop, suc, None, sym, subst}
use Rattle.std.specs.FinMap.Entries.{find}
use Rattle.directory.specs.Common.{IsInserted}
use Rattle.directory.proofs.KeyPlaces.{left_rising, left_alone, index_set, seen_inside}
use Rattle.directory.proofs.order.rename_place.Goals as goal

pub enter-requires-clause-rising : goal.enter-requires-clause-rising
enter-requires-clause-rising g c =
    left_rising g.met.E.ChainEntry.total g.met.E.ChainEntry.exact (map g.E.ChainEntry.view c.args.list.now) c.args.place
    c.args.order.now.items c.leave.new.order.items
    (seen_inside g.E.ChainEntry.view c.args.list.now c.args.place c.requires.within) c.requires.index
    c.leave.ensures.left

pub enter-requires-clause-absent : goal.enter-requires-clause-absent
enter-requires-clause-absent g c =
    let items = map g.E.ChainEntry.view c.args.list.now in
    left_alone g.met.E.ChainEntry.total g.met.E.ChainEntry.exact items c.args.place
    c.args.order.now.items c.leave.new.order.items
    (seen_inside g.E.ChainEntry.view c.args.list.now c.args.place c.requires.within) c.requires.index
    c.leave.ensures.left
    c.key.result (subst (λ k. find g.E.ChainEntry.order k
    (take c.args.place items ++ drop (suc c.args.place) items) ≡ None)
    (sym c.key.ensures) c.requires.alone)

pub returns-clause-index : goal.returns-clause-index
returns-clause-index g c =
    let items = map g.E.ChainEntry.view c.args.list.now in
    index_set g.met.E.ChainEntry.total g.met.E.ChainEntry.exact items c.args.place
    (g.E.ChainEntry.view c.args.entry.now)
    c.args.order.now.items c.leave.new.order.items c.enter.new.order.items
    (seen_inside g.E.ChainEntry.view c.args.list.now c.args.place c.requires.within) c.requires.index
    c.leave.ensures.left
    (subst (λ k. IsInserted g.E.ChainEntry.order items k c.args.place c.leave.new.order.items c.enter.new.order.items)
    c.key.ensures c.enter.ensures.entered)
