use Rattle.std.proofs.Common.{map}
use Rattle.directory.proofs.KeyPlaces.{stands_found, none_found}
use Rattle.directory.proofs.order.find_place.Goals as goal

pub returns-in-Ok-clause-found : goal.returns-in-Ok-clause-found
returns-in-Ok-clause-found g c =
    stands_found g.met.E.ChainEntry.total g.met.E.ChainEntry.exact (map g.E.ChainEntry.view c.args.list.now)
    c.args.order.now
    c.requires
    c.args.key.now c.in-Ok.at _ c.in-Ok.ensures.found

pub returns-in-Err-clause-none : goal.returns-in-Err-clause-none
returns-in-Err-clause-none g c =
    none_found g.met.E.ChainEntry.total g.met.E.ChainEntry.exact (map g.E.ChainEntry.view c.args.list.now)
    c.args.order.now c.requires
    c.args.key.now c.in-Err.field-0 c.in-Err.ensures.gap
