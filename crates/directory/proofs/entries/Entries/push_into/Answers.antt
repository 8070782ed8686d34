use Rattle.std.proofs.Common.{map, ◌∙◌}
use Rattle.std.specs.FinMap.Entries.{find}
use Rattle.directory.proofs.KeyPlaces.{nowhere_found, pushed_index}
use Rattle.directory.proofs.entries.Entries.push_into.Goals as goal

pub enter-requires-clause-absent : goal.enter-requires-clause-absent
enter-requires-clause-absent g c p there has =
    nowhere_found g.met.E.ChainEntry.total g.met.E.ChainEntry.exact (map g.E.ChainEntry.view c.deref.result.now)
    c.key.result
    ((λ j. find g.E.ChainEntry.order (c.key.ensures j)
    (map g.E.ChainEntry.view ((c.deref.ensures.value ∙ c.self.view_is) j)))
    ∙ c.requires.absent) p has

pub invariant_of-self : goal.invariant_of-self
invariant_of-self g c = (
  pushed_index g.met.E.ChainEntry.total g.met.E.ChainEntry.exact g.E.ChainEntry.view c.self.inside.list.items
      c.deref.result.now
      c.args.entry c.key.result c.len.result c.self.inside.order.items c.make_place.new.list.items
      c.enter.new.order.items c.deref.ensures.value c.key.ensures (c.len.ensures ∙ c.self.inside.list.ok.0)
      c.make_place.ensures.items c.self.invariant.0 c.enter.ensures.entered c.push_into.new.list.items
      c.push_into.ensures.items,
  c.push_into.ensures.places,
  c.enter.ensures.places,
)
