use Rattle.std.proofs.Common.{map, slice_set, sym, ap, subst, ◌∙◌}
use Rattle.std.proofs.lemmas.List.{map-set}
use Rattle.directory.specs.Common.{IsIndex}
use Rattle.directory.proofs.entries.Entries.set.Goals as goal

pub invariant_of-self : goal.invariant_of-self
invariant_of-self g c = (
  subst (λ es. IsIndex g.E.ChainEntry.order es c.rename_place.new.order.items)
      (ap (λ es. slice_set (map g.E.ChainEntry.view es) c.args.i (g.E.ChainEntry.view c.args.entry))
      c.deref.ensures.value
      ∙ sym (map-set g.E.ChainEntry.view c.self.inside.list.items c.args.i c.args.entry)) c.rename_place.ensures.index,
  c.self.invariant.1,
  c.rename_place.ensures.places,
)
