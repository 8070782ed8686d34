use Rattle.std.proofs.Common.{map, sym, ap, subst, ◌∙◌, arith}
use Rattle.directory.specs.Common.{IsIndex}
use Rattle.directory.proofs.SortedEntries.{listed_whole, listed_more, place_inside}
use Rattle.directory.proofs.chain.Chain.list_sorted.Goals as goal

pub bounds-entries-place : goal.bounds-entries-place
bounds-entries-place g c =
    place_inside g.E.ChainEntry.order g.E.ChainEntry.view c.entries-entries.result.now c.places-place-items.result.now
    c.loop-place.place-index 0
    (subst (λ es. IsIndex g.E.ChainEntry.order (map g.E.ChainEntry.view es) c.places-place-items.result.now)
    (ap (λ s. s.entries) c.self.view_is ∙ sym c.entries-entries.ensures.value) c.places-place-items.ensures)
    c.loop-place-test.true

pub offset_bounds-entries-place : goal.offset_bounds-entries-place
offset_bounds-entries-place g c =
    let h = place_inside g.E.ChainEntry.order g.E.ChainEntry.view c.entries-entries.result.now
    c.places-place-items.result.now
    c.loop-place.place-index 0
    (subst (λ es. IsIndex g.E.ChainEntry.order (map g.E.ChainEntry.view es) c.places-place-items.result.now)
    (ap (λ s. s.entries) c.self.view_is ∙ sym c.entries-entries.ensures.value) c.places-place-items.ensures)
    c.loop-place-test.true in
    omega arith

pub loop-place-preserved : goal.loop-place-preserved
loop-place-preserved g c =
    listed_more c.entries-entries.result.now c.places-place-items.result.now c.loop-place.place-index
    c.index-entries-place.result c.loop-place.list.items c.push.new.self.items c.loop-place-test.true
    (place_inside g.E.ChainEntry.order g.E.ChainEntry.view c.entries-entries.result.now c.places-place-items.result.now
    c.loop-place.place-index 0
    (subst (λ es. IsIndex g.E.ChainEntry.order (map g.E.ChainEntry.view es) c.places-place-items.result.now)
    (ap (λ s. s.entries) c.self.view_is ∙ sym c.entries-entries.ensures.value) c.places-place-items.ensures)
    c.loop-place-test.true)
    c.index-entries-place.is c.loop-place.invariant c.in-Ok.ensures.items

pub returns : goal.returns
returns g c =
    listed_whole g.met.E.ChainEntry.total g.met.E.ChainEntry.exact g.E.ChainEntry.view c.args.self.now.entries
    c.entries-entries.result.now c.places-place-items.result.now c.loop-place.place-index c.loop-place.list.items
    (subst (λ es. IsIndex g.E.ChainEntry.order (map g.E.ChainEntry.view es) c.places-place-items.result.now)
    (ap (λ s. s.entries) c.self.view_is) c.places-place-items.ensures)
    c.entries-entries.ensures.value c.loop-place-test.false c.loop-place.invariant
