use Rattle.std.proofs.Common.{◌≡◌, map, Some, slice_get, refl, subst, arith}
use Rattle.std.proofs.lemmas.Option.{slice_get_within}
use Rattle.directory.specs.Common.{IsGap}
use Rattle.directory.proofs.Orders.{times_at}
use Rattle.directory.proofs.KeyPlaces.{rising_inside, inside_seen, gap_none, key_at, same_place}
use Rattle.directory.proofs.order.leave.Goals as goal

pub offset_bounds-list-place : goal.offset_bounds-list-place
offset_bounds-list-place g c =
    let h = inside_seen g.E.ChainEntry.view c.args.list.now c.args.place (rising_inside g.E.ChainEntry.order
    (map g.E.ChainEntry.view c.args.list.now) c.args.order.now.items c.requires.rising c.args.place c.requires.there) in
    omega arith

pub bounds-list-place : goal.bounds-list-place
bounds-list-place g c = inside_seen g.E.ChainEntry.view c.args.list.now c.args.place (rising_inside g.E.ChainEntry.order
    (map g.E.ChainEntry.view c.args.list.now) c.args.order.now.items c.requires.rising c.args.place c.requires.there)

pub remove-requires : goal.remove-requires
remove-requires g c = let found = c.in-Ok.ensures.found in
    let h = slice_get_within c.deref.result.now c.in-Ok.at found.0 found.1 in
    let e = c.deref.ensures.len in omega arith

pub unreachable-requires : goal.unreachable-requires
unreachable-requires g c =
    let items = map g.E.ChainEntry.view c.args.list.now in
    let inside = inside_seen g.E.ChainEntry.view c.args.list.now c.args.place (rising_inside g.E.ChainEntry.order
    items c.args.order.now.items c.requires.rising c.args.place c.requires.there) in
    gap_none g.met.E.ChainEntry.total g.met.E.ChainEntry.exact items c.key-key.result c.args.order.now.items
    c.in-Err.field-0
    (subst (λ ps. IsGap g.E.ChainEntry.order items c.key-key.result ps c.in-Err.field-0) c.deref.ensures.value
    c.in-Err.ensures.gap) c.args.place c.requires.there
    (key_at g.E.ChainEntry.order g.E.ChainEntry.view c.args.list.now c.args.place c.index-list-place.result
    c.key-key.result
    inside
    c.index-list-place.is c.key-key.ensures)

pub returns-clause-left : goal.returns-clause-left
returns-clause-left g c =
    let items = map g.E.ChainEntry.view c.args.list.now in
    let order = c.args.order.now.items in
    let inside = inside_seen g.E.ChainEntry.view c.args.list.now c.args.place (rising_inside g.E.ChainEntry.order
    items order c.requires.rising c.args.place c.requires.there) in
    let found = c.in-Ok.ensures.found in
    let was = subst (λ ps. slice_get ps c.in-Ok.at ≡ Some found.0) c.deref.ensures.value found.1 in
    let here = found.2 in
    let own = key_at g.E.ChainEntry.order g.E.ChainEntry.view c.args.list.now c.args.place c.index-list-place.result
    c.key-key.result inside c.index-list-place.is c.key-key.ensures in
    let same : found.0 ≡ c.args.place = same_place g.met.E.ChainEntry.total items order c.requires.rising found.0
    c.args.place
    (times_at order c.in-Ok.at found.0 was) c.requires.there (c.key-key.result, here.0) (c.key-key.result, own.0)
    here.1 own.1 refl in
    record {
      at = c.in-Ok.at;
      was = subst (λ p. slice_get order c.in-Ok.at ≡ Some p) same was;
      is = c.remove.ensures.items;
    }
