use Rattle.std.proofs.Common.{map, length, get_or, sym, subst, ap, ◌-◌, ◌≡◌, ◌∙◌, arith}
use Rattle.std.proofs.lemmas.List.{length-map, get_or_default}
use Rattle.directory.specs.Common.{IsIndex, IsLeft, IsInserted}
use Rattle.directory.proofs.KeyPlaces.{left_rising, left_others, left_twice, left_both, index_shorter, index_moved}
use Rattle.directory.proofs.KeyPlaces.{seen_inside, seen_swapped, last_seen, key_at}
use Rattle.directory.proofs.order.take_place.Goals as goal

pub returns-then-place-last-clause-index : goal.returns-then-place-last-clause-index
returns-then-place-last-clause-index g c x =
    let list = c.args.list.now in
    let items = map g.E.ChainEntry.view list in
    let many = length-map list g.E.ChainEntry.view in
    let h = c.requires.within in
    let last = c.if-place-last.true in
    subst (λ es. IsIndex g.E.ChainEntry.order es c.leave.new.order.items)
    (sym (seen_swapped g.E.ChainEntry.view list c.args.place x))
    (index_shorter g.met.E.ChainEntry.total g.met.E.ChainEntry.exact items c.args.place
    (g.E.ChainEntry.view (get_or list (length list - 1) x)) c.args.order.now.items c.leave.new.order.items
    (omega arith) (omega arith) c.requires.index c.leave.ensures.left)

pub leave-requires-2-clause-rising : goal.leave-requires-2-clause-rising
leave-requires-2-clause-rising g c =
    left_rising g.met.E.ChainEntry.total g.met.E.ChainEntry.exact (map g.E.ChainEntry.view c.args.list.now) c.args.place
    c.args.order.now.items c.leave.new.order.items
    (seen_inside g.E.ChainEntry.view c.args.list.now c.args.place c.requires.within) c.requires.index
    c.leave.ensures.left

pub leave-requires-2-clause-there : goal.leave-requires-2-clause-there
leave-requires-2-clause-there g c =
    let many = length-map c.args.list.now g.E.ChainEntry.view in
    left_others g.met.E.ChainEntry.total g.met.E.ChainEntry.exact (map g.E.ChainEntry.view c.args.list.now) c.args.place
    c.args.order.now.items c.leave.new.order.items
    (seen_inside g.E.ChainEntry.view c.args.list.now c.args.place c.requires.within) c.requires.index
    c.leave.ensures.left
    (length c.args.list.now - 1) (let h = c.requires.within in omega arith)
    (λ s. c.if-place-last.false (sym s))

pub enter-requires-clause-rising : goal.enter-requires-clause-rising
enter-requires-clause-rising g c =
    let items = map g.E.ChainEntry.view c.args.list.now in
    left_twice g.met.E.ChainEntry.total g.met.E.ChainEntry.exact items c.args.place c.args.order.now.items
    c.leave.new.order.items
    (seen_inside g.E.ChainEntry.view c.args.list.now c.args.place c.requires.within) c.requires.index
    c.leave.ensures.left
    (length c.args.list.now - 1) c.leave-2.new.order.items c.leave-2.ensures.left

pub enter-requires-clause-absent : goal.enter-requires-clause-absent
enter-requires-clause-absent g c =
    let list = c.args.list.now in
    let items = map g.E.ChainEntry.view list in
    let h = c.requires.within in
    let many = length-map list g.E.ChainEntry.view in
    let own = key_at g.E.ChainEntry.order g.E.ChainEntry.view list (length list - 1) c.index-list-last.result
    c.key.result
    (omega arith) c.index-list-last.is c.key.ensures in
    left_both g.met.E.ChainEntry.total g.met.E.ChainEntry.exact items c.args.place c.args.order.now.items
    c.leave.new.order.items
    (seen_inside g.E.ChainEntry.view list c.args.place c.requires.within) c.requires.index c.leave.ensures.left
    (length list - 1) c.leave-2.new.order.items (c.key.result, own.0) (omega arith) own.1
    (λ s. c.if-place-last.false (sym s)) c.leave-2.ensures.left

pub returns-clause-index : goal.returns-clause-index
returns-clause-index g c x =
    let list = c.args.list.now in
    let items = map g.E.ChainEntry.view list in
    let many = length-map list g.E.ChainEntry.view in
    let h = c.requires.within in
    let e = g.E.ChainEntry.view (get_or list (length list - 1) x) in
    let same_last : length items - 1 ≡ length list - 1 = omega arith in
    let key : c.key.result ≡ e.0 = c.key.ensures
    ∙ ap (λ y. (g.E.ChainEntry.view y).0) (c.index-list-last.is
    ∙ get_or_default list (length list - 1) c.index-list-last.result x (omega arith)) in
    subst (λ es. IsIndex g.E.ChainEntry.order es c.enter.new.order.items)
    (sym (seen_swapped g.E.ChainEntry.view list c.args.place x))
    (index_moved g.met.E.ChainEntry.total g.met.E.ChainEntry.exact items c.args.place e c.args.order.now.items
    c.leave.new.order.items c.leave-2.new.order.items c.enter.new.order.items
    (omega arith) (λ s. c.if-place-last.false (s ∙ same_last)) (last_seen g.E.ChainEntry.view list x (omega arith))
    c.requires.index c.leave.ensures.left
    (subst (λ n. IsLeft n c.leave.new.order.items c.leave-2.new.order.items) (sym same_last) c.leave-2.ensures.left)
    (subst (λ k. IsInserted g.E.ChainEntry.order items k c.args.place c.leave-2.new.order.items c.enter.new.order.items)
    key
    c.enter.ensures.entered))
