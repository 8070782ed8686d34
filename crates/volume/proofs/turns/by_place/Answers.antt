use Rattle.std.proofs.Common.{rules, ap, sym, ◌∙◌, ◌++◌, map}
use Rattle.std.proofs.lemmas.List.Sorted.{IsNonDecreasingBy-from_sort, answers_always}
use Rattle.volume.proofs.VolumeStart.ReadTurns.{none_left, place_put, placed_in_order}
use Rattle.volume.proofs.turns.by_place.Goals as goal

pub loop-stored-init : goal.loop-stored-init
loop-stored-init c =
    ap (λ l. l ++ map (λ p. p.stored) c.into_iter-stored-iterator.result.rest.items) c.in_ok-versions.ensures.items

pub loop-stored-preserved : goal.loop-stored-preserved
loop-stored-preserved c =
    place_put (λ p. p.stored) c.loop-stored.versions.items c.push.new.self.items
    (map (λ p. p.stored) c.into_iter-stored-iterator.result.rest.items) c.in-Some.field-0
    c.loop-stored.stored-iterator.rest.items c.next.new.self.rest.items (search rules) c.in-Some.ensures.steps.0
    c.loop-stored.invariant

pub returns : goal.returns
returns c =
    let sorted = c.sort_unstable_by_key.new.self.items in
    placed_in_order c.args.placed.items sorted c.loop-stored.versions.items c.requires
    c.sort_unstable_by_key.ensures.permutation
    (IsNonDecreasingBy-from_sort (λ p. p.place) sorted
    (c.sort_unstable_by_key.ensures.sorted (λ p. p.place) (answers_always _ _ _ (λ f a r g h. search rules))))
    (none_left (λ p. p.stored) c.loop-stored.versions.items
    (map (λ p. p.stored) c.into_iter-stored-iterator.result.rest.items) c.loop-stored.stored-iterator.rest.items
    (sym c.loop-stored.stored-iterator.rest.ok.0 ∙ c.in-None.ensures.steps.0) c.loop-stored.invariant
    ∙ ap (map (λ p. p.stored)) c.into_iter-stored-iterator.ensures.into_iter_gives.0)
