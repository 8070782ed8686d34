use Rattle.std.proofs.Common.{rules, ap, subst, ◌∙◌, map}
use Rattle.std.specs.List.{enumerate_from}
use Rattle.std.specs.List.Sorted.{IsPermutation}
use Rattle.std.proofs.lemmas.List.{take_all}
use Rattle.std.proofs.lemmas.List.Sorted.{IsNonDecreasingBy-from_sort, IsPermutation-map, answers_always}
use Rattle.volume.specs.Common.{numbered_entry}
use Rattle.volume.proofs.VolumeStart.ReadTurns.{turn_pushed}
use Rattle.volume.proofs.turns.rising_turns.Goals as goal

pub loop-place-preserved : goal.loop-place-preserved
loop-place-preserved c =
    turn_pushed c.args.entries.now c.loop-place.place c.index-entries-place.result c.loop-place.turns.items
    c.push.new.self.items c.loop-place-test.true c.index-entries-place.is c.loop-place.invariant (search rules)

pub returns-clause-all : goal.returns-clause-all
returns-clause-all c =
    let all = take_all c.loop-place.place c.args.entries.now c.loop-place-test.false in
    subst (λ l. IsPermutation l (map numbered_entry c.sort_unstable_by_key.new.self.items))
    (c.loop-place.invariant ∙ ap (enumerate_from 0) all)
    (IsPermutation-map numbered_entry c.loop-place.turns.items c.sort_unstable_by_key.new.self.items
    c.sort_unstable_by_key.ensures.permutation)

pub returns-clause-rising : goal.returns-clause-rising
returns-clause-rising c =
    IsNonDecreasingBy-from_sort (λ t. t.entry.prime) c.sort_unstable_by_key.new.self.items
    (c.sort_unstable_by_key.ensures.sorted (λ t. t.entry.prime) (answers_always _ _ _ (λ f a r g h. search rules)))
