use Rattle.std.proofs.Common.{◌≡◌, ◌++◌, map}
use Rattle.volume.proofs.turns.by_place.Given as goal

abbrev pub invariant-loop-stored : goal.invariant-loop-stored
invariant-loop-stored l =
    l.versions.items ++ map (λ p. p.stored) l.stored-iterator.rest.items
    ≡ map (λ p. p.stored) l.initial.stored-iterator.rest.items
