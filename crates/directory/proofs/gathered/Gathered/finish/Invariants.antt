use Rattle.std.proofs.Common.{◌≡◌, ◌++◌}
use Rattle.std.specs.Vec.{vec_len, vec_capacity}
use Rattle.directory.specs.Common.{HasPlaces}
use Rattle.directory.proofs.gathered.Gathered.finish.Given as goal

abbrev pub invariant-loop-place : goal.invariant-loop-place
invariant-loop-place g l = record {
  more : l.order.items ++ l.place-iterator ≡ l.initial.place-iterator;
  places : HasPlaces (vec_len l.order) (vec_capacity l.order);
}
