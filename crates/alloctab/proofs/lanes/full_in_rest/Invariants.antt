use Rattle.std.proofs.Common.{◌≡◌, ◌<◌, ◌≤◌, ℕ}
use Rattle.alloctab.specs.Common.{clear_at}
use Rattle.alloctab.proofs.lanes.full_in_rest.Given as goal

abbrev pub invariant-loop-place : goal.invariant-loop-place
invariant-loop-place l = (w : ℕ) → l.from ≤ w → w < l.place → clear_at l.set l.held w ≡ 0
