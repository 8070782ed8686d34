use Rattle.std.proofs.Common.{◌≡◌, ◌<◌, ◌*◌, ℕ}
use Rattle.alloctab.specs.Common.{clear_at}
use Rattle.alloctab.proofs.lanes.full_words.Given as goal

abbrev pub invariant-loop-chunk : goal.invariant-loop-chunk
invariant-loop-chunk l = (w : ℕ) → w < 8 * l.chunk → clear_at l.set l.held w ≡ 0
