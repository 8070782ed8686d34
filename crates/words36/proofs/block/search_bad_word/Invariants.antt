use Rattle.std.proofs.Common.{ℕ, ◌<◌}
use Rattle.words36.specs.Common.{IsWord, number_at}
use Rattle.words36.proofs.block.search_bad_word.Given as goal

abbrev pub invariant-loop-place : goal.invariant-loop-place
invariant-loop-place l = (k : ℕ) → k < l.place → IsWord (number_at l.bytes k)
