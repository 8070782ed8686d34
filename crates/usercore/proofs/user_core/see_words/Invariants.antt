use Rattle.std.proofs.Common.{ℕ, ◌<◌, slice_index_or}
use Rattle.words36.specs.Common.{IsWord}
use Rattle.usercore.proofs.user_core.see_words.Given as goal

abbrev pub invariant-loop-word : goal.invariant-loop-word
invariant-loop-word l = (k d : ℕ) → k < l.word-index → IsWord (slice_index_or l.words k d)
