use Rattle.std.proofs.Common.{◌≡◌, slice_index}
use Rattle.words36.proofs.Digits.{leading}
use Rattle.words36.proofs.ascii.word_of.Given as goal

abbrev pub invariant-loop-place : goal.invariant-loop-place
invariant-loop-place l = l.bits ≡ leading (slice_index l.group) 128 l.place
