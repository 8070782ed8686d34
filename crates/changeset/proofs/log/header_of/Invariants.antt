use Rattle.std.proofs.Common.{◌≡◌, ◌-◌, ◌∷◌, ◌++◌, length, take, replicate}
use Rattle.spec_image.specs.Common.{targets, log_word}
use Rattle.changeset.proofs.log.header_of.Given as goal

abbrev pub invariant-loop-i : goal.invariant-loop-i
invariant-loop-i l = l.words ≡ log_word ∷ length l.puts ∷ (targets (take l.i l.puts) ++ replicate (126 - l.i) 0)
