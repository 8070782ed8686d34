use Rattle.std.proofs.Common.{◌≡◌}
use Rattle.alloctab.specs.Common.{flag_at, word_bit, with_changed}
use Rattle.alloctab.proofs.blocks.put_changed.Given as goal

abbrev pub invariant-loop-i : goal.invariant-loop-i
invariant-loop-i l = l.set ≡ with_changed l.start (word_bit l.words) (flag_at l.changed) l.i l.fn.set
