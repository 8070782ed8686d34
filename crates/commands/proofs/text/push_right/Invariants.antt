use Rattle.std.proofs.Common.{◌≡◌, ◌++◌, replicate}
use Rattle.commands.proofs.text.push_right.Given as goal

abbrev pub invariant-loop-i : goal.invariant-loop-i
invariant-loop-i l = l.bytes.items ≡ l.fn.bytes.items ++ replicate l._i 32
