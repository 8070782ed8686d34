use Rattle.std.proofs.Common.{◌≡◌, ◌+◌, ◌-◌, ◌≤◌, length}
use Rattle.std.specs.Io.KnownBytes.{Consumes}
use Rattle.commands.specs.Common.{most_bytes}
use Rattle.commands.proofs.input_words.read_input.Given as goal

abbrev pub invariant-loop-encoding : goal.invariant-loop-encoding
invariant-loop-encoding g l = Consumes (g.R.Read.remaining l.fn.reader) (g.R.Read.remaining l.reader) l.bytes.items
    × (length l.bytes.items ≤ l.most + 4096) × (length l.piece ≡ 4096) × (l.most ≡ most_bytes l.fn.encoding)

abbrev pub decreases-loop-encoding : goal.decreases-loop-encoding
decreases-loop-encoding g l = l.most + 1 - length l.bytes.items
