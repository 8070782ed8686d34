use Rattle.std.proofs.Common.{take}
use Rattle.commands.specs.Common.{IsPartialLine}
use Rattle.commands.proofs.names.file_named.Given as goal

abbrev pub invariant-loop-byte : goal.invariant-loop-byte
invariant-loop-byte l = IsPartialLine l.line (take l.byte-index l.text)
