use Rattle.std.proofs.Common.{take}
use Rattle.words36.specs.Common.{HasRead}
use Rattle.words36.proofs.octets.unpack_octets.Given as goal

abbrev pub invariant-loop-word : goal.invariant-loop-word
invariant-loop-word l = HasRead l.reader (take l.word-index l.words)
