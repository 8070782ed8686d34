use Rattle.words36.proofs.LaneLaws.{AreJoined}
use Rattle.words36.proofs.block.joined_words.Given as goal

abbrev pub invariant-loop-group : goal.invariant-loop-group
invariant-loop-group l = AreJoined l.bytes l.joined l.group
