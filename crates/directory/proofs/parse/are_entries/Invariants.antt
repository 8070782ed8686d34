use Rattle.directory.proofs.BlockEntries.{SpellsSome}
use Rattle.directory.proofs.parse.are_entries.Given as goal

abbrev pub invariant-loop-i : goal.invariant-loop-i
invariant-loop-i g l = SpellsSome g.E.ChainEntry.words_of g.E.ChainEntry.IsEntry l.block l.i
