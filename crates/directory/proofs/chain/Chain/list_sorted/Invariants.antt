use Rattle.std.proofs.Common.{take}
use Rattle.directory.proofs.SortedEntries.{AreAt}
use Rattle.directory.proofs.chain.Chain.list_sorted.Given as goal

abbrev pub invariant-loop-place : goal.invariant-loop-place
invariant-loop-place g l = AreAt l.entries (take l.place-index l.place-items) l.list.items
