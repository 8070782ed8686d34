use Rattle.std.proofs.Common.{◌≡◌, map, take}
use Rattle.volume.proofs.list.master_owners.Given as goal

abbrev pub invariant-loop-entry : goal.invariant-loop-entry
invariant-loop-entry l = l.owners.items ≡ map (λ e. e.ppn) (take l.entry-index l.entry-items)
