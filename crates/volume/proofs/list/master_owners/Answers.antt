use Rattle.std.proofs.Common.{◌≡◌, ◌++◌, ◌∷◌, [], rules}
use Rattle.volume.proofs.common.DirectoryLists.{owner_more, owners_sorted}
use Rattle.volume.proofs.list.master_owners.Goals as goal

pub loop-entry-preserved : goal.loop-entry-preserved
loop-entry-preserved c =
    let pushed : c.push.new.self.items ≡ c.loop-entry.owners.items ++ c.entry-item.result.ppn ∷ [] = search rules in
    owner_more c.as_slice-entry-items.result.now c.loop-entry.entry-index c.entry-item.result
    c.loop-entry.owners.items c.push.new.self.items c.loop-entry-test.true c.entry-item.is c.loop-entry.invariant
    pushed

pub returns-clause-value : goal.returns-clause-value
returns-clause-value c = owners_sorted _ c.in-Ok.sorted.items c.loop-entry.owners.items c.loop-entry.entry-index _
    c.loop-entry-test.false c.as_slice-entry-items.ensures.value c.in-Ok.ensures c.loop-entry.invariant
