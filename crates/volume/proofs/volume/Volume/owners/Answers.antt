use Rattle.volume.specs.Common.{memory_of}
use Rattle.volume.proofs.common.Answers.{rest_holds}
use Rattle.volume.proofs.common.DirectoryLists.{owners_are, if_ok_on}
use Rattle.volume.proofs.volume.Volume.owners.Goals as goal

pub returns-clause-value : goal.returns-clause-value
returns-clause-value g c = rw (← c.self.view_is) (λ honest alive files rest.
    let s = g.D.Disk.state c.self.inside.disk in
    let memory = memory_of c.self.inside.map in
    let holds = rest_holds s memory c.self.inside.failed c.self.invariant.map honest alive files rest in
    if_ok_on c.master_owners.result (λ owners is. owners_are s memory.known files holds owners.items is)
    c.master_owners.ensures.value)
