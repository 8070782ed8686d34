use Rattle.std.proofs.Common.{subst, ◌∙◌}
use Rattle.volume.specs.Common.{memory_of, IsSoundMemory}
use Rattle.volume.proofs.Charges.Charges.{quota_is}
use Rattle.volume.proofs.volume.Volume.quota.Goals as goal

pub returns-clause-value : goal.returns-clause-value
returns-clause-value g c = rw (← c.self.view_is) (λ honest alive files rest.
    let s = g.D.Disk.state c.self.inside.disk in
    let memory = memory_of c.self.inside.map in
    let sound = subst (IsSoundMemory s memory) alive c.self.invariant.map in
    c.quota_in_memory.ensures ∙ quota_is s memory sound honest files rest c.args.ppn)
