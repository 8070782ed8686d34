use Rattle.std.proofs.Common.{refl}
use Rattle.volume.specs.Common.{memory_of}
use Rattle.volume.proofs.common.StillMatches.{dropped_sound}
use Rattle.volume.proofs.common.SoundVolumes.{volume_stays}
use Rattle.volume.proofs.volume.Volume.discard.Goals as goal

pub invariant_of-self : goal.invariant_of-self
invariant_of-self g c =
    let new = c.discard_in_memory.new.memory in
    let ensures = c.discard_in_memory.ensures in
    volume_stays (g.D.Disk.state c.self.inside.disk) (memory_of c.self.inside.map) (memory_of new) c.self.inside.failed
    c.self.inside.layout c.self.invariant
    (dropped_sound (g.D.Disk.state c.self.inside.disk) (memory_of c.self.inside.map)
    (memory_of new) c.self.inside.failed new.table.size c.args.pending.key new.table.held new.table.booked
    c.self.invariant.map refl ensures.whole ensures.gone ensures.others ensures.live ensures.table)
