use Rattle.std.proofs.Common.{◌≡◌, ◌<◌, Some, ap, subst, sym}
use Rattle.alloctab.specs.Common.{bit}
use Rattle.volume.specs.Common.{slot, memory_of}
use Rattle.volume.specs.declared.live.LiveVersion.{LiveVersion}
use Rattle.volume.proofs.PinVersion.PinnedFiles.{unpinned_sound}
use Rattle.volume.proofs.common.SoundVolumes.{volume_stays}
use Rattle.volume.proofs.volume.Volume.unpin.Goals as goal

pub invariant_of-self : goal.invariant_of-self
invariant_of-self g c =
    let s = g.D.Disk.state c.self.inside.disk in
    let live = subst (λ m. (v : LiveVersion) × (slot m.map.live c.args.pin.key ≡ Some v)
    × (0 < v.readers)) (sym c.self.view_is) c.requires.live in
    volume_stays s (memory_of c.self.inside.map) (memory_of c.unpin_version.new.map) c.self.inside.failed
    c.self.inside.layout c.self.invariant
    (unpinned_sound s (memory_of c.self.inside.map) (memory_of c.unpin_version.new.map) c.self.inside.failed
    c.args.pin.key live.0 c.self.invariant.map live.1 (c.unpin_version.ensures.whole s.size c.self.invariant.map.whole)
    c.unpin_version.ensures.pending c.unpin_version.ensures.known (λ n. ap (λ t. bit t n) c.unpin_version.ensures.table)
    (λ which. (c.unpin_version.ensures.stays live.0 live.1 which).0)
    (λ ended last. (c.unpin_version.ensures.gone live.0 live.1 ended last).0) live.2 c.unpin_version.ensures.others)

pub returns-clause-stays : goal.returns-clause-stays
returns-clause-stays g c = rw (← c.self.view_is) c.unpin_version.ensures.stays
