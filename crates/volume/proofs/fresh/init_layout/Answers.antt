use Rattle.std.proofs.Common.{subst}
use Rattle.blockdisk.specs.Common.{Near, leaves_start, near_self}
use Rattle.spec_image.specs.Common.{IsVolumeSize}
use Rattle.volume.specs.Common.{IsInitBlock}
use Rattle.volume.proofs.VolumeStart.FreshVolume.{fresh_has_map, fresh_rest}
use Rattle.volume.proofs.fresh.init_layout.Given
use Rattle.volume.proofs.fresh.init_layout.Goals as goal

pub returns-then-not-is_volume_size-clause-near : goal.returns-then-not-is_volume_size-clause-near
returns-then-not-is_volume_size-clause-near g c h =
    let s = g.D.Disk.state c.args.disk.now in
    leaves_start s (Near (IsInitBlock s.size) s) (λ d left. g.met.D.Disk.only_now c.args.disk.now d h left)
    (near_self (IsInitBlock s.size) s)

is_volume : (g : Given.Over) (c : goal.In-Ok g) → IsVolumeSize (g.D.Disk.state c.args.disk.now).size
is_volume g c = subst IsVolumeSize c.blocks-2.ensures
    (c.is_volume_size.ensures.0 (let e = c.if-not-is_volume_size.false in cc))

pub returns-in-Ok-clause-stands : goal.returns-in-Ok-clause-stands
returns-in-Ok-clause-stands g c h =
    fresh_rest c.args.layout (g.D.Disk.state c.args.disk.now).size (g.D.Disk.state c.write_volume.new.disk)
    c.write_volume.ensures.disk.same.size (is_volume g c) (c.in-Ok.ensures.bare h) (c.in-Ok.ensures.settled h)

pub returns-in-Ok-clause-map : goal.returns-in-Ok-clause-map
returns-in-Ok-clause-map g c h =
    fresh_has_map c.args.layout (g.D.Disk.state c.args.disk.now).size (g.D.Disk.state c.write_volume.new.disk).contents
    (is_volume g c) (c.in-Ok.ensures.bare h)
