use Rattle.std.proofs.Common.{rules, ◌<◌, ◌^◌}
use Rattle.words36.specs.Common.{IsPpn}
use Rattle.spec_image.specs.Common.{layout_number, place_of}
use Rattle.volume.proofs.VolumeStart.Opens.{reads_of}
use Rattle.salvage.proofs.PrimesRead.{unspelled}
use Rattle.salvage.proofs.place.is_prime_at.Goals as goal

pub returns-in_default-clause-other : goal.returns-in_default-clause-other
returns-in_default-clause-other g c h not_own =
    let s = g.D.Disk.state c.args.disk.now in
    let ppn_fits : IsPpn c.args.ppn = search rules in
    let ext_fits : c.args.name.ext < 2 ^ 18 = search rules in
    unspelled (layout_number c.args.layout) s.contents c.args.n (place_of c.args.ppn c.args.name) c.in-Ok.block
    (c.in-Ok.ensures.words h) ppn_fits ext_fits c.in_default.ensures.none

pub returns-then-ne-clause-reads : goal.returns-then-ne-clause-reads
returns-then-ne-clause-reads g c h =
    reads_of (g.D.Disk.state c.args.disk.now) (g.D.Disk.state c.read.new.self) (c.read.ensures.keeps h)

pub returns-clause-reads : goal.returns-clause-reads
returns-clause-reads g c h =
    reads_of (g.D.Disk.state c.args.disk.now) (g.D.Disk.state c.read.new.self) (c.read.ensures.keeps h)
