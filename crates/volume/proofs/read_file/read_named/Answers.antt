use Rattle.std.proofs.Common.{inl, inr}
use Rattle.spec_image.specs.Common.{layout_number}
use Rattle.volume.proofs.common.OtherPlaces.{differ, names_differ, other_place}
use Rattle.volume.proofs.read_file.read_named.Goals.{then-ne-via-then-ne, then-ne-via-else-ne+then-ne-2}
use Rattle.volume.proofs.read_file.read_named.Goals as goal

pub returns-then-ne-clause-bad_version : goal.returns-then-ne-clause-bad_version
returns-then-ne-clause-bad_version g c h k is =
    let s = g.D.Disk.state c.args.disk.now in
    let read = c.in-Ok.read in
    inr (
      cc,
      other_place s.size (layout_number c.args.layout) s.contents c.args.prime read.0 read.1 c.args.ppn c.args.name
          (c.in-Ok.ensures.ok h) (elim c.then-ne.branch [
            | then-ne-via-then-ne w ↦ inl (differ c.in-Ok.read.0.ppn c.args.ppn w.if-ne.ensures)
            | then-ne-via-else-ne+then-ne-2 w ↦ inr (names_differ c.in-Ok.read.0.file c.args.name w.if-ne-2.ensures)
          ]),
    )
