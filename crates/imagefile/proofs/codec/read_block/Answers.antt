use Rattle.std.proofs.Common.{subst, sym}
use Rattle.blockdisk.specs.Common.{IsRead}
use Rattle.imagefile.specs.Common.{image_state}
use Rattle.imagefile.specs.declared.form.Form.{Form}
use Rattle.imagefile.proofs.codec.read_block.Goals as goal

pub returns-in-Wide-clause-reads : goal.returns-in-Wide-clause-reads
returns-in-Wide-clause-reads g c =
    let s = g.F.Durable.state c.args.file.now in
    let s' = g.F.Durable.state c.read_wide.new.file in
    λ blocks. subst (λ (form : Form). IsRead c.args.n (image_state form blocks s) (image_state form blocks s')
    c.read_wide.result) (sym c.in-Wide.is) (c.read_wide.ensures.reads blocks)

pub returns-in-Packed-clause-reads : goal.returns-in-Packed-clause-reads
returns-in-Packed-clause-reads g c =
    let s = g.F.Durable.state c.args.file.now in
    let s' = g.F.Durable.state c.read_packed.new.file in
    λ blocks. subst (λ (form : Form). IsRead c.args.n (image_state form blocks s) (image_state form blocks s')
    c.read_packed.result) (sym c.in-Packed.is) (c.read_packed.ensures.reads blocks)
