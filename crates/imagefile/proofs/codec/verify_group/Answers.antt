use Rattle.std.proofs.Common.{subst, sym}
use Rattle.blockdisk.specs.Common.{IsVerify}
use Rattle.imagefile.specs.Common.{image_state}
use Rattle.imagefile.specs.declared.form.Form.{Form}
use Rattle.imagefile.proofs.codec.verify_group.Goals as goal

pub returns-in-Wide-clause-verifies : goal.returns-in-Wide-clause-verifies
returns-in-Wide-clause-verifies g c =
    let s = g.F.Durable.state c.args.file.now in
    let s' = g.F.Durable.state c.verify_wide.new.file in
    λ blocks. subst (λ (form : Form). IsVerify c.args.first c.args.end (image_state form blocks s)
    (image_state form blocks s')
    c.verify_wide.result) (sym c.in-Wide.is) (c.verify_wide.ensures.verifies blocks)

pub returns-in-Packed-clause-verifies : goal.returns-in-Packed-clause-verifies
returns-in-Packed-clause-verifies g c =
    let s = g.F.Durable.state c.args.file.now in
    let s' = g.F.Durable.state c.verify_packed.new.file in
    λ blocks. subst (λ (form : Form). IsVerify c.args.first c.args.end (image_state form blocks s)
    (image_state form blocks s')
    c.verify_packed.result) (sym c.in-Packed.is) (c.verify_packed.ensures.verifies blocks)
