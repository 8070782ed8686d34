use Rattle.std.proofs.Common.{Err, refl, ap}
use Rattle.imagefile.specs.declared.form.Form.TheVariants.{Wide}
use Rattle.imagefile.proofs.Contents.{image_read, image_refused}
use Rattle.imagefile.proofs.ImageCalls.{block_read, block_damaged}
use Rattle.imagefile.proofs.codec.read_wide.Goals as goal

pub returns-in-Ok-clause-reads : goal.returns-in-Ok-clause-reads
returns-in-Ok-clause-reads g c =
    let s = g.F.Durable.state c.args.file.now in
    λ blocks. block_read Wide blocks c.args.n s (g.F.Durable.state c.read_at.new.self) c.in_ok-read_at.ensures.same
    c.in-Ok.block
    (λ h. image_read s.bytes c.args.n c.place_of.result _ c.read_at.new.bytes c.place_of.ensures refl c.in-Ok.block
    (c.in_ok-read_at.ensures.read h) c.in-Ok.ensures.words c.in-Ok.ensures.read)
    c.in_ok-read_at.ensures.keeps c.in_ok-read_at.ensures.served

pub returns-in-Err-clause-reads : goal.returns-in-Err-clause-reads
returns-in-Err-clause-reads g c =
    let s = g.F.Durable.state c.args.file.now in
    λ blocks. block_damaged Wide blocks c.args.n s (g.F.Durable.state c.read_at.new.self) c.in_ok-read_at.ensures.same
    (λ h. image_refused s.bytes c.args.n c.place_of.result _ c.read_at.new.bytes c.place_of.ensures refl
    c.in-Err.field-0 (c.in_ok-read_at.ensures.read h) c.in-Err.ensures.refused
    (λ place same. (c.in-Err.ensures.bad place).0 (ap Err same)))
    c.in_ok-read_at.ensures.keeps c.in_ok-read_at.ensures.served
