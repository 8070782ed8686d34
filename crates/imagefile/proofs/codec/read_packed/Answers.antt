use Rattle.std.proofs.Common.{refl}
use Rattle.imagefile.specs.declared.form.Form.TheVariants.{Packed}
use Rattle.imagefile.proofs.Contents.{packed_read}
use Rattle.imagefile.proofs.ImageCalls.{block_read}
use Rattle.imagefile.proofs.codec.read_packed.Goals as goal

pub returns-clause-reads : goal.returns-clause-reads
returns-clause-reads g c =
    let s = g.F.Durable.state c.args.file.now in
    λ blocks. block_read Packed blocks c.args.n s (g.F.Durable.state c.read_at.new.self) c.in_ok-read_at.ensures.same
    c.block_from_nine.result
    (λ h. packed_read s.bytes c.args.n c.place_of.result _ c.read_at.new.bytes c.place_of.ensures refl
    c.block_from_nine.result (c.in_ok-read_at.ensures.read h) c.block_from_nine.ensures.value)
    c.in_ok-read_at.ensures.keeps c.in_ok-read_at.ensures.served
