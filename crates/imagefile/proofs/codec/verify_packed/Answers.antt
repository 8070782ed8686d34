use Rattle.std.proofs.Common.{None}
use Rattle.imagefile.specs.declared.form.Form.TheVariants.{Packed}
use Rattle.imagefile.proofs.Groups.{packed_whole}
use Rattle.imagefile.proofs.ImageCalls.{group_verified}
use Rattle.imagefile.proofs.codec.verify_packed.Goals as goal

pub returns-clause-verifies : goal.returns-clause-verifies
returns-clause-verifies g c =
    let s = g.F.Durable.state c.args.file.now in
    λ blocks. group_verified Packed blocks c.args.first c.args.end s (g.F.Durable.state c.read_at.new.self) None
    c.in_ok-read_at.ensures.same tt (λ h. packed_whole s.bytes c.args.first c.args.end)
    c.in_ok-read_at.ensures.keeps c.in_ok-read_at.ensures.served
