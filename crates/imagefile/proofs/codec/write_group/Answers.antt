use Rattle.std.proofs.Common.{◌≡◌, ◌*◌, length, arith}
use Rattle.std.proofs.lemmas.Grind.{common_steps}
use Rattle.imagefile.specs.Common.{block_length}
use Rattle.imagefile.proofs.BlockWrites.{run_put}
use Rattle.imagefile.proofs.ImageCalls.{run_written}
use Rattle.imagefile.proofs.codec.write_group.Goals as goal

pub returns-clause-writes : goal.returns-clause-writes
returns-clause-writes g c =
    let s' = g.F.Durable.state c.write_at.new.self in
    let bytes = c.put_blocks.new.bytes in
    let blocks = c.args.blocks.now in
    let long : length bytes ≡ block_length c.args.form * length blocks = grind (arith, common_steps) in
    λ size. run_written c.args.form size c.args.first c.place_of.result (length bytes)
    (g.F.Durable.state c.args.file.now) s' blocks c.write_at.result c.place_of.ensures long
    (λ h. run_put c.write_at.result c.args.form s'.bytes c.args.first c.place_of.result bytes blocks
    c.place_of.ensures long c.put_blocks.ensures.words (c.write_at.ensures.put h))
    c.write_at.ensures.moves c.write_at.ensures.writes c.write_at.ensures.same c.write_at.ensures.device
    c.write_at.ensures.failed
    c.write_at.ensures.served
