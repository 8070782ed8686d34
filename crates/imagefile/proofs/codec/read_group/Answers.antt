use Rattle.std.proofs.Common.{◌+◌, length, arith, Some, None, refl, rules}
use Rattle.std.proofs.lemmas.Grind.{common_steps}
use Rattle.imagefile.proofs.BlockReads.{blocks_there, damaged_there}
use Rattle.imagefile.proofs.ImageCalls.{run_read}
use Rattle.imagefile.proofs.codec.read_group.Goals as goal

pub returns-in-None-clause-reads : goal.returns-in-None-clause-reads
returns-in-None-clause-reads g c =
    let s = g.F.Durable.state c.args.file.now in
    λ size. run_read c.args.form size c.args.first s (g.F.Durable.state c.read_at.new.self)
    c.fill_blocks.new.blocks None
    c.in_ok-read_at.ensures.same tt
    (λ h. blocks_there c.args.form s.bytes c.args.first (length c.fill_blocks.new.blocks) c.place_of.result _
    c.read_at.new.bytes c.place_of.ensures (grind (arith, common_steps)) (c.in_ok-read_at.ensures.read h)
    c.fill_blocks.new.blocks refl
    c.in-None.ensures.words)
    c.in_ok-read_at.ensures.keeps c.in_ok-read_at.ensures.served

pub returns-in-Some-clause-reads : goal.returns-in-Some-clause-reads
returns-in-Some-clause-reads g c =
    let s = g.F.Durable.state c.args.file.now in
    λ size. run_read c.args.form size c.args.first s (g.F.Durable.state c.read_at.new.self) c.fill_blocks.new.blocks
    (Some (c.args.first + c.in-Some.place)) c.in_ok-read_at.ensures.same
    (omega arith, omega (arith, c.in-Some.ensures.within.1))
    (λ h. damaged_there c.args.form s.bytes c.args.first (length c.args.blocks.now) c.place_of.result _
    c.read_at.new.bytes c.place_of.ensures (search rules) (c.in_ok-read_at.ensures.read h) c.fill_blocks.new.blocks
    c.in-Some.place c.in-Some.ensures.within.1 c.in-Some.ensures.words)
    c.in_ok-read_at.ensures.keeps c.in_ok-read_at.ensures.served
