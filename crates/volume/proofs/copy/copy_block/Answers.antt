use Rattle.std.proofs.Common.{◌≡◌, refl}
use Rattle.blockdisk.specs.Common.{modifies_start, writes_modifies}
use Rattle.volume.proofs.copy.copy_block.Goals as goal

pub returns-in_default-clause-modified : goal.returns-in_default-clause-modified
returns-in_default-clause-modified g c h = modifies_start (λ m. m ≡ c.args.n) (g.E.Disk.state c.args.to.now)

pub returns-in-Ok-write-clause-modified : goal.returns-in-Ok-write-clause-modified
returns-in-Ok-write-clause-modified g c h =
    writes_modifies (λ m. m ≡ c.args.n) c.args.n (g.E.Disk.state c.args.to.now) (g.E.Disk.state c.write.new.self) refl
    (c.write.ensures.writes h)

pub returns-in-Err-clause-modified : goal.returns-in-Err-clause-modified
returns-in-Err-clause-modified g c h =
    writes_modifies (λ m. m ≡ c.args.n) c.args.n (g.E.Disk.state c.args.to.now) (g.E.Disk.state c.write.new.self) refl
    (c.write.ensures.writes h)
