use Rattle.std.proofs.Common.{ℕ, subst}
use Rattle.volume.specs.Common.{IsFound, holds_words}
use Rattle.volume.proofs.VolumeStart.HomeCopies.{found_in}
use Rattle.volume.proofs.home.read_copy.Goals as goal

pub returns-in-Ok-clause-found : goal.returns-in-Ok-clause-found
returns-in-Ok-clause-found g c h =
    let s = g.D.Disk.state c.args.disk.now in
    found_in s.size s.contents c.args.n c.in-Ok.words c.copy_of.result (c.in-Ok.ensures.words h)
    (subst (λ (size : ℕ). IsFound size (holds_words c.in-Ok.words) c.args.n c.copy_of.result) c.blocks-size.ensures
    (c.copy_of.ensures.found c.args.n))
