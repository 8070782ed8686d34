use Rattle.std.proofs.Common.{ℕ, List, sym, subst, ◌∙◌}
use Rattle.spec_image.specs.Common.{layout_number}
use Rattle.spec_image.proofs.Common.{some_same}
use Rattle.retrieval.specs.Common.{SpellsPrime}
use Rattle.volume.proofs.VolumeStart.Opens.{reads_of}
use Rattle.salvage.proofs.extensions.first_extension.Goals as goal

pub returns-in_default-clause-none : goal.returns-in_default-clause-none
returns-in_default-clause-none g c h m link inside =
    absurd (c.in_default.ensures.none link.p link.runs m
    (subst (λ (l : List ℕ). SpellsPrime (layout_number c.args.layout) l link.p link.runs m)
    (some_same (sym link.words_are ∙ c.in-Ok.ensures.words h)) link.spells))

pub returns-then-is_in_space-clause-reads : goal.returns-then-is_in_space-clause-reads
returns-then-is_in_space-clause-reads g c h =
    reads_of (g.D.Disk.state c.args.disk.now) (g.D.Disk.state c.read.new.self) (c.read.ensures.keeps h)

pub returns-clause-reads : goal.returns-clause-reads
returns-clause-reads g c h =
    reads_of (g.D.Disk.state c.args.disk.now) (g.D.Disk.state c.read.new.self) (c.read.ensures.keeps h)
