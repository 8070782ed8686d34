use Rattle.std.proofs.Common.{inl, refl}
use Rattle.filser.proofs.program.init_image.Goals as goal

pub returns-in-Ok-clause-ran : goal.returns-in-Ok-clause-ran
returns-in-Ok-clause-ran g c =
    inl (c.in-Ok.disk, c.in-Ok.right, refl, c.in-Ok.ensures.made, c.in-Ok.ensures.empty, refl, refl)
