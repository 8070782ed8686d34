use Rattle.filser.proofs.ImageOutcomes.{same_ok}
use Rattle.filser.proofs.image.zeros_in.Goals as goal

pub returns-in-Ok-disk_in-clause-began : goal.returns-in-Ok-disk_in-clause-began
returns-in-Ok-disk_in-clause-began g c =
    same_ok c.as_long.result c.in-Ok-disk_in.disk _ _ c.as_long.ensures.same c.in-Ok-disk_in.ensures.began
