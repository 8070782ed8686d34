use Rattle.imagefile.proofs.Contents.{damaged_exactly}
use Rattle.imagefile.proofs.image.damage_is_by_the_format.Goals as goal

pub returns : goal.returns
returns c = damaged_exactly
