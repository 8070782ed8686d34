use Rattle.std.proofs.Common.{sym}
use Rattle.filser.proofs.image.open_disk.Goals as goal

pub returns-in-Ok-disk_in-clause-began : goal.returns-in-Ok-disk_in-clause-began
returns-in-Ok-disk_in-clause-began g c = rw (sym c.in-Ok.ensures.opened.2) c.in-Ok-disk_in.ensures.began
