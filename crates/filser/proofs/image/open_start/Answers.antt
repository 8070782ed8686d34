use Rattle.std.proofs.Common.{sym}
use Rattle.filser.proofs.image.open_start.Goals as goal

pub returns-in-Ok-start_in-clause-began : goal.returns-in-Ok-start_in-clause-began
returns-in-Ok-start_in-clause-began g c = rw (sym c.in-Ok.ensures.opened.2) c.in-Ok-start_in.ensures.began
