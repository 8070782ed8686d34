use Rattle.std.proofs.Common.{sym}
use Rattle.filser.proofs.convert.new_target.Goals as goal

pub returns-in-Ok-zeros_in-clause-began : goal.returns-in-Ok-zeros_in-clause-began
returns-in-Ok-zeros_in-clause-began g c =
    rw (sym c.in-Ok.ensures.made.1, sym c.other-form.ensures) c.in-Ok-zeros_in.ensures.began
