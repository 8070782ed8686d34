use Rattle.std.proofs.Common.{ap, Err}
use Rattle.directory.proofs.parse.is_entry.Goals as goal

pub returns-in-Err-Outside-clause-yes : goal.returns-in-Err-Outside-clause-yes
returns-in-Err-Outside-clause-yes g c is = let r = c.in-Err-Outside.ensures.outside
    (ap Err c.in-Err-Outside.field-0-is) in (r.0, r.1, r.2)

pub returns-in-Ok-clause-yes : goal.returns-in-Ok-clause-yes
returns-in-Ok-clause-yes g c is = (g.E.ChainEntry.view c.in-Ok.field-0, c.in-Ok.ensures.good, c.in-Ok.ensures.value)
