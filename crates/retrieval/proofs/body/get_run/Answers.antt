use Rattle.std.proofs.Common.{arith}
use Rattle.retrieval.proofs.body.get_run.Goals as goal

pub returns-then-count-eq1-clause-bad : goal.returns-then-count-eq1-clause-bad
returns-then-count-eq1-clause-bad g c h k is =
    let bad = c.get_blocks.ensures.bad h k is in (bad.0, omega (arith, bad.1), bad.2)

pub returns-clause-bad : goal.returns-clause-bad
returns-clause-bad g c h k is =
    let bad = c.get_blocks-2.ensures.bad h k is in (bad.0, omega (arith, bad.1), bad.2)
