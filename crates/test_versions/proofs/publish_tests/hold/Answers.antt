use Rattle.std.proofs.Common.{◌+◌, ◌∙◌, arith}
use Rattle.test_versions.proofs.publish_tests.hold.Goals as goal

pub returns-clause-live : goal.returns-clause-live
returns-clause-live g c = let pinned = c.in-Ok.ensures.pinned in
    (record pinned.0 { readers = pinned.0.readers + 1 }, pinned.2, omega arith)

pub returns-clause-others : goal.returns-clause-others
returns-clause-others g c pin apart live = (live.0, c.in-Ok.ensures.others pin.key apart ∙ live.1, live.2)
