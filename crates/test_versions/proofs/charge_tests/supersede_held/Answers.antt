use Rattle.test_versions.proofs.charge_tests.supersede_held.Goals as goal

pub unpin-requires : goal.unpin-requires
unpin-requires g c =
    let pin = c.hold-pin.result in
    record {
      live = c.expect_published.ensures.readers pin (c.write-pending.ensures.readers pin c.hold-pin.ensures.live);
    }
