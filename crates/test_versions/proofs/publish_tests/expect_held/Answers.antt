use Rattle.test_versions.proofs.publish_tests.expect_held.Goals as goal

pub unpin-requires : goal.unpin-requires
unpin-requires g c = record { live = c.expect_words.ensures.readers c.hold-pin.result c.hold-pin.ensures.live }
