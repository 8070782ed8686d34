use Rattle.test_versions.proofs.publish_tests.store.Goals as goal

pub returns : goal.returns
returns g c = record {
  readers = λ pin live. c.expect_published.ensures.readers pin (c.write-pending.ensures.readers pin live);
}
