use Rattle.test_versions.proofs.publish_tests.expect_published.Goals as goal

pub returns : goal.returns
returns g c = record {
  readers = λ pin live.
      let held = c.publish.ensures.held pin.key live.0 live.1 live.2 in
      (record live.0 { is_current = held.0 }, held.1, live.2);
}
