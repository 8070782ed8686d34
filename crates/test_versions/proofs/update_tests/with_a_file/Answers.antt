use Rattle.std.proofs.Common.{refl}
use Rattle.volume.specs.Common.{begun}
use Rattle.volume.specs.declared.pending.PendingKind.TheVariants.{Create}
use Rattle.test_versions.proofs.Placed.{written}
use Rattle.test_versions.proofs.update_tests.with_a_file.Goals as goal

pub publish-requires-clause-placed : goal.publish-requires-clause-placed
publish-requires-clause-placed g c p is =
    let begins = c.in-Ok.ensures.begun in
    let after = c.begin.new.self.map in
    written c.make_dir-else-not-is_made.new.self.map after after c.in-Ok.pending.key Create c.prime_of-prime.result
    begins (begun Create c.prime_of-prime.result begins.old).version p c.prime_of-prime.ensures refl begins.here is
