use Rattle.std.proofs.Common.{sym, subst}
use Rattle.volume.specs.Common.{IsReadable, MemoryMap}
use Rattle.volume.specs.declared.handles.VersionHandle.TheVariants.{Pinned}
use Rattle.test_versions.proofs.publish_tests.expect_words.Goals as goal

pub returns : goal.returns
returns g c = record {
  readers = λ pin live. subst (λ (m : MemoryMap). IsReadable m (Pinned pin)) (sym c.read.ensures.map) live;
}
