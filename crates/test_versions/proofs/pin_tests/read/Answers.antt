use Rattle.std.proofs.Common.{sym, subst}
use Rattle.volume.specs.Common.{IsReadable, MemoryMap}
use Rattle.volume.specs.declared.handles.VersionHandle.TheVariants.{Pinned}
use Rattle.test_versions.proofs.pin_tests.read.Goals as goal

pub returns-clause-live : goal.returns-clause-live
returns-clause-live g c = subst (λ (m : MemoryMap). IsReadable m (Pinned c.args.pin))
    (sym c.get_words.ensures.map) c.requires.live
