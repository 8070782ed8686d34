use Rattle.std.proofs.Common.{refl}
use Rattle.directory.proofs.GrownLists.{not_full}
use Rattle.directory.proofs.prealloc.preallocate.Goals as goal

pub returns-then-not-is_full : goal.returns-then-not-is_full
returns-then-not-is_full g c full =
    let (k, low, high) = c.if-not-is_full.ensures.no refl in absurd (not_full c.args.n k low high full)
