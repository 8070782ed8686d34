use Rattle.std.proofs.Common.{◌≡◌}
use Rattle.spec_image.specs.Common.{place_of}
use Rattle.volume.specs.Common.{claims}
use Rattle.volume.proofs.common.Claims.{claimed_among}
use Rattle.volume.proofs.claims.is_claimed.Given as goal

-- what is left has a version of the place if there is one at all
abbrev pub invariant-loop-version : goal.invariant-loop-version
invariant-loop-version l =
    (goal.iterator-loop-version).can_next l.version-iterator ×
    (goal.iterator-loop-version).is_finite l.version-iterator ×
    (claimed_among (place_of l.ppn l.file) l.version-iterator ≡ claims l.pending.slots (place_of l.ppn l.file))
