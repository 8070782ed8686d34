use Rattle.std.proofs.Common.{ap, ◌∙◌}
use Rattle.spec_image.specs.Common.{place_of}
use Rattle.volume.proofs.common.Claims.{claimed_among, claimed_from}
use Rattle.volume.proofs.claims.is_claimed.Goals as goal

pub loop-version-init : goal.loop-version-init
loop-version-init c =
    let place = place_of c.args.ppn c.args.file.now in (
      tt,
      tt,
      ap (claimed_among place) (c.into_iter-version-iterator.ensures.into_iter_gives
          ∙ c.iter-version-items.ensures.rest) ∙ claimed_from place 0 c.args.pending.now.slots,
    )
