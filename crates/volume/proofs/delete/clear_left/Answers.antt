use Rattle.std.proofs.Common.{[], option_to_list, ap, arith}
use Rattle.spec_image.specs.Common.{times}
use Rattle.spec_image.proofs.Common.{times_here}
use Rattle.volume.proofs.common.RetiredVersions.{set_inside}
use Rattle.volume.proofs.delete.clear_left.Goals as goal

pub clear-requires : goal.clear-requires
clear-requires c =
    let n = c.in-Some.n in
    let list = ap (λ o. times n (option_to_list o)) c.in-Some.is in
    let one = times_here n [] in
    set_inside c.args.table.now n c.requires.sound (omega (arith, c.requires.set n))
