use Rattle.std.proofs.Common.{[], option_to_list, ap, arith}
use Rattle.spec_image.specs.Common.{times}
use Rattle.spec_image.proofs.Common.{times_here}
use Rattle.volume.proofs.common.BlockLists.{held_inside}
use Rattle.volume.proofs.rename_across.use_grown.Goals as goal

pub use_block-requires-clause-inside : goal.use_block-requires-clause-inside
use_block-requires-clause-inside c =
    let n = c.in-Some.n in
    let list = ap (λ o. times n (option_to_list o)) c.in-Some.is in
    let one = times_here n [] in
    held_inside c.args.table.now n c.requires.sound (omega (arith, c.requires.held n))
