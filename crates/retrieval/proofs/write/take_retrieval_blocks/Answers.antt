use Rattle.std.proofs.Common.{◌≡◌, length, ap, sym, ◌∙◌, arith}
use Rattle.std.proofs.lemmas.List.{length-map}
use Rattle.retrieval.specs.Common.{pair_of, ribs_of, rib_count}
use Rattle.retrieval.proofs.TakenBlocks.{fits_after}
use Rattle.retrieval.proofs.write.take_retrieval_blocks.Goals as goal

pub take_blocks-requires-clause-used : goal.take_blocks-requires-clause-used
take_blocks-requires-clause-used c =
    let asked : c.rib_count.result ≡ ribs_of c.args.version.now.blocks = c.rib_count.ensures
    ∙ ap rib_count (sym (length-map c.runs.result.now pair_of) ∙ ap length c.runs.ensures.are_longest) in
    let enough = c.requires.enough in
    let whole = c.args.ribs.ok in
    let cut = c.truncate.ensures.len in
    let seen = c.as_mut_slice.ensures.len in
    let fits = fits_after c.args.table.now c.take_block-at.new.self c.take_block-at.new.self c.take_block-at.result
    c.booked-booked.ensures.sound c.requires.fixed c.take_block-at.ensures.free.0 c.take_block-at.ensures.free.1
    c.take_block-at.ensures.held (ribs_of c.args.version.now.blocks) c.requires.booked in
    omega arith
