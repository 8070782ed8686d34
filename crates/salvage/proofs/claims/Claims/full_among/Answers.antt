use Rattle.std.proofs.Common.{◌<◌, length, slice_index, slice_index_or, refl, ap, sym, arith}
use Rattle.volume.proofs.common.MarkedBlocks.{all_at}
use Rattle.directory.proofs.ChainPuts.{times_get}
use Rattle.salvage.proofs.ClaimLaws.{claims_at, open_more}
use Rattle.salvage.proofs.claims.Claims.full_among.Goals as goal

pub returns-then-index-ge-MOST_CLAIMS-clause-full : goal.returns-then-index-ge-MOST_CLAIMS-clause-full
returns-then-index-ge-MOST_CLAIMS-clause-full c =
    let counts = c.args.self.now in
    let b = slice_index_or c.args.blocks.now c.loop-block.block-index 0 in
    let inside = all_at (λ n. n < length counts) c.args.blocks.now c.loop-block.block-index c.requires
    c.loop-block-test.true in
    let here = claims_at counts c.self.inside.counts.items b c.index.result.now (sym c.self.view_is) inside
    c.index.ensures in
    let e = ap (λ l. slice_index l b) c.self.view_is in
    let most = c.self.invariant.1 b in
    let least = c.if-index-ge-MOST_CLAIMS.true in (
      times_get c.args.blocks.now c.loop-block.block-index c.loop-block-test.true,
      omega (arith, here, e, most, least),
    )

pub loop-block-preserved : goal.loop-block-preserved
loop-block-preserved c =
    let counts = c.args.self.now in
    let b = slice_index_or c.args.blocks.now c.loop-block.block-index 0 in
    let inside = all_at (λ n. n < length counts) c.args.blocks.now c.loop-block.block-index c.requires
    c.loop-block-test.true in
    let here = claims_at counts c.self.inside.counts.items b c.index.result.now (sym c.self.view_is) inside
    c.index.ensures in
    open_more counts c.args.blocks.now c.loop-block.block-index b c.loop-block-test.true refl
    (omega (arith, here, c.if-index-ge-MOST_CLAIMS.false)) c.loop-block.invariant
