use Rattle.std.proofs.Common.{map, length, sym, ap, subst, arith}
use Rattle.std.specs.List.{AllByRecursion}
use Rattle.spec_image.specs.Common.{total}
use Rattle.volume.specs.Common.{known_version, IsWholeVersion, cost_of_version}
use Rattle.volume.proofs.common.Lookups.{viewed_at}
use Rattle.volume.proofs.common.MapCosts.{chain_short, few_blocks, sum_more, sum_within, booked_more}
use Rattle.volume.proofs.cost.book_directory.Goals as goal

pub overflow_cast-blocks : goal.overflow_cast-blocks
overflow_cast-blocks c =
    let large = c.requires.volume.large in
    let short = chain_short c.args.table.now.size c.args.directory.now.chain.blocks c.requires.whole.inside
    c.requires.whole.chain.blocks_once in
    let same = ap length c.blocks-2.ensures.value in
    omega arith

pub version_cost-requires : goal.version_cost-requires
version_cost-requires c =
    few_blocks (known_version c.version-item.result)
    (viewed_at known_version c.as_slice-versions.result.now c.loop-version.version-index c.version-item.result
    c.loop-version-test.true c.version-item.is IsWholeVersion
    (subst (λ vs. AllByRecursion IsWholeVersion (map known_version vs))
    (sym c.as_slice-versions.ensures.value) c.requires.whole.versions))

pub book-requires-in-loop-version : goal.book-requires-in-loop-version
book-requires-in-loop-version c =
    let vs = c.as_slice-versions.result.now in
    let so_far = ap (λ t. t.booked) c.loop-version.invariant in
    let within = sum_within known_version cost_of_version vs c.loop-version.version-index c.version-item.result
    c.loop-version-test.true c.version-item.is in
    let all = ap (λ vs. total cost_of_version (map known_version vs)) c.as_slice-versions.ensures.value in
    let fits = c.requires.fits in
    let cost = c.version_cost.ensures in
    omega arith

pub loop-version-preserved : goal.loop-version-preserved
loop-version-preserved c =
    let vs = c.as_slice-versions.result.now in
    let more = sum_more known_version cost_of_version vs c.loop-version.version-index c.version-item.result
    c.loop-version-test.true c.version-item.is in
    let cost = c.version_cost.ensures in
    booked_more c.args.table.now c.loop-version.table c.book-in-loop-version.new.self _ _ c.version_cost.result
    c.loop-version.invariant c.book-in-loop-version.ensures (omega arith)
