use Rattle.std.proofs.Common.{◌+◌, ℕ, map, take, length, sym, ap, subst, ◌∙◌, arith}
use Rattle.spec_image.specs.Common.{IsVolumeSize, total}
use Rattle.std.proofs.lemmas.List.{length-map}
use Rattle.volume.specs.Common.{known_directory, master_view, IsWholeDirectory, cost_of_directory}
use Rattle.volume.proofs.common.Lookups.{viewed_at}
use Rattle.volume.proofs.common.MapCosts.{chain_short, booked_fits, sum_more, sum_within, booked_more}
use Rattle.volume.proofs.cost.book_map.Goals as goal

pub overflow_cast-blocks : goal.overflow_cast-blocks
overflow_cast-blocks c =
    let large = c.requires.volume.large in
    let short = chain_short c.args.table.now.size c.args.master.now.blocks c.requires.inside
    c.blocks-2.ensures.sound.blocks_once in
    let same = ap length c.blocks-2.ensures.value in
    omega arith

pub book_directory-requires-clause-volume : goal.book_directory-requires-clause-volume
book_directory-requires-clause-volume c = subst IsVolumeSize (sym (ap (λ t. t.size) c.loop-directory.invariant))
    c.requires.volume

pub book_directory-requires-clause-whole : goal.book_directory-requires-clause-whole
book_directory-requires-clause-whole c =
    subst (λ (n : ℕ). IsWholeDirectory n (known_directory c.directory-item.result))
    (sym (ap (λ t. t.size) c.loop-directory.invariant))
    (viewed_at known_directory c.args.directories.now c.loop-directory.directory-index c.directory-item.result
    c.loop-directory-test.true c.directory-item.is (IsWholeDirectory c.args.table.now.size) c.requires.each)

pub book_directory-requires-clause-fits : goal.book_directory-requires-clause-fits
book_directory-requires-clause-fits c =
    let ds = c.args.directories.now in
    let size = c.args.table.now.size in
    let chain = c.blocks-2.ensures.sound in
    let within = sum_within known_directory cost_of_directory ds c.loop-directory.directory-index
    c.directory-item.result c.loop-directory-test.true c.directory-item.is in
    let so_far = ap (λ t. t.booked) c.loop-directory.invariant in
    let aligned = length-map ds known_directory ∙ c.requires.aligned
    ∙ sym (length-map c.args.master.now.entries master_view) in
    let fits = booked_fits size c.args.master.now.blocks (length (map master_view c.args.master.now.entries))
    (total cost_of_directory (map known_directory (take c.loop-directory.directory-index ds))
    + cost_of_directory (known_directory c.directory-item.result))
    (map known_directory ds) c.requires.volume c.requires.inside chain.blocks_once chain.counted aligned
    c.requires.each within in
    omega arith

pub loop-directory-preserved : goal.loop-directory-preserved
loop-directory-preserved c =
    let ds = c.args.directories.now in
    let more = sum_more known_directory cost_of_directory ds c.loop-directory.directory-index c.directory-item.result
    c.loop-directory-test.true c.directory-item.is in
    booked_more c.args.table.now c.loop-directory.table c.book_directory.new.table _ _
    (cost_of_directory (known_directory c.directory-item.result)) c.loop-directory.invariant c.book_directory.ensures
    (omega arith)
