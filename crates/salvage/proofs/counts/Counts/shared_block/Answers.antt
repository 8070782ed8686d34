use Rattle.std.proofs.Common.{◌≡◌, ◌<◌, ℕ, slice_index, length, sym, subst, ◌∙◌, arith}
use Rattle.spec_image.specs.Common.{InSpace, times}
use Rattle.volume.proofs.common.MarkedBlocks.{all_weaker, times_parts}
use Rattle.salvage.specs.Common.{blocks_of}
use Rattle.salvage.proofs.CountLaws.{alone_parts, none_on, some_on}
use Rattle.salvage.proofs.counts.Counts.shared_block.Goals as goal

pub returns-in-Some-clause-among : goal.returns-in-Some-clause-among
returns-in-Some-clause-among c =
    let v = c.args.file.now.stored.version in
    let n = c.in-Some.block in
    let among : 0 < times n v.ribs = subst (λ ns. 0 < times n ns) c.ribs.ensures c.in-Some.ensures.among in
    omega (arith, times_parts n c.args.file.now.at v.ribs v.blocks)

pub shared_data-requires : goal.shared_data-requires
shared_data-requires c =
    let size = length c.args.self.now in
    all_weaker (InSpace size) (λ n. n < size) c.args.file.now.stored.version.blocks (λ n is. is.below)
    c.requires.blocks_inside

pub returns-clause-among : goal.returns-clause-among
returns-clause-among c =
    let v = c.args.file.now.stored.version in
    some_on c.shared_data.result (λ n. 0 < times n v.blocks) (λ n. 0 < times n (blocks_of c.args.file.now))
    (λ n among. omega (arith, times_parts n c.args.file.now.at v.ribs v.blocks)) c.shared_data.ensures.among

pub returns-clause-alone : goal.returns-clause-alone
returns-clause-alone c =
    let counts = c.args.self.now in
    let v = c.args.file.now.stored.version in
    none_on c.shared_data.result ((n : ℕ) → 0 < times n v.blocks → slice_index counts n ≡ 1)
    ((n : ℕ) → 0 < times n (blocks_of c.args.file.now) → slice_index counts n ≡ 1)
    (λ of_blocks. alone_parts counts c.args.file.now.at v.ribs v.blocks (sym c.of.ensures ∙ c.if-of-ne1.false)
    (subst (λ ns. (n : ℕ) → 0 < times n ns → slice_index counts n ≡ 1) c.ribs.ensures c.in_default.ensures.alone)
    of_blocks) c.shared_data.ensures.alone
