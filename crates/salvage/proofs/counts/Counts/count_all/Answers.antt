use Rattle.std.proofs.Common.{◌<◌, ◌+◌, [], ◌∷◌, ℕ, slice_index_or, length, take, refl, sym, subst, ◌∙◌}
use Rattle.spec_image.specs.Common.{times}
use Rattle.volume.proofs.common.MarkedBlocks.{all_at}
use Rattle.salvage.proofs.CountLaws.{adds_none, adds_on, adds_same, times_more, times_all}
use Rattle.salvage.proofs.counts.Counts.count_all.Goals as goal

pub count-requires : goal.count-requires
count-requires c = subst (λ (n : ℕ). slice_index_or c.args.blocks.now c.loop-block.block-index 0 < n)
    (sym c.loop-block.invariant.long)
    (all_at (λ n. n < length c.args.self.now) c.args.blocks.now c.loop-block.block-index c.requires
    c.loop-block-test.true)

pub loop-block-init : goal.loop-block-init
loop-block-init c = record { long = refl; counted = adds_none c.args.self.now _ (λ m. refl) }

pub loop-block-preserved : goal.loop-block-preserved
loop-block-preserved c =
    let blocks = c.args.blocks.now in
    let i = c.loop-block.block-index in
    let block = slice_index_or blocks i 0 in
    record {
      long = c.count.ensures.length ∙ c.loop-block.invariant.long;
      counted = adds_on c.args.self.now c.loop-block.self c.count.new.self (λ m. times m (take i blocks))
          (λ m. times m (block ∷ [])) (λ m. times m (take (i + 1) blocks)) c.loop-block.invariant.counted
          c.count.ensures.counted (times_more blocks i block c.loop-block-test.true refl);
    }

pub returns-clause-counted : goal.returns-clause-counted
returns-clause-counted c =
    let blocks = c.args.blocks.now in
    let i = c.loop-block.block-index in
    adds_same c.args.self.now c.loop-block.self (λ m. times m (take i blocks)) (λ m. times m blocks)
    c.loop-block.invariant.counted (times_all blocks i c.loop-block-test.false)
