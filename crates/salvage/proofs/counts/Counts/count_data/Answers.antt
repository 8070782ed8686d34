use Rattle.std.proofs.Common.{◌<◌, ◌+◌, [], ◌∷◌, ℕ, length, take, refl, sym, subst, ◌∙◌, arith}
use Rattle.spec_image.specs.Common.{times}
use Rattle.volume.proofs.common.MarkedBlocks.{all_at}
use Rattle.salvage.proofs.CountLaws.{adds_none, adds_on, adds_same, times_more, times_all}
use Rattle.salvage.proofs.counts.Counts.count_data.Goals as goal

pub count-requires : goal.count-requires
count-requires c =
    let blocks = c.args.version.now.blocks in
    let below : c.loop-i.i < length blocks = omega (arith, c.loop-i-test.true, c.count-i-end.ensures) in
    subst (λ (n : ℕ). c.block_at.result < n) (sym c.loop-i.invariant.long)
    (subst (λ (n : ℕ). n < length c.args.self.now) (sym c.block_at.ensures)
    (all_at (λ n. n < length c.args.self.now) blocks c.loop-i.i c.requires below))

pub loop-i-init : goal.loop-i-init
loop-i-init c = record { long = refl; counted = adds_none c.args.self.now _ (λ m. refl) }

pub loop-i-preserved : goal.loop-i-preserved
loop-i-preserved c =
    let blocks = c.args.version.now.blocks in
    let i = c.loop-i.i in
    let below : i < length blocks = omega (arith, c.loop-i-test.true, c.count-i-end.ensures) in
    let block = c.block_at.result in
    record {
      long = c.count.ensures.length ∙ c.loop-i.invariant.long;
      counted = adds_on c.args.self.now c.loop-i.self c.count.new.self (λ m. times m (take i blocks))
          (λ m. times m (block ∷ [])) (λ m. times m (take (i + 1) blocks)) c.loop-i.invariant.counted
          c.count.ensures.counted (times_more blocks i block below c.block_at.ensures);
    }

pub returns-clause-counted : goal.returns-clause-counted
returns-clause-counted c =
    let blocks = c.args.version.now.blocks in
    let i = c.loop-i.i in
    adds_same c.args.self.now c.loop-i.self (λ m. times m (take i blocks)) (λ m. times m blocks)
    c.loop-i.invariant.counted
    (times_all blocks i (omega (arith, c.loop-i-test.false, c.count-i-end.ensures)))
