use Rattle.std.proofs.Common.{◌<◌, ◌≤◌, ℕ, length, arith, subst, sym, ◌∙◌}
use Rattle.spec_image.specs.Common.{times}
use Rattle.directory.proofs.ChainPuts.{times_get}
use Rattle.salvage.proofs.CountLaws.{alone_more, times_all}
use Rattle.salvage.proofs.counts.Counts.shared_data.Goals as goal

pub returns-then-of-ne1-clause-among : goal.returns-then-of-ne1-clause-among
returns-then-of-ne1-clause-among c =
    let blocks = c.args.version.now.blocks in
    let below : c.loop-i.i < length blocks = omega (arith, c.loop-i-test.true, c.count-i-end.ensures) in
    subst (λ (m : ℕ). 0 < times m blocks) (sym c.block_at-block.ensures) (times_get blocks c.loop-i.i below)

pub loop-i-preserved : goal.loop-i-preserved
loop-i-preserved c =
    let blocks = c.args.version.now.blocks in
    let below : c.loop-i.i < length blocks = omega (arith, c.loop-i-test.true, c.count-i-end.ensures) in
    alone_more c.args.self.now blocks c.loop-i.i c.block_at-block.result below c.block_at-block.ensures
    (sym c.of.ensures ∙ c.if-of-ne1.false) c.loop-i.invariant

pub returns-clause-alone : goal.returns-clause-alone
returns-clause-alone c =
    let blocks = c.args.version.now.blocks in
    let past : length blocks ≤ c.loop-i.i = omega (arith, c.loop-i-test.false, c.count-i-end.ensures) in
    λ n among. c.loop-i.invariant n (subst (λ (k : ℕ). 0 < k) (times_all blocks c.loop-i.i past n) among)
