use Rattle.std.proofs.Common.{◌<◌, ℕ, slice_index_or, refl, subst, sym, ◌∙◌}
use Rattle.directory.proofs.ChainPuts.{times_get}
use Rattle.salvage.proofs.CountLaws.{alone_more, times_all}
use Rattle.salvage.proofs.counts.Counts.shared_among.Goals as goal

pub returns-then-of-ne1-clause-among : goal.returns-then-of-ne1-clause-among
returns-then-of-ne1-clause-among c = times_get c.args.blocks.now c.loop-block.block-index c.loop-block-test.true

pub loop-block-preserved : goal.loop-block-preserved
loop-block-preserved c =
    alone_more c.args.self.now c.args.blocks.now c.loop-block.block-index
    (slice_index_or c.args.blocks.now c.loop-block.block-index 0) c.loop-block-test.true refl
    (sym c.of.ensures ∙ c.if-of-ne1.false) c.loop-block.invariant

pub returns-clause-alone : goal.returns-clause-alone
returns-clause-alone c = λ n among. c.loop-block.invariant n
    (subst (λ (k : ℕ). 0 < k) (times_all c.args.blocks.now c.loop-block.block-index c.loop-block-test.false n) among)
