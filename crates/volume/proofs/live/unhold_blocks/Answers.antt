use Rattle.spec_image.specs.Common.{times}
use Rattle.alloctab.specs.Common.{holds}
use Rattle.std.proofs.Common.{◌<◌, ◌+◌, ℕ, take, sym, ap, subst, ◌∙◌, arith, length}
use Rattle.volume.proofs.common.ReleasedBlocks.{still_held, next_less, rest_more}
use Rattle.volume.proofs.live.unhold_blocks.Goals as goal

pub unhold-requires-clause-held : goal.unhold-requires-clause-held
unhold-requires-clause-held c =
    let below : c.loop-i.i < length c.args.version.now.blocks = let a = c.loop-i-test.true in
    let b = c.count-i-end.ensures in omega arith in
    let block = c.block_at.result in
    still_held c.args.table.now.held c.loop-i.table.held c.args.version.now.blocks c.loop-i.i
    block below c.block_at.ensures c.loop-i.invariant.held (c.requires.held block)

pub unhold-requires-clause-inside : goal.unhold-requires-clause-inside
unhold-requires-clause-inside c =
    let below : c.loop-i.i < length c.args.version.now.blocks = let a = c.loop-i-test.true in
    let b = c.count-i-end.ensures in omega arith in
    let block = c.block_at.result in
    let there = still_held c.args.table.now.held c.loop-i.table.held c.args.version.now.blocks c.loop-i.i
    block below c.block_at.ensures c.loop-i.invariant.held (c.requires.held block) in
    let held = c.loop-i.invariant.held block in
    subst (λ (n : ℕ). block < n) (sym (ap (λ t. t.size) c.loop-i.invariant.rest))
    (c.requires.inside block (omega arith))

pub loop-i-preserved : goal.loop-i-preserved
loop-i-preserved c =
    let below : c.loop-i.i < length c.args.version.now.blocks = let a = c.loop-i-test.true in
    let b = c.count-i-end.ensures in omega arith in
    let block = c.block_at.result in
    let there = still_held c.args.table.now.held c.loop-i.table.held c.args.version.now.blocks c.loop-i.i
    block below c.block_at.ensures c.loop-i.invariant.held (c.requires.held block) in
    record {
      held = λ n. ap (λ t. holds t n + times n (take (c.loop-i.i + 1) c.args.version.now.blocks)) c.unhold.ensures
          ∙ next_less c.args.table.now.held c.loop-i.table.held c.args.version.now.blocks c.loop-i.i
          block below c.block_at.ensures c.loop-i.invariant.held there n;
      rest = rest_more c.args.table.now c.loop-i.table c.unhold.new.self _ c.loop-i.invariant.rest
          c.unhold.ensures;
    }
