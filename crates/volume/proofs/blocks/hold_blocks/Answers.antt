use Rattle.std.proofs.Common.{◌+◌, ◌<◌, ℕ, sym, ap, subst, ◌∙◌, length, arith}
use Rattle.alloctab.specs.Common.{IsTable, holds, sound-with_held}
use Rattle.volume.proofs.common.ReleasedBlocks.{rest_more}
use Rattle.volume.proofs.common.BlockLists.{next_there, holds_next, holds_fit}
use Rattle.volume.proofs.blocks.hold_blocks.Goals as goal

pub hold-requires-clause-inside : goal.hold-requires-clause-inside
hold-requires-clause-inside c =
    let below : c.loop-i.i < length c.args.version.now.blocks = let a = c.loop-i-test.true in
    let b = c.count-i-end.ensures in omega arith in
    let block = c.block_at.result in
    subst (λ (n : ℕ). block < n) (sym (ap (λ t. t.size) c.loop-i.invariant.rest))
    (c.requires.inside block (next_there c.args.version.now.blocks c.loop-i.i block below c.block_at.ensures))

pub hold-requires-clause-fits : goal.hold-requires-clause-fits
hold-requires-clause-fits c =
    let below : c.loop-i.i < length c.args.version.now.blocks = let a = c.loop-i-test.true in
    let b = c.count-i-end.ensures in omega arith in
    let block = c.block_at.result in
    holds_fit c.args.version.now.blocks c.loop-i.i block below c.block_at.ensures c.args.table.now
    c.loop-i.table c.requires.fits c.loop-i.invariant.held

pub loop-i-preserved : goal.loop-i-preserved
loop-i-preserved c =
    let below : c.loop-i.i < length c.args.version.now.blocks = let a = c.loop-i-test.true in
    let b = c.count-i-end.ensures in omega arith in
    let block = c.block_at.result in
    let u = c.loop-i.table in
    let inside = subst (λ (n : ℕ). block < n) (sym (ap (λ t. t.size) c.loop-i.invariant.rest))
    (c.requires.inside block
    (next_there c.args.version.now.blocks c.loop-i.i block below c.block_at.ensures)) in
    record {
      sound = subst IsTable (sym c.hold.ensures)
          (sound-with_held u block (holds u block + 1) c.loop-i.invariant.sound);
      held = λ n. ap (λ t. holds t n) c.hold.ensures
          ∙ holds_next c.args.version.now.blocks c.loop-i.i block below c.block_at.ensures c.args.table.now
          u c.loop-i.invariant.sound inside c.loop-i.invariant.held n;
      rest = rest_more c.args.table.now u c.hold.new.self _ c.loop-i.invariant.rest c.hold.ensures;
    }
