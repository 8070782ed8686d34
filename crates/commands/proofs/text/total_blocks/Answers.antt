use Rattle.std.proofs.Common.{◌≡◌, ◌<◌, ◌^◌, arith}
use Rattle.commands.proofs.TextLaws.{blocks_more}
use Rattle.commands.proofs.text.total_blocks.Goals as goal

pub loop-entry-preserved : goal.loop-entry-preserved
loop-entry-preserved c =
    let more = blocks_more c.args.entries.now c.loop-entry.entry-index c.entry-item.result c.loop-entry-test.true
    c.entry-item.is in
    let from : c.from-blocks.result ≡ c.entry-item.result.blocks = c.from-blocks.ensures in
    let small : c.entry-item.result.blocks < 2 ^ 32 = omega arith in
    record {
      sum = omega (arith, more, c.loop-entry.invariant.sum, from);
      small = omega (arith, c.loop-entry.invariant.small, from, small);
    }
