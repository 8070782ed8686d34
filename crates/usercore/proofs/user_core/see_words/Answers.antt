use Rattle.std.proofs.Common.{arith}
use Rattle.usercore.proofs.WriteLaws.{one_seen}
use Rattle.usercore.proofs.user_core.see_words.Goals as goal

pub loop-word-preserved : goal.loop-word-preserved
loop-word-preserved c =
    one_seen c.args.words.now c.loop-word.word-index c.word-item.result c.loop-word-test.true c.word-item.is
    (omega (arith, c.bits-fits.ensures.value, c.bits-fits.ensures.fits)) c.loop-word.invariant

pub returns : goal.returns
returns c k d inside = c.loop-word.invariant k d (omega arith)
