use Rattle.std.proofs.Common.{inr}
use Rattle.filser.proofs.LedImages.{is_free}
use Rattle.filser.proofs.program.report_streams.Goals as goal

pub returns-in-Some-failed : goal.returns-in-Some-failed
returns-in-Some-failed g c =
    inr (c.of_words.ensures.errors (is_free c.of_words.result.errors c.if-not-of_words.false))
