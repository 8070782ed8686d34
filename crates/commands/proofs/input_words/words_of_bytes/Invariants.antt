use Rattle.std.proofs.Common.{◌≡◌, length}
use Rattle.words36.proofs.BlockLaws.{AreRead}
use Rattle.commands.proofs.input_words.words_of_bytes.Given as goal

abbrev pub invariant-loop-place : goal.invariant-loop-place
invariant-loop-place l = (length l.words.items ≡ l.place) × AreRead l.fn.bytes l.words.items l.place
