use Rattle.std.proofs.Common.{◌≡◌, length}
use Rattle.words36.proofs.BlockLaws.{AreRead}
use Rattle.words36.proofs.block.block_of_words.Given as goal

abbrev pub invariant-loop-place : goal.invariant-loop-place
invariant-loop-place l = record { long : length l.block ≡ 128; read : AreRead l.bytes l.block l.place }
