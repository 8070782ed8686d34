use Rattle.std.proofs.Common.{◌≡◌, ◌*◌, length, take}
use Rattle.alloctab.specs.Common.{word_bit, words_of}
use Rattle.alloctab.proofs.blocks.table_block.Given as goal

abbrev pub invariant-loop-place : goal.invariant-loop-place
invariant-loop-place l = record {
  long : length l.block ≡ 128;
  front : take l.place l.block ≡ words_of (word_bit l.words) (4608 * l.i) l.place;
}
