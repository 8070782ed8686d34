use Rattle.std.proofs.Common.{◌≡◌, ◌*◌, length, take}
use Rattle.alloctab.specs.Common.{words_of}
use Rattle.volume.specs.Common.{bit_below}
use Rattle.volume.proofs.fresh.table_block.Given as goal

abbrev pub invariant-loop-place : goal.invariant-loop-place
invariant-loop-place l = record {
  long : length l.words ≡ 128;
  front : take l.place l.words ≡ words_of (bit_below l.limit) (4608 * l.i) l.place;
}
