use Rattle.std.proofs.Common.{◌≡◌, ◌*◌, ◌++◌, length, take, drop, All}
use Rattle.words36.specs.Common.{IsWord, nine_bytes}
use Rattle.words36.proofs.nines.block_to_nine.Given as goal

abbrev pub invariant-loop-pair : goal.invariant-loop-pair
invariant-loop-pair l = record {
  so_far : nine_bytes l.block ≡ take (9 * l.pair) l.bytes ++ nine_bytes (drop (2 * l.pair) l.block);
  long : length l.bytes ≡ 576;
  words : All IsWord (take (2 * l.pair) l.block);
}
