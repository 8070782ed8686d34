use Rattle.std.proofs.Common.{◌≡◌, ◌-◌, ◌*◌, ◌++◌, length, take, drop}
use Rattle.words36.specs.Common.{nine_words, pairs_in}
use Rattle.words36.proofs.nines.block_from_nine.Given as goal

abbrev pub invariant-loop-pair : goal.invariant-loop-pair
invariant-loop-pair l = record {
  so_far : nine_words l.bytes ≡ take (2 * l.pair) l.block ++ pairs_in (64 - l.pair) (drop (9 * l.pair) l.bytes);
  long : length l.block ≡ 128;
}
