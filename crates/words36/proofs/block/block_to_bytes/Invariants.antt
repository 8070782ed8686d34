use Rattle.std.proofs.Common.{◌≡◌, ◌*◌, length, take, All}
use Rattle.words36.specs.Common.{IsWord, block_bytes}
use Rattle.words36.proofs.block.block_to_bytes.Given as goal

abbrev pub invariant-loop-place : goal.invariant-loop-place
invariant-loop-place l = record {
  so_far : take (8 * l.place) l.bytes ≡ block_bytes (take l.place l.block);
  long : length l.bytes ≡ 1024;
  words : All IsWord (take l.place l.block);
}
