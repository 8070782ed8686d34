use Rattle.std.proofs.Common.{◌≡◌, ◌<◌, ◌^◌}
use Rattle.alloctab.specs.Common.{number_of}
use Rattle.volume.specs.Common.{bit_below}
use Rattle.volume.proofs.fresh.table_word.Given as goal

abbrev pub invariant-loop-place : goal.invariant-loop-place
invariant-loop-place l = record {
  number_is : l.number ≡ number_of (bit_below l.limit) l.from l.place;
  below : l.number < 2 ^ l.place;
}
