use Rattle.std.proofs.Common.{◌≡◌, length, take}
use Rattle.spec_image.specs.Common.{times}
use Rattle.salvage.proofs.CountLaws.{Adds}
use Rattle.salvage.proofs.counts.Counts.count_all.Given as goal

abbrev pub invariant-loop-block : goal.invariant-loop-block
invariant-loop-block l = record {
  long : length l.self ≡ length l.fn.self;
  counted : Adds l.fn.self l.self (λ m. times m (take l.block-index l.blocks));
}
