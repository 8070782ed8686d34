use Rattle.std.proofs.Common.{◌≡◌, drop, length}
use Rattle.spec_machine.specs.Common.{after_writes, dealt}
use Rattle.usercore.proofs.user_core.Core.deal.Given as goal

abbrev pub invariant-loop-area : goal.invariant-loop-area
invariant-loop-area l = record {
  so_far : after_writes l.fn.self (dealt l.areas l.words)
      ≡ after_writes l.self (dealt (drop l.area-index l.areas) l.rest);
  long : length l.self ≡ length l.fn.self;
}
