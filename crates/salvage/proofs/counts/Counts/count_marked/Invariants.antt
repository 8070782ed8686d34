use Rattle.std.proofs.Common.{◌≡◌, length, take}
use Rattle.alloctab.specs.Common.{digit_at}
use Rattle.salvage.proofs.CountLaws.{Adds}
use Rattle.salvage.proofs.counts.Counts.count_marked.Given as goal

abbrev pub invariant-loop-n : goal.invariant-loop-n
invariant-loop-n l = record {
  long : length l.self ≡ length l.fn.self;
  counted : Adds l.fn.self l.self (λ m. digit_at (take l.n l.marks) m);
}
