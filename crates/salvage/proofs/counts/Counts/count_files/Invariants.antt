use Rattle.std.proofs.Common.{◌≡◌, length, take}
use Rattle.salvage.specs.Common.{claims}
use Rattle.salvage.proofs.CountLaws.{Adds}
use Rattle.salvage.proofs.counts.Counts.count_files.Given as goal

abbrev pub invariant-loop-file : goal.invariant-loop-file
invariant-loop-file l = record {
  long : length l.self ≡ length l.fn.self;
  counted : Adds l.fn.self l.self (λ m. claims (take l.file-index l.files) m);
}
