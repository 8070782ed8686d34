use Rattle.std.proofs.Common.{◌≡◌, ◌+◌, ◌++◌, drop, take, length}
use Rattle.spec_machine.specs.Common.{word_count, joined}
use Rattle.usercore.proofs.user_core.Core.gather.Given as goal

abbrev pub invariant-loop-area : goal.invariant-loop-area
invariant-loop-area l = record {
  so_far : take l.done l.words ++ joined l.self (drop l.area-index l.areas) ≡ joined l.self l.areas;
  counted : l.done + word_count (drop l.area-index l.areas) ≡ length l.words;
}
