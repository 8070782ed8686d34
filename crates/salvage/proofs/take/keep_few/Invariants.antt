use Rattle.std.proofs.Common.{◌≡◌, ◌≤◌, ℕ, length, slice_index, take}
use Rattle.std.specs.List.{AllByRecursion}
use Rattle.salvage.specs.Common.{AreKept, FitsDisk}
use Rattle.salvage.proofs.take.keep_few.Given as goal

abbrev pub invariant-loop-file : goal.invariant-loop-file
invariant-loop-file l = record {
  long : length l.claimed ≡ length l.fn.claimed;
  few : ((n : ℕ) → slice_index l.fn.claimed n ≤ 4) → (n : ℕ) → slice_index l.claimed n ≤ 4;
  fits : AllByRecursion (FitsDisk (length l.fn.claimed)) l.kept.items;
  kept : AreKept l.are_named l.fn.claimed l.claimed (take (length l.yielded) l.fn.candidates.items) l.kept.items
      l.fn.findings.items l.findings.items;
}
