use Rattle.std.proofs.Common.{◌≡◌, ◌≤◌, ℕ, None, length, slice_index, take}
use Rattle.salvage.specs.Common.{AreClaimed}
use Rattle.salvage.proofs.claims.Claims.claim_data.Given as goal

abbrev pub invariant-loop-i : goal.invariant-loop-i
invariant-loop-i l = record {
  long : length l.self ≡ length l.fn.self;
  claimed : AreClaimed l.fn.self l.self (take l.i l.version.blocks) None;
  few : ((n : ℕ) → slice_index l.fn.self n ≤ 4) → (n : ℕ) → slice_index l.self n ≤ 4;
}
