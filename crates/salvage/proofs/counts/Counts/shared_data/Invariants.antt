use Rattle.std.proofs.Common.{◌≡◌, ℕ, ◌<◌, slice_index, take}
use Rattle.spec_image.specs.Common.{times}
use Rattle.salvage.proofs.counts.Counts.shared_data.Given as goal

abbrev pub invariant-loop-i : goal.invariant-loop-i
invariant-loop-i l = (n : ℕ) → 0 < times n (take l.i l.version.blocks) → slice_index l.self n ≡ 1
