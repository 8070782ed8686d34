use Rattle.std.proofs.Common.{ℕ, ◌<◌, slice_index, take}
use Rattle.spec_image.specs.Common.{times}
use Rattle.salvage.proofs.claims.Claims.full_among.Given as goal

abbrev pub invariant-loop-block : goal.invariant-loop-block
invariant-loop-block l = (n : ℕ) → 0 < times n (take l.block-index l.blocks) → slice_index l.self n < 4
