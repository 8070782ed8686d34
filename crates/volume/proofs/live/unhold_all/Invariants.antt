use Rattle.std.proofs.Common.{◌≡◌, ◌+◌, ℕ, take}
use Rattle.spec_image.specs.Common.{times}
use Rattle.alloctab.specs.Common.{holds}
use Rattle.volume.proofs.live.unhold_all.Given as goal

abbrev pub invariant-loop-block : goal.invariant-loop-block
invariant-loop-block l = record {
  held : (n : ℕ) → holds l.table n + times n (take l.block-index l.blocks) ≡ holds l.fn.table n;
  rest : l.table ≡ record l.fn.table { held = l.table.held };
}
