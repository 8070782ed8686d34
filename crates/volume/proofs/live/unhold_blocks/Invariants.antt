use Rattle.std.proofs.Common.{◌≡◌, ◌+◌, ℕ, take}
use Rattle.spec_image.specs.Common.{times}
use Rattle.alloctab.specs.Common.{holds}
use Rattle.volume.proofs.live.unhold_blocks.Given as goal

abbrev pub invariant-loop-i : goal.invariant-loop-i
invariant-loop-i l = record {
  held : (n : ℕ) → holds l.table n + times n (take l.i l.version.blocks) ≡ holds l.fn.table n;
  rest : l.table ≡ record l.fn.table { held = l.table.held };
}
