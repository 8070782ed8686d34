use Rattle.std.proofs.Common.{◌≡◌, ◌+◌, ℕ, take}
use Rattle.spec_image.specs.Common.{times}
use Rattle.alloctab.specs.Common.{IsTable, holds}
use Rattle.volume.proofs.blocks.hold_blocks.Given as goal

abbrev pub invariant-loop-i : goal.invariant-loop-i
invariant-loop-i l = record {
  sound : IsTable l.table;
  held : (n : ℕ) → holds l.table n ≡ holds l.fn.table n + times n (take l.i l.version.blocks);
  rest : l.table ≡ record l.fn.table { held = l.table.held };
}
