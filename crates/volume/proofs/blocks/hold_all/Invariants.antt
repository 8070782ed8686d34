use Rattle.std.proofs.Common.{◌≡◌, ◌+◌, ℕ, take}
use Rattle.spec_image.specs.Common.{times}
use Rattle.alloctab.specs.Common.{IsTable, holds}
use Rattle.volume.proofs.blocks.hold_all.Given as goal

abbrev pub invariant-loop-block : goal.invariant-loop-block
invariant-loop-block l = record {
  sound : IsTable l.table;
  held : (n : ℕ) → holds l.table n ≡ holds l.fn.table n + times n (take l.block-index l.blocks);
  rest : l.table ≡ record l.fn.table { held = l.table.held };
}
