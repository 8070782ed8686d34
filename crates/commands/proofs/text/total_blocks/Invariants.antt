use Rattle.std.proofs.Common.{◌≡◌, ◌≤◌, ◌*◌, ◌^◌, take}
use Rattle.spec_language.specs.Common.{blocks_in}
use Rattle.commands.proofs.text.total_blocks.Given as goal

abbrev pub invariant-loop-entry : goal.invariant-loop-entry
invariant-loop-entry l = record {
  sum : l.blocks ≡ blocks_in (take l.entry-index l.entries);
  small : l.blocks ≤ l.entry-index * 2 ^ 32;
}
