use Rattle.std.proofs.Common.{◌≡◌, ◌++◌, take}
use Rattle.std.specs.Prelude.{flat_map}
use Rattle.words36.specs.Common.{block_bytes}
use Rattle.commands.proofs.type_line.push_blocks.Given as goal

abbrev pub invariant-loop-block : goal.invariant-loop-block
invariant-loop-block l = l.bytes.items ≡ l.fn.bytes.items ++ flat_map block_bytes (take l.block-index l.fn.blocks)
