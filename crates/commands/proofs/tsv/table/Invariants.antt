use Rattle.std.proofs.Common.{◌≡◌, take}
use Rattle.std.specs.Prelude.{flat_map}
use Rattle.spec_language.specs.Common.{row_text}
use Rattle.commands.proofs.tsv.table.Given as goal

abbrev pub invariant-loop-entry : goal.invariant-loop-entry
invariant-loop-entry l = l.bytes.items ≡ flat_map (row_text l.fn.owner) (take l.entry-index l.entries)
