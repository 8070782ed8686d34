use Rattle.std.proofs.Common.{◌≡◌, take}
use Rattle.std.specs.Prelude.{flat_map}
use Rattle.spec_language.specs.Common.{entry_text}
use Rattle.commands.proofs.text.listing.Given as goal

abbrev pub invariant-loop-entry : goal.invariant-loop-entry
invariant-loop-entry l = l.bytes.items ≡ flat_map entry_text (take l.entry-index l.entries)
