use Rattle.std.proofs.Common.{◌≡◌, ◌++◌, take}
use Rattle.std.specs.Prelude.{flat_map}
use Rattle.spec_language.specs.Common.{not_null}
use Rattle.commands.proofs.type_line.push_characters.Given as goal

abbrev pub invariant-loop-character : goal.invariant-loop-character
invariant-loop-character l = l.bytes.items ≡ l.fn.bytes.items ++ flat_map not_null
    (take l.character-index l.character-items)
