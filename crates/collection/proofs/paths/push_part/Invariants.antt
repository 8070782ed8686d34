use Rattle.std.proofs.Common.{◌≡◌, ◌++◌, take, flat_map, string_bytes}
use Rattle.collection.specs.Common.{escaped}
use Rattle.collection.proofs.paths.push_part.Given as goal

abbrev pub invariant-loop-character : goal.invariant-loop-character
invariant-loop-character l = string_bytes l.text
    ≡ string_bytes l.fn.text ++ flat_map escaped (take l.character-index l.fn.part)
