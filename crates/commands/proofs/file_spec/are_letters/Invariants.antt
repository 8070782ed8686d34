use Rattle.std.proofs.Common.{take}
use Rattle.spec_language.specs.Common.{is_letter, Are}
use Rattle.commands.proofs.file_spec.are_letters.Given as goal

abbrev pub invariant-loop-byte : goal.invariant-loop-byte
invariant-loop-byte l = Are is_letter (take l.byte-index l.text)
