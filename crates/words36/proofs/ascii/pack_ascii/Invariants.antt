use Rattle.std.proofs.Common.{◌≡◌, ◌++◌, All, length}
use Rattle.words36.specs.Common.{packed}
use Rattle.words36.proofs.AsciiLaws.{IsAscii}
use Rattle.words36.proofs.ascii.pack_ascii.Given as goal

abbrev pub invariant-loop-rest : goal.invariant-loop-rest
invariant-loop-rest l = record { so_far : l.words.items ++ packed l.rest ≡ packed l.text; ascii : All IsAscii l.rest }

abbrev pub decreases-loop-rest : goal.decreases-loop-rest
decreases-loop-rest l = length l.rest
