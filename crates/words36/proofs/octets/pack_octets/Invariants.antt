use Rattle.std.proofs.Common.{◌≡◌, ◌++◌, length}
use Rattle.words36.specs.Common.{octets_packed}
use Rattle.words36.proofs.octets.pack_octets.Given as goal

abbrev pub invariant-loop-rest : goal.invariant-loop-rest
invariant-loop-rest l = l.words.items ++ octets_packed l.rest ≡ octets_packed l.bytes

abbrev pub decreases-loop-rest : goal.decreases-loop-rest
decreases-loop-rest l = length l.rest
