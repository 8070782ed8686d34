use Rattle.std.proofs.Common.{◌≡◌}
use Rattle.words36.specs.Common.{code}
use Rattle.words36.proofs.Digits.{leading}
use Rattle.words36.proofs.SixbitLaws.{ArePassed}
use Rattle.words36.proofs.sixbit.sixbit_of.Given as goal

abbrev pub invariant-loop-place : goal.invariant-loop-place
invariant-loop-place l = record {
  bits_are : l.bits ≡ leading (code l.text) 64 l.place;
  passed : ArePassed l.text l.place;
}
