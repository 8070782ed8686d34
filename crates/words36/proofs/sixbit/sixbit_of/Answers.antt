use Rattle.std.proofs.Common.{arith, refl, ◌≡◌}
use Rattle.words36.specs.Common.{sixbit, code}
use Rattle.words36.proofs.Digits.{leading-none, leading-more, leading_6}
use Rattle.words36.proofs.SixbitLaws.{ArePassed-more, front-lt, put_code, characters-sixbit}
use Rattle.words36.proofs.sixbit.sixbit_of.Goals as goal

pub loop-place-init : goal.loop-place-init
loop-place-init c = record {
  bits_are = omega (arith, leading-none (code c.args.text.now) 64);
  passed = λ k d q. absurd (omega arith);
}

pub loop-place-preserved : goal.loop-place-preserved
loop-place-preserved c =
    let text = c.args.text.now in
    let low = front-lt text c.loop-place.place (omega arith) c.loop-place.invariant.passed in
    let fits = c.in_ok-bits.ensures.fits in
    let put = put_code c.loop-place.bits c.in_ok-bits.field-0 (omega arith) fits in
    record {
      bits_are = omega (arith, put, c.in_ok-bits.ensures.value, leading-more (code text) 64 c.loop-place.place);
      passed = ArePassed-more text c.loop-place.place c.loop-place.invariant.passed
          (c.in_ok-bits.ensures.accepts.0 refl);
    }

pub from_bits-requires : goal.from_bits-requires
from_bits-requires c = omega
    (arith, front-lt c.args.text.now c.loop-place.place (omega arith) c.loop-place.invariant.passed)

pub returns-clause-value : goal.returns-clause-value
returns-clause-value c =
    let ended : c.loop-place.place ≡ 6 = omega arith in
    let e = rw ended at c.loop-place.invariant.bits_are in
    omega (arith, e, leading_6 (code c.args.text.now))

pub returns-clause-reads_back : goal.returns-clause-reads_back
returns-clause-reads_back c =
    let value : c.from_bits.result ≡ sixbit c.args.text.now = returns-clause-value c in
    rw value (characters-sixbit c.args.text.now
    (omega arith, λ k d inside. c.loop-place.invariant.passed k d (omega arith) inside))
