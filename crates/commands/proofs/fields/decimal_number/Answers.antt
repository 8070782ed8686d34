use Rattle.std.proofs.Common.{◌<◌, ◌+◌, ◌*◌, ℕ, arith, subst, take, sym}
use Rattle.commands.proofs.DecimalLaws.{ReadsDecimal, no_decimal, decimal_more, decimal_small}
use Rattle.commands.proofs.fields.decimal_number.Goals.{then-digit-lt48-via-then-digit-lt48}
use Rattle.commands.proofs.fields.decimal_number.Goals.{then-digit-lt48-via-else-digit-lt48+then-digit-gt57}
use Rattle.commands.proofs.fields.decimal_number.Goals as goal

pub returns-then-digit-lt48-clause-none : goal.returns-then-digit-lt48-clause-none
returns-then-digit-lt48-clause-none c = λ n s.
    let d = no_decimal c.args.least c.args.most n c.args.text.now c.loop-digit.digit-index s c.loop-digit-test.true in
    elim c.then-digit-lt48.branch [
      | then-digit-lt48-via-then-digit-lt48 w ↦ omega
          (arith, d.0)
      | then-digit-lt48-via-else-digit-lt48+then-digit-gt57 w ↦ omega (arith, d.1)
    ]

pub overflow_mul-number : goal.overflow_mul-number
overflow_mul-number c =
    let small : c.loop-digit.number < 100000 = decimal_small c.loop-digit.number c.args.text.now
    c.loop-digit.digit-index
    c.args.most c.loop-digit-test.true c.if-most-text.false c.requires c.loop-digit.invariant in
    omega (arith, small)

pub overflow_add-number : goal.overflow_add-number
overflow_add-number c =
    let small : c.loop-digit.number < 100000 = decimal_small c.loop-digit.number c.args.text.now
    c.loop-digit.digit-index
    c.args.most c.loop-digit-test.true c.if-most-text.false c.requires c.loop-digit.invariant in
    omega (arith, small)

pub loop-digit-preserved : goal.loop-digit-preserved
loop-digit-preserved c = let P : ℕ
    → Type 0 = λ k. ReadsDecimal (c.loop-digit.number * 10 + k) (take (c.loop-digit.digit-index + 1) c.args.text.now) in
    subst P (sym c.from.ensures) (decimal_more c.loop-digit.number c.args.text.now c.loop-digit.digit-index
    c.loop-digit-test.true c.if-digit-lt48.false c.if-digit-gt57.false c.loop-digit.invariant)
