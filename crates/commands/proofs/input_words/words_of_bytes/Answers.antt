use Rattle.std.proofs.Common.{◌≡◌, ◌+◌, ◌-◌, ◌*◌, ◌≤◌, ◌^◌, ℕ, length, refl, subst, arith}
use Rattle.words36.specs.Common.{number_at}
use Rattle.commands.proofs.WordLaws.{not_eights, no_word, all_words}
use Rattle.commands.proofs.input_words.words_of_bytes.Goals as goal

pub returns-then-bytes-ne0 : goal.returns-then-bytes-ne0
returns-then-bytes-ne0 c = (
  λ words all same. not_eights c.args.bytes.now words c.if-bytes-ne0.true same,
  (refl, refl, c.if-bytes-ne0.true),
)

pub returns-in_default : goal.returns-in_default
returns-in_default c =
    let inside : 8 * c.loop-place.place + 8 ≤ length c.args.bytes.now = omega arith in
    let bad : 2 ^ 36 ≤ number_at c.args.bytes.now c.loop-place.place = grind arith in
    let place : c.loop-place.place ≡ c.loop-place.place + 1 - 1 = omega arith in (
      λ words all same. no_word c.args.bytes.now words c.loop-place.place inside bad all same,
      (
        refl,
        omega arith,
        omega (arith, inside),
        c.if-bytes-ne0.false,
        λ before h. c.loop-place.invariant.1.fits before (omega (arith, h)),
        subst (λ (n : ℕ). 2 ^ 36 ≤ number_at c.args.bytes.now n) place bad,
      ),
    )

pub returns : goal.returns
returns c = all_words c.args.bytes.now c.loop-place.words.items c.loop-place.place
    (λ j. let few = c.type_inv.bytes j in grind arith)
    c.if-bytes-ne0.false c.loop-place-test.false c.loop-place.auto.place-end c.loop-place.invariant.0
    c.loop-place.invariant.1
