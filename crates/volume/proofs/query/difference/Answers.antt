use Rattle.std.proofs.Common.{◌≡◌, ◌<◌, ◌^◌, ℕ, ℤ, w64, pos, ◌-ℤ◌, FitsSigned, to_z, of_z, arith, sym, subst, ◌∙◌}
use Rattle.std.proofs.lemmas.Int.{to_z-of_z, ints}
use Rattle.volume.proofs.query.difference.Goals as goal

fits_pos : (n : ℕ) → n < 2 ^ 63 → FitsSigned w64 (pos n)
fits_pos n few = search (arith, ints)

fits_difference : (a b : ℕ) → a < 2 ^ 32 → b < 2 ^ 63 → FitsSigned w64 (pos a -ℤ pos b)
fits_difference a b few few' = search (arith, ints)

plain : (a b : ℕ) (z : ℤ) → z ≡ pos a → a < 2 ^ 32 → b < 2 ^ 63 → to_z w64 (of_z w64 z) -ℤ to_z w64 b ≡ pos a -ℤ pos b
plain a b z is few few' = omega (arith, ints)

pub overflow_cast-result : goal.overflow_cast-result
overflow_cast-result c = fits_pos c.args.less c.requires

pub overflow_sub-result : goal.overflow_sub-result
overflow_sub-result c = subst (FitsSigned w64)
    (sym (plain c.args.blocks c.args.less c.from.result c.from.ensures c.ranges.blocks.fits c.requires))
    (fits_difference c.args.blocks c.args.less c.ranges.blocks.fits c.requires)

pub returns : goal.returns
returns c =
    to_z-of_z w64 _ (overflow_sub-result c)
    ∙ plain c.args.blocks c.args.less c.from.result c.from.ensures c.ranges.blocks.fits c.requires
