use Rattle.std.proofs.Common.{◌≡◌, ◌∙◌, ◌+◌, ◌≤◌, ap, Some, true, false, length, arith, List, ℕ, [], slice_range}
use Rattle.std.proofs.Common.{refl}
use Rattle.std.proofs.lemmas.Bool.Decides.{nat_tests}
use Rattle.usercore.specs.Common.{first_is_good}
use Rattle.usercore.proofs.FirstRings.{out_first_good, out_first_bad}
use Rattle.usercore.proofs.user_core.Core.out_area.Goals as goal

none_taken : (core : List ℕ) (first count : ℕ) → first ≡ 0 → count ≡ 0 → [] ≡ slice_range core first (first + count)
none_taken core first count e f = rw (e, f) refl

pub returns-then-first_is_good-clause-words : goal.returns-then-first_is_good-clause-words
returns-then-first_is_good-clause-words c =
    let core = c.args.self.now in
    let there : c.args.header + 3 ≤ length core = grind (arith, nat_tests) in
    let good : first_is_good core c.args.header ≡ true = cc in
    out_first_good core c.args.header c.args.bytes there (omega arith) (omega arith) (omega arith) good
    ∙ ap Some (none_taken core c.default.result.first c.default.result.count c.default.ensures.0 c.default.ensures.1)

pub returns-else-first_is_good-clause-none : goal.returns-else-first_is_good-clause-none
returns-else-first_is_good-clause-none c =
    let core = c.args.self.now in
    let there : c.args.header + 3 ≤ length core = grind (arith, nat_tests) in
    let bad : first_is_good core c.args.header ≡ false = cc in
    out_first_bad core c.args.header c.args.bytes there (omega arith) (omega arith) (omega arith) bad
