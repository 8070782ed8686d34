use Rattle.std.proofs.Common.{List, ℕ}
use Rattle.commands.specs.Common.{IsHyphened}
use Rattle.commands.proofs.DayLaws.{one_hyphen}
use Rattle.commands.proofs.NumberLaws.{if_none}
use Rattle.commands.proofs.dates.hyphened.Goals as goal

pub returns-in_err-second-clause-none : goal.returns-in_err-second-clause-none
returns-in_err-second-clause-none c =
    let none : (first second third : List ℕ) → IsHyphened c.args.text.now first second third
    → ⊥ = λ first second third h. one_hyphen c.args.text.now _ _ first second third c.in_ok-first.ensures.some
    c.in_err-second.ensures.none h in
    if_none _ _ none
