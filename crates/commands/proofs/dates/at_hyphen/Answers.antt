use Rattle.std.proofs.Common.{List, ℕ}
use Rattle.commands.specs.Common.{IsAtHyphen}
use Rattle.commands.proofs.DayLaws.{no_hyphen}
use Rattle.commands.proofs.MadeLaws.{are_parted}
use Rattle.commands.proofs.NumberLaws.{if_none}
use Rattle.commands.proofs.dates.at_hyphen.Goals as goal

pub returns-in_err-after-clause-none : goal.returns-in_err-after-clause-none
returns-in_err-after-clause-none c =
    let parted = are_parted 45 c.args.text.now _ _ c.length_before.result c.split_at.ensures.front
    c.split_at.ensures.back c.length_before.ensures.other c.length_before.ensures.mark in
    let none : (before after : List ℕ) → IsAtHyphen c.args.text.now before after
    → ⊥ = λ before after at. no_hyphen c.args.text.now _ _ before after parted c.in_err-after.ensures.cases at in
    if_none _ _ none
