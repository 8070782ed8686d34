use Rattle.std.proofs.Common.{ℕ}
use Rattle.commands.specs.Common.{IsDayText}
use Rattle.commands.proofs.DayLaws.{no_day, no_date, if_refused}
use Rattle.commands.proofs.NumberLaws.{if_none}
use Rattle.commands.proofs.dates.date_named.Goals as goal

pub returns-in_err-first-clause-none : goal.returns-in_err-first-clause-none
returns-in_err-first-clause-none c =
    let none : (date : ℕ) → IsDayText c.args.text.now date
    → ⊥ = λ date t. c.in_err-first.ensures.none t.first t.second t.third t.hyphened in
    if_none _ _ none

pub returns-in_err-year-clause-none : goal.returns-in_err-year-clause-none
returns-in_err-year-clause-none c =
    let none : (date : ℕ) → IsDayText c.args.text.now date
    → ⊥ = λ date t. no_day c.args.text.now _ _ _ date c.in_ok-first.ensures.some c.in_err-year.ensures.none t in
    if_none _ _ none

pub returns-clause-none : goal.returns-clause-none
returns-clause-none c = if_refused c.date_of.result c.ok.result c.ok.ensures.variant c.date_of.ensures.accepts.1
    (λ refused date t. no_date c.args.text.now _ _ _ _ _ _ date c.in_ok-first.ensures.some c.in_ok-year.ensures.some
    refused t)
