use Rattle.commands.proofs.NumberLaws.{if_none}
use Rattle.std.proofs.Common.{ℕ}
use Rattle.spec_language.specs.Common.{IsNewDirectory}
use Rattle.commands.proofs.MadeLaws.{are_parted, made_is, made_parts}
use Rattle.commands.proofs.grammar.made.Goals as goal

pub returns-clause-some : goal.returns-clause-some
returns-clause-some c =
    let parted = are_parted 60 c.args.text.now _ _ c.length_before.result c.split_at.ensures.front
    c.split_at.ensures.back c.length_before.ensures.other c.length_before.ensures.mark in
    made_is c.args.text.now _ _ _ _ parted c.in_ok-owner.ensures.some c.in_ok-number.ensures.some

pub returns-in_err-owner-clause-none : goal.returns-in_err-owner-clause-none
returns-in_err-owner-clause-none c =
    let parted = are_parted 60 c.args.text.now _ _ c.length_before.result c.split_at.ensures.front
    c.split_at.ensures.back c.length_before.ensures.other c.length_before.ensures.mark in
    let none : (owner number : ℕ) → IsNewDirectory c.args.text.now owner number
    → ⊥ = λ owner number m. c.in_err-owner.ensures.none owner
    (made_parts c.args.text.now _ _ owner number parted m).0 in
    if_none _ _ none

pub returns-in_err-number-clause-none : goal.returns-in_err-number-clause-none
returns-in_err-number-clause-none c =
    let parted = are_parted 60 c.args.text.now _ _ c.length_before.result c.split_at.ensures.front
    c.split_at.ensures.back c.length_before.ensures.other c.length_before.ensures.mark in
    let none : (owner number : ℕ) → IsNewDirectory c.args.text.now owner number
    → ⊥ = λ owner number m. c.in_err-number.ensures.none number
    (made_parts c.args.text.now _ _ owner number parted m).1 in
    if_none _ _ none
