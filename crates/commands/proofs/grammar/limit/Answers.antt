use Rattle.std.proofs.Common.{ℕ}
use Rattle.spec_language.specs.Common.{IsLimit}
use Rattle.commands.proofs.NumberLaws.{if_none}
use Rattle.commands.proofs.MadeLaws.{are_parted}
use Rattle.commands.proofs.LimitLaws.{limit_is, limit_parts, limit_number, no_limit}
use Rattle.commands.proofs.grammar.limit.Goals as goal

pub returns-clause-some : goal.returns-clause-some
returns-clause-some c =
    let parted = are_parted 32 c.args.text.now _ _ c.length_before.result c.split_at.ensures.front
    c.split_at.ensures.back c.length_before.ensures.other c.length_before.ensures.mark in
    limit_is c.args.text.now _ _ _ _ _ _ parted c.in_ok-digits.ensures.cases.0 c.in_ok-owner.ensures.some
    c.in_ok-blocks.ensures.some

pub returns-in_err-owner-clause-none : goal.returns-in_err-owner-clause-none
returns-in_err-owner-clause-none c =
    let parted = are_parted 32 c.args.text.now _ _ c.length_before.result c.split_at.ensures.front
    c.split_at.ensures.back c.length_before.ensures.other c.length_before.ensures.mark in
    let none : (owner blocks : ℕ) → IsLimit c.args.text.now owner blocks
    → ⊥ = λ owner blocks m. c.in_err-owner.ensures.none owner
    (limit_parts c.args.text.now _ _ owner blocks parted m).named in
    if_none _ _ none

pub returns-in_err-digits-clause-none : goal.returns-in_err-digits-clause-none
returns-in_err-digits-clause-none c =
    let parted = are_parted 32 c.args.text.now _ _ c.length_before.result c.split_at.ensures.front
    c.split_at.ensures.back c.length_before.ensures.other c.length_before.ensures.mark in
    let none : (owner blocks : ℕ) → IsLimit c.args.text.now owner blocks
    → ⊥ = λ owner blocks m. no_limit c.args.text.now _ _ owner blocks parted c.in_err-digits.ensures.cases m in
    if_none _ _ none

pub returns-in_err-blocks-clause-none : goal.returns-in_err-blocks-clause-none
returns-in_err-blocks-clause-none c =
    let parted = are_parted 32 c.args.text.now _ _ c.length_before.result c.split_at.ensures.front
    c.split_at.ensures.back c.length_before.ensures.other c.length_before.ensures.mark in
    let none : (owner blocks : ℕ) → IsLimit c.args.text.now owner blocks
    → ⊥ = λ owner blocks m. c.in_err-blocks.ensures.none blocks
    (limit_number c.args.text.now _ _ _ _ owner blocks parted c.in_ok-digits.ensures.cases.0 m) in
    if_none _ _ none
