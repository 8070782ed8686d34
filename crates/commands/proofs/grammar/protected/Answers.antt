use Rattle.std.proofs.Common.{ℕ}
use Rattle.spec_language.specs.Common.{IsProtected}
use Rattle.spec_language.specs.declared.command.Spec.{Spec}
use Rattle.commands.proofs.MadeLaws.{are_parted, protected_parts, protected_is}
use Rattle.commands.proofs.NumberLaws.{if_none}
use Rattle.commands.proofs.grammar.protected.Goals as goal

pub returns-clause-some : goal.returns-clause-some
returns-clause-some c =
    let parted = are_parted 60 c.args.text.now _ _ c.length_before.result c.split_at.ensures.front
    c.split_at.ensures.back c.length_before.ensures.other c.length_before.ensures.mark in
    protected_is c.args.text.now _ _ _ _ parted c.in_ok-spec.ensures.some c.in_ok-number.ensures.some

pub returns-in_err-spec-clause-none : goal.returns-in_err-spec-clause-none
returns-in_err-spec-clause-none c =
    let parted = are_parted 60 c.args.text.now _ _ c.length_before.result c.split_at.ensures.front
    c.split_at.ensures.back c.length_before.ensures.other c.length_before.ensures.mark in
    let none : (spec : Spec) (number : ℕ) → IsProtected c.args.text.now spec number
    → ⊥ = λ spec number m. c.in_err-spec.ensures.none spec
    (protected_parts c.args.text.now _ _ spec number parted m).0 in
    if_none _ _ none

pub returns-in_err-number-clause-none : goal.returns-in_err-number-clause-none
returns-in_err-number-clause-none c =
    let parted = are_parted 60 c.args.text.now _ _ c.length_before.result c.split_at.ensures.front
    c.split_at.ensures.back c.length_before.ensures.other c.length_before.ensures.mark in
    let none : (spec : Spec) (number : ℕ) → IsProtected c.args.text.now spec number
    → ⊥ = λ spec number m. c.in_err-number.ensures.none number
    (protected_parts c.args.text.now _ _ spec number parted m).1 in
    if_none _ _ none
