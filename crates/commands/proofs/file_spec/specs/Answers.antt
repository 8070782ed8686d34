use Rattle.spec_language.specs.Common.{AreSpecs}
use Rattle.spec_language.specs.declared.command.Spec.{Spec}
use Rattle.commands.proofs.MadeLaws.{are_parted}
use Rattle.commands.proofs.NumberLaws.{if_none}
use Rattle.commands.proofs.SpecLaws.{specs_are, specs_parts, no_sides, second_side}
use Rattle.commands.proofs.file_spec.specs.Goals as goal

pub returns-in_err-back-clause-none : goal.returns-in_err-back-clause-none
returns-in_err-back-clause-none c =
    let parted = are_parted 61 c.args.text.now _ _ c.length_before.result c.split_at.ensures.front
    c.split_at.ensures.back c.length_before.ensures.other c.length_before.ensures.mark in
    let none : (to from : Spec) → AreSpecs c.args.text.now to from
    → ⊥ = λ to from s. no_sides c.args.text.now _ _ to from parted c.in_err-back.ensures.cases s in
    if_none _ _ none

pub returns-in_err-to-clause-none : goal.returns-in_err-to-clause-none
returns-in_err-to-clause-none c =
    let parted = are_parted 61 c.args.text.now _ _ c.length_before.result c.split_at.ensures.front
    c.split_at.ensures.back c.length_before.ensures.other c.length_before.ensures.mark in
    let none : (to from : Spec) → AreSpecs c.args.text.now to from
    → ⊥ = λ to from s. c.in_err-to.ensures.none to (specs_parts c.args.text.now _ _ to from parted s).left in
    if_none _ _ none

pub returns-in_err-from-clause-none : goal.returns-in_err-from-clause-none
returns-in_err-from-clause-none c =
    let parted = are_parted 61 c.args.text.now _ _ c.length_before.result c.split_at.ensures.front
    c.split_at.ensures.back c.length_before.ensures.other c.length_before.ensures.mark in
    let none : (to from : Spec) → AreSpecs c.args.text.now to from
    → ⊥ = λ to from s. c.in_err-from.ensures.none from
    (second_side c.args.text.now _ _ _ _ to from parted c.in_ok-back.ensures.cases.0 s) in
    if_none _ _ none

pub returns-clause-some : goal.returns-clause-some
returns-clause-some c =
    let parted = are_parted 61 c.args.text.now _ _ c.length_before.result c.split_at.ensures.front
    c.split_at.ensures.back c.length_before.ensures.other c.length_before.ensures.mark in
    specs_are c.args.text.now _ _ _ _ _ _ parted c.in_ok-back.ensures.cases.0 c.in_ok-to.ensures.some
    c.in_ok-from.ensures.some
