use Rattle.spec_language.specs.Common.{IsSpec}
use Rattle.spec_language.specs.declared.command.Spec.{Spec}
use Rattle.commands.proofs.MadeLaws.{are_parted}
use Rattle.commands.proofs.NumberLaws.{if_none}
use Rattle.commands.proofs.SpecLaws.{spec_is, spec_parts}
use Rattle.commands.proofs.file_spec.spec.Goals as goal

pub returns-clause-some : goal.returns-clause-some
returns-clause-some c =
    let parted = are_parted 91 c.args.text.now _ _ c.length_before.result c.split_at.ensures.front
    c.split_at.ensures.back c.length_before.ensures.other c.length_before.ensures.mark in
    spec_is c.args.text.now _ _ _ parted c.in_ok-name.ensures.some c.in_ok-owner.ensures.some

pub returns-in_err-name-clause-none : goal.returns-in_err-name-clause-none
returns-in_err-name-clause-none c =
    let parted = are_parted 91 c.args.text.now _ _ c.length_before.result c.split_at.ensures.front
    c.split_at.ensures.back c.length_before.ensures.other c.length_before.ensures.mark in
    let none : (x : Spec) → IsSpec c.args.text.now x
    → ⊥ = λ x s. c.in_err-name.ensures.none x.name.name x.name.ext (spec_parts c.args.text.now _ _ x parted s).0 in
    if_none _ _ none

pub returns-in_err-owner-clause-none : goal.returns-in_err-owner-clause-none
returns-in_err-owner-clause-none c =
    let parted = are_parted 91 c.args.text.now _ _ c.length_before.result c.split_at.ensures.front
    c.split_at.ensures.back c.length_before.ensures.other c.length_before.ensures.mark in
    let none : (x : Spec) → IsSpec c.args.text.now x
    → ⊥ = λ x s. c.in_err-owner.ensures.none x.owner (spec_parts c.args.text.now _ _ x parted s).1 in
    if_none _ _ none
