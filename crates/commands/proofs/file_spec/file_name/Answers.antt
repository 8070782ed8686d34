use Rattle.std.proofs.Common.{ℕ}
use Rattle.commands.specs.Common.{IsFileName}
use Rattle.commands.proofs.MadeLaws.{are_parted}
use Rattle.commands.proofs.NumberLaws.{if_none}
use Rattle.commands.proofs.SpecLaws.{file_is, file_parts}
use Rattle.commands.proofs.file_spec.file_name.Goals as goal

pub returns-clause-some : goal.returns-clause-some
returns-clause-some c =
    let parted = are_parted 46 c.args.text.now _ _ c.length_before.result c.split_at.ensures.front
    c.split_at.ensures.back c.length_before.ensures.other c.length_before.ensures.mark in
    file_is c.args.text.now _ _ _ _ parted c.in_ok-name.ensures.some c.in_ok-ext.ensures.some

pub returns-in_err-name-clause-none : goal.returns-in_err-name-clause-none
returns-in_err-name-clause-none c =
    let parted = are_parted 46 c.args.text.now _ _ c.length_before.result c.split_at.ensures.front
    c.split_at.ensures.back c.length_before.ensures.other c.length_before.ensures.mark in
    let none : (name ext : ℕ) → IsFileName c.args.text.now name ext
    → ⊥ = λ name ext f. c.in_err-name.ensures.none name (file_parts c.args.text.now _ _ name ext parted f).0 in
    if_none _ _ none

pub returns-in_err-ext-clause-none : goal.returns-in_err-ext-clause-none
returns-in_err-ext-clause-none c =
    let parted = are_parted 46 c.args.text.now _ _ c.length_before.result c.split_at.ensures.front
    c.split_at.ensures.back c.length_before.ensures.other c.length_before.ensures.mark in
    let none : (name ext : ℕ) → IsFileName c.args.text.now name ext
    → ⊥ = λ name ext f. c.in_err-ext.ensures.none ext (file_parts c.args.text.now _ _ name ext parted f).1 in
    if_none _ _ none
