use Rattle.std.proofs.Common.{ℕ, List, arith, ◌∷◌, []}
use Rattle.spec_language.specs.Common.{AreFields}
use Rattle.commands.proofs.FieldLaws.{no_second, more_than_two, two_fields_are}
use Rattle.commands.proofs.NumberLaws.{if_none}
use Rattle.commands.proofs.grammar.two_fields.Goals as goal

pub returns-in_err-word-clause-none : goal.returns-in_err-word-clause-none
returns-in_err-word-clause-none c =
    let none : (one other : List ℕ) → AreFields (one ∷ other ∷ []) c.args.text.now
    → ⊥ = λ one other. c.in_err-word.ensures.none one (other ∷ []) in
    if_none _ _ none

pub returns-in_err-argument-clause-none : goal.returns-in_err-argument-clause-none
returns-in_err-argument-clause-none c =
    let none : (one other : List ℕ) → AreFields (one ∷ other ∷ []) c.args.text.now
    → ⊥ = λ one other. no_second c.args.text.now _ _ one other c.in_ok-word.ensures.some
    c.in_err-argument.ensures.none in
    if_none _ _ none

pub returns-then-is_empty-clause-some : goal.returns-then-is_empty-clause-some
returns-then-is_empty-clause-some c = two_fields_are c.args.text.now _ _ _ _ c.in_ok-word.ensures.some
    c.in_ok-argument.ensures.some c.if-is_empty.ensures

pub returns-else-is_empty-clause-none : goal.returns-else-is_empty-clause-none
returns-else-is_empty-clause-none c = λ one other a. more_than_two c.args.text.now _ _ _ _ one other
    c.in_ok-word.ensures.some c.in_ok-argument.ensures.some (grind arith) a
