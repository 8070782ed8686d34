use Rattle.std.proofs.Common.{ℕ}
use Rattle.spec_language.specs.Common.{IsPair}
use Rattle.commands.proofs.NumberLaws.{if_none, no_comma, pair_parts, pair_some, pair_none}
use Rattle.commands.proofs.fields.pair.Goals as goal

pub returns-in_err-project-clause-none : goal.returns-in_err-project-clause-none
returns-in_err-project-clause-none c =
    let none : (owner : ℕ) → IsPair c.args.most c.args.text.now owner
    → ⊥ = λ owner. no_comma c.args.text.now c.args.most owner c.in_err-project.ensures.none in
    if_none _ _ none

pub returns-in_err-project-2-clause-none : goal.returns-in_err-project-2-clause-none
returns-in_err-project-2-clause-none c =
    let none : (owner : ℕ) → IsPair c.args.most c.args.text.now owner → ⊥ = λ owner s.
    let parts = pair_parts c.args.text.now _ _ c.args.most owner c.in_ok-project.ensures.some.0
    c.in_ok-project.ensures.some.1 s in
    c.in_err-project-2.ensures.none parts.project parts.before in
    if_none _ _ none

pub returns-in_err-programmer-clause-none : goal.returns-in_err-programmer-clause-none
returns-in_err-programmer-clause-none c =
    let none : (owner : ℕ) → IsPair c.args.most c.args.text.now owner → ⊥ = λ owner s.
    let parts = pair_parts c.args.text.now _ _ c.args.most owner c.in_ok-project.ensures.some.0
    c.in_ok-project.ensures.some.1 s in
    c.in_err-programmer.ensures.none parts.programmer parts.behind in
    if_none _ _ none

pub returns-clause-some : goal.returns-clause-some
returns-clause-some c = pair_some c.new.result c.args.text.now _ _ c.args.most _ _ c.in_ok-project.ensures.some.1
    c.in_ok-project-2.ensures.some c.in_ok-programmer.ensures.some c.new.ensures.value c.new.ensures.fits.0

pub returns-clause-none : goal.returns-clause-none
returns-clause-none c = pair_none c.new.result c.args.text.now _ _ c.args.most _ _ c.in_ok-project.ensures.some.0
    c.in_ok-project.ensures.some.1 c.in_ok-project-2.ensures.some c.in_ok-programmer.ensures.some c.new.ensures.fits.1
