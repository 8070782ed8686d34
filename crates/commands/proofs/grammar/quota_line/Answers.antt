use Rattle.std.proofs.Common.{ℕ}
use Rattle.spec_language.specs.Common.{IsCommand}
use Rattle.spec_language.specs.declared.command.Command.TheVariants.{Quota}
use Rattle.commands.proofs.NumberLaws.{if_none}
use Rattle.commands.proofs.LimitLaws.{is_visible_quota, quota_some, quota_none, no_quota}
use Rattle.commands.proofs.grammar.quota_line.Goals as goal

pub behind_word-requires : goal.behind_word-requires
behind_word-requires c = is_visible_quota _ c.as_slice.ensures

pub returns-in_err-behind_word-clause-none : goal.returns-in_err-behind_word-clause-none
returns-in_err-behind_word-clause-none c =
    let none : (owner blocks : ℕ) → IsCommand c.args.text.now (Quota owner blocks)
    → ⊥ = no_quota c.args.text.now _ c.as_slice.ensures c.in_err-behind_word.ensures.none in
    if_none _ _ none

pub returns-clause-some : goal.returns-clause-some
returns-clause-some c = quota_some c.limit.result c.args.text.now _ _ c.as_slice.ensures
    c.in_ok-behind_word.ensures.some c.limit.ensures.some

pub returns-clause-none : goal.returns-clause-none
returns-clause-none c = quota_none c.limit.result c.args.text.now _ _ c.as_slice.ensures
    c.in_ok-behind_word.ensures.some c.limit.ensures.none
