use Rattle.std.proofs.Common.{◌≡◌, ◌∙◌, false, true, ap, sym}
use Rattle.words36.specs.Common.{packed}
use Rattle.commands.proofs.WordBytes.{characters_exact, characters_none}
use Rattle.commands.proofs.export_file.exact_characters.Goals as goal

pub returns-then-branch-clause-some : goal.returns-then-branch-clause-some
returns-then-branch-clause-some c =
    characters_exact c.args.words.now c.in_ok-text.text.items c.in_ok-text.ensures
    (ap packed (sym c.deref.ensures.value) ∙ c.in_ok-are_packed.ensures.0 c.if-branch.true)

pub returns-else-branch-clause-none : goal.returns-else-branch-clause-none
returns-else-branch-clause-none c =
    characters_none c.args.words.now c.in_ok-text.text.items c.in_ok-text.ensures (λ e.
    let wrong : false ≡ true =
    sym c.if-branch.false ∙ c.in_ok-are_packed.ensures.1 (ap packed c.deref.ensures.value ∙ e) in cc)
