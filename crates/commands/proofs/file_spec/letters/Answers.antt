use Rattle.std.proofs.Common.{◌∙◌, refl}
use Rattle.commands.proofs.SpecLaws.{letters_sixbit, is_there}
use Rattle.commands.proofs.file_spec.letters.Goals as goal

pub returns-clause-none : goal.returns-clause-none
returns-clause-none c =
    let text = letters_sixbit c.args.text.now c.args.most c.requires c.if-most-text.false
    (c.if-not-are_letters.ensures.0 refl) in
    is_there _ _ (c.ok.ensures.variant ∙ c.sixbit_of.ensures.accepts.1 text)
