use Rattle.std.proofs.Common.{sym}
use Rattle.spec_language.specs.Common.{is_character}
use Rattle.commands.proofs.FieldLaws.{are_more}
use Rattle.commands.proofs.WordLaws.{no_character}
use Rattle.commands.proofs.input_words.first_misfit.Goals as goal

pub returns-then-not-is_character-clause-refused : goal.returns-then-not-is_character-clause-refused
returns-then-not-is_character-clause-refused c = λ some all.
    let wrong = no_character c.args.bytes.now c.loop-i.i c.loop-i-test.true c.if-not-is_character.ensures all in
    cc

pub loop-i-preserved : goal.loop-i-preserved
loop-i-preserved c = are_more is_character c.args.bytes.now c.loop-i.i c.loop-i-test.true
    (sym c.if-not-is_character.ensures) c.loop-i.invariant
