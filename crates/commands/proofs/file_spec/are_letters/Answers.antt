use Rattle.std.proofs.Common.{sym}
use Rattle.spec_language.specs.Common.{is_letter}
use Rattle.commands.proofs.FieldLaws.{are_more}
use Rattle.commands.proofs.SpecLaws.{not_letters}
use Rattle.commands.proofs.file_spec.are_letters.Goals as goal

pub returns-then-not-is_letter : goal.returns-then-not-is_letter
returns-then-not-is_letter c = (
  λ e. cc,
  λ a. not_letters c.args.text.now c.loop-byte.byte-index c.loop-byte-test.true c.if-not-is_letter.ensures a,
)

pub loop-byte-preserved : goal.loop-byte-preserved
loop-byte-preserved c = are_more is_letter c.args.text.now c.loop-byte.byte-index c.loop-byte-test.true
    (sym c.if-not-is_letter.ensures) c.loop-byte.invariant
