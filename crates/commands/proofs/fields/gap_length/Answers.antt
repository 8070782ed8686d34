use Rattle.spec_language.specs.Common.{is_space}
use Rattle.commands.proofs.FieldLaws.{are_more, is_same}
use Rattle.commands.proofs.fields.gap_length.Goals as goal

pub loop-i-preserved : goal.loop-i-preserved
loop-i-preserved c = are_more is_space c.args.text.now c.loop-i.i c.loop-i-test.true
    (is_same _ 32 c.if-byte-ne32.false) c.loop-i.invariant
