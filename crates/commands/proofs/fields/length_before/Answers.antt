use Rattle.commands.specs.Common.{is_other_than}
use Rattle.commands.proofs.FieldLaws.{are_more, is_other}
use Rattle.commands.proofs.fields.length_before.Goals as goal

pub loop-i-preserved : goal.loop-i-preserved
loop-i-preserved c = are_more (is_other_than c.args.mark) c.args.text.now c.loop-i.i c.loop-i-test.true
    (is_other _ c.args.mark c.if-byte-mark.false) c.loop-i.invariant
