use Rattle.commands.specs.Common.{is_other_than}
use Rattle.commands.proofs.FieldLaws.{are_more, is_other}
use Rattle.commands.proofs.fields.at_comma.Goals as goal

pub loop-i-preserved : goal.loop-i-preserved
loop-i-preserved c = are_more (is_other_than 44) c.args.text.now c.loop-i.i c.loop-i-test.true
    (is_other _ 44 c.if-byte-eq44.false) c.loop-i.invariant
