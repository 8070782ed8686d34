use Rattle.std.proofs.Common.{◌∙◌}
use Rattle.words36.proofs.BlockLaws.{number_at-group}
use Rattle.words36.proofs.block.number_of.Goals as goal

pub returns : goal.returns
returns c = c.from_be_bytes.ensures ∙ number_at-group c.args.bytes.now _ c.args.place c.in-Ok.ensures.1.same
