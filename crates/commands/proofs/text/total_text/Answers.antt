use Rattle.std.specs.String.{string_bytes}
use Rattle.commands.proofs.TextLaws.{total_ok}
use Rattle.commands.proofs.text.total_text.Goals as goal

pub returns : goal.returns
returns c = total_ok string_bytes c.format-2.result c.args.owner c.args.entries.now c.total_blocks-blocks.result
    c.if-is_empty.ensures c.total_blocks-blocks.ensures c.format-2.ensures.ok
