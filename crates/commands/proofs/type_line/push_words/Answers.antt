use Rattle.std.proofs.Common.{◌/◌, length}
use Rattle.commands.proofs.TypeLaws.{chunks_pushed}
use Rattle.commands.proofs.type_line.push_words.Goals as goal

pub returns : goal.returns
returns c =
    chunks_pushed c.args.bytes.now.items c.loop-word.bytes.items c.args.words.now 128 (length c.args.words.now / 128) _
    c.loop-word.word-index c.loop-word-test.false c.as_chunks.ensures.back c.loop-word.invariant
