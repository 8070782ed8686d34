use Rattle.std.proofs.Common.{rules}
use Rattle.collection.proofs.NameLaws.{ended_plain}
use Rattle.collection.proofs.host_names.push_plain.Goals as goal

pub returns : goal.returns
returns c = ended_plain c.loop-byte.text.items _ c.args.part.now c.loop-byte.room c.loop-byte.byte-index (search rules)
    c.loop-byte.invariant
