use Rattle.std.proofs.Common.{◌++◌, take}
use Rattle.std.proofs.KnownBytes.{Consumes-trans}
use Rattle.commands.proofs.input_words.read_input.Goals as goal

pub returns-in_default-clause-taken : goal.returns-in_default-clause-taken
returns-in_default-clause-taken g c =
    let piece = take c.in_ok-count.count c.read_piece.new.piece in (
      c.loop-encoding.bytes.items ++ piece,
      Consumes-trans _ _ _ c.loop-encoding.bytes.items piece c.loop-encoding.invariant.0 c.in_ok-count.ensures.ok,
    )
