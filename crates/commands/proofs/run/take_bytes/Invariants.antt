use Rattle.std.proofs.Common.{take}
use Rattle.commands.specs.Common.{StepsOn}
use Rattle.commands.proofs.run.take_bytes.Given as goal

abbrev pub invariant-loop-byte : goal.invariant-loop-byte
invariant-loop-byte g l = StepsOn l.fn.language g.S.FileService.machine l.fn.service l.service
    (g.W.Write.contents l.fn.writer) (g.W.Write.contents l.writer) l.fn.moment l.fn.session l.session
    (take l.byte-index l.piece)
