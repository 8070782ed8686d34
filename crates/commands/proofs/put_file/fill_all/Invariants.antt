use Rattle.std.proofs.Common.{length}
use Rattle.commands.proofs.PutLaws.{Filled}
use Rattle.commands.proofs.put_file.fill_all.Given as goal

abbrev pub invariant-loop-rest : goal.invariant-loop-rest
invariant-loop-rest g l = Filled g.S.FileService.machine l.fn.moment l.fn.encoding l.fn.words l.fn.service l.service
    l.rest

abbrev pub decreases-loop-rest : goal.decreases-loop-rest
decreases-loop-rest g l = length l.rest
