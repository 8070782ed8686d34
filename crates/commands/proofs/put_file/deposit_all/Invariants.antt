use Rattle.commands.proofs.PutLaws.{Deposits}
use Rattle.commands.proofs.put_file.deposit_all.Given as goal

abbrev pub invariant-loop-place : goal.invariant-loop-place
invariant-loop-place g l = Deposits g.S.FileService.machine l.fn.address l.fn.words l.fn.service l.service l.place
