use Rattle.std.proofs.Common.{◌-◌}
use Rattle.commands.proofs.TypeLaws.{Ran}
use Rattle.commands.proofs.type_line.type_runs.Given as goal

abbrev pub invariant-loop : goal.invariant-loop
invariant-loop g l = Ran g.S.FileService.machine l.fn.moment l.fn.runs l.fn.count l.fn.service l.service
    (l.fn.runs - l.counter) l.fn.typed l.typed
