use Rattle.std.proofs.Common.{◌-◌}
use Rattle.spec_language.specs.Common.{Plan, copy_runs_plan}
use Rattle.commands.specs.Common.{FollowsPlan}
use Rattle.commands.proofs.copy_file.copy_runs.Given as goal

abbrev pub invariant-loop : goal.invariant-loop
invariant-loop g l = (next : Plan) → FollowsPlan g.S.FileService.machine l.fn.service l.service
    (copy_runs_plan l.moment l.runs next) (copy_runs_plan l.moment (l.runs - l.counter) next)
