use Rattle.std.proofs.Common.{arith}
use Rattle.usercore.proofs.ListLaws.{lone_found}
use Rattle.usercore.proofs.user_core.Core.lone_area.Goals as goal

pub returns-clause-area : goal.returns-clause-area
returns-clause-area c = lone_found c.args.self.now c.args.address _ _ (omega arith) (omega arith) (omega arith)
    (omega arith) (omega arith) (omega arith) (omega arith)
