-- What holds for a service whatever the task was.
use Rattle.std.proofs.Common.{ℕ, List, Option, Result, subst}
use Rattle.blockdisk.specs.Common.{DiskState}
use Rattle.monitor.specs.Common.{MonitorState}
use Rattle.commands.specs.declared.answer.Tally.{Tally}
use Rattle.commands.specs.declared.error.SessionError.{SessionError}
use Rattle.filser.specs.Common.{Attends}
use Rattle.filser.specs.declared.task.Task.{Task}
use Rattle.filser.specs.declared.task.Task.TheVariants.{Run, Calls, Wire, Put, Get, Delete, List as ListAll, Check}

-- its disk was honest before if it is afterwards
pub was_honest : {D : Type 0} (state : D → DiskState) (task : Task) (source left sink full : Option (List ℕ))
    (first last : MonitorState D) (result : Result Tally SessionError)
    → Attends state task source left sink full first last result → (state last.disk).honest → (state first.disk).honest
was_honest state (Run at) source left sink full first last result p h = p.goes.was_honest h
was_honest state (Calls at) source left sink full first last result p h = p.goes.was_honest h
was_honest state Wire source left sink full first last result p h = p.takes.goes.was_honest h
was_honest state (Put file existing at) source left sink full first last result p h = p.goes.was_honest h
was_honest state (Get file at) source left sink full first last result p h = p.1.goes.was_honest h
was_honest state (Delete owner name) source left sink full first last result p h = p.3.goes.was_honest h
was_honest state (ListAll place style) source left sink full first last result p h = p.3.errand.goes.was_honest h
was_honest {D = D} state Check source left sink full first last result p h =
    subst (λ (m : MonitorState D). (state m.disk).honest) p.2 h
