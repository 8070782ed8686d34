-- What a task makes of a service, of a reader and of a writer.
use Rattle.std.specs.Prelude.{◌≡◌, ℕ, List, Option, Result}
use Rattle.words36.specs.declared.moment.Moment.{Moment}
use Rattle.blockdisk.specs.Common.{DiskState}
use Rattle.spec_language.specs.Common.{get_plan, own_file}
use Rattle.monitor.specs.Common.{MonitorState}
use Rattle.commands.specs.Common.{Checked, Delivery, Errand, Survey, delete_plan, put_plan_as, Session, Script}
use Rattle.commands.specs.declared.answer.Tally.{Tally}
use Rattle.commands.specs.declared.error.SessionError.{SessionError}
use Rattle.exchange.specs.Exchanges.{Exchange}
use Rattle.filser.specs.ServedDisks.{machine_over}
use Rattle.filser.specs.declared.host.Access.{Access}
use Rattle.filser.specs.declared.host.Access.TheVariants.{Read, Write}
use Rattle.filser.specs.declared.task.Task.{Task}
use Rattle.filser.specs.declared.task.Task.TheVariants.{Run, Calls, Wire, Put, Get, Delete, List as ListAll, Check}

-- What the file of the image is opened for: reading is enough if the task can change no file.
abbrev pub access_of : Task → Access
access_of (Run at) = Write
access_of (Calls at) = Write
access_of Wire = Write
access_of (Put file existing at) = Write
access_of (Get file at) = Read
access_of (Delete owner name) = Write
access_of (ListAll place style) = Read
access_of Check = Read

-- date 0, minute 0
abbrev pub IsFirstMoment : Moment → Type 0
IsFirstMoment moment = (moment.date ≡ 0) × (moment.minute ≡ 0)

-- The reader had `source` and has `left`, the writer had `sink` and has `full`. A task that isn't made of the input
-- reads none of it.
abbrev pub Attends : {D : Type 0} → (D → DiskState) → Task → Option (List ℕ) → Option (List ℕ) → Option (List ℕ)
    → Option (List ℕ) → MonitorState D → MonitorState D → Result Tally SessionError → Type 0
Attends state (Run at) source left sink full first last result =
    Session source left sink full (machine_over state) first last at result
Attends state (Calls at) source left sink full first last result =
    Script source left sink full (machine_over state) first last at result
Attends state Wire source left sink full first last result =
    Exchange source left sink full (machine_over state) first last result
Attends state (Put file existing at) source left sink full first last result =
    Delivery source left sink full (machine_over state) first last file.encoding
    (put_plan_as existing at file.owner file.encoding (own_file file.name)) result
Attends state (Get file at) source left sink full first last result = (left ≡ source)
    × Errand sink full (machine_over state) first last (get_plan at file.owner file.encoding (own_file file.name))
    result
Attends state (Delete owner name) source left sink full first last result = (left ≡ source)
    × (at : Moment) × IsFirstMoment at
    × Errand sink full (machine_over state) first last (delete_plan at owner (own_file name)) result
Attends state (ListAll place style) source left sink full first last result = (left ≡ source)
    × (at : Moment) × IsFirstMoment at × Survey sink full (machine_over state) first last at style place result
Attends state Check source left sink full first last result = (left ≡ source)
    × Checked sink full (machine_over state first) result × (last ≡ first)
