-- What a crash may leave while a list of events runs: between the moment after one event and the moment after the next,
-- the files before that event or those after it, and no third; only those before it, if its answer is one that changes
-- no file.
use Rattle.std.specs.Prelude.{◌≡◌, ℕ, ◌≤◌, ◌⊎◌, Bool, true, false, IsTrue, List, [], ◌∷◌}
use Rattle.blockdisk.specs.Common.{Contents, DiskState, MayLeave, Between}
use Rattle.spec_image.specs.Common.{StandsOn, without_serials, Pack}
use Rattle.spec_machine.specs.Jobs.{State}
use Rattle.spec_machine.specs.Step.{step}
use Rattle.spec_machine.specs.Runs.{Service, Serving, Broken, Answers, AnswersAll}
use Rattle.spec_machine.specs.declared.call.Event.{Event}
use Rattle.spec_machine.specs.declared.call.Reply.{Reply}
use Rattle.spec_machine.specs.declared.call.Reply.TheVariants.{Done, Value, Refused, Stopped, NoChannel, AddressCheck}
use Rattle.spec_machine.specs.declared.call.Reply.TheVariants.{NoJob, NoMemory, Device, Failed, DateRange}

-- these contents stand for the files of a state, in the layout of the pack
abbrev pub StandsForState : Pack → State → Contents → Type 0
StandsForState pack s contents = StandsOn pack contents (without_serials s.files)

-- the answers with which an event may have changed the files: it was done, or a fault of the disk came in between
abbrev pub may_change : Reply → Bool
may_change Done = true
may_change (Value word) = false
may_change (Refused code) = false
may_change (Stopped status) = false
may_change NoChannel = false
may_change AddressCheck = false
may_change NoJob = false
may_change NoMemory = false
may_change Device = true
may_change Failed = false
may_change DateRange = false

-- The contents stand for the files before an event with this answer; or, only with an answer that may change files, for
-- those that the event makes of them, which are the same whatever serial is chosen.
abbrev pub StandsForEither : Pack → State → Event → Reply → Contents → Type 0
StandsForEither pack s event reply contents =
    StandsForState pack s contents ⊎ (IsTrue (may_change reply) × StandsForState pack (step pack 0 s event).1 contents)

-- how a run continues from moment t, if the event was answered and the service was `mid` after it: `rest` is what holds
-- from a moment and a state
abbrev pub GoesOn : Pack → DiskState → ℕ → State → Event → Reply → Service → (ℕ → Service → Type 0) → Type 0
GoesOn pack d t s event reply Broken rest = rest t Broken
    × ((c : Contents) → d.left_since t c → StandsForEither pack s event reply c)
GoesOn pack d t s event reply (Serving after) rest = (u : ℕ) × (t ≤ u)
    × Between d t u (StandsForEither pack s event reply) × rest u (Serving after)

-- The service gives these replies, and d is the disk after them: from moment t, there was a moment after each event. If
-- the disk had a fault in an event, the files before it and those after it both stay possible after that, and no event
-- makes a third.
abbrev pub RunsOn : Pack → DiskState → ℕ → Service → List Event → List Reply → Service → Type 0
RunsOn pack d t Broken events replies new = AnswersAll pack Broken events replies new
RunsOn pack d t (Serving s) [] [] new = (new ≡ Serving s) × (t ≡ d.clock)
    × ((c : Contents) → MayLeave d c → StandsForState pack s c)
RunsOn pack d t (Serving s) (event ∷ events) (reply ∷ replies) new =
    (mid : Service) × Answers pack (Serving s) event reply mid
    × GoesOn pack d t s event reply mid (λ u service. RunsOn pack d u service events replies new)
RunsOn pack d t (Serving s) [] (reply ∷ replies) new = ⊥
RunsOn pack d t (Serving s) (event ∷ events) [] new = ⊥
