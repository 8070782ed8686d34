-- Lists of events, and what a crash among them leaves.
use Rattle.std.specs.Prelude.{◌≡◌, ◌⊎◌, ℕ, Bool, IsTrue, List, [], ◌∷◌, Option}
use Rattle.std.specs.List.{AllByRecursion}
use Rattle.blockdisk.specs.Common.{Contents, DiskState, MayLeave, LeavesOnly}
use Rattle.spec_machine.specs.Common.{may_change, State, Service, Serving, Broken, Answers, IsStart, step}
use Rattle.spec_image.specs.Common.{File, Files, Pack}
use Rattle.spec_machine.specs.declared.call.Reply.{Reply}
use Rattle.spec_machine.specs.declared.call.Reply.TheVariants.{Device, Failed}
use Rattle.volume.specs.Common.{MemoryMap, StandsLikeBefore}
use Rattle.monitor.specs.Serves.{Serves}
use Rattle.monitor.specs.declared.job.Job.{Job}
use Rattle.spec_machine.specs.declared.call.Event.{Event}

-- A fault of the disk among the replies.

-- one of them is Device
abbrev pub TellsFault : List Reply → Type 0
TellsFault [] = ⊥
TellsFault (reply ∷ replies) = (reply ≡ Device) ⊎ TellsFault replies

-- each reply after a Device is Failed
abbrev pub FailsOnce : List Reply → Type 0
FailsOnce [] = Unit {0}
FailsOnce (reply ∷ replies) = (reply ≡ Device → AllByRecursion (λ later. later ≡ Failed) replies) × FailsOnce replies

-- The files of the state that a start finds: those after some of the events that were answered, with none before them
-- left out, or those after these and the next event, which was running, if its answer is one that may change files;
-- there is no third case. An event at which the disk failed is the last.
abbrev pub IsAlong : Pack → Service → List Event → List Reply → State → Type 0
IsAlong pack Broken events replies found = ⊥
IsAlong pack (Serving s) [] [] found = found ≡ s
IsAlong pack (Serving s) [] (reply ∷ replies) found = ⊥
IsAlong pack (Serving s) (event ∷ events) [] found = ⊥
IsAlong pack (Serving s) (event ∷ events) (reply ∷ replies) found =
    (found ≡ s) ⊎ (IsTrue (may_change reply) × (found ≡ (step pack 0 s event).1))
    ⊎ ((mid : Service) × Answers pack (Serving s) event reply mid × IsAlong pack mid events replies found)

-- The monitor serves these files, and nobody is logged in.
abbrev pub ServesFiles : DiskState → MemoryMap → Bool → List (Option Job) → Files File → Type 0
ServesFiles d map failed jobs files = (s : State) → IsStart files s → Serves d map failed jobs (Serving s)

-- Starts that were stopped.

-- All that a crash may leave of the disk e was left by d at some moment since t: e continues where d was stopped.
pub record Resumes (d : DiskState) (t : ℕ) (e : DiskState) : Type 0 where
  pub size : e.size ≡ d.size
  pub left : (c : Contents) → MayLeave e c → d.left_since t c

-- What each start ensures of its disk, from its beginning to its end: what a crash leaves at any moment of it stands
-- for whatever something stood for that a crash could leave at its beginning.
abbrev pub HasStarted : DiskState → DiskState → Type 0
HasStarted begun ended = LeavesOnly begun ended (StandsLikeBefore begun)

-- Any number of starts, each over what a crash left since moment t of the disk d or of the start before it, each of
-- which was stopped at some moment; and these contents are what the last of them left.
abbrev pub AreStopped : {E : Type 0} → (E → DiskState) → DiskState → ℕ → List (E × E) → Contents → Type 0
AreStopped state d t [] left = d.left_since t left
AreStopped state d t ((begun, ended) ∷ starts) left =
    Resumes d t (state begun) × HasStarted (state begun) (state ended)
    × ((state ended).size ≡ (state begun).size) × AreStopped state (state ended) (state begun).clock starts left
