-- The known facts about a service of files, whatever it is made of: the disk that it serves, whether it has kept its
-- promises so far, and which services of the definitions it may represent.
use Rattle.std.specs.Prelude.{◌≡◌, ◌⊎◌, ◌+◌, ◌<◌, ℕ, IsTrue, List, [], ◌∷◌, Result, length, slice_index}
use Rattle.blockdisk.specs.Common.{DiskState, Still, LeavesOnly, one_more}
use Rattle.spec_machine.specs.Common.{may_change, StandsForEither, State, Service, Serving, Broken, Answers, Lists}
use Rattle.spec_machine.specs.Common.{step}
use Rattle.spec_image.specs.Common.{Pack}
use Rattle.spec_language.specs.Common.{Act, Asks, Looks, Went}
use Rattle.spec_image.specs.declared.entry.Entry.{Entry}
use Rattle.spec_machine.specs.declared.call.Reply.{Reply}
use Rattle.spec_machine.specs.declared.call.Reply.TheVariants.{Value, Device}
use Rattle.spec_machine.specs.declared.call.Event.TheVariants.{Examine}
use Rattle.monitor.specs.Common.{StandsNow}
use Rattle.spec_machine.specs.declared.call.Event.{Event}

pub record Machine : Type 1 where
  pub pack : Pack
  pub honest : Type 0
  pub disk : DiskState
  pub serves : Service → Type 0

-- While it serves, its pack stays the same; that its disk keeps its size holds always.
abbrev pub KeepsPack : Machine → Machine → Service → Type 0
KeepsPack old new (Serving s) = new.pack ≡ old.pack
KeepsPack old new Broken = Unit {0}

-- On every disk: the failure count rose by one if the event was answered Device, and otherwise stayed.
abbrev pub CountsFailure : Reply → ℕ → ℕ → Type 0
CountsFailure reply before after =
    (reply ≡ Device → after ≡ one_more before) × ((reply ≡ Device → ⊥) → after ≡ before)

-- It answered an event: at any moment of it a crash left the files from before, or those after it if its answer is one
-- that may change files.
pub record IsAnswered (old new : Machine) (event : Event) (reply : Reply) : Type 0 where
  pub size : new.disk.size ≡ old.disk.size
  pub was_honest : new.honest → old.honest
  pub crash : new.honest → (s : State) → old.serves (Serving s)
      → LeavesOnly old.disk new.disk (StandsForEither old.pack s event reply)
  pub broken : new.honest → old.serves Broken → Still old.disk new.disk
  pub answers : new.honest → (first : Service) → old.serves first
      → (last : Service) × new.serves last × Answers old.pack first event reply last × KeepsPack old new last
  pub counted : CountsFailure reply old.disk.failures new.disk.failures

-- Each of these words, which are in job 1's core from an address, is the one that an event that examines it returns;
-- and such an event changes nothing.
abbrev pub AreShown : Machine → ℕ → List ℕ → Type 0
AreShown machine first words = (i : ℕ) → i < length words
    → IsAnswered machine machine (Examine 1 (first + i)) (Value (slice_index words i))

-- It listed a directory for a job, without a call of the disk.
pub record IsListed (old new : Machine) (job owner : ℕ) (answer : Result (List Entry) Reply) : Type 0 where
  pub size : new.disk.size ≡ old.disk.size
  pub was_honest : new.honest → old.honest
  pub still : Still old.disk new.disk
  pub served : new.disk.failures ≡ old.disk.failures
  pub lists : new.honest → (first : Service) → old.serves first → (last : Service) × new.serves last
      × Lists first job owner answer last × KeepsPack old new last

-- All that a crash may leave of a service stands for the files of the state that it serves from.
abbrev pub AlwaysStands : {S : Type 0} → (S → Machine) → Type 0
AlwaysStands {S} machine = (service : S) → (machine service).honest → (s : State) → (machine service).serves (Serving s)
    → StandsNow (machine service).pack (machine service).disk s

-- From a value of the service, job 1 went by these acts, and `end` is the value after them. At each moment, before the
-- first act and after each of them, all that a crash may leave stands for the files after the acts so far; from one
-- moment to the next a crash left these, or those after one act more, if its answer is one that may change files. A
-- list of a directory leaves the disk alone, and after a fault of the disk nothing is written.
abbrev pub ActsBy : {S : Type 0} → (S → Machine) → Pack → S → Service → List Act → S → Service → Type 0
ActsBy machine pack service Broken acts end new = Still (machine service).disk (machine end).disk
    × Went pack Broken acts new
ActsBy machine pack service (Serving s) [] end new = (end ≡ service) × (new ≡ Serving s)
    × StandsNow pack (machine service).disk s
ActsBy {S} machine pack service (Serving s) (Asks event reply ∷ acts) end new =
    StandsNow pack (machine service).disk s
    × (mid : S) × (after : Service) × Answers pack (Serving s) event reply after
    × LeavesOnly (machine service).disk (machine mid).disk (StandsForEither pack s event reply)
    × ActsBy machine pack mid after acts end new
ActsBy {S} machine pack service (Serving s) (Looks owner answer ∷ acts) end new =
    StandsNow pack (machine service).disk s
    × (mid : S) × (after : Service) × Lists (Serving s) 1 owner answer after
    × Still (machine service).disk (machine mid).disk
    × ActsBy machine pack mid after acts end new

-- The files of the state that a start finds over what a crash left during these acts: those after some of them, none
-- left out, or those after these and the next one, which was running, if its answer is one that may change files; there
-- is no third case.
abbrev pub IsAlongActs : Pack → Service → List Act → State → Type 0
IsAlongActs pack Broken acts found = ⊥
IsAlongActs pack (Serving s) [] found = found ≡ s
IsAlongActs pack (Serving s) (Asks event reply ∷ acts) found =
    (found ≡ s) ⊎ (IsTrue (may_change reply) × (found ≡ (step pack 0 s event).1))
    ⊎ ((mid : Service) × Answers pack (Serving s) event reply mid × IsAlongActs pack mid acts found)
IsAlongActs pack (Serving s) (Looks owner answer ∷ acts) found =
    (found ≡ s) ⊎ ((mid : Service) × Lists (Serving s) 1 owner answer mid × IsAlongActs pack mid acts found)

-- On every disk: the failure count rose by one for each act that was answered Device, and for nothing else.
abbrev pub CountsFailures : List Act → ℕ → ℕ → Type 0
CountsFailures [] before after = after ≡ before
CountsFailures (Asks event reply ∷ acts) before after =
    (mid : ℕ) × CountsFailure reply before mid × CountsFailures acts mid after
CountsFailures (Looks owner answer ∷ acts) before after = CountsFailures acts before after

-- It went by these acts of job 1, moment by moment.
pub record GoesBy {S : Type 0} (machine : S → Machine) (old new : S) (acts : List Act) : Type 0 where
  pub size : (machine new).disk.size ≡ (machine old).disk.size
  pub was_honest : (machine new).honest → (machine old).honest
  pub went : (machine new).honest → (first : Service) → (machine old).serves first
      → (last : Service) × (machine new).serves last × ActsBy machine (machine old).pack old first acts new last
      × KeepsPack (machine old) (machine new) last
  pub counted : CountsFailures acts (machine old).disk.failures (machine new).disk.failures
