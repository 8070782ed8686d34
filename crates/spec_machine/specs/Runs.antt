-- Whole runs, in which memory may run out and the disk may have a fault.
use Rattle.std.specs.Prelude.{◌≡◌, ℕ, ◌==◌, ◌++◌, ◌⊎◌, not, Bool, true, false, IsTrue, IsFalse, List, [], ◌∷◌, Option}
use Rattle.std.specs.Prelude.{Some, None, Result, Err}
use Rattle.spec_image.specs.Common.{File, Files, SpecVersion, without_serials, Pack}
use Rattle.spec_machine.specs.Jobs.{Channel, SpecJob, State, channel_at, job_at, no_jobs}
use Rattle.spec_machine.specs.Room.{current_versions, pinned_versions, has_serial}
use Rattle.spec_machine.specs.Close.{publishes}
use Rattle.spec_machine.specs.Sessions.{list}
use Rattle.spec_machine.specs.Step.{step}
use Rattle.spec_image.specs.declared.entry.Entry.{Entry}
use Rattle.spec_machine.specs.declared.call.Call.{Call}
use Rattle.spec_machine.specs.declared.call.Call.TheVariants.{Open, Inbuf, Outbuf, Lookup, Enter, Rename, In, Out}
use Rattle.spec_machine.specs.declared.call.Call.TheVariants.{Useti, Useto, Close, Releas, Getsts, Reset, MakeDir}
use Rattle.spec_machine.specs.declared.call.Call.TheVariants.{DeleteDir, Quota}
use Rattle.spec_machine.specs.declared.call.Event.{Event}
use Rattle.spec_machine.specs.declared.call.Event.TheVariants.{Login, Deposit, Examine, Call as Calls}
use Rattle.spec_machine.specs.declared.call.Reply.{Reply}
use Rattle.spec_machine.specs.declared.call.Reply.TheVariants.{Done, Value, Refused, Stopped, NoChannel, AddressCheck}
use Rattle.spec_machine.specs.declared.call.Reply.TheVariants.{NoJob, NoMemory, Device, Failed, DateRange}

-- a serial that no version has that is current or pinned
abbrev pub IsFresh : State → ℕ → Type 0
IsFresh s serial = IsFalse (has_serial serial (current_versions s ++ pinned_versions s))

-- The machine may give this reply and come to this state.
abbrev pub Steps : Pack → State → Event → Reply → State → Type 0
Steps pack s event reply after = (serial : ℕ) × IsFresh s serial × (step pack serial s event ≡ (reply, after))

-- The same for a list of events, in all of which memory sufficed and the disk had no fault.
abbrev pub StepsAll : Pack → State → List Event → List Reply → State → Type 0
StepsAll pack s [] [] after = after ≡ s
StepsAll pack s (event ∷ events) (reply ∷ replies) after = (mid : State) × Steps pack s event reply mid
    × StepsAll pack mid events replies after
StepsAll pack s [] (reply ∷ replies) after = ⊥
StepsAll pack s (event ∷ events) [] after = ⊥

-- What needs neither memory nor the disk.

-- the replies that are found before either is needed
abbrev pub is_plain : Reply → Bool
is_plain Done = false
is_plain (Value word) = false
is_plain (Refused code) = code == 5
is_plain (Stopped status) = false
is_plain NoChannel = true
is_plain AddressCheck = true
is_plain NoJob = true
is_plain NoMemory = false
is_plain Device = false
is_plain Failed = false
is_plain DateRange = true

abbrev pub channel_of : Option SpecJob → ℕ → Option Channel
channel_of None number = None
channel_of (Some job) number = channel_at job number

abbrev pub publishes_on : Option Channel → ℕ → Bool
publishes_on None bits = false
publishes_on (Some c) bits = publishes c bits

-- the calls that need neither at all
abbrev pub is_light : State → ℕ → Call → Bool
is_light s n (Open ch a) = true
is_light s n (Inbuf ch k) = true
is_light s n (Outbuf ch k) = true
is_light s n (Lookup ch e) = false
is_light s n (Enter ch e) = false
is_light s n (Rename ch e) = false
is_light s n (In ch a) = false
is_light s n (Out ch a) = false
is_light s n (Useti ch k) = true
is_light s n (Useto ch k) = true
is_light s n (Close ch bits) = not (publishes_on (channel_of (job_at s n) ch) bits)
is_light s n (Releas ch) = not (publishes_on (channel_of (job_at s n) ch) 0)
is_light s n (Getsts ch) = true
is_light s n Reset = true
is_light s n (MakeDir e) = false
is_light s n (DeleteDir e) = false
is_light s n (Quota e) = false

abbrev pub takes_memory : State → Event → Bool
takes_memory s (Login n ppn words) = true
takes_memory s (Deposit n address word) = false
takes_memory s (Examine n address) = false
takes_memory s (Calls n call moment) = not (is_light s n call)

abbrev pub touches_disk : State → Event → Bool
touches_disk s (Login n ppn words) = false
touches_disk s (Deposit n address word) = false
touches_disk s (Examine n address) = false
touches_disk s (Calls n call moment) = not (is_light s n call)

-- the reply is one of those that are found first; it is the same whatever serial is chosen
abbrev pub is_decided : Pack → State → Event → Bool
is_decided pack s event = is_plain ((step pack 0 s event).0)

-- Runs.

-- the service serves, from a state, or has failed
pub data Service : Type 0 where
  Serving : State → Service
  Broken : Service

-- The service may give this reply to the event, and be like this after it.
abbrev pub Answers : Pack → Service → Event → Reply → Service → Type 0
Answers pack Broken event reply Broken = reply ≡ Failed
Answers pack Broken event reply (Serving after) = ⊥
Answers pack (Serving s) event reply Broken = (reply ≡ Device) × IsFalse (is_decided pack s event)
    × IsTrue (touches_disk s event)
Answers pack (Serving s) event reply (Serving after) =
    Steps pack s event reply after
    ⊎ ((reply ≡ NoMemory) × (after ≡ s) × IsFalse (is_decided pack s event) × IsTrue (takes_memory s event))

-- The service may give these replies to these events, and be like this after them.
abbrev pub AnswersAll : Pack → Service → List Event → List Reply → Service → Type 0
AnswersAll pack old [] [] new = new ≡ old
AnswersAll pack old (event ∷ events) (reply ∷ replies) new = (mid : Service) × Answers pack old event reply mid
    × AnswersAll pack mid events replies new
AnswersAll pack old [] (reply ∷ replies) new = ⊥
AnswersAll pack old (event ∷ events) [] new = ⊥

abbrev pub IsNoJob : Result (List Entry) Reply → Type 0
IsNoJob answer = answer ≡ Err NoJob

-- The service may give this answer to a job that reads the list of a directory.
abbrev pub Lists : Service → ℕ → ℕ → Result (List Entry) Reply → Service → Type 0
Lists Broken n owner answer after = (answer ≡ Err Failed) × (after ≡ Broken)
Lists (Serving s) n owner answer Broken = (answer ≡ Err Device) × (IsNoJob (list s n owner) → ⊥)
Lists (Serving s) n owner answer (Serving after) = (after ≡ s)
    × ((answer ≡ list s n owner) ⊎ ((answer ≡ Err NoMemory) × (IsNoJob (list s n owner) → ⊥)))

-- A start.

-- all have serials of their own
abbrev pub HaveDistinctSerials : List SpecVersion → Type 0
HaveDistinctSerials [] = Unit {0}
HaveDistinctSerials (v ∷ vs) = IsFalse (has_serial v.serial vs) × HaveDistinctSerials vs

-- the files that were found, with any serials of their own, and no job
pub record IsStart (found : Files File) (s : State) : Type 0 where
  pub files : without_serials s.files ≡ found
  pub serials : HaveDistinctSerials (current_versions s)
  pub jobs : s.jobs ≡ no_jobs
