-- What a call does to the disk, whatever state the monitor stands for.
use Rattle.std.specs.Prelude.{◌⊎◌, ℕ, List, Option}
use Rattle.words36.specs.declared.moment.Moment.{Moment}
use Rattle.blockdisk.specs.Common.{DiskState, LeavesOnly}
use Rattle.spec_machine.specs.Common.{State, slot, step}
use Rattle.spec_image.specs.Common.{pack_of, StandsOn, without_serials}
use Rattle.spec_machine.specs.declared.call.Call.{Call}
use Rattle.spec_machine.specs.declared.call.Event.TheVariants.{Call as Calls, Login, Deposit, Examine}
use Rattle.spec_machine.specs.declared.call.Reply.{Reply}
use Rattle.spec_machine.specs.declared.call.Reply.TheVariants.{Done, Value, Refused, Stopped, NoChannel, AddressCheck}
use Rattle.spec_machine.specs.declared.call.Reply.TheVariants.{NoJob, NoMemory, Device, Failed, DateRange}
use Rattle.volume.specs.Common.{MemoryMap}
use Rattle.monitor.specs.Serves.{IsState}
use Rattle.monitor.specs.declared.job.Job.{Job}
use Rattle.monitor.specs.Calls.{IsLight}
use Rattle.spec_machine.specs.declared.call.Event.{Event}

-- At any moment of the call by the job of a number, whether it is logged in or not, a crash leaves the files from
-- before, or those of the machine after it, in the same layout.
abbrev pub CallCrashes : (d d' : DiskState) (c : MemoryMap) (jobs : List (Option Job)) (n : ℕ) → Call → Moment → Type 0
CallCrashes d d' c jobs n call moment =
    d'.honest → (s : State) → IsState d c jobs s
    → LeavesOnly d d' (λ contents. StandsOn (pack_of d) contents (without_serials s.files)
    ⊎ ((serial : ℕ)
    × StandsOn (pack_of d) contents (without_serials ((step (pack_of d) serial s (Calls n call moment)).1.files))))

-- an answer that leaves the disk untouched
abbrev pub IsIdle : Reply → Type 0
IsIdle Done = ⊥
IsIdle (Value word) = Unit {0}
IsIdle (Refused code) = Unit {0}
IsIdle (Stopped status) = Unit {0}
IsIdle NoChannel = Unit {0}
IsIdle AddressCheck = Unit {0}
IsIdle NoJob = Unit {0}
IsIdle NoMemory = Unit {0}
IsIdle Device = ⊥
IsIdle Failed = ⊥
IsIdle DateRange = Unit {0}

-- an answer that is decided before anything changes: by the date, the job, the channel, or the addresses in core
abbrev pub IsDecided : Reply → Type 0
IsDecided Done = ⊥
IsDecided (Value word) = ⊥
IsDecided (Refused code) = ⊥
IsDecided (Stopped status) = ⊥
IsDecided NoChannel = Unit {0}
IsDecided AddressCheck = Unit {0}
IsDecided NoJob = Unit {0}
IsDecided NoMemory = ⊥
IsDecided Device = ⊥
IsDecided Failed = ⊥
IsDecided DateRange = Unit {0}

-- What holds for the call that an event is, by the job that makes it and the moment.
abbrev pub OfCall : Event → (ℕ → Call → Moment → Type 0) → Type 0
OfCall (Login job ppn words) P = Unit {0}
OfCall (Deposit job address word) P = Unit {0}
OfCall (Examine job address) P = Unit {0}
OfCall (Calls job call moment) P = P job call moment

-- an event that isn't a call
abbrev pub IsNoCall : Event → Type 0
IsNoCall (Login job ppn words) = Unit {0}
IsNoCall (Deposit job address word) = Unit {0}
IsNoCall (Examine job address) = Unit {0}
IsNoCall (Calls job call moment) = ⊥

-- an event that takes no memory and leaves the disk alone, given these jobs
abbrev pub IsLightEvent : Event → List (Option Job) → Type 0
IsLightEvent (Login job ppn words) jobs = ⊥
IsLightEvent (Deposit job address word) jobs = Unit {0}
IsLightEvent (Examine job address) jobs = Unit {0}
IsLightEvent (Calls job call moment) jobs = IsLight call (slot jobs job)
