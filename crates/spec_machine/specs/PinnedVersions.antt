-- Reading holds still: what is true of a channel that looked a file up, whatever others do.
use Rattle.std.specs.Prelude.{◌≡◌, ◌≢◌, ◌⊎◌, ℕ, List, [], ◌∷◌, Option, Some, None, option_map}
use Rattle.spec_image.specs.Common.{SpecVersion, file_at, words_from}
use Rattle.spec_machine.specs.Jobs.{SpecInput, SpecOutput, Channel, SpecJob, State, channel_at, job_at}
use Rattle.spec_machine.specs.Lookup.{place_at}
use Rattle.spec_machine.specs.Inputs.{core_filled}
use Rattle.spec_machine.specs.declared.call.Call.{Call}
use Rattle.spec_machine.specs.declared.call.Call.TheVariants.{Open, Inbuf, Outbuf, Lookup, Enter, Rename, In, Out}
use Rattle.spec_machine.specs.declared.call.Call.TheVariants.{Useti, Useto, Close, Releas, Getsts, Reset, MakeDir}
use Rattle.spec_machine.specs.declared.call.Call.TheVariants.{DeleteDir, Quota}
use Rattle.spec_machine.specs.declared.call.Event.{Event}
use Rattle.spec_machine.specs.declared.call.Event.TheVariants.{Login, Deposit, Examine, Call as Calls}

-- a call of the job itself that leaves the channel its input side
abbrev pub SparesCall : ℕ → Call → Type 0
SparesCall ch (Open k a) = Unit {0}
SparesCall ch (Inbuf k n) = Unit {0}
SparesCall ch (Outbuf k n) = Unit {0}
SparesCall ch (Lookup k e) = ch ≢ k
SparesCall ch (Enter k e) = ch ≢ k
SparesCall ch (Rename k e) = ch ≢ k
SparesCall ch (In k a) = Unit {0}
SparesCall ch (Out k a) = Unit {0}
SparesCall ch (Useti k n) = Unit {0}
SparesCall ch (Useto k n) = Unit {0}
SparesCall ch (Close k bits) = ch ≢ k
SparesCall ch (Releas k) = ch ≢ k
SparesCall ch (Getsts k) = Unit {0}
SparesCall ch Reset = ⊥
SparesCall ch (MakeDir e) = Unit {0}
SparesCall ch (DeleteDir e) = Unit {0}
SparesCall ch (Quota e) = Unit {0}

-- any event of another job, and an event of the job n itself that leaves channel ch its input side
abbrev pub SparesEvent : ℕ → ℕ → Event → Type 0
SparesEvent n ch (Login m ppn words) = n ≢ m
SparesEvent n ch (Deposit m address word) = Unit {0}
SparesEvent n ch (Examine m address) = Unit {0}
SparesEvent n ch (Calls m call moment) = (n ≢ m) ⊎ ((n ≡ m) × SparesCall ch call)

abbrev pub SpareAll : ℕ → ℕ → List Event → Type 0
SpareAll n ch [] = Unit {0}
SpareAll n ch (event ∷ events) = SparesEvent n ch event × SpareAll n ch events

-- the version that a channel with no output side reads
abbrev pub version_read : Option SpecOutput → Option SpecInput → Option SpecVersion
version_read (Some o) i = None
version_read None i = option_map (λ i. i.version) i

abbrev pub pinned_on : Option Channel → Option SpecVersion
pinned_on None = None
pinned_on (Some c) = version_read c.output c.input

abbrev pub pinned_in : SpecJob → ℕ → Option SpecVersion
pinned_in job ch = pinned_on (channel_at job ch)

abbrev pub pinned_for : ℕ → Option SpecJob → Option SpecVersion
pinned_for ch None = None
pinned_for ch (Some job) = pinned_in job ch

-- the version that channel ch of job n reads, if it has no output side
abbrev pub pinned_at : State → ℕ → ℕ → Option SpecVersion
pinned_at s n ch = pinned_for ch (job_at s n)

-- the version that a LOOKUP of job n finds by the words at e
abbrev pub FoundBy : State → ℕ → ℕ → SpecVersion → Type 0
FoundBy s n e v = (job : SpecJob) × (job_at s n ≡ Some job) × (file_at s.files (place_at job e) ≡ Some v)

-- From s to u an IN of job n on channel ch moved words of this version, by the command list at a or by the input side's
-- ring: those from the start of the channel's next block.
pub record MovesWordsOf (s u : State) (n ch a : ℕ) (v : SpecVersion) : Type 0 where
  pub job : SpecJob
  pub channel : Channel
  pub side : SpecInput
  pub after : SpecJob
  pub job_is : job_at s n ≡ Some job
  pub channel_is : channel_at job ch ≡ Some channel
  pub side_is : channel.input ≡ Some side
  pub after_is : job_at u n ≡ Some after
  pub core_is : after.core ≡ core_filled job channel a (words_from v.file.body side.next)
