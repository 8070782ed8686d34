-- Lists of events, moment by moment; and reading, which holds still along them.
use Rattle.std.specs.Prelude.{◌≡◌, ℕ, List, [], ◌∷◌, ◌++◌, length, Option, Some, None}
use Rattle.words36.specs.declared.moment.Moment.{Moment}
use Rattle.blockdisk.specs.Common.{Contents, DiskState, MayLeave, LeavesOnly}
use Rattle.spec_machine.specs.Common.{StandsForState, StandsForEither, SpareAll, FoundBy, MovesWordsOf, reads}
use Rattle.spec_machine.specs.Common.{body_read, core_filled, State, channel_at, job_at, Service, Serving, Broken}
use Rattle.spec_machine.specs.Common.{Answers}
use Rattle.spec_image.specs.Common.{SpecVersion, Pack, words_from}
use Rattle.spec_machine.specs.declared.call.Call.TheVariants.{Lookup, In}
use Rattle.spec_machine.specs.declared.call.Event.{Event}
use Rattle.spec_machine.specs.declared.call.Event.TheVariants.{Call as Calls}
use Rattle.spec_machine.specs.declared.call.Reply.{Reply}
use Rattle.spec_machine.specs.declared.call.Reply.TheVariants.{Done, NoChannel}
use Rattle.spec_machine.specs.Jobs as machine

-- Moments.

-- all that a crash may leave at this moment stands for the files of this state
abbrev pub StandsNow : Pack → DiskState → State → Type 0
StandsNow pack d s = (c : Contents) → MayLeave d c → StandsForState pack s c

-- The service after these ones, the first of which came after `old`.
abbrev pub last_of : Service → List Service → Service
last_of old [] = old
last_of old (service ∷ services) = last_of service services

-- The events got these answers, through these services, one after each event.
abbrev pub RunsThrough : Pack → Service → List Event → List Reply → List Service → Type 0
RunsThrough pack old [] [] [] = Unit {0}
RunsThrough pack old (event ∷ events) (reply ∷ replies) (after ∷ services) =
    Answers pack old event reply after × RunsThrough pack after events replies services
RunsThrough pack old [] [] (after ∷ services) = ⊥
RunsThrough pack old [] (reply ∷ replies) services = ⊥
RunsThrough pack old (event ∷ events) [] services = ⊥
RunsThrough pack old (event ∷ events) (reply ∷ replies) [] = ⊥

-- From a disk d the events got these answers, through these services, and `end` is the disk after them. At each moment,
-- that before the first event and that after each of them, all that a crash may leave stands for the files after the
-- events so far; from one moment to the next a crash left these, or those after one more event if its answer is one
-- that may change files. After a fault of the disk it isn't called any more.
abbrev pub RunsBy : {D : Type 0} → (D → DiskState) → Pack → D → Service → List Event → List Reply → List Service
    → D → Type 0
RunsBy state pack d Broken events replies services end = (end ≡ d) × RunsThrough pack Broken events replies services
RunsBy state pack d (Serving s) [] [] [] end = (end ≡ d) × StandsNow pack (state d) s
RunsBy {D} state pack d (Serving s) (event ∷ events) (reply ∷ replies) (after ∷ services) end =
    StandsNow pack (state d) s
    × (mid : D) × Answers pack (Serving s) event reply after
    × LeavesOnly (state d) (state mid) (StandsForEither pack s event reply)
    × RunsBy state pack mid after events replies services end
RunsBy state pack d (Serving s) [] [] (after ∷ services) end = ⊥
RunsBy state pack d (Serving s) [] (reply ∷ replies) services end = ⊥
RunsBy state pack d (Serving s) (event ∷ events) [] services end = ⊥
RunsBy state pack d (Serving s) (event ∷ events) (reply ∷ replies) [] end = ⊥

-- Reading holds still.

-- what an IN of a job answers, and what it leaves of the job: a function of the job's own record alone
abbrev pub read_by : machine.SpecJob → ℕ → ℕ → Option machine.Channel → Reply × machine.SpecJob
read_by job ch a None = (NoChannel, job)
read_by job ch a (Some c) = reads job ch c a

abbrev pub read_of : machine.SpecJob → ℕ → ℕ → Reply × machine.SpecJob
read_of job ch a = read_by job ch a (channel_at job ch)

-- A LOOKUP among the events was done, with the service `looked` after it, and so was a later IN of that job on that
-- channel, with the service `left` after it, and none of the job's own events between them takes the side away.
pub record LooksUpAndReads
    (events before between behind : List Event) (replies first second third : List Reply)
    (services one two three : List Service) (looked left : Service)
    (n ch e a : ℕ) (early late : Moment) : Type 0 where
  pub events_are : events ≡ before ++ Calls n (Lookup ch e) early ∷ (between ++ Calls n (In ch a) late ∷ behind)
  pub replies_are : replies ≡ first ++ Done ∷ (second ++ Done ∷ third)
  pub services_are : services ≡ one ++ looked ∷ (two ++ left ∷ three)
  pub in_order : (length first ≡ length before) × (length one ≡ length before)
  pub in_step : (length second ≡ length between) × (length two ≡ length between)
  pub spared : SpareAll n ch between

-- The words that the IN moved, from the service `read` to `left`, are those of the version that the LOOKUP found in the
-- service `found`.
pub record ReadsWhatWasFound (found read left : Service) (n ch e a : ℕ) : Type 0 where
  pub found_in : State
  pub read_in : State
  pub left_in : State
  pub found_is : found ≡ Serving found_in
  pub read_is : read ≡ Serving read_in
  pub left_is : left ≡ Serving left_in
  pub version : SpecVersion
  pub names : FoundBy found_in n e version
  pub moves : MovesWordsOf read_in left_in n ch a version

-- This holds for each LOOKUP and IN of a run through these services, whatever other jobs did.
abbrev pub FoundIsRead : Service → List Event → List Reply → List Service → Type 0
FoundIsRead old events replies services =
    (before between behind : List Event) (first second third : List Reply) (one two three : List Service)
    (looked left : Service) (n ch e a : ℕ) (early late : Moment)
    → LooksUpAndReads events before between behind replies first second third services one two three looked
    left n ch e a early late
    → ReadsWhatWasFound (last_of old one) (last_of looked two) left n ch e a

-- An IN of a job on a channel among the events was done, with the service `left` after it.
pub record Reads (events before behind : List Event) (replies first second : List Reply)
    (services one two : List Service)
    (left : Service) (n ch a : ℕ) (moment : Moment) : Type 0 where
  pub events_are : events ≡ before ++ Calls n (In ch a) moment ∷ behind
  pub replies_are : replies ≡ first ++ Done ∷ second
  pub services_are : services ≡ one ++ left ∷ two
  pub in_order : (length first ≡ length before) × (length one ≡ length before)

-- The words that it moved, from the service `read` to `left`, are those of the body that its channel reads: while its
-- output side is open, what that side has written, else the version that its input side has pinned.
pub record ReadsItsBody (read left : Service) (n ch a : ℕ) : Type 0 where
  pub read_in : State
  pub left_in : State
  pub read_is : read ≡ Serving read_in
  pub left_is : left ≡ Serving left_in
  pub job : machine.SpecJob
  pub channel : machine.Channel
  pub side : machine.SpecInput
  pub after : machine.SpecJob
  pub job_is : job_at read_in n ≡ Some job
  pub channel_is : channel_at job ch ≡ Some channel
  pub side_is : channel.input ≡ Some side
  pub after_is : job_at left_in n ≡ Some after
  pub core_is : after.core ≡ core_filled job channel a (words_from (body_read side channel.output) side.next)

-- This holds for each IN of a run through these services.
abbrev pub BodyIsRead : Service → List Event → List Reply → List Service → Type 0
BodyIsRead old events replies services =
    (before behind : List Event) (first second : List Reply) (one two : List Service) (left : Service) (n ch a : ℕ)
    (moment : Moment)
    → Reads events before behind replies first second services one two left n ch a moment
    → ReadsItsBody (last_of old one) left n ch a

-- Reading holds still: a job that looks a file up reads its words, whatever others do; and a job that writes reads what
-- it has written.
abbrev pub HoldsStill : Service → List Event → List Reply → List Service → Type 0
HoldsStill old events replies services = FoundIsRead old events replies services
    × BodyIsRead old events replies services
