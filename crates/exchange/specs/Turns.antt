-- The events of an order, its answer, and the words of core that the answer reports.
use Rattle.std.specs.Prelude.{◌≡◌, ◌⊎◌, ℕ, ◌+◌, ◌*◌, ◌^◌, Bool, true, false, List, [], ◌∷◌, ◌++◌, length, map}
use Rattle.std.specs.Prelude.{flat_map, Option, Some, None}
use Rattle.std.specs.List.{range_with_len}
use Rattle.std.specs.Int.{saturate_unsigned, w64}
use Rattle.words36.specs.Common.{block_bytes}
use Rattle.spec_machine.specs.Common.{State, job_at, room, Service, Serving, Broken}
use Rattle.spec_language.specs.Common.{Act, Asks, is_broken, Went}
use Rattle.spec_image.specs.Common.{Pack}
use Rattle.spec_machine.specs.declared.area.Area.{Area}
use Rattle.spec_machine.specs.declared.call.Event.TheVariants.{Login as Logins, Deposit as Deposits}
use Rattle.spec_machine.specs.declared.call.Event.TheVariants.{Examine as Examines, Call as CallEvents}
use Rattle.spec_machine.specs.declared.call.Reply.{Reply}
use Rattle.spec_machine.specs.declared.call.Reply.TheVariants.{Done, Value}
use Rattle.monitor.specs.Common.{areas_for}
use Rattle.wire.specs.Frames.{Framed, IsFrame, frame_bytes}
use Rattle.wire.specs.Records.{IsOrder, record_bytes, answer_record}
use Rattle.wire.specs.declared.answer.Answer.{Answer}
use Rattle.wire.specs.declared.answer.Answer.TheVariants.{Wrong, Reply as Replies, Room as HasRoom}
use Rattle.wire.specs.declared.order.Order.{Order}
use Rattle.wire.specs.declared.order.Order.TheVariants.{Login, Deposit, Examine, Call as Calls, Room}

-- A record with the bytes after it; the order that they spell, if they spell one; the areas of core that a call may
-- have changed, as they were determined; the acts of the service; and the answer, with the groups of eight bytes after
-- it.
pub record Turn : Type 0 where
  pub frame : Framed
  pub order : Option Order
  pub areas : List Area
  pub acts : List Act
  pub answer : Answer
  pub groups : List ℕ

-- Words of core.

-- the addresses of areas
abbrev pub addresses : List Area → List ℕ
addresses areas = flat_map (λ area. range_with_len area.first area.count) areas

-- a word at its address, as eight bytes report it
abbrev pub group : ℕ × ℕ → ℕ
group place = place.0 * 2 ^ 36 + place.1

-- words that were read, each by an event of its own
abbrev pub looks : ℕ → List (ℕ × ℕ) → List Act
looks job places = map (λ place. Asks (Examines job place.0) (Value place.1)) places

-- a reply that isn't a word
abbrev pub IsNoWord : Reply → Type 0
IsNoWord reply = (word : ℕ) → reply ≡ Value word → ⊥

-- The words at these addresses were read, and the reply is Done; or those before the first for which the reply was no
-- word, and it is that reply.
abbrev pub AreRead : ℕ → List ℕ → List (ℕ × ℕ) → List Act → Reply → Type 0
AreRead job addresses places acts reply =
    ((map (λ place. place.0) places ≡ addresses) × (acts ≡ looks job places) × (reply ≡ Done))
    ⊎ ((address : ℕ) × (more : List ℕ) × (addresses ≡ map (λ place. place.0) places ++ address ∷ more)
    × (acts ≡ looks job places ++ Asks (Examines job address) reply ∷ []) × IsNoWord reply)

-- words that were put in a row, each by an event of its own that was done
abbrev pub puts : ℕ → ℕ → List ℕ → List Act
puts job address [] = []
puts job address (word ∷ words) = Asks (Deposits job address word) Done ∷ puts job (address + 1) words

-- The words were put in a row, and the reply is Done; or those before the first that isn't done, and it is the reply
-- to that one.
abbrev pub AreWritten : ℕ → ℕ → List ℕ → List Act → Reply → Type 0
AreWritten job first words acts reply =
    ((acts ≡ puts job first words) × (reply ≡ Done))
    ⊎ ((before : List ℕ) × (word : ℕ) × (more : List ℕ) × (words ≡ before ++ word ∷ more)
    × (acts ≡ puts job first before ++ Asks (Deposits job (first + length before) word) reply ∷ [])
    × (reply ≡ Done → ⊥))

-- Turns.

-- one clause for each order
abbrev pub IsObeyed : Order → List ℕ → Turn → Type 0
IsObeyed (Login job ppn core) words t =
    (reply : Reply) × (t.acts ≡ Asks (Logins job ppn core) reply ∷ []) × (t.answer ≡ Replies reply) × (t.groups ≡ [])
IsObeyed (Deposit job first count) words t =
    (reply : Reply) × AreWritten job first words t.acts reply × (t.answer ≡ Replies reply) × (t.groups ≡ [])
IsObeyed (Examine job first count) words t =
    (reply : Reply) × (places : List (ℕ × ℕ)) × AreRead job (range_with_len first count) places t.acts reply
    × (t.answer ≡ Replies reply) × (t.groups ≡ map group places)
IsObeyed (Calls job call moment) words t =
    (reply : Reply) × (looked : List Act) × (t.acts ≡ Asks (CallEvents job call moment) reply ∷ looked)
    × (end : Reply) × (places : List (ℕ × ℕ)) × AreRead job (addresses t.areas) places looked end
    × (t.answer ≡ Replies reply) × (t.groups ≡ map group places)
IsObeyed Room words t = (t.acts ≡ []) × ((blocks : ℕ) × (t.answer ≡ HasRoom blocks)) × (t.groups ≡ [])

-- The order was served; or the bytes spell none, and nothing was done.
abbrev pub IsAnswer : Option Order → Turn → Type 0
IsAnswer (Some order) t =
    (words : List ℕ) × IsOrder t.frame.header t.frame.body order words × IsObeyed order words t
IsAnswer None t =
    ((order : Order) (words : List ℕ) → IsOrder t.frame.header t.frame.body order words → ⊥)
    × (t.acts ≡ []) × (t.answer ≡ Wrong) × (t.groups ≡ [])

pub record IsTurn (t : Turn) : Type 0 where
  pub frame : IsFrame t.frame
  pub answer : IsAnswer t.order t

-- What the state before it determines: a call reports the areas that it may change, and the room is that of this state.
abbrev pub TellsOf : Pack → State → Option Order → Turn → Type 0
TellsOf pack s (Some (Calls job call moment)) t = t.areas ≡ areas_for (job_at s job) call
TellsOf pack s (Some Room) t = t.answer ≡ HasRoom (saturate_unsigned w64 (room pack s))
TellsOf pack s order t = Unit {0}

abbrev pub Tells : Pack → Service → Turn → Type 0
Tells pack (Serving s) t = TellsOf pack s t.order t
Tells pack Broken t = Unit {0}

-- Turns one after the other.

abbrev pub acts_of : List Turn → List Act
acts_of turns = flat_map (λ t. t.acts) turns

abbrev pub orders_of : List Turn → List ℕ
orders_of turns = flat_map (λ t. frame_bytes t.frame) turns

abbrev pub answer_of : Answer → List ℕ → List ℕ
answer_of answer groups = record_bytes (answer_record answer (length groups)) ++ block_bytes groups

abbrev pub answers_of : List Turn → List ℕ
answers_of turns = flat_map (λ t. answer_of t.answer t.groups) turns

abbrev pub is_wrong : Answer → Bool
is_wrong Wrong = true
is_wrong answer = false

abbrev pub is_fault : Answer → Bool
is_fault (Replies reply) = is_broken reply
is_fault answer = false

-- The turns report what the states before them determine.
abbrev pub TellBy : Pack → Service → List Turn → Service → Type 0
TellBy pack old [] new = new ≡ old
TellBy pack old (t ∷ turns) new =
    Tells pack old t × (mid : Service) × Went pack old t.acts mid × TellBy pack mid turns new
