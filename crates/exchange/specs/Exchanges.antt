-- A whole exchange of orders and answers, and the parts that it is made of.
use Rattle.std.specs.Prelude.{◌≡◌, ◌⊎◌, ◌||◌, ◌+◌, ◌<◌, ◌≤◌, ℕ, not, List, [], ◌∷◌, ◌++◌, length, map, Option, Some}
use Rattle.std.specs.Prelude.{None, Result, Ok, Err, IfSome, ◌==◌, unwrap_or}
use Rattle.std.specs.Io.KnownBytes.{Consumes, Appends, IsAtEnd}
use Rattle.std.specs.List.{AllByRecursion, list_any}
use Rattle.spec_machine.specs.Common.{State, job_at, Service, Serving}
use Rattle.spec_language.specs.Common.{Act, Asks}
use Rattle.spec_machine.specs.declared.area.Area.{Area}
use Rattle.spec_machine.specs.declared.call.Event.TheVariants.{Deposit as Deposits}
use Rattle.spec_machine.specs.declared.call.Reply.{Reply}
use Rattle.spec_machine.specs.declared.call.Reply.TheVariants.{Done}
use Rattle.usercore.specs.Common.{words_at}
use Rattle.monitor.specs.Common.{areas_for}
use Rattle.commands.specs.Common.{Machine, GoesBy, KeepsPack}
use Rattle.commands.specs.declared.answer.Tally.{Tally}
use Rattle.commands.specs.declared.error.SessionError.{SessionError}
use Rattle.commands.specs.declared.error.SessionError.TheVariants.{Read, Write, NoMemory}
use Rattle.wire.specs.Frames.{Framed, IsPart, IsTooLong}
use Rattle.wire.specs.Records.{most_words}
use Rattle.wire.specs.declared.answer.Answer.{Answer}
use Rattle.wire.specs.declared.answer.Answer.TheVariants.{Wrong}
use Rattle.wire.specs.declared.order.Order.{Order}
use Rattle.wire.specs.declared.order.Order.TheVariants.{Login, Deposit, Examine, Call as Calls, Room}
use Rattle.exchange.specs.declared.wire_session.Waiting.{Waiting}
use Rattle.exchange.specs.Turns.{Turn, IsTurn, IsObeyed, TellsOf, TellBy, AreRead, AreWritten, acts_of, orders_of}
use Rattle.exchange.specs.Turns.{answers_of, answer_of, group, is_wrong, is_fault}

-- From one value of the service to another these turns were taken, moment by moment.
pub record Takes {S : Type 0} (machine : S → Machine) (old new : S) (turns : List Turn) : Type 0 where
  pub goes : GoesBy machine old new (acts_of turns)
  pub are : AllByRecursion IsTurn turns
  pub reported : (machine new).honest → (first : Service) → (machine old).serves first
      → (last : Service) × (machine new).serves last × TellBy (machine old).pack first turns last
      × KeepsPack (machine old) (machine new) last

-- the tally of turns: whether one was wrong, and whether one met a fault of the disk, or came after one
pub record Counts (tally counted : Tally) (turns : List Turn) : Type 0 where
  pub refused : counted.refused ≡ tally.refused || list_any (λ t. is_wrong t.answer) turns
  pub broke : counted.broke ≡ tally.broke || list_any (λ t. is_fault t.answer) turns
  pub reason : counted.reason ≡ tally.reason

-- One order.

-- Words of a job's core were read, and reported after those before.
pub record HasRead {S : Type 0} (machine : S → Machine) (old new : S) (job : ℕ) (places : List ℕ)
    (before after : List ℕ) (reply : Reply) : Type 0 where
  pub told : List (ℕ × ℕ)
  pub acts : List Act
  pub goes : GoesBy machine old new acts
  pub read : AreRead job places told acts reply
  pub groups : after ≡ before ++ map group told

-- A word was put into a job's core; this was done if no reply is returned.
pub record HasPut {S : Type 0} (machine : S → Machine) (old new : S) (job address word : ℕ)
    (answer : Option Reply) : Type 0 where
  pub goes : GoesBy machine old new (Asks (Deposits job address word) (unwrap_or answer Done) ∷ [])
  pub undone : IfSome answer (λ reply. reply ≡ Done → ⊥)

-- Words were put into a job's core in a row.
pub record HasWritten {S : Type 0} (machine : S → Machine) (old new : S) (job first : ℕ) (words : List ℕ)
    (reply : Reply) : Type 0 where
  pub acts : List Act
  pub goes : GoesBy machine old new acts
  pub written : AreWritten job first words acts reply

-- an area below address 2^18
abbrev pub IsLow : Area → Type 0
IsLow area = area.first + area.count ≤ most_words

-- The areas that the answer to an order reports: for a call those that it may change, by the state before it.
abbrev pub AreTold : Machine → Order → List Area → Type 0
AreTold machine (Login job ppn core) areas = areas ≡ []
AreTold machine (Deposit job first count) areas = areas ≡ []
AreTold machine (Examine job first count) areas = areas ≡ words_at first count ∷ []
AreTold machine (Calls job call moment) areas =
    (s : State) → machine.serves (Serving s) → areas ≡ areas_for (job_at s job) call
AreTold machine Room areas = areas ≡ []

-- An order was served, and these are its answer and the groups after it.
pub record ServesOrder {S : Type 0} (machine : S → Machine) (old new : S) (frame : Framed) (order : Order)
    (words : List ℕ) (areas : List Area) (answer : Answer) (groups : List ℕ) : Type 0 where
  pub acts : List Act
  pub goes : GoesBy machine old new acts
  pub obeyed : IsObeyed order words
      (record { frame = frame; order = Some order; areas = areas; acts = acts; answer = answer; groups = groups })
  pub tells : (machine old).honest → (s : State) → (machine old).serves (Serving s)
      → TellsOf (machine old).pack s (Some order)
      (record { frame = frame; order = Some order; areas = areas; acts = acts; answer = answer; groups = groups })

-- A record with the bytes after it was answered, after the answers before.
pub record HasTurned {S : Type 0} (machine : S → Machine) (old new : S) (frame : Framed) (before after : List ℕ)
    (tally counted : Tally) : Type 0 where
  pub turn : Turn
  pub frame_is : turn.frame ≡ frame
  pub takes : Takes machine old new (turn ∷ [])
  pub answered : after ≡ before ++ answer_of turn.answer turn.groups
  pub counts : Counts tally counted (turn ∷ [])

-- Bytes of the input.

-- These bytes were answered: `before` waited to be written at first, and `after` waits now.
pub record StepsOn {S : Type 0} (machine : S → Machine) (old new : S) (sink full : Option (List ℕ))
    (before after : List ℕ) (tally counted : Tally) (bytes : List ℕ) : Type 0 where
  pub turns : List Turn
  pub takes : Takes machine old new turns
  pub orders : bytes ≡ orders_of turns
  pub written : List ℕ
  pub appended : Appends sink full written
  pub answers : before ++ answers_of turns ≡ written ++ after
  pub counts : Counts tally counted turns

-- What remains unwritten, and unread, when an exchange breaks off.
abbrev pub IsBreak : SessionError → List ℕ → List ℕ → Type 0
IsBreak Read unwritten rest = ⊥
IsBreak Write unwritten rest = 0 < length unwritten
IsBreak NoMemory unwritten rest = (unwritten ≡ []) × (0 < length rest)

-- Of the waiting answers these remain unwritten; if the writer failed, it has a beginning of them.
abbrev pub IsFlushed : Option (List ℕ) → Option (List ℕ) → List ℕ → List ℕ → Result (Unit {0}) SessionError → Type 0
IsFlushed sink full before after (Ok unit) =
    (written : List ℕ) × Appends sink full written × (before ≡ written ++ after)
IsFlushed sink full before after (Err error) =
    (error ≡ Write) × (written : List ℕ) × (unwritten : List ℕ) × Appends sink full written
    × (before ≡ written ++ unwritten) × (0 < length unwritten)

-- The waiting answers were written, and there is no memory for more; or the writer failed.
abbrev pub IsGivenUp : Option (List ℕ) → Option (List ℕ) → List ℕ → SessionError → Type 0
IsGivenUp sink full before error =
    (written : List ℕ) × (unwritten : List ℕ) × Appends sink full written × (before ≡ written ++ unwritten)
    × (((error ≡ NoMemory) × (unwritten ≡ [])) ⊎ ((error ≡ Write) × (0 < length unwritten)))

-- A beginning of these bytes was answered.
pub record BreaksOff {S : Type 0} (machine : S → Machine) (old new : S) (sink full : Option (List ℕ))
    (before : List ℕ) (error : SessionError) (bytes : List ℕ) : Type 0 where
  pub turns : List Turn
  pub takes : Takes machine old new turns
  pub rest : List ℕ
  pub orders : bytes ≡ orders_of turns ++ rest
  pub written : List ℕ
  pub unwritten : List ℕ
  pub appended : Appends sink full written
  pub answers : before ++ answers_of turns ≡ written ++ unwritten
  pub cause : IsBreak error unwritten rest

-- bytes that begin with no whole record
abbrev pub IsNotWhole : List ℕ → Type 0
IsNotWhole bytes = IsPart bytes ⊎ IsTooLong bytes

-- Bytes were taken: the whole records are answered and the answers written, and the rest waits.
pub record HasTaken {S : Type 0} (machine : S → Machine) (old new : S) (sink full : Option (List ℕ))
    (before after : Waiting) (piece : List ℕ) : Type 0 where
  pub front : List ℕ
  pub parted : before.held.items ++ piece ≡ front ++ after.held.items
  pub steps : StepsOn machine old new sink full [] [] before.tally after.tally front
  pub rest : IsNotWhole after.held.items
  pub written : after.answers.items ≡ []

-- The end of the input.

-- The rest of the input is empty or no whole record: the input ends in one, or one announces more words than a core
-- has.
abbrev pub IsRest : Type 0 → List ℕ → Type 0
IsRest at_end [] = at_end
IsRest at_end (byte ∷ bytes) = (at_end × IsPart (byte ∷ bytes)) ⊎ IsTooLong (byte ∷ bytes)

-- its answer
abbrev pub closing : List ℕ → List ℕ
closing [] = []
closing (byte ∷ bytes) = answer_of Wrong []

-- The rest was answered; or there was no memory for that, or the writer failed.
abbrev pub HasClosed : Option (List ℕ) → Option (List ℕ) → List ℕ → Tally → Result Tally SessionError → Type 0
HasClosed sink full rest tally (Ok counted) =
    Appends sink full (closing rest) × (counted.refused ≡ tally.refused || not (length rest == 0))
    × (counted.broke ≡ tally.broke) × (counted.reason ≡ tally.reason)
HasClosed sink full rest tally (Err Read) = ⊥
HasClosed sink full rest tally (Err Write) =
    (written : List ℕ) × (unwritten : List ℕ) × Appends sink full written × (closing rest ≡ written ++ unwritten)
    × (0 < length unwritten)
HasClosed sink full rest tally (Err NoMemory) = (full ≡ sink) × (0 < length rest)

-- All was answered and written.
pub record Finished (at_end : Type 0) (read written : List ℕ) (turns : List Turn) (tally : Tally) : Type 0 where
  pub rest : List ℕ
  pub orders : read ≡ orders_of turns ++ rest
  pub ends : IsRest at_end rest
  pub answers : written ≡ answers_of turns ++ closing rest
  pub refused : tally.refused ≡ list_any (λ t. is_wrong t.answer) turns || not (length rest == 0)
  pub broke : tally.broke ≡ list_any (λ t. is_fault t.answer) turns
  pub reason : tally.reason ≡ None

-- The reader failed: each whole record that it had returned was answered before.
pub record CutShort (read written : List ℕ) (turns : List Turn) : Type 0 where
  pub rest : List ℕ
  pub orders : read ≡ orders_of turns ++ rest
  pub part : IsPart rest
  pub answers : written ≡ answers_of turns

-- The writer failed: it has a beginning of the answers.
pub record IsUnwritten (at_end : Type 0) (read written : List ℕ) (turns : List Turn) : Type 0 where
  pub rest : List ℕ
  pub unwritten : List ℕ
  pub orders : read ≡ orders_of turns ++ rest
  pub answers : (written ++ unwritten ≡ answers_of turns)
      ⊎ (IsRest at_end rest × (written ++ unwritten ≡ answers_of turns ++ closing rest))
  pub some : 0 < length unwritten

-- There was no memory for a record that was read, and nothing was done for it.
pub record IsStuck (read written : List ℕ) (turns : List Turn) : Type 0 where
  pub rest : List ℕ
  pub orders : read ≡ orders_of turns ++ rest
  pub some : 0 < length rest
  pub answers : written ≡ answers_of turns

abbrev pub Ends : Type 0 → List ℕ → List ℕ → List Turn → Result Tally SessionError → Type 0
Ends at_end read written turns (Ok tally) = Finished at_end read written turns tally
Ends at_end read written turns (Err Read) = CutShort read written turns
Ends at_end read written turns (Err Write) = IsUnwritten at_end read written turns
Ends at_end read written turns (Err NoMemory) = IsStuck read written turns

-- What was taken from the reader and what was written, and what became of the service.
pub record Exchange {S : Type 0} (source left sink full : Option (List ℕ)) (machine : S → Machine) (old new : S)
    (result : Result Tally SessionError) : Type 0 where
  pub read : List ℕ
  pub written : List ℕ
  pub turns : List Turn
  pub consumed : Consumes source left read
  pub appended : Appends sink full written
  pub takes : Takes machine old new turns
  pub ends : Ends (IsAtEnd left) read written turns result
