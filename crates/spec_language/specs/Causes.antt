-- Why a line is refused: it continues while its replies are those that it wants, and prints the first other one.
use Rattle.std.specs.Prelude.{◌≡◌, ◌⊎◌, ℕ, Bool, true, false, IsTrue, IsFalse, List, [], ◌∷◌, ◌++◌, unwrap_or, Result}
use Rattle.std.specs.List.{AllByRecursion}
use Rattle.words36.specs.Common.{AreOctets}
use Rattle.words36.specs.declared.moment.Moment.{Moment}
use Rattle.spec_language.specs.Texts.{Spoken, prints, typed, file_said, refuses, list_said}
use Rattle.spec_language.specs.Plans.{Plan, Ask, Show, Say, Act, Asks, Looks, each, call_event, ends, fails, ok}
use Rattle.spec_language.specs.Plans.{until_end}
use Rattle.spec_language.specs.Plans.{in_event, is_end, directory_plan}
use Rattle.spec_language.specs.declared.command.Command.{Command}
use Rattle.spec_language.specs.declared.command.Command.TheVariants.{Login as LoginLine, Directory as DirectoryLine}
use Rattle.spec_language.specs.declared.command.Command.TheVariants.{Copy as CopyLine, Rename as RenameLine}
use Rattle.spec_language.specs.declared.command.Command.TheVariants.{Delete as DeleteLine, TypeOut as TypeLine}
use Rattle.spec_language.specs.declared.command.Command.TheVariants.{Protect as ProtectLine, MakeDir as MakeLine}
use Rattle.spec_language.specs.declared.command.Command.TheVariants.{Quota as QuotaLine}
use Rattle.spec_language.specs.declared.encoding.Encoding.{Encoding}
use Rattle.spec_language.specs.declared.encoding.Encoding.TheVariants.{Characters, Octets}
use Rattle.spec_image.specs.declared.entry.Entry.{Entry}
use Rattle.spec_language.specs.declared.style.Style.TheVariants.{Columns}
use Rattle.spec_machine.specs.declared.call.Call.TheVariants.{Close, Reset}
use Rattle.spec_machine.specs.declared.call.Event.{Event}
use Rattle.spec_machine.specs.declared.call.Event.TheVariants.{Login, Deposit, Examine, Call as Calls}
use Rattle.spec_machine.specs.declared.call.Reply.{Reply}
use Rattle.spec_machine.specs.declared.call.Reply.TheVariants.{Done, Value, Stopped}

abbrev pub is_done : Reply → Bool
is_done Done = true
is_done reply = false

abbrev pub is_word : Reply → Bool
is_word (Value word) = true
is_word reply = false

-- the reply that is wanted: the word of the core that was asked for, else Done
abbrev pub is_wanted : Event → Reply → Bool
is_wanted (Login n ppn words) reply = is_done reply
is_wanted (Deposit n address word) reply = is_done reply
is_wanted (Examine n address) reply = is_word reply
is_wanted (Calls n call moment) reply = is_done reply

-- The plan continues to such an end while the replies are those wanted. After the first other reply it closes the
-- channels and prints that reply.
abbrev pub GoesUntilRefused : Moment → (Plan → Type 0) → Plan → Type 0
GoesUntilRefused moment IsEnd (Say said) = IsEnd (Say said)
GoesUntilRefused moment IsEnd (Show owner next) = IsEnd (Show owner next)
GoesUntilRefused moment IsEnd (Ask event next) =
    IsEnd (Ask event next)
    ⊎ ((reply : Reply) → (IsTrue (is_wanted event reply) → GoesUntilRefused moment IsEnd (next reply))
    × (IsFalse (is_wanted event reply) → next reply ≡ fails moment reply))

-- Ends: OK; what COPY and a file that is read come to, whose IN after the last block has to report the file's end.

abbrev pub SaysOk : Moment → Plan → Type 0
SaysOk moment plan = plan ≡ ends moment ok

abbrev pub ClosesAtEnd : Moment → Plan → Type 0
ClosesAtEnd moment plan = plan ≡ until_end moment (each moment (call_event moment (Close 2 0) ∷ []) (ends moment ok))

abbrev pub PrintsAtEnd : Moment → Encoding → Plan → Type 0
PrintsAtEnd moment encoding plan =
    (words : List ℕ) × (plan ≡ until_end moment (ends moment (file_said encoding words)))

-- A file that was read is refused only if its bytes were asked for, and no bytes have its words.
abbrev pub TellingsHaveCauses : Type 0
TellingsHaveCauses =
    (encoding : Encoding) (words : List ℕ) → IsTrue (file_said encoding words).refused
    → (encoding ≡ Octets) × ((bytes : List ℕ) → AreOctets words bytes → ⊥)

-- The end of each line. LOGIN asks nothing here, and DIRECTORY no event.
abbrev pub EndsSo : Moment → ℕ → Command → Plan → Type 0
EndsSo moment me (LoginLine owner) plan = plan ≡ Say (prints [])
EndsSo moment me (DirectoryLine owner) plan = plan ≡ directory_plan (unwrap_or owner me)
EndsSo moment me (CopyLine to from) plan = ClosesAtEnd moment plan
EndsSo moment me (RenameLine to from) plan = SaysOk moment plan
EndsSo moment me (DeleteLine spec) plan = SaysOk moment plan
EndsSo moment me (TypeLine spec) plan = PrintsAtEnd moment Characters plan
EndsSo moment me (ProtectLine spec protection) plan = SaysOk moment plan
EndsSo moment me (MakeLine owner protection) plan = SaysOk moment plan
EndsSo moment me (QuotaLine owner blocks) plan = SaysOk moment plan

-- What a line prints if none of its replies is refused. The list of a directory includes the refusal of its own answer.
abbrev pub SaysSo : ℕ → Command → Spoken → Type 0
SaysSo me (LoginLine owner) said = said ≡ prints []
SaysSo me (DirectoryLine owner) said =
    (answer : Result (List Entry) Reply) × (said ≡ list_said Columns (unwrap_or owner me) answer)
SaysSo me (CopyLine to from) said = said ≡ ok
SaysSo me (RenameLine to from) said = said ≡ ok
SaysSo me (DeleteLine spec) said = said ≡ ok
SaysSo me (TypeLine spec) said = (words : List ℕ) × (said ≡ prints (typed words))
SaysSo me (ProtectLine spec protection) said = said ≡ ok
SaysSo me (MakeLine owner protection) said = said ≡ ok
SaysSo me (QuotaLine owner blocks) said = said ≡ ok

-- The same for the acts of a line.

-- its reply is the one wanted, or it is an IN that reported the file's end
abbrev pub IsAsWanted : Moment → Act → Type 0
IsAsWanted moment (Asks event reply) =
    IsTrue (is_wanted event reply)
    ⊎ ((event ≡ in_event moment) × (status : ℕ) × (reply ≡ Stopped status) × IsTrue (is_end status))
IsAsWanted moment (Looks owner answer) = ⊥

-- The line is refused at the first act whose reply isn't the one wanted, and prints that reply; or at the IN after the
-- last block, if that was Done and didn't report the file's end.
pub record IsRefusedAt (moment : Moment) (acts : List Act) (said : Spoken) : Type 0 where
  pub before : List Act
  pub event : Event
  pub reply : Reply
  pub reset : Reply
  pub acts_are : acts ≡ before ++ Asks event reply ∷ Asks (call_event moment Reset) reset ∷ []
  pub wanted : AllByRecursion (IsAsWanted moment) before
  pub unwanted : IsFalse (is_wanted event reply) ⊎ ((event ≡ in_event moment) × (reply ≡ Done))
  pub says : said ≡ refuses reply
