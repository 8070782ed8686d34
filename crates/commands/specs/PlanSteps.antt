-- The events of a line's plan, one by one, and how far the plan has come.
use Rattle.std.specs.Prelude.{◌≡◌, ℕ, ◌||◌, true, List, ◌++◌, Result, Ok, Err, IfOk, flat_map}
use Rattle.words36.specs.Common.{word_bytes, HasRead}
use Rattle.words36.specs.declared.moment.Moment.{Moment}
use Rattle.spec_language.specs.Common.{Act, Plan, Leads, Show, Say, each, fails, Spoken, typed, list_said}
use Rattle.spec_image.specs.declared.entry.Entry.{Entry}
use Rattle.spec_language.specs.declared.encoding.Encoding.TheVariants.{Characters, Words, Octets}
use Rattle.spec_language.specs.declared.style.Style.{Style}
use Rattle.spec_machine.specs.declared.call.Reply.{Reply}
use Rattle.spec_machine.specs.declared.call.Event.{Event}
use Rattle.commands.specs.Machines.{Machine, GoesBy}
use Rattle.commands.specs.declared.answer.Tally.{Tally}
use Rattle.commands.specs.declared.type_line.Target.{Target}
use Rattle.commands.specs.declared.type_line.Target.TheVariants.{Text, List as ListTarget}
use Rattle.commands.specs.declared.type_line.Typed.{Typed}

-- The service went by acts that bring a plan to the rest of it.
pub record FollowsPlan {S : Type 0} (machine : S → Machine) (old new : S) (plan : Plan) (rest : Plan) : Type 0 where
  pub acts : List Act
  pub goes : GoesBy machine old new acts
  pub leads : Leads plan acts rest

-- the rest of a plan after a result: the line ends at the first event that failed
abbrev pub followed : {X : Type 0} → Moment → Result X Reply → (X → Plan) → Plan
followed moment (Ok x) next = next x
followed moment (Err reply) next = fails moment reply

-- These events were served, and each was done.
pub record HasDone {S : Type 0} (machine : S → Machine) (old new : S) (events : List Event) : Type 0 where
  pub acts : List Act
  pub goes : GoesBy machine old new acts
  pub leads : (moment : Moment) (rest : List Event) (next : Plan)
      → Leads (each moment (events ++ rest) next) acts (each moment rest next)

-- The rest of a plan was done, to its end: its outcome is counted, and the outcome's text is returned.
pub record FinishesPlan {V E S : Type 0} (bytes : V → List ℕ) (result : Result V E) (machine : S
    → Machine) (old new : S) (plan : Plan) (tally counted : Tally) : Type 0 where
  pub said : Spoken
  pub led : FollowsPlan machine old new plan (Say said)
  pub refused : counted.refused ≡ tally.refused || said.refused
  pub broke : counted.broke ≡ tally.broke || said.broke
  pub reason : counted.reason ≡ tally.reason
  pub text : IfOk result (λ v. bytes v ≡ said.text)

-- An outcome is counted, and its text is returned.
pub record Tells {V E : Type 0} (bytes : V → List ℕ) (result : Result V E) (said : Spoken) (tally counted : Tally)
    : Type 0 where
  pub refused : counted.refused ≡ tally.refused || said.refused
  pub broke : counted.broke ≡ tally.broke || said.broke
  pub reason : counted.reason ≡ tally.reason
  pub text : IfOk result (λ v. bytes v ≡ said.text)

-- A directory was listed, and the text of the list, or of its refusal, is returned and counted.
pub record HasShown {V E S : Type 0} (bytes : V → List ℕ) (result : Result V E) (machine : S → Machine) (old new : S)
    (style : Style) (owner : ℕ) (tally counted : Tally) : Type 0 where
  pub answer : Result (List Entry) Reply
  pub led : (next : Result (List Entry) Reply → Plan) → FollowsPlan machine old new (Show owner next) (next answer)
  pub refused : counted.refused ≡ tally.refused || (list_said style owner answer).refused
  pub broke : counted.broke ≡ tally.broke || (list_said style owner answer).broke
  pub reason : counted.reason ≡ tally.reason
  pub text : IfOk result (λ v. bytes v ≡ (list_said style owner answer).text)

-- The stored form of words that were read: their characters, or eight bytes for each, as far as there was memory for
-- them; or their bytes of eight bits; or the words.
abbrev pub AreKept : Target → Typed → List ℕ → Type 0
AreKept (Text Characters) t words = t.is_whole ≡ true → t.bytes.items ≡ typed words
AreKept (Text Words) t words = t.is_whole ≡ true → t.bytes.items ≡ flat_map word_bytes words
AreKept (Text Octets) t words = HasRead t.octets words
AreKept ListTarget t words = t.is_whole ≡ true → t.words.items ≡ words

abbrev pub AreTyped : Target → Typed → List ℕ → Type 0
AreTyped target t words = (t.target ≡ target) × AreKept target t words

-- Words of a body were read by the events of a plan, and their bytes appended to those before.
pub record HasTyped {S X : Type 0} (machine : S → Machine) (old new : S) (moment : Moment) (plan : (List ℕ → Plan)
    → Plan) (result : Result X Reply) (before after : Typed) : Type 0 where
  pub words : List ℕ
  pub types : (target : Target) (seen : List ℕ) → AreTyped target before seen → AreTyped target after (seen ++ words)
  pub led : (next : List ℕ → Plan) → FollowsPlan machine old new (plan next) (followed moment result (λ x. next words))
