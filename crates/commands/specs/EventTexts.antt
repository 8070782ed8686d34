-- The parts of a line of a call script, and the event that they spell.
use Rattle.std.specs.Prelude.{◌≡◌, ℕ, List, ◌∷◌, ◌++◌, Option, Some, None}
use Rattle.words36.specs.declared.moment.Moment.{Moment}
use Rattle.spec_language.specs.Common.{Are, is_space, AreFields, IsEventText}
use Rattle.spec_machine.specs.declared.call.Call.{Call}
use Rattle.spec_machine.specs.declared.call.Event.{Event}

-- A text's first field, and the text of the others.
pub record Begins (text first rest : List ℕ) : Type 0 where
  pub only : (one : List ℕ) (more : List (List ℕ)) → AreFields (one ∷ more) text → (one ≡ first) × AreFields more rest
  pub joined : (more : List (List ℕ)) → AreFields more rest → AreFields (first ∷ more) text

-- A word, spaces, and the rest of the text, which doesn't begin with a space.
pub record IsBehind (text word rest : List ℕ) : Type 0 where
  pub gap : List ℕ
  pub spaces : Are is_space gap
  pub spelled : text ≡ word ++ 32 ∷ (gap ++ rest)
  pub begins : (more : List ℕ) → rest ≡ 32 ∷ more → ⊥

-- the event of fields, if they spell one
abbrev pub FieldsSay : List (List ℕ) → Moment → Option Event → Type 0
FieldsSay fields moment (Some event) = IsEventText fields moment event
FieldsSay fields moment None = (event : Event) → IsEventText fields moment event → ⊥

-- the call of a word, with the numbers that follow it
abbrev pub with_one : Option (ℕ → Call) → ℕ → Option Call
with_one None x = None
with_one (Some call) x = Some (call x)

abbrev pub with_two : Option (ℕ → ℕ → Call) → ℕ → ℕ → Option Call
with_two None x y = None
with_two (Some call) x y = Some (call x y)
