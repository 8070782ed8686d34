-- A line of an input while its bytes come in, and the complete line.
use Rattle.std.specs.Prelude.{◌≡◌, ℕ, ◌<◌, ◌≤◌, Bool, true, false, List, [], ◌∷◌, length, map, Option, Some, None}
use Rattle.spec_language.specs.Common.{Line, Bytes, TooLong, upper}
use Rattle.commands.specs.declared.input.PartialLine.{PartialLine}
use Rattle.commands.specs.declared.input.InputLine.{InputLine}
use Rattle.commands.specs.declared.input.InputLine.TheVariants.{Text as ItsText, TooLong as ItsLength}

-- The bytes of a line up to here are stored, in upper case; if there are too many, only this fact is.
abbrev pub KeepsLine : Bool → List ℕ → List ℕ → Type 0
KeepsLine false kept seen = (kept ≡ map upper seen) × (length seen ≤ 255)
KeepsLine true kept seen = 255 < length seen

abbrev pub IsPartialLine : PartialLine → List ℕ → Type 0
IsPartialLine held seen = KeepsLine held.is_too_long held.bytes.items seen

-- a text in upper case as a line, if it isn't empty
abbrev pub text_line : List ℕ → List Line
text_line [] = []
text_line (b ∷ bs) = Bytes (b ∷ bs) ∷ []

-- a line of the code as a line of the definition
abbrev pub line_of : InputLine → Line
line_of (ItsText text) = Bytes text.now
line_of ItsLength = TooLong

abbrev pub line_list : Option InputLine → List Line
line_list None = []
line_list (Some line) = line_of line ∷ []
