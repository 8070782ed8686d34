-- A line that is printed, and what a writer that failed has of it.
use Rattle.std.specs.Prelude.{◌≡◌, ◌<◌, ◌++◌, ◌∷◌, ℕ, List, [], Option, Result, Ok, Err, length}
use Rattle.std.specs.Fmt.{decimal}
use Rattle.std.specs.Io.KnownBytes.{Appends}
use Rattle.commands.specs.declared.error.SessionError.{SessionError}
use Rattle.commands.specs.declared.error.SessionError.TheVariants.{Write}
use Rattle.spec_language.specs.Common.{feed}
use Rattle.filser.specs.Statuses.{status_code}
use Rattle.filser.specs.declared.message.Message.{Message}
use Rattle.filser.specs.declared.message.Message.TheVariants.{Plain, Numbered}
use Rattle.filser.specs.declared.status.Status.{Status}
use Rattle.filser.specs.declared.status.Status.TheVariants.{Fault}

-- the characters of a line, without its end
abbrev pub message_text : Message → List ℕ
message_text (Plain text) = text.now
message_text (Numbered before number after) = before.now ++ decimal number ++ after.now

-- a beginning of a text was written, and not all of it
abbrev pub IsBegun : Option (List ℕ) → Option (List ℕ) → List ℕ → Type 0
IsBegun sink full text = (written : List ℕ) × (unwritten : List ℕ) × Appends sink full written
    × (text ≡ written ++ unwritten) × (0 < length unwritten)

-- A text was written, or a beginning of it by a writer that failed, which is the error.
abbrev pub Puts : {T : Type 0} → Result T SessionError → Option (List ℕ) → Option (List ℕ) → List ℕ → Type 0
Puts (Ok value) sink full text = Appends sink full text
Puts (Err error) sink full text = (error ≡ Write) × IsBegun sink full text

-- A line was printed, with its end, and the run ends with this code; or the writer failed: then it holds a beginning of
-- the line, and the run ends with a fault.
pub record IsLine (sink full : Option (List ℕ)) (status : Status) (code : ℕ) (text : List ℕ) : Type 0 where
  pub written : List ℕ
  pub unwritten : List ℕ
  pub appended : Appends sink full written
  pub parts : text ++ feed ∷ [] ≡ written ++ unwritten
  pub whole : unwritten ≡ [] → status_code status ≡ code
  pub cut : 0 < length unwritten → status ≡ Fault
