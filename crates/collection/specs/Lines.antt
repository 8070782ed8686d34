-- The line of each file: which file it is, and then what became of it.
use Rattle.std.specs.Prelude.{◌≡◌, ◌<◌, ◌++◌, ◌∷◌, ℕ, Bool, true, List, [], Option, None, Result, Ok, Err, codes}
use Rattle.std.specs.Prelude.{length}
use Rattle.std.specs.Io.KnownBytes.{Appends}
use Rattle.spec_language.specs.Common.{line}
use Rattle.commands.specs.declared.answer.Tally.{Tally}
use Rattle.commands.specs.declared.error.SessionError.{SessionError}
use Rattle.commands.specs.declared.error.SessionError.TheVariants.{Read, Write, NoMemory}
use Rattle.collection.specs.HostNames.{shown}

-- a text and a blank, or nothing
abbrev pub spaced : List ℕ → List ℕ
spaced [] = []
spaced (c ∷ cs) = c ∷ cs ++ codes " "

-- the beginning of a line: the path, and which file it is
abbrev pub label_of : List ℕ → List ℕ → List ℕ
label_of path text = shown path ++ codes ": " ++ spaced text

-- This line was written whole; or a beginning of it by a writer that failed; or there was no memory for it.
abbrev pub IsLineWritten : {T : Type 0} → Option (List ℕ) → Option (List ℕ) → List ℕ → Result T SessionError → Type 0
IsLineWritten sink full text (Ok value) = Appends sink full text
IsLineWritten sink full text (Err Read) = ⊥
IsLineWritten sink full text (Err Write) =
    (written : List ℕ) × (unwritten : List ℕ) × Appends sink full written × (text ≡ written ++ unwritten)
    × (0 < length unwritten)
IsLineWritten sink full text (Err NoMemory) = full ≡ sink

-- a line that was written whole was counted as this
abbrev pub IsCounted : {E : Type 0} → Tally → Result Tally E → Type 0
IsCounted tally (Ok counted) = counted ≡ tally
IsCounted tally (Err error) = Unit {0}

-- the tally of a file that was refused
abbrev pub refused_tally : Bool → Tally
refused_tally broke = record { refused = true; broke = broke; reason = None }

-- The line of a file that was refused with this text was written, and counted as refused.
abbrev pub IsRefusedLine : List ℕ → List ℕ → Bool → Option (List ℕ) → Option (List ℕ) → Result Tally SessionError
    → Type 0
IsRefusedLine path answer broke sink full result =
    IsLineWritten sink full (label_of path [] ++ line answer) result × IsCounted (refused_tally broke) result

-- There was no memory for the name or the line of a file; no call was made, and nothing was written.
pub record IsUnnamed {S : Type 0} (sink full : Option (List ℕ)) (old new : S) (result : Result Tally SessionError)
    : Type 0 where
  pub same : new ≡ old
  pub unwritten : full ≡ sink
  pub memory : result ≡ Err NoMemory
