-- Files that are made of bytes in memory, each answered after a label.
use Rattle.std.specs.Prelude.{◌≡◌, ◌⊎◌, ◌≤◌, ℕ, List, [], ◌++◌, length, Option, Result, Err}
use Rattle.std.specs.Io.KnownBytes.{Appends}
use Rattle.spec_language.specs.Common.{AreWords, Act, Plan, Ask, Show, Say, Spoken}
use Rattle.spec_language.specs.declared.encoding.Encoding.{Encoding}
use Rattle.commands.specs.Transfers.{Performs, TellsMisfit, no_room}
use Rattle.commands.specs.Machines.{Machine, GoesBy}
use Rattle.commands.specs.Reasons.{IsTooLong, most_bytes}
use Rattle.commands.specs.declared.answer.Tally.{Tally}
use Rattle.commands.specs.declared.error.SessionError.{SessionError}
use Rattle.commands.specs.declared.error.SessionError.TheVariants.{NoMemory}

-- the same outcome with its text after a label
abbrev pub said_behind : List ℕ → Spoken → Spoken
said_behind label said = record { text = label ++ said.text; refused = said.refused; broke = said.broke }

-- the same plan, whose outcome's text comes after a label
abbrev pub labels : List ℕ → Plan → Plan
labels label (Ask event next) = Ask event (λ reply. labels label (next reply))
labels label (Show owner next) = Show owner (λ answer. labels label (next answer))
labels label (Say said) = Say (said_behind label said)

-- The plan for the words that the bytes spell was done, or the bytes are too long, and that was written, each after the
-- label; or there was no memory for the words, and nothing was done and written.
abbrev pub Imports : Encoding → List ℕ → (Option (List ℕ) → Plan) → List ℕ → List Act → List ℕ
    → Result Tally SessionError → Type 0
Imports encoding label plan bytes acts written result =
    ((length bytes ≤ most_bytes encoding) × (words : Option (List ℕ)) × AreWords encoding bytes words
    × Performs (labels label (plan words)) acts written result)
    ⊎ (IsTooLong encoding bytes × Performs (labels label no_room) acts written result)
    ⊎ ((result ≡ Err NoMemory) × (acts ≡ []) × (written ≡ []))

-- What was written for the bytes, and what became of the service.
pub record Imported {S : Type 0} (sink full : Option (List ℕ)) (machine : S → Machine) (old new : S)
    (encoding : Encoding) (label bytes : List ℕ) (plan : Option (List ℕ) → Plan) (result : Result Tally SessionError)
    : Type 0 where
  pub written : List ℕ
  pub acts : List Act
  pub appended : Appends sink full written
  pub goes : GoesBy machine old new acts
  pub imports : Imports encoding label plan bytes acts written result
  pub tells : TellsMisfit encoding bytes result
