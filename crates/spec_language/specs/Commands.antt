-- What a line of a session means: the grammar, a row for each form of a line.
use Rattle.std.specs.Prelude.{◌≡◌, ℕ, List, [], ◌∷◌, ◌++◌, Option, Some, None, codes}
use Rattle.spec_language.specs.Lines.{Line, Bytes, TooLong}
use Rattle.spec_language.specs.Spellings.{Are, is_space, AreFields, IsNumber, IsBlockCount, IsBracketed, IsSpec}
use Rattle.spec_language.specs.declared.command.Spec.{Spec}
use Rattle.spec_language.specs.declared.command.Command.{Command}
use Rattle.spec_language.specs.declared.command.Command.TheVariants.{Login, Directory, Copy, Rename, Delete, TypeOut}
use Rattle.spec_language.specs.declared.command.Command.TheVariants.{Protect, MakeDir, Quota}

-- a word and what follows it
abbrev pub HasArgument : List ℕ → List ℕ → List ℕ → Type 0
HasArgument word argument text = AreFields (word ∷ argument ∷ []) text

-- PROT between angle brackets: one to three digits
pub record IsAngled (text : List ℕ) (protection : ℕ) : Type 0 where
  pub digits : List ℕ
  pub number : IsNumber 3 digits protection
  pub spelled : text ≡ 60 ∷ (digits ++ 62 ∷ [])

-- nothing, which means the protection 0, or a protection between angle brackets
abbrev pub IsProtection : List ℕ → ℕ → Type 0
IsProtection [] protection = protection ≡ 0
IsProtection (c ∷ cs) protection = IsAngled (c ∷ cs) protection

-- SPEC=SPEC
pub record AreSpecs (text : List ℕ) (to from : Spec) : Type 0 where
  pub before : List ℕ
  pub behind : List ℕ
  pub left : IsSpec before to
  pub right : IsSpec behind from
  pub spelled : text ≡ before ++ 61 ∷ behind

-- SPEC<PROT>
pub record IsProtected (text : List ℕ) (spec : Spec) (protection : ℕ) : Type 0 where
  pub before : List ℕ
  pub behind : List ℕ
  pub left : IsSpec before spec
  pub right : IsAngled behind protection
  pub spelled : text ≡ before ++ behind

-- [p,n] or [p,n]<PROT>
pub record IsNewDirectory (text : List ℕ) (owner protection : ℕ) : Type 0 where
  pub before : List ℕ
  pub behind : List ℕ
  pub left : IsBracketed before owner
  pub right : IsProtection behind protection
  pub spelled : text ≡ before ++ behind

-- [p,n] and a number of blocks, with one space between them
pub record IsLimit (text : List ℕ) (owner blocks : ℕ) : Type 0 where
  pub before : List ℕ
  pub behind : List ℕ
  pub left : IsBracketed before owner
  pub right : IsBlockCount behind blocks
  pub spelled : text ≡ before ++ 32 ∷ behind

abbrev pub IsCommand : List ℕ → Command → Type 0
IsCommand text (Login owner) = (argument : List ℕ) × HasArgument (codes "LOGIN") argument text
    × IsBracketed argument owner
IsCommand text (Directory None) = AreFields (codes "DIRECTORY" ∷ []) text
IsCommand text (Directory (Some owner)) = (argument : List ℕ) × HasArgument (codes "DIRECTORY") argument text
    × IsBracketed argument owner
IsCommand text (Copy to from) = (argument : List ℕ) × HasArgument (codes "COPY") argument text
    × AreSpecs argument to from
IsCommand text (Rename to from) = (argument : List ℕ) × HasArgument (codes "RENAME") argument text
    × AreSpecs argument to from
IsCommand text (Delete spec) = (argument : List ℕ) × HasArgument (codes "DELETE") argument text × IsSpec argument spec
IsCommand text (TypeOut spec) = (argument : List ℕ) × HasArgument (codes "TYPE") argument text × IsSpec argument spec
IsCommand text (Protect spec protection) = (argument : List ℕ) × HasArgument (codes "PROTECT") argument text
    × IsProtected argument spec protection
IsCommand text (MakeDir owner protection) = (argument : List ℕ) × HasArgument (codes "MAKDIR") argument text
    × IsNewDirectory argument owner protection
IsCommand text (Quota owner blocks) = (gap : List ℕ) × Are is_space gap × (rest : List ℕ)
    × (text ≡ codes "QUOTA" ++ 32 ∷ (gap ++ rest)) × IsLimit rest owner blocks

-- what a text means, if it means anything
abbrev pub Says : List ℕ → Option Command → Type 0
Says text (Some command) = IsCommand text command
Says text None = (command : Command) → IsCommand text command → ⊥

-- and what a line means: a line that is too long means nothing
abbrev pub Means : Line → Option Command → Type 0
Means (Bytes text) said = Says text said
Means TooLong said = said ≡ None
