-- The parts of a text that names a file.
use Rattle.std.specs.Prelude.{◌≡◌, ◌⊎◌, ℕ, ◌≤◌, List, ◌++◌, length}
use Rattle.words36.specs.Common.{sixbit}
use Rattle.spec_language.specs.Common.{is_letter, Are, IsName, IsExtension, IsPair, IsBracketed}

-- at most `most` letters and digits, and the word that they pack into
pub record AreLetters (most : ℕ) (text : List ℕ) (word : ℕ) : Type 0 where
  pub few : length text ≤ most
  pub letters : Are is_letter text
  pub value : word ≡ sixbit text

-- p,n or [p,n], of at most six digits each
abbrev pub IsOwnerName : List ℕ → ℕ → Type 0
IsOwnerName text owner = IsPair 6 text owner ⊎ IsBracketed text owner

-- NAME or NAME.EXT
pub record IsFileName (text : List ℕ) (name ext : ℕ) : Type 0 where
  pub before : List ℕ
  pub behind : List ℕ
  pub named : IsName before name
  pub extended : IsExtension behind ext
  pub spelled : text ≡ before ++ behind
