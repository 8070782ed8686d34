-- How numbers, names and fields are spelled in lines, whose letters are upper case.
use Rattle.std.specs.Prelude.{◌≡◌, ℕ, ◌+◌, ◌*◌, ◌-◌, ◌^◌, ◌<◌, ◌≤◌, ◌==◌, ◌&&◌, ◌||◌, nat_le, not, Bool, true, List}
use Rattle.std.specs.Prelude.{[], ◌∷◌, ◌++◌, length, Option, Some, None}
use Rattle.words36.specs.Common.{left, join, sixbit}
use Rattle.spec_language.specs.declared.command.Spec.{Spec}

-- Characters.

abbrev pub is_space : ℕ → Bool
is_space c = c == 32

abbrev pub is_visible : ℕ → Bool
is_visible c = not (is_space c)

abbrev pub is_octal : ℕ → Bool
is_octal c = nat_le 48 c && nat_le c 55

-- a letter or a digit
abbrev pub is_letter : ℕ → Bool
is_letter c = (nat_le 65 c && nat_le c 90) || (nat_le 48 c && nat_le c 57)

abbrev pub Are : (ℕ → Bool) → List ℕ → Type 0
Are is [] = Unit {0}
Are is (c ∷ cs) = (is c ≡ true) × Are is cs

-- Fields, with one or more spaces between them and none at the ends.

pub record IsField (text : List ℕ) : Type 0 where
  pub some : 0 < length text
  pub visible : Are is_visible text

abbrev pub AreFields : List (List ℕ) → List ℕ → Type 0
AreFields [] text = text ≡ []
AreFields (f ∷ []) text = IsField f × (text ≡ f)
AreFields (f ∷ g ∷ gs) text = IsField f × (gap : List ℕ) × Are is_space gap × (rest : List ℕ)
    × (text ≡ f ++ 32 ∷ (gap ++ rest)) × AreFields (g ∷ gs) rest

-- Numbers, in octal.

abbrev pub octal_after : ℕ → List ℕ → ℕ
octal_after high [] = high
octal_after high (c ∷ cs) = octal_after (high * 8 + (c - 48)) cs

abbrev pub octal : List ℕ → ℕ
octal text = octal_after 0 text

-- a number of at most `most` digits
pub record IsNumber (most : ℕ) (text : List ℕ) (n : ℕ) : Type 0 where
  pub some : 0 < length text
  pub few : length text ≤ most
  pub digits : Are is_octal text
  pub value : n ≡ octal text

-- a number that fits in a half word
pub record IsSmall (most : ℕ) (text : List ℕ) (n : ℕ) : Type 0 where
  pub number : IsNumber most text n
  pub small : n < 2 ^ 18

-- Numbers of blocks, in decimal.

abbrev pub is_digit : ℕ → Bool
is_digit c = nat_le 48 c && nat_le c 57

abbrev pub decimal_after : ℕ → List ℕ → ℕ
decimal_after high [] = high
decimal_after high (c ∷ cs) = decimal_after (high * 10 + (c - 48)) cs

-- one to six digits, at most 262143
pub record IsBlockCount (text : List ℕ) (n : ℕ) : Type 0 where
  pub some : 0 < length text
  pub few : length text ≤ 6
  pub digits : Are is_digit text
  pub value : n ≡ decimal_after 0 text
  pub small : n < 2 ^ 18

-- p,n, of which neither is 0
pub record IsPair (most : ℕ) (text : List ℕ) (ppn : ℕ) : Type 0 where
  pub project : ℕ
  pub programmer : ℕ
  pub before : List ℕ
  pub behind : List ℕ
  pub left : IsSmall most before project
  pub right : IsSmall most behind programmer
  pub some_project : 0 < project
  pub some_programmer : 0 < programmer
  pub spelled : text ≡ before ++ 44 ∷ behind
  pub value : ppn ≡ join project programmer

-- [p,n], of at most six digits each
pub record IsBracketed (text : List ℕ) (ppn : ℕ) : Type 0 where
  pub pair : List ℕ
  pub named : IsPair 6 pair ppn
  pub spelled : text ≡ 91 ∷ (pair ++ 93 ∷ [])

-- Files: NAME or NAME.EXT, and [p,n] or nothing after it.

-- one to six letters and digits
pub record IsName (text : List ℕ) (name : ℕ) : Type 0 where
  pub some : 0 < length text
  pub few : length text ≤ 6
  pub letters : Are is_letter text
  pub value : name ≡ sixbit text

-- nothing, or a full stop and up to three letters and digits
abbrev pub IsExtension : List ℕ → ℕ → Type 0
IsExtension [] ext = ext ≡ 0
IsExtension (c ∷ cs) ext = (c ≡ 46) × (length cs ≤ 3) × Are is_letter cs × (ext ≡ left (sixbit cs))

abbrev pub IsOwner : List ℕ → Option ℕ → Type 0
IsOwner text None = text ≡ []
IsOwner text (Some ppn) = IsBracketed text ppn

pub record IsSpec (text : List ℕ) (spec : Spec) : Type 0 where
  pub name : List ℕ
  pub extension : List ℕ
  pub owner : List ℕ
  pub named : IsName name spec.name.name
  pub extended : IsExtension extension spec.name.ext
  pub owned : IsOwner owner spec.owner
  pub spelled : text ≡ name ++ (extension ++ owner)
