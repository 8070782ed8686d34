-- Names of files, in the case in which they are given.
use Rattle.std.proofs.Common.{◌≡◌, ℕ, ◌+◌, ◌<◌, ◌≤◌, nat_lt, if◌then◌else◌, Bool, true, false, List, [], ◌∷◌, length}
use Rattle.std.proofs.Common.{map, Option, Some, None, IfNone, inl, inr, refl, ◌∙◌, ap, arith}
use Rattle.std.proofs.lemmas.List.{length-map, length-append}
use Rattle.std.proofs.lemmas.Bool.Decides.{nat_tests}
use Rattle.spec_language.specs.Common.{Line, Bytes, TooLong, fitting, line_of, upper, IsExtension, IsPair}
use Rattle.spec_language.specs.Common.{IsBracketed}
use Rattle.commands.specs.Common.{IsFileName, IsOwnerName}

bytes_in : Line → List ℕ → List ℕ
bytes_in (Bytes text) other = text
bytes_in TooLong other = other

first_bytes : List Line → List ℕ
first_bytes [] = []
first_bytes (l ∷ ls) = bytes_in l []

is_long : List Line → Bool
is_long [] = false
is_long (Bytes text ∷ ls) = false
is_long (TooLong ∷ ls) = true

-- the bytes of a line, if there is one
pub name_bytes : (text t : List ℕ) → Bytes t ∷ [] ≡ fitting text text → t ≡ map upper text
unfolding first_bytes bytes_in is_long
name_bytes text t e = by (nat_lt 255 (length text)) refl e
  where
    whole : (l : List ℕ) → Bytes t ∷ [] ≡ line_of l → t ≡ map upper l
    whole [] p = absurd (let q = ap (λ (x : List Line). length x) p in omega (arith, q))
    whole (b ∷ bs) p = ap first_bytes p

    by : (long : Bool) → nat_lt 255 (length text) ≡ long → Bytes t ∷ [] ≡ fitting text text → t ≡ map upper text
    by true is p = absurd (let q = ap is_long (p ∙ ap (λ b. if b then TooLong ∷ [] else line_of text) is) in cc)
    by false is p = whole text (p ∙ ap (λ b. if b then TooLong ∷ [] else line_of text) is)

short_name : (text : List ℕ) (name ext : ℕ) → IsFileName text name ext → (0 < length text) × (length text ≤ 10)
short_name text name ext is =
    let long : length text ≡ length is.before + length is.behind = ap length is.spelled
    ∙ length-append is.before is.behind in
    let few = is.named.few in
    let some = is.named.some in
    let short = short_extension is.behind ext is.extended in (omega arith, omega arith)
  where
    short_extension : (text : List ℕ) (ext : ℕ) → IsExtension text ext → length text ≤ 4
    short_extension [] ext is = omega arith
    short_extension (c ∷ cs) ext is = let few = is.1 in omega arith

-- a text of 1 to 255 bytes is a line of bytes
fits : (text : List ℕ) → 0 < length text → length text ≤ 255 → (t : List ℕ) × (fitting text text ≡ Bytes t ∷ [])
fits text some few =
    let short : nat_lt 255 (length text) ≡ false = grind (arith, nat_tests) in
    let q = whole text some in
    (q.0, ap (λ b. if b then TooLong ∷ [] else line_of text) short ∙ q.1)
  where
    whole : (l : List ℕ) → 0 < length l → (t : List ℕ) × (line_of l ≡ Bytes t ∷ [])
    whole [] h = absurd (omega arith)
    whole (b ∷ bs) h = (map upper (b ∷ bs), refl)

named_fits : (text : List ℕ) (name ext : ℕ) → IsFileName (map upper text) name ext
    → (t : List ℕ) × (fitting text text ≡ Bytes t ∷ [])
named_fits text name ext is =
    let short = short_name (map upper text) name ext is in
    let long : length (map upper text) ≡ length text = length-map text upper in
    fits text (omega arith) (omega arith)

pub no_long_name : (text : List ℕ) → TooLong ∷ [] ≡ fitting text text → (name ext : ℕ)
    → IsFileName (map upper text) name ext → ⊥
unfolding is_long
no_long_name text e name ext is =
    let q = named_fits text name ext is in
    let wrong : true ≡ false = ap is_long (e ∙ q.1) in cc

-- no owner, with brackets or without
pub no_owner : (found : Option ℕ) (text : List ℕ) → ((owner : ℕ) → IsPair 6 text owner → ⊥)
    → IfNone found ((owner : ℕ) → IsBracketed text owner → ⊥) → IfNone found ((owner : ℕ) → IsOwnerName text owner → ⊥)
no_owner (Some p) text plain bracketed = tt
no_owner None text plain bracketed = λ owner named. elim named [
  | inl p ↦ plain owner p
  | inr b ↦ bracketed owner b
]
