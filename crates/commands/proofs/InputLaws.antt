-- Inputs that are read piece by piece, and the place at which that stops.
use Rattle.std.proofs.Common.{◌⊎◌, ◌<◌, ◌≤◌, ℕ, Bool, List, [], ◌∷◌, ◌++◌, Some, None, subst, inl, inr, append-nil}
use Rattle.std.proofs.Common.{arith}
use Rattle.spec_language.specs.Common.{is_character, AreWords, Are}
use Rattle.spec_language.specs.declared.encoding.Encoding.{Encoding}
use Rattle.spec_language.specs.declared.encoding.Encoding.TheVariants.{Characters, Words, Octets}
use Rattle.commands.specs.Common.{BeginsNoFile}

are_front : (is : ℕ → Bool) (xs ys : List ℕ) → Are is (xs ++ ys) → Are is xs
are_front is [] ys a = tt
are_front is (x ∷ xs) ys a = (a.0, are_front is xs ys a.1)

are_back : (is : ℕ → Bool) (xs ys : List ℕ) → Are is (xs ++ ys) → Are is ys
are_back is [] ys a = a
are_back is (x ∷ xs) ys a = are_back is xs ys a.1

-- if a piece has a byte that is no character, no file begins with it
pub begins_none : (piece : List ℕ) → (Are is_character piece → ⊥) → (before : List ℕ)
    → BeginsNoFile Characters (before ++ piece)
begins_none piece none before more =
    λ a. none (are_back is_character before piece (are_front is_character (before ++ piece) more a))

pub no_file : (encoding : Encoding) (bytes : List ℕ) → BeginsNoFile encoding bytes → AreWords encoding bytes None
no_file encoding bytes none = subst (λ (l : List ℕ). AreWords encoding l None) (append-nil bytes) (none [])

-- bytes that have words are some
pub not_both : (encoding : Encoding) (bytes words : List ℕ) → AreWords encoding bytes (Some words)
    → AreWords encoding bytes None → ⊥
not_both Characters bytes words some none = none some.0
not_both Words bytes words some none = none words some.0 some.1
not_both Octets bytes words some none = none

pub not_longer : {A B : Type 0} (most n : ℕ) → A ⊎ (most < n) ⊎ B → n ≤ most → A ⊎ B
not_longer most n (inl a) few = inl a
not_longer most n (inr (inl long)) few = let wrong : ⊥ = omega arith in absurd wrong
not_longer most n (inr (inr b)) few = inr b
