-- SIXBIT texts and their words.
use Rattle.std.proofs.Common.{ℕ, ◌≡◌, ◌∙◌, ◌+◌, ◌-◌, ◌*◌, ◌%◌, ◌^◌, ◌<◌, ◌≤◌, List, [], ◌∷◌, length, get_or, arith}
use Rattle.std.proofs.Common.{refl, inl, inr, bit_or, lit<}
use Rattle.std.proofs.Math.Nat.{pow-le-pow_right}
use Rattle.std.proofs.lemmas.Grind.{common_steps}
use Rattle.std.proofs.lemmas.Bool.{cases_lt}
use Rattle.std.proofs.lemmas.List.{get_or_past, get_or_default}
use Rattle.words36.specs.Common.{IsSixbitCharacter, IsSixbitText, code, sixbit, characters, six_characters}
use Rattle.words36.proofs.Digits.{leading, leading-lt}

-- the first n characters of a text, as far as it has them, are SIXBIT
abbrev pub ArePassed : List ℕ → ℕ → Type 0
ArePassed text n = (k d : ℕ) → k < n → k < length text → IsSixbitCharacter (get_or text k d)

pub ArePassed-more : (text : List ℕ) (n : ℕ) → ArePassed text n
    → (n < length text → IsSixbitCharacter (get_or text n 0)) → ArePassed text (n + 1)
ArePassed-more text n before here k d q inside =
    elim (cases_lt k n) [
      | inl earlier ↦ before k d earlier inside
      | inr later ↦ let e : k ≡ n = omega arith in grind (arith, get_or_default)
    ]

code-past : (text : List ℕ) (i : ℕ) → length text ≤ i → code text i ≡ 0
code-past text i past = omega (arith, get_or_past text i 32 past)

code-lt : (text : List ℕ) (i : ℕ) → (i < length text → IsSixbitCharacter (get_or text i 32)) → code text i < 64
code-lt text i h = elim (cases_lt i (length text))
    [ inl inside ↦ omega (arith, h inside) | inr past ↦ omega (arith, code-past text i past) ]

-- the number of a text's first characters
pub front-lt : (text : List ℕ) (n : ℕ) → n ≤ 6 → ArePassed text n → leading (code text) 64 n < 2 ^ 36
front-lt text n few h =
    let below = leading-lt (code text) 64 n (λ k q. code-lt text k (λ inside. h k 32 q inside)) in
    let most : 64 ^ n ≤ 64 ^ 6 = pow-le-pow_right (lit< tt) few in
    omega arith

-- one more code after the others
pub put_code : (bits code : ℕ) → bits < 2 ^ 36 → code < 64 → bit_or (bits * 64 % 2 ^ 64) code ≡ bits * 64 + code
put_code bits code b c = grind (arith, common_steps)

digits_6 : (a b c d e f : ℕ) → a < 64 → b < 64 → c < 64 → d < 64 → e < 64 → f < 64
    → characters (a * 64 ^ 5 + b * 64 ^ 4 + c * 64 ^ 3 + d * 64 ^ 2 + e * 64 + f)
    ≡ (a + 32) ∷ (b + 32) ∷ (c + 32) ∷ (d + 32) ∷ (e + 32) ∷ (f + 32) ∷ []
digits_6 a b c d e f a6 b6 c6 d6 e6 f6 = grind arith

coded : (text : List ℕ) → IsSixbitText text → characters (sixbit text) ≡ (code text 0 + 32) ∷ (code text 1 + 32)
    ∷ (code text 2 + 32) ∷ (code text 3 + 32) ∷ (code text 4 + 32) ∷ (code text 5 + 32) ∷ []
coded text h =
    let low : (i : ℕ) → code text i < 64 = λ i. code-lt text i (h.1 i 32) in
    digits_6 (code text 0) (code text 1) (code text 2) (code text 3) (code text 4) (code text 5) (low 0)
    (low 1) (low 2) (low 3) (low 4) (low 5)

whole : (c : ℕ) → IsSixbitCharacter c → c - 32 + 32 ≡ c
whole c h = omega arith

padded : (text : List ℕ) → IsSixbitText text
    → (code text 0 + 32) ∷ (code text 1 + 32) ∷ (code text 2 + 32) ∷ (code text 3 + 32) ∷ (code text 4 + 32)
    ∷ (code text 5 + 32) ∷ [] ≡ six_characters text
padded [] h = refl
padded (a ∷ []) h = rw (whole a (h.1 0 0 (omega arith)))
padded (a ∷ b ∷ []) h = rw (whole a (h.1 0 0 (omega arith)), whole b (h.1 1 0 (omega arith)))
padded (a ∷ b ∷ c ∷ []) h = rw (
  whole a (h.1 0 0 (omega arith)),
  whole b (h.1 1 0 (omega arith)),
  whole c (h.1 2 0 (omega arith)),
)
padded (a ∷ b ∷ c ∷ d ∷ []) h =
    rw (
      whole a (h.1 0 0 (omega arith)),
      whole b (h.1 1 0 (omega arith)),
      whole c (h.1 2 0 (omega arith)),
      whole d (h.1 3 0 (omega arith)),
    )
padded (a ∷ b ∷ c ∷ d ∷ e ∷ []) h =
    rw (
      whole a (h.1 0 0 (omega arith)),
      whole b (h.1 1 0 (omega arith)),
      whole c (h.1 2 0 (omega arith)),
      whole d (h.1 3 0 (omega arith)),
      whole e (h.1 4 0 (omega arith)),
    )
padded (a ∷ b ∷ c ∷ d ∷ e ∷ f ∷ []) h =
    rw (
      whole a (h.1 0 0 (omega arith)),
      whole b (h.1 1 0 (omega arith)),
      whole c (h.1 2 0 (omega arith)),
      whole d (h.1 3 0 (omega arith)),
      whole e (h.1 4 0 (omega arith)),
      whole f (h.1 5 0 (omega arith)),
    )
padded (a ∷ b ∷ c ∷ d ∷ e ∷ f ∷ g ∷ rest) h = absurd (omega (arith, h.0))

pub characters-sixbit : (text : List ℕ) → IsSixbitText text → characters (sixbit text) ≡ six_characters text
characters-sixbit text h = coded text h ∙ padded text h
