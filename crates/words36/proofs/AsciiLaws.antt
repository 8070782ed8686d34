-- ASCII texts and their words.
use Rattle.std.proofs.Common.{ℕ, ◌≡◌, ◌∙◌, ◌+◌, ◌-◌, ◌*◌, ◌%◌, ◌^◌, ◌<◌, ◌≤◌, List, [], ◌∷◌, ◌++◌, length, get_or}
use Rattle.std.proofs.Common.{take, drop, map, min, arith, refl, ap, sym, inl, inr, bit_or, lit<, slice_index}
use Rattle.std.proofs.Math.Nat.{pow-le-pow_right}
use Rattle.std.proofs.lemmas.Grind.{common_steps}
use Rattle.std.proofs.lemmas.Bool.{cases_lt}
use Rattle.std.proofs.lemmas.List.{get_or_past}
use Rattle.std.specs.List.{All}
use Rattle.std.proofs.lemmas.List.Elements.{All-tail, All-drop}
use Rattle.words36.specs.Common.{ascii_word_of, five_characters, packed, unpacked, null_padded, without_last_bit}
use Rattle.words36.proofs.Digits.{leading, leading-lt}

abbrev pub IsAscii : ℕ → Type 0
IsAscii c = c ≤ 127

pub character-lt : (text : List ℕ) (i : ℕ) → All IsAscii text → get_or text i 0 < 128
character-lt text i h = elim (cases_lt i (length text))
    [ inl inside ↦ omega (arith, h i 0 inside) | inr past ↦ omega (arith, get_or_past text i 0 past) ]

-- the number of a text's first characters
pub front-lt : (text : List ℕ) (n : ℕ) → n ≤ 5 → All IsAscii text → leading (slice_index text) 128 n < 2 ^ 35
front-lt text n few h =
    let below = leading-lt (slice_index text) 128 n (λ k q. character-lt text k h) in
    let most : 128 ^ n ≤ 128 ^ 5 = pow-le-pow_right (lit< tt) few in
    omega arith

-- one more character after the others
pub put_character : (bits c : ℕ) → bits < 2 ^ 35 → c < 128 → bit_or (bits * 128 % 2 ^ 64) c ≡ bits * 128 + c
put_character bits c b q = grind (arith, common_steps)

pub five-ascii : (a b c d e : ℕ) → a ≤ 127 → b ≤ 127 → c ≤ 127 → d ≤ 127 → e ≤ 127
    → five_characters (ascii_word_of (a ∷ b ∷ c ∷ d ∷ e ∷ [])) ≡ a ∷ b ∷ c ∷ d ∷ e ∷ []
five-ascii a b c d e p q r s t = grind arith

ascii-five : (w : ℕ) → w < 2 ^ 36 → ascii_word_of (five_characters w) ≡ without_last_bit w
ascii-five w h = grind arith

pub packed-step : (text : List ℕ) → 0 < length text
    → packed text ≡ ascii_word_of (take (min (length text) 5) text) ∷ packed (drop (min (length text) 5) text)
packed-step [] h = absurd (omega arith)
packed-step (a ∷ []) h = refl
packed-step (a ∷ b ∷ []) h = refl
packed-step (a ∷ b ∷ c ∷ []) h = refl
packed-step (a ∷ b ∷ c ∷ d ∷ []) h = refl
packed-step (a ∷ b ∷ c ∷ d ∷ e ∷ rest) h =
    let five : min (length (a ∷ b ∷ c ∷ d ∷ e ∷ rest)) 5 ≡ 5 = omega arith in
    rw five refl

pub packed-unpacked : (words : List ℕ) → All (λ w. w < 2 ^ 36) words
    → packed (unpacked words) ≡ map without_last_bit words
packed-unpacked [] h = refl
packed-unpacked (w ∷ words) h = cc
    (ascii-five w (h 0 0 (omega arith)), packed-unpacked words (All-tail (λ x. x < 2 ^ 36) w words h))

null_padded-more : (a b c d e : ℕ) (rest : List ℕ) → null_padded (a ∷ b ∷ c ∷ d ∷ e ∷ rest)
    ≡ a ∷ b ∷ c ∷ d ∷ e ∷ null_padded rest
null_padded-more a b c d e rest =
    let same : (5 - length (a ∷ b ∷ c ∷ d ∷ e ∷ rest) % 5) % 5 ≡ (5 - length rest % 5) % 5 = omega arith in
    rw same refl

pub unpacked-packed : (text : List ℕ) → All IsAscii text → unpacked (packed text) ≡ null_padded text
unpacked-packed [] h = refl
unpacked-packed (a ∷ []) h = five-ascii a 0 0 0 0 (h 0 0 (omega arith)) (omega arith) (omega arith) (omega arith)
    (omega arith)
unpacked-packed (a ∷ b ∷ []) h = five-ascii a b 0 0 0 (h 0 0 (omega arith)) (h 1 0 (omega arith)) (omega arith)
    (omega arith) (omega arith)
unpacked-packed (a ∷ b ∷ c ∷ []) h = five-ascii a b c 0 0 (h 0 0 (omega arith)) (h 1 0 (omega arith))
    (h 2 0 (omega arith)) (omega arith) (omega arith)
unpacked-packed (a ∷ b ∷ c ∷ d ∷ []) h = five-ascii a b c d 0 (h 0 0 (omega arith)) (h 1 0 (omega arith))
    (h 2 0 (omega arith)) (h 3 0 (omega arith)) (omega arith)
unpacked-packed (a ∷ b ∷ c ∷ d ∷ e ∷ rest) h =
    let here = five-ascii a b c d e (h 0 0 (omega arith)) (h 1 0 (omega arith)) (h 2 0 (omega arith))
    (h 3 0 (omega arith)) (h 4 0 (omega arith)) in
    let after = unpacked-packed rest (All-drop IsAscii 5 (a ∷ b ∷ c ∷ d ∷ e ∷ rest) h) in
    ap (λ five. five ++ unpacked (packed rest)) here ∙ ap (λ more. a ∷ b ∷ c ∷ d ∷ e ∷ more) after
    ∙ sym (null_padded-more a b c d e rest)
