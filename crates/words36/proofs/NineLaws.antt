-- Blocks and their packed bytes.
use Rattle.std.proofs.Common.{ℕ, zero, suc, ◌≡◌, ◌∙◌, ◌+◌, ◌-◌, ◌*◌, ◌/◌, ◌%◌, ◌^◌, ◌<◌, ◌≤◌, List, [], ◌∷◌, ◌++◌}
use Rattle.std.proofs.Common.{All, length, length-drop, get_or, take, drop, set, arith, refl, ap, sym}
use Rattle.std.specs.List.{between}
use Rattle.std.proofs.lemmas.List.{append_assoc, append-nil, length-append, length-take-le, length-set, take_at}
use Rattle.std.proofs.lemmas.List.{take_all, take_more_set, take-append-drop, drop_more, get_or-drop}
use Rattle.std.proofs.lemmas.List.Elements.{All-nil, All-cons, All-drop}
use Rattle.std.proofs.Math.Seq.{drop-drop, drop-length}
use Rattle.byteorder.specs.Endian.{big_bytes, big_number}
use Rattle.byteorder.specs.Numbers.{big_from-append, big_from-lt, big_number-reads_back, length-bytes_high_first}
use Rattle.words36.specs.Common.{IsWord, IsBlock, nine_bytes, pairs_in, nine_words}

abbrev pub AreBytes : List ℕ → Type 0
AreBytes bytes = (j : ℕ) → get_or bytes j 0 < 256

small_after : (bytes : List ℕ) (at : ℕ) → AreBytes bytes → AreBytes (drop at bytes)
small_after bytes at small j = omega (arith, get_or-drop at bytes j 0, small (at + j))

-- nine bytes are a number of 72 bits
pub number-lt : (bytes : List ℕ) (at : ℕ) → AreBytes bytes → big_number 9 (drop at bytes) < 2 ^ 72
number-lt bytes at small = big_from-lt 0 9 (drop at bytes) (small_after bytes at small)

-- nine bytes taken out are the number at their place
pub number_there : (bytes : List ℕ) (at : ℕ) → at + 9 ≤ length bytes
    → big_number 9 (between at (at + 9) bytes) ≡ big_number 9 (drop at bytes)
number_there bytes at fits =
    let nine : at + 9 - at ≡ 9 = omega arith in
    let long : 9 ≤ length (take 9 (drop at bytes)) = omega (
      arith,
      length-take-le 9 (drop at bytes) (omega (arith, length-drop at bytes)),
    ) in
    ap (λ n. big_number 9 (take n (drop at bytes))) nine
    ∙ sym (big_from-append 9 (take 9 (drop at bytes)) (drop 9 (drop at bytes)) long)
    ∙ ap (big_number 9) (take-append-drop 9 (drop at bytes))

-- Writing

-- one more pair of words, before those that follow
pub nine_bytes-pair : (words : List ℕ) (i d e : ℕ) → 2 * i + 1 < length words
    → nine_bytes (drop (2 * i) words)
    ≡ big_bytes 9 (get_or words (2 * i) d * 2 ^ 36 + get_or words (2 * i + 1) e)
    ++ nine_bytes (drop (2 * (i + 1)) words)
nine_bytes-pair words i d e inside =
    let further : 2 * (i + 1) ≡ 2 * i + 1 + 1 = omega arith in
    let first = drop_more words (2 * i) d (omega arith) in
    let second = drop_more words (2 * i + 1) e inside in
    ap nine_bytes (first ∙ ap (λ l. get_or words (2 * i) d ∷ l) second)
    ∙ ap (λ n. big_bytes 9 (get_or words (2 * i) d * 2 ^ 36 + get_or words (2 * i + 1) e) ++ nine_bytes (drop n words))
    (sym further)

-- a pair is put after the others
pub pair_put : (bytes new words : List ℕ) (i d e : ℕ) → 9 * i + 9 ≤ length bytes → 2 * i + 1 < length words
    → new ≡ take (9 * i) bytes
    ++ (big_bytes 9 (get_or words (2 * i) d * 2 ^ 36 + get_or words (2 * i + 1) e) ++ drop (9 * i + 9) bytes)
    → nine_bytes words ≡ take (9 * i) bytes ++ nine_bytes (drop (2 * i) words)
    → nine_bytes words ≡ take (9 * (i + 1)) new ++ nine_bytes (drop (2 * (i + 1)) words)
pair_put bytes new words i d e fits inside put so_far =
    let nine = big_bytes 9 (get_or words (2 * i) d * 2 ^ 36 + get_or words (2 * i + 1) e) in
    let before = take (9 * i) bytes in
    let rest = nine_bytes (drop (2 * (i + 1)) words) in
    let whole : new ≡ (before ++ nine) ++ drop (9 * i + 9) bytes = put
    ∙ sym (append_assoc before nine (drop (9 * i + 9) bytes)) in
    let long : length (before ++ nine) ≡ 9 * (i + 1) = omega (
      arith,
      length-append before nine,
      length-take-le (9 * i) bytes (omega arith),
      length-bytes_high_first 9 (get_or words (2 * i) d * 2 ^ 36 + get_or words (2 * i + 1) e),
    ) in
    let front : take (9 * (i + 1)) new ≡ before ++ nine = ap (take (9 * (i + 1))) whole
    ∙ take_at (before ++ nine) (drop (9 * i + 9) bytes) (9 * (i + 1)) long in
    so_far
    ∙ ap (λ l. before ++ l) (nine_bytes-pair words i d e inside)
    ∙ sym (append_assoc before nine rest)
    ∙ ap (λ l. l ++ rest) (sym front)

pub all_put : (bytes words : List ℕ) (i : ℕ) → length bytes ≤ 9 * i → length words ≡ 2 * i
    → nine_bytes words ≡ take (9 * i) bytes ++ nine_bytes (drop (2 * i) words) → bytes ≡ nine_bytes words
all_put bytes words i all_bytes all_words so_far =
    let none : drop (2 * i) words ≡ [] = ap (λ n. drop n words) (sym all_words) ∙ drop-length words in
    sym (so_far ∙ ap (λ l. take (9 * i) bytes ++ nine_bytes l) none ∙ append-nil (take (9 * i) bytes)
    ∙ take_all (9 * i) bytes all_bytes)

-- Reading

-- one more pair of words is stored after the others
pub pair_stored : (block : List ℕ) (i a b : ℕ) → 2 * i + 1 < length block
    → take (2 * (i + 1)) (set (set block (2 * i) a) (2 * i + 1) b) ≡ take (2 * i) block ++ a ∷ b ∷ []
pair_stored block i a b inside =
    let once = set block (2 * i) a in
    let long : 2 * i + 1 < length once = omega (arith, length-set block (2 * i) a) in
    let further : 2 * (i + 1) ≡ 2 * i + 1 + 1 = omega arith in
    ap (λ n. take n (set once (2 * i + 1) b)) further
    ∙ take_more_set once (2 * i + 1) b long
    ∙ ap (λ l. l ++ b ∷ []) (take_more_set block (2 * i) a (omega arith))
    ∙ append_assoc (take (2 * i) block) (a ∷ []) (b ∷ [])

pairs_in-more : (left n at next : ℕ) (bytes : List ℕ) → left ≡ suc n → next ≡ at + 9
    → pairs_in left (drop at bytes)
    ≡ (big_number 9 (drop at bytes) / 2 ^ 36) ∷ (big_number 9 (drop at bytes) % 2 ^ 36) ∷ pairs_in n (drop next bytes)
unfolding pairs_in
pairs_in-more left n at next bytes is further =
    let number = big_number 9 (drop at bytes) in
    ap (λ k. pairs_in k (drop at bytes)) is
    ∙ ap (λ l. (number / 2 ^ 36) ∷ (number % 2 ^ 36) ∷ pairs_in n l) (drop-drop 9 at bytes)
    ∙ ap (λ k. (number / 2 ^ 36) ∷ (number % 2 ^ 36) ∷ pairs_in n (drop k bytes)) (sym further)

-- a pair is read after the others
pub pair_read : (bytes block new : List ℕ) (i a b : ℕ) → i < 64 → 2 * i + 1 < length block
    → new ≡ set (set block (2 * i) a) (2 * i + 1) b
    → a ≡ big_number 9 (drop (9 * i) bytes) / 2 ^ 36 → b ≡ big_number 9 (drop (9 * i) bytes) % 2 ^ 36
    → nine_words bytes ≡ take (2 * i) block ++ pairs_in (64 - i) (drop (9 * i) bytes)
    → nine_words bytes ≡ take (2 * (i + 1)) new ++ pairs_in (64 - (i + 1)) (drop (9 * (i + 1)) bytes)
pair_read bytes block new i a b less inside stored first second so_far =
    let rest = pairs_in (64 - (i + 1)) (drop (9 * (i + 1)) bytes) in
    so_far
    ∙ ap (λ l. take (2 * i) block ++ l) (pairs_in-more (64 - i) (64 - (i + 1)) (9 * i) (9 * (i + 1)) bytes
    (omega arith) (omega arith))
    ∙ ap (λ x. take (2 * i) block ++ x ∷ (big_number 9 (drop (9 * i) bytes) % 2 ^ 36) ∷ rest) (sym first)
    ∙ ap (λ x. take (2 * i) block ++ a ∷ x ∷ rest) (sym second)
    ∙ sym (append_assoc (take (2 * i) block) (a ∷ b ∷ []) rest)
    ∙ ap (λ l. l ++ rest) (sym (ap (take (2 * (i + 1))) stored ∙ pair_stored block i a b inside))

pub all_read : (bytes block : List ℕ) (i : ℕ) → i ≡ 64 → length block ≡ 128
    → nine_words bytes ≡ take (2 * i) block ++ pairs_in (64 - i) (drop (9 * i) bytes) → block ≡ nine_words bytes
unfolding pairs_in
all_read bytes block i ended long so_far =
    let none : pairs_in (64 - i) (drop (9 * i) bytes) ≡ [] = rw ended refl in
    sym (so_far ∙ ap (λ l. take (2 * i) block ++ l) none ∙ append-nil (take (2 * i) block)
    ∙ take_all (2 * i) block (omega arith))

-- The two are each other's inverses.

split : (n : ℕ) → n / 2 ^ 36 * 2 ^ 36 + n % 2 ^ 36 ≡ n
split n = omega arith

upper : (a b : ℕ) → b < 2 ^ 36 → (a * 2 ^ 36 + b) / 2 ^ 36 ≡ a
upper a b h = omega (arith, h)

lower : (a b : ℕ) → b < 2 ^ 36 → (a * 2 ^ 36 + b) % 2 ^ 36 ≡ b
lower a b h = omega (arith, h)

nine_digits : (a b c d e f g h i : ℕ) (rest : List ℕ) → a < 256 → b < 256 → c < 256 → d < 256 → e < 256 → f < 256
    → g < 256 → h < 256 → i < 256
    → big_bytes 9 (big_number 9 (a ∷ b ∷ c ∷ d ∷ e ∷ f ∷ g ∷ h ∷ i ∷ rest))
    ≡ a ∷ b ∷ c ∷ d ∷ e ∷ f ∷ g ∷ h ∷ i ∷ []
nine_digits a b c d e f g h i rest a8 b8 c8 d8 e8 f8 g8 h8 i8 = grind arith

pub pairs_of_bytes : (n : ℕ) (words : List ℕ) → length words ≡ 2 * n → All IsWord words
    → pairs_in n (nine_bytes words) ≡ words
unfolding pairs_in
pairs_of_bytes zero [] long each = refl
pairs_of_bytes zero (a ∷ words) long each = absurd (omega (arith, long))
pairs_of_bytes (suc n) [] long each = absurd (omega (arith, long))
pairs_of_bytes (suc n) (a ∷ []) long each = absurd (omega (arith, long))
pairs_of_bytes (suc n) (a ∷ b ∷ rest) long each =
    let word_a : a < 2 ^ 36 = each 0 0 (omega arith) in
    let word_b : b < 2 ^ 36 = each 1 0 (omega arith) in
    let number = big_number-reads_back 9 (a * 2 ^ 36 + b) (nine_bytes rest) (omega (arith, word_a, word_b)) in
    let others = pairs_of_bytes n rest (omega (arith, long)) (All-drop IsWord 2 (a ∷ b ∷ rest) each) in
    ap (λ x. (x / 2 ^ 36) ∷ (x % 2 ^ 36) ∷ pairs_in n (nine_bytes rest)) number
    ∙ ap (λ x. x ∷ ((a * 2 ^ 36 + b) % 2 ^ 36) ∷ pairs_in n (nine_bytes rest)) (upper a b word_b)
    ∙ ap (λ x. a ∷ x ∷ pairs_in n (nine_bytes rest)) (lower a b word_b)
    ∙ ap (λ l. a ∷ b ∷ l) others

pub bytes_of_pairs : (n : ℕ) (bytes : List ℕ) → length bytes ≡ 9 * n → AreBytes bytes
    → nine_bytes (pairs_in n bytes) ≡ bytes
unfolding pairs_in
bytes_of_pairs zero [] long small = refl
bytes_of_pairs zero (a ∷ bytes) long small = absurd (omega (arith, long))
bytes_of_pairs (suc n) (a ∷ b ∷ c ∷ d ∷ e ∷ f ∷ g ∷ h ∷ i ∷ rest) long small =
    let all = a ∷ b ∷ c ∷ d ∷ e ∷ f ∷ g ∷ h ∷ i ∷ rest in
    let others = bytes_of_pairs n rest (omega (arith, long)) (small_after all 9 small) in
    ap (λ x. big_bytes 9 x ++ nine_bytes (pairs_in n rest)) (split (big_number 9 all))
    ∙ ap (λ l. l ++ nine_bytes (pairs_in n rest)) (nine_digits a b c d e f g h i rest (small 0) (small 1) (small 2)
    (small 3) (small 4) (small 5) (small 6) (small 7) (small 8))
    ∙ ap (λ l. a ∷ b ∷ c ∷ d ∷ e ∷ f ∷ g ∷ h ∷ i ∷ l) others
bytes_of_pairs (suc n) other long small = absurd (omega (arith, long))

-- What nine bytes hold are words.

length-pairs_in : (n : ℕ) (bytes : List ℕ) → length (pairs_in n bytes) ≡ 2 * n
unfolding pairs_in
length-pairs_in zero bytes = refl
length-pairs_in (suc n) bytes = omega (arith, length-pairs_in n (drop 9 bytes))

pairs_are_words : (n : ℕ) (bytes : List ℕ) → AreBytes bytes → All IsWord (pairs_in n bytes)
unfolding pairs_in
pairs_are_words zero bytes small = All-nil IsWord
pairs_are_words (suc n) bytes small =
    let low = number-lt bytes 0 small in
    let number = big_number 9 bytes in
    let high_word : IsWord (number / 2 ^ 36) = omega (arith, low) in
    let low_word : IsWord (number % 2 ^ 36) = omega arith in
    let others = pairs_in n (drop 9 bytes) in
    All-cons IsWord (number / 2 ^ 36) ((number % 2 ^ 36) ∷ others) high_word
    (All-cons IsWord (number % 2 ^ 36) others low_word (pairs_are_words n (drop 9 bytes) (small_after bytes 9 small)))

pub length-nine_words : (bytes : List ℕ) → length (nine_words bytes) ≡ 128
length-nine_words bytes = length-pairs_in 64 bytes

pub block_read : (bytes : List ℕ) → AreBytes bytes → IsBlock (nine_words bytes)
block_read bytes small = record { long = length-nine_words bytes; each = pairs_are_words 64 bytes small }
