-- Blocks and their bytes.
use Rattle.std.proofs.Common.{ℕ, zero, suc, add-one, ◌≡◌, ◌∙◌, ◌+◌, ◌*◌, ◌^◌, ◌<◌, ◌≤◌, List, [], ◌∷◌, ◌++◌, length}
use Rattle.std.proofs.Common.{get_or, take, drop, arith, refl, ap, sym, w64, add-zero}
use Rattle.std.specs.Int.{from_be_bytes}
use Rattle.std.specs.List.{between}
use Rattle.std.proofs.lemmas.Grind.{common_steps}
use Rattle.std.proofs.lemmas.List.{append_assoc, append-nil, length-append, length-take-le, take_at, take_all}
use Rattle.std.proofs.lemmas.List.{take_more, drop_more, ext_get_or}
use Rattle.std.proofs.Math.Seq.{take-add}
use Rattle.std.proofs.lemmas.List.Concat.{flat_map-append, get_or-flat_map}
use Rattle.words36.specs.Common.{IsWord, IsBlock, block_bytes, word_bytes, number_at}

group_at : (bytes group : List ℕ) (at i : ℕ) → i < 8 → group ≡ between at (at + 8) bytes
    → get_or group i 0 ≡ get_or bytes (at + i) 0
group_at bytes group at i h e = grind (arith, common_steps)

-- eight bytes that are copied out are read as the number at their place
pub number_at-group : (bytes group : List ℕ) (place : ℕ) → group ≡ between (8 * place) (8 * place + 8) bytes
    → from_be_bytes w64 group ≡ number_at bytes place
unfolding number_at
number_at-group bytes group place e =
    let at = λ (i : ℕ) (h : i < 8). group_at bytes group (8 * place) i h e in
    let first : get_or group 0 0 ≡ get_or bytes (8 * place) 0 = rw (← add-zero (8 * place)) (at 0 (omega arith)) in
    omega (
      arith,
      at 1 (omega arith),
      at 2 (omega arith),
      at 3 (omega arith),
      at 4 (omega arith),
      at 5 (omega arith),
      at 6 (omega arith),
      at 7 (omega arith),
    )

block_bytes-push : (words : List ℕ) (w : ℕ) → block_bytes (words ++ w ∷ []) ≡ block_bytes words ++ word_bytes w
block_bytes-push words w = flat_map-append word_bytes words (w ∷ [])
    ∙ ap (λ l. block_bytes words ++ l) (append-nil (word_bytes w))

-- one more word is put after the others
pub put-more : (bytes new words : List ℕ) (i d : ℕ) → 8 * i + 8 ≤ length bytes → i < length words
    → new ≡ take (8 * i) bytes ++ (word_bytes (get_or words i d) ++ drop (8 * i + 8) bytes)
    → take (8 * i) bytes ≡ block_bytes (take i words)
    → take (8 * (i + 1)) new ≡ block_bytes (take (i + 1) words)
put-more bytes new words i d fits lt put so_far =
    let w = get_or words i d in
    let whole : new ≡ (take (8 * i) bytes ++ word_bytes w) ++ drop (8 * i + 8) bytes = put
    ∙ sym (append_assoc (take (8 * i) bytes) (word_bytes w) (drop (8 * i + 8) bytes)) in
    let long : length (take (8 * i) bytes ++ word_bytes w) ≡ 8 * (i + 1) =
    omega (arith, length-append (take (8 * i) bytes) (word_bytes w), length-take-le (8 * i) bytes (omega arith)) in
    ap (take (8 * (i + 1))) whole
    ∙ take_at (take (8 * i) bytes ++ word_bytes w) (drop (8 * i + 8) bytes) (8 * (i + 1)) long
    ∙ ap (λ l. l ++ word_bytes w) so_far
    ∙ sym (block_bytes-push (take i words) w)
    ∙ ap block_bytes (sym (take_more words i d lt))

pub put-all : (bytes words : List ℕ) (i : ℕ) → length bytes ≤ 8 * i → length words ≤ i
    → take (8 * i) bytes ≡ block_bytes (take i words) → bytes ≡ block_bytes words
put-all bytes words i all_bytes all_words so_far = sym (take_all (8 * i) bytes all_bytes) ∙ so_far
    ∙ ap block_bytes (take_all i words all_words)

-- the eight bytes from a place
abbrev eight : List ℕ → ℕ → List ℕ
eight bytes at =
    get_or bytes at 0 ∷ get_or bytes (at + 1) 0 ∷ get_or bytes (at + 2) 0 ∷ get_or bytes (at + 3) 0
    ∷ get_or bytes (at + 4) 0 ∷ get_or bytes (at + 5) 0 ∷ get_or bytes (at + 6) 0 ∷ get_or bytes (at + 7) 0 ∷ []

one_more : (bytes : List ℕ) (at next : ℕ) → next ≡ at + 1 → at < length bytes
    → drop at bytes ≡ get_or bytes at 0 ∷ drop next bytes
one_more bytes at next e h = rw e (drop_more bytes at 0 h)

take-eight : (bytes : List ℕ) (at : ℕ) → at + 8 ≤ length bytes → take 8 (drop at bytes) ≡ eight bytes at
take-eight bytes at h =
    rw (
      one_more bytes at (at + 1) (omega arith) (omega arith),
      one_more bytes (at + 1) (at + 2) (omega arith) (omega arith),
      one_more bytes (at + 2) (at + 3) (omega arith) (omega arith),
      one_more bytes (at + 3) (at + 4) (omega arith) (omega arith),
      one_more bytes (at + 4) (at + 5) (omega arith) (omega arith),
      one_more bytes (at + 5) (at + 6) (omega arith) (omega arith),
      one_more bytes (at + 6) (at + 7) (omega arith) (omega arith),
      one_more bytes (at + 7) (at + 8) (omega arith) (omega arith),
    )

digits_8 : (a b c d e f g h : ℕ) → a < 256 → b < 256 → c < 256 → d < 256 → e < 256 → f < 256 → g < 256 → h < 256
    → word_bytes (a * 256 ^ 7 + b * 256 ^ 6 + c * 256 ^ 5 + d * 256 ^ 4 + e * 256 ^ 3 + f * 256 ^ 2 + g * 256 + h)
    ≡ a ∷ b ∷ c ∷ d ∷ e ∷ f ∷ g ∷ h ∷ []
digits_8 a b c d e f g h a8 b8 c8 d8 e8 f8 g8 h8 = grind arith

word_bytes-number_at : (bytes : List ℕ) (i : ℕ) → ((j : ℕ) → get_or bytes j 0 < 256)
    → word_bytes (number_at bytes i) ≡ eight bytes (8 * i)
unfolding number_at
word_bytes-number_at bytes i h = digits_8 _ _ _ _ _ _ _ _ (h (8 * i)) (h (8 * i + 1)) (h (8 * i + 2))
    (h (8 * i + 3)) (h (8 * i + 4)) (h (8 * i + 5)) (h (8 * i + 6)) (h (8 * i + 7))

pub length-block_bytes : (words : List ℕ) → length (block_bytes words) ≡ 8 * length words
length-block_bytes [] = refl
length-block_bytes (w ∷ words) = omega (arith, length-block_bytes words)

byte_at : (words : List ℕ) (i j : ℕ) → i < length words → j < 8 → get_or (block_bytes words) (8 * i + j) 0
    ≡ get_or (word_bytes (get_or words i 0)) j 0
byte_at words i j h k =
    let before : length (block_bytes (take i words))
    ≡ 8 * i = omega (arith, length-block_bytes (take i words), length-take-le i words (omega arith)) in
    let at = get_or-flat_map word_bytes words i j 0 0 h k in
    rw before at at

-- the word at each place of a block's bytes
pub number_at-block_bytes : (words : List ℕ) (i : ℕ) → i < length words → IsWord (get_or words i 0)
    → number_at (block_bytes words) i ≡ get_or words i 0
unfolding number_at
number_at-block_bytes words i h w =
    let at = λ (j : ℕ) (k : j < 8). byte_at words i j h k in
    let first = rw add-zero at (at 0 (omega arith)) in
    omega (
      arith,
      first,
      at 1 (omega arith),
      at 2 (omega arith),
      at 3 (omega arith),
      at 4 (omega arith),
      at 5 (omega arith),
      at 6 (omega arith),
      at 7 (omega arith),
    )

-- the first n words of a block are those of the bytes
pub record AreRead (bytes words : List ℕ) (n : ℕ) : Type 0 where
  pub value : (k : ℕ) → k < n → get_or words k 0 ≡ number_at bytes k
  pub fits : (k : ℕ) → k < n → IsWord (number_at bytes k)

read_more : (bytes words : List ℕ) (n : ℕ) → ((j : ℕ) → get_or bytes j 0 < 256) → 8 * n + 8 ≤ length bytes
    → n < length words → get_or words n 0 ≡ number_at bytes n
    → block_bytes (take n words) ≡ take (8 * n) bytes → block_bytes (take (n + 1) words) ≡ take (8 * (n + 1)) bytes
read_more bytes words n small long inside word before =
    let further : 8 * (n + 1) ≡ 8 * n + 8 = omega arith in
    let bytes_of : word_bytes (get_or words n 0) ≡ take 8 (drop (8 * n) bytes) = ap word_bytes word
    ∙ word_bytes-number_at bytes n small ∙ sym (take-eight bytes (8 * n) long) in
    ap block_bytes (take_more words n 0 inside)
    ∙ block_bytes-push (take n words) (get_or words n 0)
    ∙ ap (λ l. l ++ word_bytes (get_or words n 0)) before
    ∙ ap (λ l. take (8 * n) bytes ++ l) bytes_of
    ∙ sym (take-add (8 * n) 8 bytes)
    ∙ ap (λ m. take m bytes) (sym further)

read_all : (bytes words : List ℕ) (n : ℕ) → ((j : ℕ) → get_or bytes j 0 < 256) → 8 * n ≤ length bytes
    → n ≤ length words → AreRead bytes words n
    → block_bytes (take n words) ≡ take (8 * n) bytes
read_all bytes words zero small lb lw h = refl
read_all bytes words (suc n) small lb lw h =
    let before = read_all bytes words n small (omega arith) (omega arith)
    (record { value = λ k q. h.value k (omega arith); fits = λ k q. h.fits k (omega arith) }) in
    let after = read_more bytes words n small (omega arith) (omega arith) (h.value n (omega arith)) before in
    rw add-one at after

-- a block whose words are those of the bytes has the bytes
pub block_bytes-read : (bytes words : List ℕ) (n : ℕ) → ((j : ℕ) → get_or bytes j 0 < 256) → length bytes ≡ 8 * n
    → length words ≡ n → AreRead bytes words n
    → block_bytes words ≡ bytes
block_bytes-read bytes words n small long_bytes long_words h =
    ap block_bytes (sym (take_all n words (omega arith))) ∙ read_all bytes words n small (omega arith) (omega arith) h
    ∙ take_all (8 * n) bytes (omega arith)

-- no other block has the bytes
pub read_alone : (bytes words other : List ℕ) → length words ≡ 128 → AreRead bytes words 128 → IsBlock other
    → block_bytes other ≡ bytes → words ≡ other
read_alone bytes words other long h block same =
    ext_get_or 0 words other (long ∙ sym block.long)
    (λ i q.
    let inside : i < length other = omega (arith, long, block.long) in
    h.value i (omega arith) ∙ ap (λ l. number_at l i) (sym same)
    ∙ number_at-block_bytes other i inside (block.each i 0 inside))

-- if a place's bytes are no word, no block has the bytes
pub not_block : (bytes words : List ℕ) (i : ℕ) → i < 128 → 2 ^ 36 ≤ number_at bytes i → IsBlock words
    → block_bytes words ≡ bytes → ⊥
not_block bytes words i inside bad block same =
    let within : i < length words = omega (arith, block.long) in
    let word = block.each i 0 within in
    let value : number_at bytes i ≡ get_or words i 0 = ap (λ l. number_at l i) (sym same)
    ∙ number_at-block_bytes words i within word in
    omega arith
