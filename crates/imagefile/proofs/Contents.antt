-- What a block's bytes hold: its words, or damage, exactly by the format.
use Rattle.std.proofs.Common.{◌≡◌, ◌∙◌, ◌⊎◌, ◌*◌, ◌/◌, ◌^◌, ◌<◌, ◌≤◌, ◌-◌, ◌==◌, ◌↔◌, ℕ, zero, suc, true, false, List}
use Rattle.std.proofs.Common.{[], ◌∷◌, All, length, get_or, Some, None, inl, inr, ⊎_elim, refl, sym, ap, arith}
use Rattle.std.proofs.Common.{length-append}
use Rattle.std.proofs.lemmas.Bool.{cases_Bool, and_parts, and_from, eqb-true, eq-eqb, eqb-false, cond-true}
use Rattle.std.proofs.lemmas.Bool.{cond-false, cases_lt}
use Rattle.std.proofs.lemmas.List.{get_or_append_left, get_or-append_right, get_or_past, ext_get_or}
use Rattle.words36.specs.Common.{IsWord, IsBlock, IsFirstBadWord, block_bytes, number_at, nine_bytes, nine_words}
use Rattle.words36.proofs.BlockLaws.{block_bytes-read, number_at-block_bytes}
use Rattle.words36.proofs.NineLaws.{pairs_of_bytes, bytes_of_pairs, block_read}
use Rattle.words36.specs.declared.error.WordError.{WordError}
use Rattle.words36.specs.declared.error.WordError.TheVariants.{BadWord}
use Rattle.imagefile.specs.Common.{Bytes, window, are_words, first_words, wide_content, block_content, image_contents}
use Rattle.imagefile.specs.declared.form.Form.TheVariants.{Wide, Packed}

-- Top bits

top_zero : (w : ℕ) → (w / 2 ^ 36 == 0) ≡ true → IsWord w
top_zero w h = let e = eqb-true _ _ h in omega (arith, e)

zero_top : (w : ℕ) → IsWord w → (w / 2 ^ 36 == 0) ≡ true
zero_top w h = eq-eqb _ _ (omega (arith, h))

top_set : (w : ℕ) → (w / 2 ^ 36 == 0) ≡ false → 2 ^ 36 ≤ w
top_set w h = ⊎_elim (λ low. absurd (eqb-false _ _ h (omega (arith, low)))) (λ high. high) (cases_lt w (2 ^ 36))

pub words_below : (bytes : List ℕ) (n : ℕ) → are_words bytes n ≡ true → (k : ℕ) → k < n → IsWord (number_at bytes k)
unfolding are_words
words_below bytes zero are k less = absurd (none_below k less)
  where
    none_below : (k : ℕ) → k < 0 → ⊥
    none_below k less = omega arith
words_below bytes (suc n) are k less =
    let parts = and_parts (are_words bytes n) (number_at bytes n / 2 ^ 36 == 0) are in
    ⊎_elim (λ before. words_below bytes n parts.0 k before) (λ last.
    let here : k ≡ n = omega arith in
    rw here (top_zero (number_at bytes n) parts.1)) (cases_lt k n)

pub words_are : (bytes : List ℕ) (n : ℕ) → ((k : ℕ) → k < n → IsWord (number_at bytes k)) → are_words bytes n ≡ true
unfolding are_words
words_are bytes zero each = refl
words_are bytes (suc n) each =
    and_from (are_words bytes n) (number_at bytes n / 2 ^ 36 == 0) (words_are bytes n (λ k less. each k (omega arith)))
    (zero_top (number_at bytes n) (each n (omega arith)))

-- the first place whose word is bad, if there is one
pub first_bad : (bytes : List ℕ) (count n : ℕ) → n ≤ count
    → (are_words bytes n ≡ true) ⊎ ((place : ℕ) × IsFirstBadWord count bytes place)
unfolding are_words
first_bad bytes count zero few = inl refl
first_bad bytes count (suc n) few =
    ⊎_elim
    (λ good. ⊎_elim (λ zero_bits. inl (and_from (are_words bytes n) (number_at bytes n / 2 ^ 36 == 0) good zero_bits))
    (λ bits. inr (
      n,
      record {
        inside = omega arith;
        bad = top_set (number_at bytes n) bits;
        first = words_below bytes n good;
      },
    )) (cases_Bool (number_at bytes n / 2 ^ 36 == 0)))
    (λ bad. inr bad) (first_bad bytes count n (omega arith))

-- Words

pub length-first_words : (bytes : List ℕ) (n : ℕ) → length (first_words bytes n) ≡ n
unfolding first_words
length-first_words bytes zero = refl
length-first_words bytes (suc n) = omega (
  arith,
  length-append (first_words bytes n) (number_at bytes n ∷ []),
  length-first_words bytes n,
)

first_words-at : (bytes : List ℕ) (n k d : ℕ) → k < n → get_or (first_words bytes n) k d ≡ number_at bytes k
unfolding first_words
first_words-at bytes zero k d less = absurd (none_below k less)
  where
    none_below : (k : ℕ) → k < 0 → ⊥
    none_below k less = omega arith
first_words-at bytes (suc n) k d less =
    ⊎_elim
    (λ before. get_or_append_left (first_words bytes n) (number_at bytes n ∷ []) d k
    (omega (arith, length-first_words bytes n)) ∙ first_words-at bytes n k d before)
    (λ last.
    let here : k ≡ n = omega arith in
    let back : k - n ≡ 0 = omega arith in
    get_or-append_right (first_words bytes n) (number_at bytes n ∷ []) n k d (length-first_words bytes n) last
    ∙ ap (λ j. get_or (number_at bytes n ∷ []) j d) back ∙ ap (number_at bytes) (sym here)) (cases_lt k n)

-- Contents

pub content_good : (bytes : List ℕ) → are_words bytes 128 ≡ true → wide_content bytes ≡ Some (first_words bytes 128)
content_good bytes good = cond-true (are_words bytes 128) (Some (first_words bytes 128)) None good

content_bad : (bytes : List ℕ) → are_words bytes 128 ≡ false → wide_content bytes ≡ None
content_bad bytes bad = cond-false (are_words bytes 128) (Some (first_words bytes 128)) None bad

-- a block's bytes hold the block
pub content_block : (words : List ℕ) → IsBlock words → wide_content (block_bytes words) ≡ Some words
content_block words block = content_good (block_bytes words) (words_are (block_bytes words) 128 each) ∙ ap Some same
  where
    value : (k : ℕ) → k < 128 → number_at (block_bytes words) k ≡ get_or words k 0
    value k less = number_at-block_bytes words k (omega (arith, block.long))
        (block.each k 0 (omega (arith, block.long)))

    each : (k : ℕ) → k < 128 → IsWord (number_at (block_bytes words) k)
    each k less = let word = block.each k 0 (omega (arith, block.long)) in omega (arith, value k less)

    same : first_words (block_bytes words) 128 ≡ words
    same = ext_get_or 0 (first_words (block_bytes words) 128) words (length-first_words (block_bytes words) 128
        ∙ sym block.long)
        (λ i h. let less : i < 128 = omega (arith, length-first_words (block_bytes words) 128) in
        first_words-at (block_bytes words) 128 i 0 less ∙ value i less)

-- a block that was read
pub content_read : (words bytes : List ℕ) → IsBlock words → block_bytes words ≡ bytes → wide_content bytes ≡ Some words
content_read words bytes block same = rw (← same) (content_block words block)

-- a block that is damaged
pub content_spoiled : (bytes : List ℕ) (place : ℕ) → place < 128 → 2 ^ 36 ≤ number_at bytes place
    → wide_content bytes ≡ None
content_spoiled bytes place inside bad =
    content_bad bytes (⊎_elim (λ good. absurd (no_word (number_at bytes place) bad
    (words_below bytes 128 good place inside))) (λ wrong. wrong) (cases_Bool (are_words bytes 128)))
  where
    no_word : (w : ℕ) → 2 ^ 36 ≤ w → IsWord w → ⊥
    no_word w high low = omega arith

pub content_refused : (bytes : List ℕ) (place : ℕ) → IsFirstBadWord 128 bytes place → wide_content bytes ≡ None
content_refused bytes place bad = content_spoiled bytes place bad.inside bad.bad

-- what bytes hold is the block that has them
pub content_is : (words bytes : List ℕ) → ((j : ℕ) → get_or bytes j 0 < 256) → length bytes ≡ 1024
    → wide_content bytes ≡ Some words → IsBlock words × (block_bytes words ≡ bytes)
content_is words bytes small long is = ⊎_elim good bad (cases_Bool (are_words bytes 128))
  where
    is_word : (v w : ℕ) → w ≡ v → IsWord v → IsWord w
    is_word v w same word = omega (arith, same, word)

    some_words : (a b : List ℕ) → Some a ≡ Some b → a ≡ b
    some_words a b h = cc

    nothing : None ≡ Some words → ⊥
    nothing h = cc

    good : are_words bytes 128 ≡ true → IsBlock words × (block_bytes words ≡ bytes)
    good are =
        let same : first_words bytes 128
        ≡ words = some_words (first_words bytes 128) words (sym (content_good bytes are) ∙ is) in
        let block : IsBlock (first_words bytes 128) = record {
          long = length-first_words bytes 128;
          each = λ i d h. is_word (number_at bytes i) (get_or (first_words bytes 128) i d)
              (first_words-at bytes 128 i d (omega (arith, length-first_words bytes 128)))
              (words_below bytes 128 are i (omega (arith, length-first_words bytes 128)));
        } in
        let read : block_bytes (first_words bytes 128)
        ≡ bytes = block_bytes-read bytes (first_words bytes 128) 128 small (omega (arith, long))
        (length-first_words bytes 128)
        (record { value = λ k less. first_words-at bytes 128 k 0 less; fits = words_below bytes 128 are }) in
        rw (← same) (block, read)

    bad : are_words bytes 128 ≡ false → IsBlock words × (block_bytes words ≡ bytes)
    bad are = absurd (nothing (sym (content_bad bytes are) ∙ is))

-- The block of a wide image that some bytes of the file spell.

module _ (b : Bytes) (n at len : ℕ) (bytes : List ℕ) (place : at ≡ 1024 * n) (long : len ≡ 1024) where
  spelled : bytes ≡ window b at len → image_contents Wide b n ≡ wide_content bytes
  spelled is = ap wide_content (sym (is ∙ ap (λ k. window b k len) place ∙ ap (window b (1024 * n)) long))

  pub image_read : (words : List ℕ) → bytes ≡ window b at len → IsBlock words → block_bytes words ≡ bytes
      → image_contents Wide b n ≡ Some words
  image_read words is block same = spelled is ∙ content_read words bytes block same

  pub image_refused : (error : WordError) → bytes ≡ window b at len → ((place : ℕ) × (error ≡ BadWord place))
      → ((place : ℕ) → (error ≡ BadWord place) → IsFirstBadWord 128 bytes place) → image_contents Wide b n ≡ None
  image_refused error is which bad = spelled is ∙ content_refused bytes which.0 (bad which.0 which.1)

  pub image_put : (words : List ℕ) → window b at len ≡ bytes → bytes ≡ block_bytes words → IsBlock words
      → image_contents Wide b n ≡ Some words
  image_put words is same block = spelled (sym is) ∙ content_read words bytes block (sym same)

-- The block of a packed one.

module _ (b : Bytes) (n at len : ℕ) (bytes : List ℕ) (place : at ≡ 576 * n) (long : len ≡ 576) where
  packed_spelled : bytes ≡ window b at len → image_contents Packed b n ≡ Some (nine_words bytes)
  packed_spelled is = ap (block_content Packed)
      (sym (is ∙ ap (λ k. window b k len) place ∙ ap (window b (576 * n)) long))

  pub packed_read : (words : List ℕ) → bytes ≡ window b at len → words ≡ nine_words bytes
      → image_contents Packed b n ≡ Some words
  packed_read words is same = packed_spelled is ∙ ap Some (sym same)

  pub packed_put : (words : List ℕ) → window b at len ≡ bytes → nine_words bytes ≡ words
      → image_contents Packed b n ≡ Some words
  packed_put words is same = packed_spelled (sym is) ∙ ap Some same

-- The laws of the forms.

some_words : (a b : List ℕ) → Some a ≡ Some b → a ≡ b
some_words a b h = cc

small : (bytes : List ℕ) → All (λ byte. byte < 256) bytes → (j : ℕ) → get_or bytes j 0 < 256
small bytes each j = ⊎_elim (λ inside. each j 0 inside) (λ past. omega (arith, get_or_past bytes j 0 past))
    (cases_lt j (length bytes))

pub damaged_exactly : (words bytes : List ℕ) → All (λ byte. byte < 256) bytes → length bytes ≡ 1024
    → (block_content Wide bytes ≡ Some words ↔ (IsBlock words × (block_bytes words ≡ bytes)))
damaged_exactly words bytes each long = (
  content_is words bytes (small bytes each) long,
  λ (block, same). content_read words bytes block same,
)

pub packed_exactly : (words bytes : List ℕ) → All (λ byte. byte < 256) bytes → length bytes ≡ 576
    → (block_content Packed bytes ≡ Some words ↔ (IsBlock words × (nine_bytes words ≡ bytes)))
packed_exactly words bytes each long = (
  λ is.
      let same : nine_words bytes ≡ words = some_words (nine_words bytes) words is in
      let back : nine_bytes (nine_words bytes) ≡ bytes = bytes_of_pairs 64 bytes long (small bytes each) in
      rw (← same) (block_read bytes (small bytes each), back),
  λ (block, same). ap (λ l. Some (nine_words l)) (sym same) ∙ ap Some (pairs_of_bytes 64 words block.long block.each),
)
