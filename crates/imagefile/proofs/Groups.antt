-- The blocks of a wide image that some bytes of the file spell, one after the other.
use Rattle.std.proofs.Common.{◌≡◌, ◌∙◌, ◌+◌, ◌*◌, ◌/◌, ◌%◌, ◌-◌, ◌^◌, ◌<◌, ◌≤◌, ◌↔◌, ℕ, List, length, get_or, Option}
use Rattle.std.proofs.Common.{Some, None, ⊎_elim, refl, sym, ap, arith, add-zero}
use Rattle.words36.specs.Common.{IsWord, IsFirstBadWord, number_at, nine_words}
use Rattle.words36.proofs.NineLaws.{length-nine_words}
use Rattle.blockdisk.specs.Common.{AreVerified, IsWithin, IsWholeBlock}
use Rattle.imagefile.specs.Common.{Bytes, window, first_words, image_contents}
use Rattle.imagefile.specs.declared.form.Form.TheVariants.{Wide, Packed}
use Rattle.imagefile.proofs.FileLaws.{window-at}
use Rattle.imagefile.proofs.Contents.{first_bad, words_below, words_are, length-first_words, content_good}
use Rattle.imagefile.proofs.Contents.{content_spoiled}

no_place : (found : Option ℕ) (place : ℕ) → found ≡ None → found ≡ Some place → ⊥
no_place found place none some = cc

module _ (b : Bytes) (first count at len : ℕ) (bytes : List ℕ) (place : at ≡ 1024 * first) (long : len ≡ 1024 * count)
    (is : bytes ≡ window b at len) where
  byte_there : (k j i : ℕ) → k < count → j < 128 → i < 8
      → get_or bytes (8 * (128 * k + j) + i) 0 ≡ get_or (window b (1024 * (first + k)) 1024) (8 * j + i) 0
  byte_there k j i below inside few =
      let there : at + (8 * (128 * k + j) + i) ≡ 1024 * (first + k) + (8 * j + i) = omega (arith, place) in
      ap (λ l. get_or l (8 * (128 * k + j) + i) 0) is
      ∙ window-at b at len (8 * (128 * k + j) + i) 0 (omega (arith, long))
      ∙ ap b there ∙ sym (window-at b (1024 * (first + k)) 1024 (8 * j + i) 0 (omega arith))

  -- the word at a place of one of the blocks
  number_there : (k j : ℕ) → k < count → j < 128
      → number_at bytes (128 * k + j) ≡ number_at (window b (1024 * (first + k)) 1024) j
  unfolding number_at
  number_there k j below inside =
      let byte = λ (i : ℕ) (few : i < 8). byte_there k j i below inside few in
      let byte_0 : get_or bytes (8 * (128 * k + j)) 0 ≡ get_or (window b (1024 * (first + k)) 1024) (8 * j) 0 =
      rw (← add-zero (8 * (128 * k + j)), ← add-zero (8 * j)) (byte 0 (omega arith)) in
      omega (
        arith,
        byte_0,
        byte 1 (omega arith),
        byte 2 (omega arith),
        byte 3 (omega arith),
        byte 4 (omega arith),
        byte 5 (omega arith),
        byte 6 (omega arith),
        byte 7 (omega arith),
      )

  -- a block whose words have no top bits is whole
  block_whole : (k : ℕ) → k < count → ((j : ℕ) → j < 128 → IsWord (number_at bytes (128 * k + j)))
      → IsWholeBlock (image_contents Wide b) (first + k)
  block_whole k below each =
      let there = window b (1024 * (first + k)) 1024 in
      record {
        words = first_words there 128;
        holds = content_good there (words_are there 128 (λ j less. word j less));
        all = length-first_words there 128;
      }
    where
      is_word : (v w : ℕ) → v ≡ w → IsWord v → IsWord w
      is_word v w same fits = omega (arith, same, fits)

      word : (j : ℕ) → j < 128 → IsWord (number_at (window b (1024 * (first + k)) 1024) j)
      word j less = is_word (number_at bytes (128 * k + j)) _ (number_there k j below less) (each j less)

  -- the same for a block by its number
  whole_at : (n : ℕ) → first ≤ n → n < first + count
      → ((place : ℕ) → place < 128 * (n - first) + 128 → IsWord (number_at bytes place))
      → IsWholeBlock (image_contents Wide b) n
  whole_at n low high each =
      let back : first + (n - first) ≡ n = omega arith in
      rw back at (block_whole (n - first) (omega arith) (λ j less. each (128 * (n - first) + j) (omega arith)))

  all_whole : (found : Option ℕ) (words : ℕ) → words ≡ 128 * count → found ≡ None
      → ((place : ℕ) → (found ≡ Some place ↔ IsFirstBadWord words bytes place))
      → AreVerified (image_contents Wide b) first (first + count) None
  all_whole found words many none which n low high =
      ⊎_elim (λ good. whole_at n low high (λ k less. words_below bytes words good k (omega arith)))
      (λ bad. absurd (no_place found bad.0 none ((which bad.0).1 bad.1)))
      (first_bad bytes words words (omega arith))

  one_bad : (spot words : ℕ) → words ≡ 128 * count → IsFirstBadWord words bytes spot
      → AreVerified (image_contents Wide b) first (first + count) (Some (first + spot / 128))
  one_bad spot words many bad = (
    content_spoiled (window b (1024 * (first + spot / 128)) 1024) (spot % 128) (omega arith)
        (high_there (number_at bytes spot) _ bad.bad same),
    λ n low high. whole_at n low (omega (arith, bad.inside)) (λ k less. bad.first k (omega arith)),
  )
    where
      parts : 128 * (spot / 128) + spot % 128 ≡ spot
      parts = omega arith

      same : number_at bytes spot ≡ number_at (window b (1024 * (first + spot / 128)) 1024) (spot % 128)
      same = ap (number_at bytes) (sym parts)
          ∙ number_there (spot / 128) (spot % 128) (omega (arith, bad.inside)) (omega arith)

      high_there : (v w : ℕ) → 2 ^ 36 ≤ v → v ≡ w → 2 ^ 36 ≤ w
      high_there v w high equal = omega (arith, high, equal)

-- What is found in a group of blocks from `first` and before `end`.

module _ (first end len : ℕ) (bytes : List ℕ) (some : first < end) (long : len ≡ (end - first) * 1024)
    (all : length bytes ≡ len) where
  many : length bytes / 8 ≡ 128 * (end - first)
  many = omega (arith, all, long)

  pub bad_within : (spot : ℕ) → IsFirstBadWord (length bytes / 8) bytes spot
      → IsWithin first end (Some (first + spot / 128))
  bad_within spot bad = (omega arith, omega (arith, bad.inside, many))

  pub bad_place : (spot : ℕ) → IsFirstBadWord (length bytes / 8) bytes spot → spot / 128 < end - first
  bad_place spot bad = omega (arith, bad.inside, many)

  module _ (b : Bytes) (at : ℕ) (place : at ≡ 1024 * first) (is : bytes ≡ window b at len) where
    ends : first + (end - first) ≡ end
    ends = omega arith

    pub group_whole : (found : Option ℕ) → found ≡ None
        → ((spot : ℕ) → (found ≡ Some spot ↔ IsFirstBadWord (length bytes / 8) bytes spot))
        → AreVerified (image_contents Wide b) first end None
    group_whole found none which =
        let all_are = all_whole b first (end - first) at len bytes place (omega (arith, long)) is found
        (length bytes / 8) many none which in
        rw ends at all_are

    pub group_bad : (spot : ℕ) → IsFirstBadWord (length bytes / 8) bytes spot
        → AreVerified (image_contents Wide b) first end (Some (first + spot / 128))
    group_bad spot bad = one_bad b first (end - first) at len bytes place (omega (arith, long)) is spot
        (length bytes / 8) many bad

-- all blocks of a packed image are whole
pub packed_whole : (b : Bytes) (first end : ℕ) → AreVerified (image_contents Packed b) first end None
packed_whole b first end n low high = record {
  words = nine_words (window b (576 * n) 576);
  holds = refl;
  all = length-nine_words (window b (576 * n) 576);
}
