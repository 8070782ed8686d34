-- Neighbouring blocks that are read by one call: the bytes of each, and the places that they fill.
use Rattle.std.proofs.Common.{◌≡◌, ◌∙◌, ◌+◌, ◌*◌, ◌-◌, ◌<◌, ◌≤◌, ℕ, List, [], length, get_or, take, drop, Some, None}
use Rattle.std.proofs.Common.{min, sym, ap, arith, rules}
use Rattle.std.proofs.lemmas.List.{get_or-take, get_or-drop, ext_get_or, places, length-take, length-drop}
use borrow.Rule.Slice.PartMut.{put_mid}
use Rattle.blockdisk.specs.Common.{AreFilled}
use Rattle.imagefile.specs.Common.{Bytes, window, block_content, block_length, spelled_blocks, image_contents}
use Rattle.imagefile.specs.declared.form.Form.{Form}
use Rattle.imagefile.proofs.CallLaws.{length-window}
use Rattle.imagefile.proofs.FileLaws.{window-at}

-- The places of a part.

module _ (a k : ℕ) (xs ys : List (List ℕ)) (room : a + k ≤ length xs) (long : length ys ≡ k) where
  pub length-filled : length (put_mid a k xs ys) ≡ length xs
  length-filled = search (rules, places)

  pub filled_before : (i : ℕ) → i < a → get_or (put_mid a k xs ys) i [] ≡ get_or xs i []
  filled_before i before = search (rules, places)

  filled_at : (w : ℕ) → a ≤ w → w < a + k → get_or (put_mid a k xs ys) w [] ≡ get_or ys (w - a) []
  filled_at w from below = search (rules, places)

  pub filled_in : (i : ℕ) → i < k → get_or (put_mid a k xs ys) (a + i) [] ≡ get_or ys i []
  filled_in i less =
      let back : a + i - a ≡ i = omega arith in
      filled_at (a + i) (omega arith) (omega (arith, less)) ∙ ap (λ j. get_or ys j []) back

-- Part of the bytes of a file is bytes of the file.
pub window_part : (b : Bytes) (at len i n : ℕ) → i + n ≤ len → take n (drop i (window b at len)) ≡ window b (at + i) n
window_part b at len i n within = ext_get_or 0 (take n (drop i (window b at len))) (window b (at + i) n)
    (length-take n (drop i (window b at len)) ∙ shorter ∙ sym (length-window b (at + i) n)) each
  where
    whole : length (drop i (window b at len)) ≡ len - i
    whole = length-drop i (window b at len) ∙ ap (λ k. k - i) (length-window b at len)

    shorter : min n (length (drop i (window b at len))) ≡ n
    shorter = omega (arith, whole, within)

    each : (j : ℕ) → j < length (take n (drop i (window b at len)))
        → get_or (take n (drop i (window b at len))) j 0 ≡ get_or (window b (at + i) n) j 0
    each j less =
        let short : j < n = omega (arith, length-take n (drop i (window b at len)), shorter) in
        let sum : at + (i + j) ≡ at + i + j = omega arith in
        get_or-take n (drop i (window b at len)) j 0 short ∙ get_or-drop i (window b at len) j 0
        ∙ window-at b at len (i + j) 0 (omega (arith, short, within)) ∙ ap b sum
        ∙ sym (window-at b (at + i) n j 0 short)

module _ (form : Form) (b : Bytes) (first count at len : ℕ) (bytes : List ℕ) (place : at ≡ block_length form * first)
    (long : len ≡ block_length form * count) (is : bytes ≡ window b at len) where
  -- one of the blocks
  block_there : (i : ℕ) → i < count → spelled_blocks form bytes i ≡ image_contents form b (first + i)
  block_there i less =
      let size = block_length form in
      ap (λ l. block_content form (take size (drop (size * i) l))) is
      ∙ ap (block_content form) (window_part b at len (size * i) size (fits size less long)
      ∙ ap (λ k. window b k size) (there size place))
    where
      fits : (size : ℕ) → i < count → len ≡ size * count → size * i + size ≤ len
      fits size less long = grind arith

      there : (size : ℕ) → at ≡ size * first → at + size * i ≡ size * (first + i)
      there size place = grind arith

  pub blocks_there : (blocks : List (List ℕ)) → length blocks ≡ count
      → AreFilled (spelled_blocks form bytes) 0 blocks None
      → AreFilled (image_contents form b) first blocks None
  blocks_there blocks all read i less =
      let zero_on : 0 + i ≡ i = omega arith in
      sym (block_there i (omega (arith, all, less))) ∙ ap (spelled_blocks form bytes) (sym zero_on) ∙ read i less

  pub damaged_there : (blocks : List (List ℕ)) (spot : ℕ) → spot < count
      → AreFilled (spelled_blocks form bytes) 0 blocks (Some spot)
      → AreFilled (image_contents form b) first blocks (Some (first + spot))
  damaged_there blocks spot within read = (
    sym (block_there spot within) ∙ read.0,
    λ i less.
        let zero_on : 0 + i ≡ i = omega arith in
        let low : i < spot = omega (arith, less) in
        sym (block_there i (omega (arith, low, within))) ∙ ap (spelled_blocks form bytes) (sym zero_on)
        ∙ read.1 i (omega (arith, low)),
  )
