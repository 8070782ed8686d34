-- A body place by place: the block at each place of a version holds 128 words of it.
use Rattle.std.proofs.Common.{◌≡◌, ℕ, zero, suc, ◌+◌, ◌-◌, ◌*◌, ◌/◌, ◌%◌, ◌<◌, ◌≤◌, List, [], ◌∷◌, Option, Some, None}
use Rattle.std.proofs.Common.{length, map, min, get_or, take, drop, refl, sym, subst, ap, ◌∙◌, arith}
use Rattle.std.specs.Prelude.{slice_index, flat_map, IfSome}
use Rattle.std.specs.List.{AllByRecursion, AllZip}
use Rattle.std.proofs.lemmas.List.{length-append, length-take, length-drop, get_or-take, get_or-drop}
use Rattle.std.proofs.lemmas.List.{get_or_append_left, get_or-append_right}
use Rattle.std.proofs.lemmas.Grind.{same_number_lists}
use Rattle.blockdisk.specs.Common.{Contents}
use Rattle.spec_image.specs.Common.{times, HasBody}
use Rattle.spec_image.proofs.Common.{times_here, times_later}
use Rattle.retrieval.specs.Common.{AreWhole}

-- what holds for each of a list holds at each index
pub all_at : (P : ℕ → Type 0) (xs : List ℕ) (i : ℕ) → AllByRecursion P xs → i < length xs → P (slice_index xs i)
all_at P [] i all below = absurd (omega arith)
all_at P (x ∷ xs) zero all below = all.0
all_at P (x ∷ xs) (suc i) all below = all_at P xs i all.1 (omega arith)

pub times_at : (xs : List ℕ) (i : ℕ) → i < length xs → 0 < times (slice_index xs i) xs
times_at [] i below = absurd (omega arith)
times_at (x ∷ xs) zero below = times_here x xs
times_at (x ∷ xs) (suc i) below = times_later (slice_index xs i) x xs (times_at xs i (omega arith))

-- Block n holds the words of a body from place j, as far as the body goes.
pub record HoldsPart (contents : Contents) (n j : ℕ) (body : List ℕ) : Type 0 where
  pub words : List ℕ
  pub is : contents n ≡ Some words
  pub whole : length words ≡ 128
  pub each : (k : ℕ) → k < 128 → j * 128 + k < length body → slice_index words k ≡ slice_index body (j * 128 + k)

abbrev joined : List (List ℕ) → List ℕ
joined each = flat_map (λ words. words) each

abbrev Are128 : List (List ℕ) → Type 0
Are128 each = AllByRecursion (λ words. length words ≡ 128) each

joined_at : (each : List (List ℕ)) (j k : ℕ) → Are128 each → j < length each → k < 128
    → slice_index (joined each) (j * 128 + k) ≡ slice_index (get_or each j []) k
joined_at [] j k whole below fits = absurd (omega arith)
joined_at (w ∷ ws) zero k whole below fits =
    let l = whole.0 in
    let first : zero * 128 + k ≡ k = omega arith in
    ap (slice_index (joined (w ∷ ws))) first ∙ get_or_append_left w (joined ws) 0 k (omega arith)
joined_at (w ∷ ws) (suc j) k whole below fits =
    let rest : suc j * 128 + k - 128 ≡ j * 128 + k = omega arith in
    get_or-append_right w (joined ws) 128 (suc j * 128 + k) 0 whole.0 (omega arith) ∙ ap (slice_index (joined ws)) rest
    ∙ joined_at ws j k whole.1 (omega arith) fits

length-joined : (each : List (List ℕ)) → Are128 each → length (joined each) ≡ length each * 128
length-joined [] whole = refl
length-joined (w ∷ ws) whole = let a = length-append w (joined ws) in let b = length-joined ws whole.1 in
    let l = whole.0 in omega arith

module _ (contents : Contents) where
  zip_length : (blocks : List ℕ) (each : List (List ℕ)) → AllZip (λ n words. contents n ≡ Some words) blocks each
      → length each ≡ length blocks
  zip_length [] [] zip = refl
  zip_length [] (w ∷ ws) zip = absurd zip
  zip_length (n ∷ ns) [] zip = absurd zip
  zip_length (n ∷ ns) (w ∷ ws) zip = ap suc (zip_length ns ws zip.1)

  zip_at : (blocks : List ℕ) (each : List (List ℕ)) (j : ℕ) → AllZip (λ n words. contents n ≡ Some words) blocks each
      → j < length blocks → contents (slice_index blocks j) ≡ Some (get_or each j [])
  zip_at [] each j zip below = absurd (omega arith)
  zip_at (n ∷ ns) [] j zip below = absurd zip
  zip_at (n ∷ ns) (w ∷ ws) zero zip below = zip.0
  zip_at (n ∷ ns) (w ∷ ws) (suc j) zip below = zip_at ns ws j zip.1 (omega arith)

  zip_whole : (blocks : List ℕ) (each : List (List ℕ)) → AllZip (λ n words. contents n ≡ Some words) blocks each
      → AreWhole contents blocks → Are128 each
  zip_whole [] [] zip whole = tt
  zip_whole [] (w ∷ ws) zip whole = absurd zip
  zip_whole (n ∷ ns) [] zip whole = absurd zip
  zip_whole (n ∷ ns) (w ∷ ws) zip whole = (
    subst (λ (o : Option (List ℕ)). IfSome o (λ words. length words ≡ 128)) zip.0 whole.0,
    zip_whole ns ws zip.1 whole.1,
  )

  zip_back : (blocks : List ℕ) (each : List (List ℕ)) → AllZip (λ n words. contents n ≡ Some words) blocks each
      → Are128 each → AreWhole contents blocks
  zip_back [] [] zip whole = tt
  zip_back [] (w ∷ ws) zip whole = absurd zip
  zip_back (n ∷ ns) [] zip whole = absurd zip
  zip_back (n ∷ ns) (w ∷ ws) zip whole = (
    subst (λ (o : Option (List ℕ)). IfSome o (λ words. length words ≡ 128)) (sym zip.0) whole.0,
    zip_back ns ws zip.1 whole.1,
  )

  -- the blocks of a body have 128 words each
  pub whole_from : (blocks body : List ℕ) → HasBody contents blocks body → AreWhole contents blocks
  whole_from blocks body has = zip_back blocks has.each has.undamaged has.whole

  lengths_at : (each : List (List ℕ)) (j : ℕ) → Are128 each → j < length each → length (get_or each j []) ≡ 128
  lengths_at [] j whole below = absurd (omega arith)
  lengths_at (w ∷ ws) zero whole below = whole.0
  lengths_at (w ∷ ws) (suc j) whole below = lengths_at ws j whole.1 (omega arith)

  pub part_of : (blocks body : List ℕ) → AreWhole contents blocks → HasBody contents blocks body → (j : ℕ)
      → j < length blocks → HoldsPart contents (slice_index blocks j) j body
  part_of blocks body whole has j below =
      let each = has.each in
      let lengths = zip_whole blocks each has.undamaged whole in
      let same = zip_length blocks each has.undamaged in
      let below' : j < length each = omega arith in
      record {
        words = get_or each j [];
        is = zip_at blocks each j has.undamaged below;
        whole = lengths_at each j lengths below';
        each = λ k few inside. sym (ap (λ (l : List ℕ). slice_index l (j * 128 + k)) has.body_is
            ∙ get_or-take (length body) (joined each) (j * 128 + k) 0 inside ∙ joined_at each j k lengths below' few);
      }

  -- And back: if each place holds its part, the blocks have the body.
  abbrev words_in : ℕ → List ℕ
  words_in n = elim (contents n) [ Some words ↦ words | None ↦ [] ]

  words_are : (n : ℕ) (words : List ℕ) → contents n ≡ Some words → words_in n ≡ words
  words_are n words is = ap (λ (o : Option (List ℕ)). elim o [ Some words ↦ words | None ↦ [] ]) is

  zip_map : (blocks : List ℕ) → ((j : ℕ) → j < length blocks → contents (slice_index blocks j)
      ≡ Some (words_in (slice_index blocks j)))
      → AllZip (λ n words. contents n ≡ Some words) blocks (map words_in blocks)
  zip_map [] is = tt
  zip_map (n ∷ ns) is = (is 0 (omega arith), zip_map ns (λ j below. is (suc j) (omega arith)))

  whole_map : (blocks : List ℕ) → ((j : ℕ) → j < length blocks → length (words_in (slice_index blocks j)) ≡ 128)
      → Are128 (map words_in blocks)
  whole_map [] is = tt
  whole_map (n ∷ ns) is = (is 0 (omega arith), whole_map ns (λ j below. is (suc j) (omega arith)))

  map_at : (blocks : List ℕ) (j : ℕ) → j < length blocks → get_or (map words_in blocks) j []
      ≡ words_in (slice_index blocks j)
  map_at [] j below = absurd (omega arith)
  map_at (n ∷ ns) zero below = refl
  map_at (n ∷ ns) (suc j) below = map_at ns j (omega arith)

  length_map : (blocks : List ℕ) → length (map words_in blocks) ≡ length blocks
  length_map [] = refl
  length_map (n ∷ ns) = ap suc (length_map ns)

  pub body_of : (blocks body : List ℕ) → length body ≤ length blocks * 128
      → ((j : ℕ) → j < length blocks → HoldsPart contents (slice_index blocks j) j body) → HasBody contents blocks body
  body_of blocks body room parts = record {
    each = each;
    undamaged = zip_map blocks (λ j below. (parts j below).is ∙ ap Some (sym (words_of j below)));
    whole = whole;
    body_is = same_number_lists body (take (length body) (joined each))
        (let a = length-take (length body) (joined each) in let b = length-joined each whole in
        let e = length_map blocks in omega arith) at;
  }
    where
      each : List (List ℕ)
      each = map words_in blocks

      words_of : (j : ℕ) (below : j < length blocks) → words_in (slice_index blocks j) ≡ (parts j below).words
      words_of j below = words_are (slice_index blocks j) (parts j below).words (parts j below).is

      whole : Are128 each
      whole = whole_map blocks (λ j below. ap length (words_of j below) ∙ (parts j below).whole)

      at_place : (j k : ℕ) → j < length blocks → k < 128 → j * 128 + k < length body
          → slice_index body (j * 128 + k) ≡ slice_index (take (length body) (joined each)) (j * 128 + k)
      at_place j k below few inside =
          let same = length_map blocks in
          sym (get_or-take (length body) (joined each) (j * 128 + k) 0 inside
          ∙ joined_at each j k whole (omega arith) few
          ∙ ap (λ (l : List ℕ). slice_index l k) (map_at blocks j below ∙ words_of j below)
          ∙ (parts j below).each k few inside)

      at : (p : ℕ) → p < length body → slice_index body p ≡ slice_index (take (length body) (joined each)) p
      at p inside = let e : p / 128 * 128 + p % 128 ≡ p = omega arith in
          subst (λ (q : ℕ). slice_index body q ≡ slice_index (take (length body) (joined each)) q) e
          (at_place (p / 128) (p % 128) (omega arith) (omega arith) (omega arith))

-- What reading returns.

-- a block of these that is damaged, after calls that left the contents unchanged
pub damaged_at : (old now : Contents) (blocks these : List ℕ) (k at : ℕ) → these ≡ blocks → at < length blocks
    → k ≡ slice_index these at → now (slice_index these at) ≡ None → ((n : ℕ) → now n ≡ old n)
    → (0 < times k blocks) × (old k ≡ None)
damaged_at old now blocks these k at same below is none kept =
    let e : k ≡ slice_index blocks at = is ∙ ap (λ (l : List ℕ). slice_index l at) same in
    (subst (λ (n : ℕ). 0 < times n blocks) (sym e) (times_at blocks at below), sym (kept k) ∙ ap now is ∙ none)

-- all of them
pub read_all : (body done : List ℕ) (start count : ℕ) → length done ≡ min count (length body - start)
    → ((p : ℕ) → p < length done → slice_index done p ≡ slice_index body (start + p))
    → done ≡ take count (drop start body)
read_all body done start count long read =
    same_number_lists done (take count (drop start body)) (let a = length-take count (drop start body) in
    let b = length-drop start body in omega arith)
    (λ p some. read p some ∙ sym (get_or-take count (drop start body) p 0 (omega arith) ∙ get_or-drop start body p 0))
