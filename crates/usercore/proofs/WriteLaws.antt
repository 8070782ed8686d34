-- Writes into a core.
use Rattle.std.proofs.Common.{◌≡◌, ◌*◌, ◌||◌, Some, None, ℕ, suc, ◌+◌, ◌<◌, ◌≤◌, ◌==◌, if◌then◌else◌, List, [], ◌∷◌}
use Rattle.std.proofs.Common.{◌++◌, length, take, drop, refl, ap, sym, ◌∙◌, arith, get_or, drop-cons, min}
use Rattle.std.proofs.Common.{slice_index, slice_range, slice_set, ◌-◌, inl, inr, ⊎_elim, All, slice_index_or}
use Rattle.std.proofs.lemmas.Grind.{common_steps, elements}
use Rattle.std.proofs.lemmas.List.Elements.{All-set}
use Rattle.std.proofs.lemmas.Bool.Decides.{nat_tests}
use Rattle.std.proofs.Math.ListN.{length-set}
use Rattle.std.proofs.lemmas.Bool.{cases_lt}
use Rattle.std.proofs.lemmas.List.{take_more, length-take-le, drop_all, ext_get_or, take_at, get_or_default}
use Rattle.std.proofs.lemmas.List.{take_min as std_take_min}
use borrow.Rule.Slice.PartMut.{put_mid, Post-is}
use Rattle.words36.specs.Common.{IsWord, left, join}
use Rattle.spec_machine.specs.declared.area.Area.{Area}
use Rattle.spec_machine.specs.Common.{word_count, after_writes, placed, dealt, joined, lies_outside, first_free, base}
use Rattle.spec_machine.specs.Common.{buffer_at, buffer_words, unused_header, setup, ring_writes, buffer_writes}
use Rattle.spec_machine.specs.Common.{buffer_left, filled, marked, in_writes, put_behind, target, out_writes}
use Rattle.spec_machine.proofs.Common.{writes_append, writes_length, spared, found}
use Rattle.usercore.specs.Common.{IsCore, filled_by, emptied_by, zeroed}

placed_append : (a : ℕ) (xs ys : List ℕ) → placed a (xs ++ ys) ≡ placed a xs ++ placed (a + length xs) ys
placed_append a [] ys = grind arith
placed_append a (x ∷ xs) ys = grind (arith, placed_append (a + 1) xs ys)

-- one more of consecutive words
pub placed_more : (core : List ℕ) (a i w : ℕ) (ws : List ℕ) → i < length ws → w ≡ slice_index ws i
    → slice_set (after_writes core (placed a (take i ws))) (a + i) w ≡ after_writes core (placed a (take (i + 1) ws))
placed_more core a i w ws lt e =
    let small : i ≤ length ws = omega arith in
    rw (
      take_more ws i 0 lt,
      placed_append a (take i ws) (slice_index ws i ∷ []),
      writes_append core (placed a (take i ws)) (placed (a + length (take i ws)) (slice_index ws i ∷ [])),
      length-take-le i ws small,
      e,
    ) refl

-- Words that all lie in the core, put at once.

module _ (core : List ℕ) (a : ℕ) (ws : List ℕ) (fits : a + length ws ≤ length core) where
  abbrev once : List ℕ
  once = take a core ++ (ws ++ drop (a + length ws) core)

  length-once : length once ≡ length core
  length-once = grind (arith, common_steps)

  before : (k : ℕ) → k < a → get_or once k 0 ≡ get_or core k 0
  before k less = grind (arith, common_steps)

  past : (k : ℕ) → a + length ws ≤ k → get_or once k 0 ≡ get_or core k 0
  past k behind = grind (arith, common_steps)

  within : (k : ℕ) → a ≤ k → k < a + length ws → get_or once k 0 ≡ get_or ws (k - a) 0
  within k from less = grind (arith, common_steps)

  there : (k : ℕ) → a ≤ k → k < a + length ws → get_or once k 0 ≡ get_or (after_writes core (placed a ws)) k 0
  there k from less =
      let back : a + (k - a) ≡ k = omega arith in
      within k from less ∙ sym (found core a ws (k - a) (omega arith) (omega arith))
      ∙ ap (λ m. get_or (after_writes core (placed a ws)) m 0) back

  each : (k : ℕ) → get_or once k 0 ≡ get_or (after_writes core (placed a ws)) k 0
  each k = ⊎_elim (λ less. before k less ∙ sym (spared core a ws k (inl less)))
      (λ from. ⊎_elim (λ less. there k from less) (λ behind. past k behind ∙ sym (spared core a ws k (inr behind)))
      (cases_lt k (a + length ws))) (cases_lt k a)

  placed_at_once : once ≡ after_writes core (placed a ws)
  placed_at_once = ext_get_or 0 once (after_writes core (placed a ws))
      (length-once ∙ sym (writes_length core (placed a ws))) (λ k inside. each k)

-- as a slice of the core has it
pub overwritten : (core ws all part : List ℕ) (a n : ℕ) → a + length ws ≤ length core → all ≡ core → part ≡ ws
    → n ≡ length core
    → take n (put_mid a (a + length ws - a) all part ++ drop (length (put_mid a (a + length ws - a) all part)) core)
    ≡ after_writes core (placed a ws)
overwritten core ws all part a n fits is put long =
    let mid : put_mid a (a + length ws - a) all part ≡ once core a ws fits =
    ap (λ l. put_mid a (a + length ws - a) l part) is
    ∙ ap (λ l. put_mid a (a + length ws - a) core l) put
    ∙ ap (λ l. take a core ++ (ws ++ l)) (Post-is a (a + length ws) core (omega arith)) in
    take_at (put_mid a (a + length ws - a) all part) (drop (length (put_mid a (a + length ws - a) all part)) core) n
    (ap length mid ∙ length-once core a ws fits ∙ sym long)
    ∙ mid ∙ placed_at_once core a ws fits

-- one more of some words is known to be one
pub one_seen : (ws : List ℕ) (i w : ℕ) → i < length ws → w ≡ slice_index_or ws i w → IsWord w
    → ((k d : ℕ) → k < i → IsWord (slice_index_or ws k d)) → (k d : ℕ) → k < i + 1 → IsWord (slice_index_or ws k d)
one_seen ws i w inside is fits before k d less = ⊎_elim (λ earlier. before k d earlier)
    (λ from.
    let here : k ≡ i = omega arith in
    let same : w ≡ slice_index_or ws k d = is ∙ get_or_default ws i w d inside
    ∙ ap (λ n. slice_index_or ws n d) (sym here)
    in word_of w (slice_index_or ws k d) same fits) (cases_lt k i)
  where
    word_of : (v w : ℕ) → v ≡ w → IsWord v → IsWord w
    word_of v w same fits = omega (arith, same, fits)

-- a core that words are put into is still a core
pub core_placed : (core ws : List ℕ) (a : ℕ) → IsCore core → All IsWord ws → IsCore (after_writes core (placed a ws))
core_placed core [] a is all = is
core_placed core (w ∷ ws) a is all = core_placed (slice_set core a w) ws (a + 1) (record {
  least = omega (arith, length-set core a w, is.least);
  most = omega (arith, length-set core a w, is.most);
  words = All-set IsWord core a w (all 0 w (omega arith)) is.words;
}) (λ k d inside. all (suc k) d (omega arith))

-- one more buffer of a ring
pub ring_more : (core : List ℕ) (b n k : ℕ) → after_writes (after_writes core (ring_writes b n k)) (buffer_writes b n k)
    ≡ after_writes core (ring_writes b n (k + 1))
ring_more core b n k =
    let next : suc k ≡ k + 1 = omega arith in
    sym (writes_append core (ring_writes b n k) (buffer_writes b n k))
    ∙ ap (λ m. after_writes core (ring_writes b n m)) next

-- Steps in their parts.

setup_fits : (core : List ℕ) (h n : ℕ) (r : List ℕ) → h + 3 ≤ length core → base core + n * buffer_words ≤ length core
    → (if lies_outside core (base core) (n * buffer_words) || lies_outside core h 3 then None else Some r) ≡ Some r
setup_fits core h n r there fits = grind (arith, nat_tests)

pub setup_parts : (core : List ℕ) (h size n first end : ℕ) → h + 3 ≤ length core
    → base core + n * buffer_words ≤ length core → first ≡ base core + 1 → end ≡ base core + n * buffer_words
    → setup core h size n ≡ Some (after_writes (slice_set (after_writes core (ring_writes (base core) n n)) first_free
    (join (left (slice_index core first_free)) end)) (unused_header h size first))
unfolding setup
setup_parts core h size n first end there fits e f =
    let one : first ≡ buffer_at (base core) 0 = omega (arith, e) in
    rw (one, f)
    (setup_fits core h n _ there fits
    ∙ ap Some (writes_append core (ring_writes (base core) n n)
    ((first_free, join (left (slice_index core first_free)) (base core + n * buffer_words))
    ∷ unused_header h size (buffer_at (base core) 0))))

pub in_parts : (core : List ℕ) (h size status : ℕ) (words : List ℕ)
    → after_writes (after_writes core (buffer_left core h)) (filled_by h size status (target core h) words
    (marked (slice_index core (target core h)))) ≡ after_writes core (in_writes core h size status words)
unfolding in_writes
in_parts core h size status words = sym
    (writes_append core (buffer_left core h) (filled core h size status (target core h) words))

pub out_parts : (core : List ℕ) (h size : ℕ)
    → after_writes (after_writes core (put_behind core h)) (emptied_by h size (target core h))
    ≡ after_writes core (out_writes core h size)
unfolding out_writes zeroed
out_parts core h size = sym (writes_append core (put_behind core h) (emptied_by h size (target core h)))

pub take_fewer : (count n : ℕ) (xs : List ℕ) → n ≡ min count (length xs) → take n xs ≡ take count xs
take_fewer count n xs e = rw e (std_take_min count xs)

drop_fewer : (count n : ℕ) (xs : List ℕ) → n ≡ min count (length xs) → drop n xs ≡ drop count xs
drop_fewer count n xs e = grind (arith, common_steps, drop_all)

-- one more area that words are dealt to
pub deal_more : (core new : List ℕ) (areas : List Area) (i n first count : ℕ) (words front back : List ℕ) (area : Area)
    → i < length areas
    → area ≡ get_or areas i area → record { first = first; count = count } ≡ area
    → n ≡ min count (length words) → front ≡ take n words → back ≡ drop n words
    → new ≡ after_writes core (placed first front)
    → after_writes core (dealt (drop i areas) words) ≡ after_writes new (dealt (drop (i + 1) areas) back)
deal_more core new areas i n first count words front back area lt is view e f b w =
    rw (w, f, b, drop-cons areas i area, ← is, ← view)
    (let next : suc i ≡ i + 1 = omega arith in
    let t = take_fewer count n words e in
    let s = drop_fewer count n words e in
    rw (← next, ← t, ← s) (writes_append core (placed first (take n words))
    (dealt (drop (suc i) areas) (drop n words))))

-- one more area that is counted
pub count_on : (areas : List Area) (i first count : ℕ) (area : Area) → i < length areas → area ≡ get_or areas i area
    → record { first = first; count = count } ≡ area
    → word_count (drop i areas) ≡ count + word_count (drop (i + 1) areas)
count_on areas i first count area lt is view =
    rw (drop-cons areas i area, ← is, ← view)
    (let next : suc i ≡ i + 1 = omega arith in
    ap (λ n. count + word_count (drop n areas)) next)

-- one more area whose words are joined
pub join_on : (core : List ℕ) (areas : List Area) (i first count : ℕ) (area : Area) → i < length areas
    → area ≡ get_or areas i area → record { first = first; count = count } ≡ area
    → joined core (drop i areas) ≡ slice_range core first (first + count) ++ joined core (drop (i + 1) areas)
join_on core areas i first count area lt is view =
    rw (drop-cons areas i area, ← is, ← view)
    (let next : suc i ≡ i + 1 = omega arith in
    ap (λ n. slice_range core first (first + count) ++ joined core (drop n areas)) next)

-- the word at an address after one write
read_set : (core : List ℕ) (k v a : ℕ) → k < length core → slice_index (slice_set core k v) a
    ≡ (if a == k then v else slice_index core a)
read_set core k v a inside = grind (arith, elements, nat_tests)

-- and after one, and three consecutive ones
pub read_header : (core : List ℕ) (k v h p q z a : ℕ) → k < length core → h + 2 < length core
    → slice_index (after_writes core ((k, v) ∷ placed h (p ∷ q ∷ z ∷ []))) a
    ≡ (if a == h + 1 + 1 then z else if a == h + 1 then q else if a == h then p else if a == k then v
    else slice_index core a)
read_header core k v h p q z a inside there =
    let one = slice_set core k v in
    let two = slice_set one h p in
    let three = slice_set two (h + 1) q in
    let long_one : length one ≡ length core = length-set core k v in
    let long_two : length two ≡ length core = length-set one h p ∙ long_one in
    let long_three : length three ≡ length core = length-set two (h + 1) q ∙ long_two in
    read_set three (h + 1 + 1) z a (omega arith)
    ∙ ap (λ w. if a == h + 1 + 1 then z else w) (
    read_set two (h + 1) q a (omega arith)
    ∙ ap (λ w. if a == h + 1 then q else w) (read_set one h p a (omega arith)
    ∙ ap (λ w. if a == h then p else w) (read_set core k v a inside))
    )
