-- Blocks of a version that are made its own, and then written by runs.
use Rattle.std.proofs.Common.{◌≡◌, ◌⊎◌, ⊎_elim, inl, inr, ℕ, zero, suc, ◌+◌, ◌-◌, ◌*◌, ◌/◌, ◌<◌, ◌≤◌, List, [], Some}
use Rattle.std.proofs.Common.{length, get_or, take, drop, sym, ◌∙◌, ap, subst, arith}
use Rattle.std.specs.Prelude.{slice_index, slice_set}
use Rattle.std.specs.Simd.{first_chunks}
use Rattle.std.proofs.lemmas.Bool.{cases_eq, cases_lt}
use Rattle.std.proofs.lemmas.List.{get_or-set_same, get_or-set_other, length-set, get_or-take, get_or-drop, drop-drop}
use Rattle.std.proofs.lemmas.List.{length-take, length-drop}
use Rattle.blockdisk.specs.Common.{Contents, DiskState, HoldRun, IsInRun, Modifies, Writes, modifies_on}
use Rattle.blockdisk.specs.Common.{modifies_wider, writes_modifies}
use Rattle.spec_image.specs.Common.{blocks_of, times}
use Rattle.retrieval.specs.Common.{StandAlone, AtPlace, IsNewBlock, HoldsNew}
use Rattle.retrieval.proofs.HeldBlocks.{alone_at}

-- One more place whose block is the version's own.

module _ (blocks : List ℕ) (first i n : ℕ) (below : i < length blocks) where
  here : slice_index (slice_set blocks i n) i ≡ n
  here = get_or-set_same blocks i n 0 below

  elsewhere : (j : ℕ) → (j ≡ i → ⊥) → slice_index (slice_set blocks i n) j ≡ slice_index blocks j
  elsewhere j other = get_or-set_other blocks i j n 0 other

  pub apart_more : StandAlone blocks first i → times n (slice_set blocks i n) ≡ 1
      → StandAlone (slice_set blocks i n) first (i + 1)
  apart_more so_far alone j k from upto inside other same = ⊎_elim
      (λ is. alone_at n new i k alone below' inside here (λ e. other (e ∙ sym is)) (same ∙ ap (slice_index new) is
      ∙ here))
      (λ (apart : j ≡ i → ⊥). ⊎_elim
      (λ is. alone_at n new i j alone below' (omega (arith, upto, below')) here apart
      (sym same ∙ ap (slice_index new) is ∙ here))
      (λ away. so_far j k from (omega (arith, upto, apart)) (omega (arith, inside, length-set blocks i n)) other
      (sym (elsewhere k away) ∙ same ∙ elsewhere j apart))
      (cases_eq k i))
      (cases_eq j i)
    where
      new : List ℕ
      new = slice_set blocks i n

      below' : i < length new
      below' = omega (arith, below, length-set blocks i n)

  pub own_more : (P : ℕ → Type 0) → ((j : ℕ) → first ≤ j → j < i → P (slice_index blocks j)) → P n
      → (j : ℕ) → first ≤ j → j < i + 1 → P (slice_index (slice_set blocks i n) j)
  own_more P so_far own j from upto = ⊎_elim
      (λ is. subst P (sym (ap (slice_index (slice_set blocks i n)) is ∙ here)) own)
      (λ other. subst P (sym (elsewhere j other)) (so_far j from (omega (arith, upto, other))))
      (cases_eq j i)

  pub others_more : (old : List ℕ) → first ≤ i → ((j : ℕ) → (j < first) ⊎ (i ≤ j) → slice_index blocks j
      ≡ slice_index old j) → (j : ℕ) → (j < first) ⊎ (i + 1 ≤ j) → slice_index (slice_set blocks i n) j
      ≡ slice_index old j
  others_more old from so_far j out = elsewhere j (λ e. apart e out) ∙ so_far j (⊎_elim (λ low. inl low)
      (λ high. inr (omega (arith, high))) out)
    where
      apart : j ≡ i → (j < first) ⊎ (i + 1 ≤ j) → ⊥
      apart e (inl low) = omega (arith, e, low, from)
      apart e (inr high) = omega (arith, e, high)

-- The blocks that words fill.

chunk_at : (size count : ℕ) (xs : List ℕ) (j : ℕ) → j < count
    → get_or (first_chunks size count xs) j [] ≡ take size (drop (j * size) xs)
chunk_at size zero xs j below = absurd (omega (arith, below))
chunk_at size (suc count) xs zero below = let e : 0 ≡ 0 * size = omega arith in ap (λ k. take size (drop k xs)) e
chunk_at size (suc count) xs (suc j) below =
    let sum : size + j * size ≡ suc j * size = omega arith in
    chunk_at size count (drop size xs) j (omega (arith, below)) ∙ ap (take size) (drop-drop (j * size) size xs
    ∙ ap (λ k. drop k xs) sum)

module _ (at : ℕ) (words : List ℕ) (place : ℕ) (kept : List ℕ) where
  filled_new : (i : ℕ) → at ≤ i → (i - at) * 128 + 128 ≤ length words
      → IsNewBlock at words place kept i (take 128 (drop ((i - at) * 128) words))
  filled_new i from fits = record {
    whole = length-take 128 (drop ((i - at) * 128) words) ∙ omega (arith, length-drop ((i - at) * 128) words, fits);
    put = λ k few low high.
        let sum : (i - at) * 128 + k ≡ i * 128 + k - at * 128 = omega (arith, from) in
        get_or-take 128 (drop ((i - at) * 128) words) k 0 few ∙ get_or-drop ((i - at) * 128) words k 0
        ∙ ap (slice_index words) sum;
    kept_is = λ k few out. absurd (none k few out);
  }
    where
      none : (k : ℕ) → k < 128 → (i * 128 + k < at * 128) ⊎ (at * 128 + length words ≤ i * 128 + k) → ⊥
      none k few (inl low) = omega (arith, low, from)
      none k few (inr high) = omega (arith, high, few, fits, from)

  -- a run of them that was written
  pub run_written : (contents : Contents) (blocks : List ℕ) (i first count size : ℕ) (part : List (List ℕ))
      → at ≤ i → i - at + count ≤ size → size * 128 ≤ length words
      → part ≡ take count (drop (i - at) (first_chunks 128 size words)) → length part ≡ count
      → ((j : ℕ) → j < count → slice_index blocks (i + j) ≡ first + j) → HoldRun contents first part
      → (j : ℕ) → i ≤ j → j < i + count → HoldsNew contents at words place kept j (slice_index blocks j)
  run_written contents blocks i first count size part from fits all is long side holds j low high =
      let k = j - i in
      let inside : j - i < count = omega (arith, low, high) in
      let sum : i + (j - i) ≡ j = omega (arith, low) in
      let chunk : i - at + (j - i) ≡ j - at = omega (arith, low, from) in
      record {
        new = take 128 (drop ((j - at) * 128) words);
        is = ap contents (ap (slice_index blocks) (sym sum) ∙ side (j - i) inside)
            ∙ holds (j - i) (omega (arith, inside, long))
            ∙ ap Some (ap (λ l. get_or l (j - i) []) is
            ∙ get_or-take count (drop (i - at) (first_chunks 128 size words)) (j - i) [] inside
            ∙ get_or-drop (i - at) (first_chunks 128 size words) (j - i) []
            ∙ ap (λ m. get_or (first_chunks 128 size words) m []) chunk
            ∙ chunk_at 128 size words (j - at) (omega (arith, chunk, inside, fits)));
        is_new = filled_new j (omega (arith, low, from)) (omega (arith, chunk, inside, fits, all));
      }

  -- blocks after others that stay written
  pub written_more : (contents new : Contents) (blocks : List ℕ) (first i count end : ℕ) → end ≤ length blocks
      → i ≤ end → StandAlone blocks first end → ((n : ℕ) → (AtPlace blocks i end n → ⊥) → new n ≡ contents n)
      → ((j : ℕ) → first ≤ j → j < i → HoldsNew contents at words place kept j (slice_index blocks j))
      → ((j : ℕ) → i ≤ j → j < i + count → HoldsNew new at words place kept j (slice_index blocks j))
      → (j : ℕ) → first ≤ j → j < i + count → HoldsNew new at words place kept j (slice_index blocks j)
  written_more contents new blocks first i count end fits begun apart same before more j from upto = ⊎_elim
      (λ low.
      let was = before j from low in
      record {
        new = was.new;
        is = same (slice_index blocks j) (λ here. away low here) ∙ was.is;
        is_new = was.is_new;
      })
      (λ past. more j past upto) (cases_lt j i)
    where
      away : j < i → AtPlace blocks i end (slice_index blocks j) → ⊥
      away low here = apart j here.at from (omega (arith, low, begun)) (omega (arith, here.below, fits))
          (λ e. not_same e here.from low) here.is
        where
          not_same : here.at ≡ j → i ≤ here.at → j < i → ⊥
          not_same e above below = omega (arith, e, above, below)

-- The part of the filled blocks that is written.

pub part_is : (d count : ℕ) (chunks whole : List (List ℕ)) → chunks ≡ whole
    → take (d + count - d) (drop d chunks) ≡ take count (drop d whole)
part_is d count chunks whole same =
    let e : d + count - d ≡ count = omega arith in
    ap (λ l. take (d + count - d) (drop d l)) same ∙ ap (λ k. take k (drop d whole)) e

pub part_size : (d count : ℕ) (chunks : List (List ℕ)) → d + count ≤ length chunks
    → length (take (d + count - d) (drop d chunks)) ≡ count
part_size d count chunks fits = length-take (d + count - d) (drop d chunks)
    ∙ omega (arith, length-drop d chunks, fits)

pub filled_fits : (at i filled count len : ℕ) → at ≤ i → (i - at + filled) * 128 ≤ len → count ≤ filled
    → i + count ≤ at + blocks_of len
filled_fits at i filled count len from within few = grind arith

pub filled_within : (at i filled count len size : ℕ) → (i - at + filled) * 128 ≤ len → count ≤ filled
    → size ≡ len / 128 → i - at + count ≤ size
filled_within at i filled count len size within few is = grind arith

pub whole_words : (len : ℕ) → len / 128 * 128 ≤ len
whole_words len = grind arith

-- A single block.

pub one_first : (blocks : List ℕ) (i first : ℕ) → slice_index blocks (i + 0) ≡ first + 0 → slice_index blocks i ≡ first
one_first blocks i first is =
    let e : i ≡ i + 0 = omega arith in
    let f : first + 0 ≡ first = omega arith in
    ap (slice_index blocks) e ∙ is ∙ f

pub one_written : (at : ℕ) (words : List ℕ) (place : ℕ) (kept : List ℕ) (contents : Contents) (blocks : List ℕ)
    (i n : ℕ) (new : List ℕ) → slice_index blocks i ≡ n → contents n ≡ Some new → IsNewBlock at words place kept i new
    → (j : ℕ) → i ≤ j → j < i + 1 → HoldsNew contents at words place kept j (slice_index blocks j)
one_written at words place kept contents blocks i n new is put is_new j low high =
    let same : i ≡ j = omega (arith, low, high) in
    subst (λ k. HoldsNew contents at words place kept k (slice_index blocks k)) same
    (record { new = new; is = ap contents is ∙ put; is_new = is_new })

-- What is written of a stretch of places.

pub run_modifies : (blocks : List ℕ) (i end first count size : ℕ) (s s' : DiskState) → size ≡ count → i + count ≤ end
    → ((j : ℕ) → j < count → slice_index blocks (i + j) ≡ first + j) → Modifies (IsInRun first size) s s'
    → Modifies (AtPlace blocks i end) s s'
run_modifies blocks i end first count size s s' same fits side = modifies_wider (IsInRun first size)
    (AtPlace blocks i end) s s' (λ n inside. at n inside.0 (omega (arith, inside.1, same)))
  where
    at : (n : ℕ) → first ≤ n → n < first + count → AtPlace blocks i end n
    at n low high = record {
      at = i + (n - first);
      from = omega arith;
      below = omega (arith, low, high, fits);
      is = side (n - first) (omega (arith, low, high)) ∙ omega (arith, low);
    }

pub one_modifies : (blocks : List ℕ) (i end n : ℕ) (s s' : DiskState) → i < end → slice_index blocks i ≡ n
    → Writes n s s' → Modifies (AtPlace blocks i end) s s'
one_modifies blocks i end n s s' below is = writes_modifies (AtPlace blocks i end) n s s'
    (record { at = i; from = omega arith; below = below; is = is })

pub more_modified : (blocks : List ℕ) (first i end : ℕ) (s s' s'' : DiskState) → first ≤ i
    → Modifies (AtPlace blocks first end) s s' → Modifies (AtPlace blocks i end) s' s''
    → Modifies (AtPlace blocks first end) s s''
more_modified blocks first i end s s' s'' begun before more = modifies_on (AtPlace blocks first end) s s' s'' before
    (modifies_wider (AtPlace blocks i end) (AtPlace blocks first end) s' s'' (λ n here. record {
      at = here.at;
      from = omega (arith, begun, here.from);
      below = here.below;
      is = here.is;
    }) more)
