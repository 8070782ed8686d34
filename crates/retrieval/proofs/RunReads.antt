-- Neighbouring blocks whose words are put after others, and the words of a body that these are.
use Rattle.std.proofs.Common.{◌≡◌, ⊎_elim, ℕ, ◌+◌, ◌-◌, ◌*◌, ◌/◌, ◌%◌, ◌<◌, ◌≤◌, List, [], ◌++◌, Some, None, length}
use Rattle.std.proofs.Common.{min, get_or, take, refl, sym, ap, ◌∙◌, arith}
use Rattle.std.specs.Prelude.{slice_index}
use Rattle.std.proofs.lemmas.Bool.{cases_eq, cases_lt}
use Rattle.std.proofs.lemmas.List.{length-append, length-take, get_or-take, get_or_append_left, get_or-append_right}
use Rattle.std.proofs.lemmas.List.{get_or_read}
use Rattle.blockdisk.specs.Common.{Contents}
use Rattle.spec_image.specs.Common.{HasBody}
use Rattle.spec_image.proofs.Common.{some_none}
use Rattle.retrieval.specs.Common.{AreWhole, StandsAt}
use Rattle.retrieval.proofs.Parts.{part_of}

-- One more block is put at the end.

module _ (before done got : List ℕ) (blocks : List (List ℕ)) (place here wanted : ℕ)
    (long : length done ≡ min (length before + place * 128) wanted) (few : length before ≤ wanted)
    (here_is : here ≡ min (wanted - length done) 128) (all : length got ≡ 128) where
  pub push_long : length (done ++ take here got) ≡ min (length before + (place + 1) * 128) wanted
  push_long = omega (arith, length-append done (take here got), length-take here got, long, here_is, all, few)

  pub push_kept : ((p : ℕ) → p < length before → slice_index done p ≡ slice_index before p)
      → (p : ℕ) → p < length before → slice_index (done ++ take here got) p ≡ slice_index before p
  push_kept kept p low = get_or_append_left done (take here got) 0 p (omega (arith, long, few, low)) ∙ kept p low

  pub push_put : place < length blocks → got ≡ get_or blocks place got
      → ((i k : ℕ) → i < place → k < 128 → length before + i * 128 + k < wanted
      → slice_index done (length before + i * 128 + k) ≡ slice_index (get_or blocks i []) k)
      → (i k : ℕ) → i < place + 1 → k < 128 → length before + i * 128 + k < wanted
      → slice_index (done ++ take here got) (length before + i * 128 + k) ≡ slice_index (get_or blocks i []) k
  push_put below is put i k less short within = ⊎_elim here_one earlier (cases_eq i place)
    where
      earlier : (i ≡ place → ⊥) → slice_index (done ++ take here got) (length before + i * 128 + k)
          ≡ slice_index (get_or blocks i []) k
      earlier other =
          let low : i < place = omega (arith, less, other) in
          let inside : length before + i * 128 + k < length done = omega (arith, long, low, short, within) in
          get_or_append_left done (take here got) 0 (length before + i * 128 + k) inside ∙ put i k low short within

      here_one : i ≡ place → slice_index (done ++ take here got) (length before + i * 128 + k)
          ≡ slice_index (get_or blocks i []) k
      here_one same =
          let whole : length done ≡ length before + i * 128 = omega (arith, long, same, within) in
          let back : length before + i * 128 + k - length done ≡ k = omega (arith, whole) in
          let inside : k < here = omega (arith, here_is, whole, short, within) in
          get_or-append_right done (take here got) (length done) (length before + i * 128 + k) 0 refl
          (omega (arith, whole))
          ∙ ap (slice_index (take here got)) back ∙ get_or-take here got k 0 inside
          ∙ ap (λ l. slice_index l k) (get_or_read blocks place got below is [])
          ∙ ap (λ j. slice_index (get_or blocks j []) k) (sym same)

-- each of them has 128 words
pub whole_more : (blocks : List (List ℕ)) (got : List ℕ) (place : ℕ) → place < length blocks
    → got ≡ get_or blocks place got → length got ≡ 128 → ((i : ℕ) → i < place → length (get_or blocks i []) ≡ 128)
    → (i : ℕ) → i < place + 1 → length (get_or blocks i []) ≡ 128
whole_more blocks got place below is all whole i less = ⊎_elim
    (λ same. ap (λ j. length (get_or blocks j [])) same
    ∙ ap length (sym (get_or_read blocks place got below is [])) ∙ all)
    (λ other. whole i (omega (arith, less, other))) (cases_eq i place)

-- blocks that were read, and whose words were put
pub stand_at : (contents : Contents) (first count size wanted : ℕ) (blocks : List (List ℕ)) (new : List ℕ)
    → ((i : ℕ) → i < count → contents (first + i) ≡ Some (get_or blocks i []))
    → ((i : ℕ) → i < count → length (get_or blocks i []) ≡ 128)
    → ((i k : ℕ) → i < count → k < 128 → size + i * 128 + k < wanted
    → slice_index new (size + i * 128 + k) ≡ slice_index (get_or blocks i []) k)
    → (i : ℕ) → i < count → StandsAt contents (first + i) (size + i * 128) wanted new
stand_at contents first count size wanted blocks new read whole put i less = record {
  block = get_or blocks i [];
  is = read i less;
  whole = whole i less;
  each = λ k few within. put i k less few within;
}

-- The words of a run are those of the body.

module _ (contents : Contents) (blocks body : List ℕ) (whole : AreWhole contents blocks)
    (has : HasBody contents blocks body) (start at first count wanted : ℕ) (done new : List ℕ)
    (from : start + length done ≡ at * 128) (below : at + count ≤ length blocks) (fits : start + wanted ≤ length body)
    (side : (j : ℕ) → j < count → slice_index blocks (at + j) ≡ first + j) where
  pub read_run_more : length new ≡ min (length done + count * 128) wanted
      → ((p : ℕ) → p < length done → slice_index new p ≡ slice_index done p)
      → ((i : ℕ) → i < count → StandsAt contents (first + i) (length done + i * 128) wanted new)
      → ((p : ℕ) → p < length done → slice_index done p ≡ slice_index body (start + p))
      → (p : ℕ) → p < length new → slice_index new p ≡ slice_index body (start + p)
  read_run_more long kept stands read p less =
      ⊎_elim (λ low. kept p low ∙ read p low) behind (cases_lt p (length done))
    where
      at_block : (i k : ℕ) → i < count → k < 128 → length done + i * 128 + k ≡ p → slice_index new p
          ≡ slice_index body (start + p)
      at_block i k inside few place =
          let one = stands i inside in
          let part = part_of contents blocks body whole has (at + i) (omega (arith, inside, below)) in
          let same : part.words ≡ one.block =
          let e : Some part.words ≡ Some one.block = sym part.is ∙ ap contents (side i inside) ∙ one.is in cc in
          let there : (at + i) * 128 + k ≡ start + p = omega (arith, from, place) in
          let low : length done + i * 128 + k < wanted = omega (arith, place, less, long) in
          let within : (at + i) * 128 + k < length body = omega (arith, there, place, low, fits) in
          ap (slice_index new) (sym place) ∙ one.each k few low ∙ ap (λ l. slice_index l k) (sym same)
          ∙ part.each k few within ∙ ap (slice_index body) there

      behind : length done ≤ p → slice_index new p ≡ slice_index body (start + p)
      behind past = at_block ((p - length done) / 128) ((p - length done) % 128) (omega (arith, past, less, long))
          (omega arith) (omega (arith, past))

-- None of the blocks of a run that was read is damaged.
pub none_damaged : (contents : Contents) (blocks : List ℕ) (base done first count wanted size : ℕ) (new : List ℕ)
    → ((j : ℕ) → j < count → slice_index blocks (base + done + j) ≡ first + j)
    → ((i : ℕ) → i < count → StandsAt contents (first + i) (size + i * 128) wanted new)
    → ((k : ℕ) → k < done → contents (slice_index blocks (base + k)) ≡ None → ⊥)
    → (k : ℕ) → k < done + count → contents (slice_index blocks (base + k)) ≡ None → ⊥
none_damaged contents blocks base done first count wanted size new side stands before k less none =
    ⊎_elim (λ low. before k low none) behind (cases_lt k done)
  where
    behind : done ≤ k → ⊥
    behind past =
        let inside : k - done < count = omega (arith, past, less) in
        let place : base + done + (k - done) ≡ base + k = omega (arith, past) in
        some_none (sym (stands (k - done) inside).is ∙ ap contents (sym (side (k - done) inside))
        ∙ ap (λ n. contents (slice_index blocks n)) place ∙ none)

-- The block of a run that is damaged is among the blocks.
pub damaged_place : (blocks : List ℕ) (at first count k : ℕ)
    → ((j : ℕ) → j < count → slice_index blocks (at + j) ≡ first + j) → first ≤ k → k < first + count
    → (k ≡ slice_index blocks (at + (k - first))) × (k - first < count)
damaged_place blocks at first count k side low high =
    let inside : k - first < count = omega (arith, low, high) in
    (omega (arith, side (k - first) inside, low), inside)
