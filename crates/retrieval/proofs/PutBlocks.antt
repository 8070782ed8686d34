-- If each block that changes has its new words, and the others stay, the version has the body with the words put.
use Rattle.std.proofs.Common.{◌≡◌, ◌⊎◌, ⊎_elim, inl, inr, ℕ, ◌+◌, ◌-◌, ◌*◌, ◌/◌, ◌<◌, ◌≤◌, List, length, min, max, sym}
use Rattle.std.proofs.Common.{◌∙◌, ap, arith}
use Rattle.std.specs.Prelude.{slice_index}
use Rattle.blockdisk.specs.Common.{Contents}
use Rattle.spec_image.specs.Common.{blocks_of, HasBody, splice, length_after, block_start}
use Rattle.spec_image.proofs.Common.{length-splice, splice-outside, splice-inside, below_or_not}
use Rattle.retrieval.specs.Common.{AreWhole, Stays, IsPartlyPlaced}
use Rattle.retrieval.proofs.GrownLists.{after_some}
use Rattle.retrieval.proofs.Parts.{HoldsPart, part_of, body_of}

-- The contents before, when the words that stay were read, and after; the list of blocks at first, longer, and
-- at the end.
module _ (before read after : Contents) (old longer new : List ℕ) (total block : ℕ) (words : List ℕ) (place : ℕ)
    (kept : List ℕ) (counted : length old ≡ blocks_of total) (some : 0 < length words)
    (same : (n : ℕ) → read n ≡ before n) (front : (j : ℕ) → j < length old → slice_index longer j
    ≡ slice_index old j) (long : length longer ≡ blocks_of (max total (block_start block + length words)))
    (long' : length new ≡ length longer)
    (placed : IsPartlyPlaced read after longer new (block - 1) words place kept (min (block - 1) (total / 128))
    (block - 1 + blocks_of (length words))) where
  -- a place that is not written has its block from before, with the words from before
  unwritten : (j : ℕ) → j < length new → (j < min (block - 1) (total / 128))
      ⊎ (block - 1 + blocks_of (length words) ≤ j) → j < length old
  unwritten j below (inl first) = omega arith
  unwritten j below (inr last) = omega arith

  still_there : (j : ℕ) (below : j < length new) (out : (j < min (block - 1) (total / 128))
      ⊎ (block - 1 + blocks_of (length words) ≤ j)) → after (slice_index new j) ≡ before (slice_index old j)
  still_there j below out =
      let there = unwritten j below out in
      let is = placed.stays j (omega arith) out in
      ap after is.0 ∙ is.1 ∙ same (slice_index longer j) ∙ ap before (front j there)

  -- each place is written or not
  which : (j : ℕ) → ((j < min (block - 1) (total / 128)) ⊎ (block - 1 + blocks_of (length words) ≤ j))
      ⊎ ((min (block - 1) (total / 128) ≤ j) × (j < block - 1 + blocks_of (length words)))
  which j = ⊎_elim (λ (a : j < min (block - 1) (total / 128)). inl (inl a))
      (λ (b : min (block - 1) (total / 128) ≤ j). ⊎_elim (λ (c : j < block - 1 + blocks_of (length words)). inr (b, c))
      (λ (d : block - 1 + blocks_of (length words) ≤ j). inl (inr d))
      (below_or_not j (block - 1 + blocks_of (length words))))
      (below_or_not j (min (block - 1) (total / 128)))

  module _ (body : List ℕ) (is : length body ≡ total) (whole : AreWhole before old) (has : HasBody before old body)
      (stays : Stays body (min (block - 1) (total / 128)) (block - 1) (length words) place kept) where
    after_length : length (splice body block words) ≡ max total (block_start block + length words)
    after_length = length-splice body block words ∙ ap (λ (n : ℕ). length_after n block (length words)) is
        ∙ after_some total block (length words) some

    apart_from : (j k : ℕ) → k < 128 → (j < min (block - 1) (total / 128)) ⊎ (block - 1 + blocks_of (length words) ≤ j)
        → (j * 128 + k < block_start block) ⊎ (block_start block + length words ≤ j * 128 + k)
    apart_from j k few (inl first) = inl (omega arith)
    apart_from j k few (inr last) = inr (omega arith)

    inside_old : (j k : ℕ) → k < 128 → (j < min (block - 1) (total / 128)) ⊎ (block - 1 + blocks_of (length words) ≤ j)
        → j * 128 + k < length (splice body block words) → j * 128 + k < length body
    inside_old j k few (inl first) inside = omega arith
    inside_old j k few (inr last) inside = let l = after_length in omega arith

    old_part : (j : ℕ) → j < length new → (j < min (block - 1) (total / 128))
        ⊎ (block - 1 + blocks_of (length words) ≤ j) → HoldsPart after (slice_index new j) j (splice body block words)
    old_part j below out =
        let was = part_of before old body whole has j (unwritten j below out) in
        record {
          words = was.words;
          is = still_there j below out ∙ was.is;
          whole = was.whole;
          each = λ k few inside. was.each k few (inside_old j k few out inside)
              ∙ sym (splice-outside body block words (j * 128 + k) (apart_from j k few out));
        }

    within : (p : ℕ) → ((p < block_start block) ⊎ (block_start block + length words ≤ p))
        ⊎ ((block_start block ≤ p) × (p < block_start block + length words))
    within p = ⊎_elim (λ (a : p < block_start block). inl (inl a))
        (λ (b : block_start block ≤ p). ⊎_elim (λ (c : p < block_start block + length words). inr (b, c))
        (λ (d : block_start block + length words ≤ p). inl (inr d)) (below_or_not p (block_start block + length words)))
        (below_or_not p (block_start block))

    new_part : (j : ℕ) → min (block - 1) (total / 128) ≤ j → j < block - 1 + blocks_of (length words)
        → HoldsPart after (slice_index new j) j (splice body block words)
    new_part j from upto =
        let now = placed.placed j from upto in
        record {
          words = now.new;
          is = now.is;
          whole = now.is_new.whole;
          each = λ k few inside. ⊎_elim
              (λ (out : (j * 128 + k < block_start block) ⊎ (block_start block + length words ≤ j * 128 + k)).
              now.is_new.kept_is k few out ∙ stays (j * 128 + k) (omega arith) (omega arith) out
              ∙ sym (splice-outside body block words (j * 128 + k) out))
              (λ (put : (block_start block ≤ j * 128 + k) × (j * 128 + k < block_start block + length words)).
              let a = put.0 in
              let b = put.1 in
              let e : block_start block + (j * 128 + k - block_start block) ≡ j * 128 + k = omega arith in
              now.is_new.put k few a b ∙ sym (splice-inside body block words (j * 128 + k - block_start block)
              (omega arith)) ∙ ap (slice_index (splice body block words)) e)
              (within (j * 128 + k));
        }

    pub body_put : HasBody after new (splice body block words)
    body_put = body_of after new (splice body block words) (let l = after_length in omega arith) (λ j below. ⊎_elim
        (λ (out : (j < min (block - 1) (total / 128)) ⊎ (block - 1 + blocks_of (length words) ≤ j)).
        old_part j below out)
        (λ (in_range : (min (block - 1) (total / 128) ≤ j) × (j < block - 1 + blocks_of (length words))).
        new_part j in_range.0 in_range.1)
        (which j))
