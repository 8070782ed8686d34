-- The words of a body that stay in the blocks that are written.
use Rattle.std.proofs.Common.{◌≡◌, ◌⊎◌, ⊎_elim, inl, inr, ℕ, ◌+◌, ◌-◌, ◌*◌, ◌/◌, ◌%◌, ◌<◌, ◌≤◌, List, ◌++◌, Some}
use Rattle.std.proofs.Common.{None, length, min, take, drop, replicate, refl, sym, ◌∙◌, ap, subst, arith}
use Rattle.std.specs.Prelude.{slice_index, Bool, true, false, if◌then◌else◌, ◌==◌}
use Rattle.std.proofs.lemmas.Bool.{cases_eq}
use Rattle.std.proofs.lemmas.List.{length-take, get_or-drop, get_or-replicate, get_or_past, get_or-append_right}
use Rattle.blockdisk.specs.Common.{Contents}
use Rattle.spec_image.specs.Common.{blocks_of, HasBody}
use Rattle.retrieval.specs.Common.{AreWhole, unchanged_word, IsEdge, IsEdgeBlock, Stays}
use Rattle.retrieval.proofs.NewBlocks.{same_block, other_block}
use Rattle.retrieval.proofs.Parts.{HoldsPart, part_of}
use Rattle.spec_image.proofs.Common.{below_or_not}

either : (b : Bool) (x : ℕ) → x ≡ 0 → (if b then x else 0) ≡ 0
either true x is = is
either false x is = refl

-- no word stays anywhere
pub stays_none : (body : List ℕ) (total at count place : ℕ) → length body ≡ total → (total < at * 128 → total % 128 ≡ 0)
    → (at * 128 + count < total → (at * 128 + count) % 128 ≡ 0)
    → Stays body (min at (total / 128)) at count place (replicate 128 0)
stays_none body total at count place is behind inside p from below out = zero_word p
    ∙ sym (get_or_past body p 0 (past out))
  where
    zero_word : (p : ℕ) → unchanged_word place (replicate 128 0) p ≡ 0
    zero_word p = either (p / 128 == place) (slice_index (replicate 128 0) (p % 128))
        (get_or-replicate 128 (p % 128) 0 0 (omega arith))

    past : (p < at * 128) ⊎ (at * 128 + count ≤ p) → length body ≤ p
    past (inl before) = ⊎_elim (λ (a : total < at * 128). let e = behind a in
        omega arith) (λ (b : at * 128 ≤ total). absurd (omega arith)) (below_or_not total (at * 128))
    past (inr after) = ⊎_elim (λ (a : at * 128 + count < total). let e = inside a in
        absurd (omega arith)) (λ (b : total ≤ at * 128 + count). omega arith) (below_or_not (at * 128 + count) total)

-- words stay in one block
module _ (contents : Contents) (blocks body : List ℕ) (whole : AreWhole contents blocks)
    (has : HasBody contents blocks body) (total at count place : ℕ) (got kept : List ℕ) (is : length body
    ≡ total) (below : place < length blocks)
    (read : contents (slice_index blocks place) ≡ Some got) (edge : IsEdge total at count place) (front : (k : ℕ)
    → k < 128 → k < total - place * 128 → slice_index kept k ≡ slice_index got k)
    (zeros : (k : ℕ) → k < 128 → total - place * 128 ≤ k → slice_index kept k ≡ 0) where
  part : HoldsPart contents (slice_index blocks place) place body
  part = part_of contents blocks body whole has place below

  same : part.words ≡ got
  same = let e : Some part.words ≡ Some got = sym part.is ∙ read in cc

  in_block : (i k : ℕ) → i ≡ place → k < 128 → unchanged_word place kept (i * 128 + k) ≡ slice_index body (i * 128 + k)
  in_block i k here few = same_block place kept i k here few ∙ ⊎_elim
      (λ (some : k < total - place * 128). let e : place * 128 + k ≡ i * 128 + k = omega arith in
      front k few some ∙ sym (ap (λ (l : List ℕ). slice_index l k) same) ∙ part.each k few (omega arith)
      ∙ ap (slice_index body) e)
      (λ (none : total - place * 128 ≤ k). zeros k few none ∙ sym (get_or_past body (i * 128 + k) 0 (omega arith)))
      (below_or_not k (total - place * 128))

  past_edge : (i k : ℕ) → (i ≡ place → ⊥) → k < 128 → min at (total / 128) * 128 ≤ i * 128 + k
      → i * 128 + k < (at + blocks_of count) * 128
      → (i * 128 + k < at * 128) ⊎ (at * 128 + count ≤ i * 128 + k) → IsEdge total at count place
      → length body ≤ i * 128 + k
  past_edge i k other few from below (inl before) (inl behind) = let a = behind.0 in let b = behind.1 in omega arith
  past_edge i k other few from below (inr after) (inl behind) = let a = behind.0 in let b = behind.1 in omega arith
  past_edge i k other few from below (inl before) (inr inside) = let a = inside.0 in absurd (omega arith)
  past_edge i k other few from below (inr after) (inr inside) = let a = inside.0 in let b = inside.1 in
      absurd (other (omega arith))

  at_place : (i k : ℕ) → k < 128 → min at (total / 128) * 128 ≤ i * 128 + k → i * 128 + k < (at + blocks_of count) * 128
      → (i * 128 + k < at * 128) ⊎ (at * 128 + count ≤ i * 128 + k) → unchanged_word place kept (i * 128 + k)
      ≡ slice_index body (i * 128 + k)
  at_place i k few from below out = ⊎_elim
      (λ (here : i ≡ place). in_block i k here few)
      (λ (other : i ≡ place → ⊥). other_block place kept i k other few
      ∙ sym (get_or_past body (i * 128 + k) 0 (past_edge i k other few from below out edge)))
      (cases_eq i place)

  pub stays_some : Stays body (min at (total / 128)) at count place kept
  stays_some p from below out =
      let e : p / 128 * 128 + p % 128 ≡ p = omega arith in
      subst (λ (q : ℕ). min at (total / 128) * 128 ≤ q → q < (at + blocks_of count) * 128
      → (q < at * 128) ⊎ (at * 128 + count ≤ q) → unchanged_word place kept q ≡ slice_index body q) e
      (at_place (p / 128) (p % 128) (omega arith)) from below out

-- The first words of a block, with zeros after them.
module _ (block these front : List ℕ) (count n : ℕ) (is : n ≡ min count 128) (long : length block ≡ 128) (copied : these
    ≡ take n block) (front_is : front ≡ these ++ drop n (replicate 128 0)) where
  pub front_zeros : (k : ℕ) → k < 128 → count ≤ k → slice_index front k ≡ 0
  front_zeros k few past =
      let a = ap length copied ∙ length-take n block in
      ap (λ (l : List ℕ). slice_index l k) front_is
      ∙ get_or-append_right these (drop n (replicate 128 0)) n k 0 (omega arith) (omega arith)
      ∙ get_or-drop n (replicate 128 0) (k - n) 0
      ∙ get_or-replicate 128 (n + (k - n)) 0 0 (omega arith)

pub edge_below : (total at count place had : ℕ) → IsEdge total at count place → had ≡ blocks_of total → place < had
edge_below total at count place had (inl behind) is = let a = behind.0 in let b = behind.1 in omega arith
edge_below total at count place had (inr inside) is = let a = inside.0 in let b = inside.1 in omega arith

-- Words stay in at most one block.
edge_once : (total at count place other : ℕ) → IsEdge total at count place → IsEdge total at count other → place ≡ other
edge_once total at count place other (inl a) (inl b) = a.2 ∙ sym b.2
edge_once total at count place other (inr a) (inr b) = a.2 ∙ sym b.2
edge_once total at count place other (inl a) (inr b) = let e = a.0 in let f = b.0 in absurd (omega arith)
edge_once total at count place other (inr a) (inl b) = let e = a.0 in let f = b.0 in absurd (omega arith)

pub no_edge : (blocks : List ℕ) (total at count : ℕ) → (total < at * 128 → total % 128 ≡ 0)
    → (at * 128 + count < total → (at * 128 + count) % 128 ≡ 0) → (n : ℕ) → IsEdgeBlock blocks total at count n → ⊥
no_edge blocks total at count behind inside n is = ⊎_elim
    (λ a. let e = behind a.0 in let f = a.1 in omega arith)
    (λ b. let e = inside b.0 in let f = b.1 in omega arith) is.edge

pub edge_whole : (contents : Contents) (blocks got : List ℕ) (total at count place : ℕ) → IsEdge total at count place
    → contents (slice_index blocks place) ≡ Some got → (n : ℕ) → IsEdgeBlock blocks total at count n
    → contents n ≡ None → ⊥
edge_whole contents blocks got total at count place edge read n is none =
    let same = edge_once total at count place is.place edge is.edge in
    let here : slice_index blocks place ≡ n = ap (slice_index blocks) same ∙ is.is in
    let both : Some got ≡ None = sym read ∙ ap contents here ∙ none in
    cc
