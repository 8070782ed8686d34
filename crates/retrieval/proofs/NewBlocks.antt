-- The new words of a block: those that are put, and over the rest those that stay.
use Rattle.std.proofs.Common.{◌≡◌, ◌⊎◌, inl, inr, ℕ, ◌+◌, ◌-◌, ◌*◌, ◌/◌, ◌%◌, ◌<◌, ◌≤◌, List, ◌++◌, length, min, take}
use Rattle.std.proofs.Common.{drop, replicate, sym, ◌∙◌, ap, arith}
use Rattle.std.specs.Prelude.{slice_index}
use Rattle.std.proofs.lemmas.Bool.Decides.{nat_tests}
use Rattle.std.proofs.lemmas.List.{length-append, length-take, length-drop, get_or-take, get_or-drop}
use Rattle.std.proofs.lemmas.List.{get_or-replicate, get_or_append_left, get_or-append_right}
use Rattle.retrieval.specs.Common.{unchanged_word, IsNewBlock}

-- no word stays in a block except one
pub other_block : (place : ℕ) (kept : List ℕ) (i k : ℕ) → (i ≡ place → ⊥) → k < 128
    → unchanged_word place kept (i * 128 + k) ≡ 0
other_block place kept i k other few = let e : (i * 128 + k) / 128 ≡ i = omega arith in grind (arith, nat_tests)

pub same_block : (place : ℕ) (kept : List ℕ) (i k : ℕ) → i ≡ place → k < 128
    → unchanged_word place kept (i * 128 + k) ≡ slice_index kept k
same_block place kept i k same few =
    let e : (i * 128 + k) / 128 ≡ place = omega arith in
    let f : (i * 128 + k) % 128 ≡ k = omega arith in
    let g = ap (slice_index kept) f in
    grind (arith, nat_tests)

pub no_words : (place : ℕ) (kept : List ℕ) (i : ℕ) → (i ≡ place → ⊥) → (k : ℕ) → k < 128
    → slice_index (replicate 128 0) k ≡ unchanged_word place kept (i * 128 + k)
no_words place kept i other k few = get_or-replicate 128 k 0 0 few ∙ sym (other_block place kept i k other few)

pub new_of : (at : ℕ) (words : List ℕ) (place : ℕ) (kept : List ℕ) (i : ℕ) (block these new : List ℕ)
    → length block ≡ 128 → at ≤ i → (i - at) * 128 ≤ length words
    → ((k : ℕ) → k < 128 → slice_index block k ≡ unchanged_word place kept (i * 128 + k))
    → these ≡ take (length words - (i - at) * 128) (drop ((i - at) * 128) words)
    → new ≡ take (min (length these) 128) these ++ drop (min (length these) 128) block
    → IsNewBlock at words place kept i new
new_of at words place kept i block these new long after fits stays these_are is = record {
  whole = let a = ap length is ∙ length-append (take n these) (drop n block) in let b = length-take n these in
      let c = length-drop n block in omega arith;
  put = put;
  kept_is = kept_is;
}
  where
    n : ℕ
    n = min (length these) 128

    count : length these ≡ length words - (i - at) * 128
    count =
        let a = length-drop ((i - at) * 128) words in
        let b = length-take (length words - (i - at) * 128) (drop ((i - at) * 128) words) in
        let c = ap length these_are in
        omega arith

    put : (k : ℕ) → k < 128 → at * 128 ≤ i * 128 + k → i * 128 + k < at * 128 + length words
        → slice_index new k ≡ slice_index words (i * 128 + k - at * 128)
    put k few from below =
        let c = count in
        let b = length-take (min (length these) 128) these in
        let e : (i - at) * 128 + k ≡ i * 128 + k - at * 128 = omega arith in
        ap (λ (l : List ℕ). slice_index l k) is
        ∙ get_or_append_left (take (min (length these) 128) these) (drop (min (length these) 128) block) 0 k
        (omega arith)
        ∙ get_or-take (min (length these) 128) these k 0 (omega arith) ∙ ap (λ (l : List ℕ). slice_index l k) these_are
        ∙ get_or-take (length words - (i - at) * 128) (drop ((i - at) * 128) words) k 0 (omega arith)
        ∙ get_or-drop ((i - at) * 128) words k 0 ∙ ap (slice_index words) e

    kept_is : (k : ℕ) → k < 128 → (i * 128 + k < at * 128) ⊎ (at * 128 + length words ≤ i * 128 + k)
        → slice_index new k ≡ unchanged_word place kept (i * 128 + k)
    kept_is k few (inl below) = absurd (omega arith)
    kept_is k few (inr past) =
        let c = count in
        let b = length-take (min (length these) 128) these in
        let e : min (length these) 128 + (k - min (length these) 128) ≡ k = omega arith in
        ap (λ (l : List ℕ). slice_index l k) is
        ∙ get_or-append_right (take (min (length these) 128) these) (drop (min (length these) 128) block)
        (min (length these) 128) k 0 (omega arith) (omega arith)
        ∙ get_or-drop (min (length these) 128) block (k - min (length these) 128) 0 ∙ ap (slice_index block) e
        ∙ stays k few
