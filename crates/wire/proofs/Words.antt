-- The words that bytes are, eight bytes each.
use Rattle.std.proofs.Common.{◌≡◌, ◌⊎◌, ◌*◌, ◌/◌, ◌<◌, ◌≤◌, ◌^◌, ℕ, zero, suc, List, length, map, get_or, refl, sym, ap}
use Rattle.std.proofs.Common.{subst, ◌∙◌, inl, inr, All, nat_lt, true, false, arith}
use Rattle.std.proofs.lemmas.Bool.Decides.{nat_tests}
use Rattle.std.proofs.lemmas.List.FromFn.{length-map-range_with_len, get_or-map-range_with_len}
use Rattle.std.proofs.lemmas.Bool.{cases_lt}
use Rattle.std.specs.List.{range_with_len}
use Rattle.words36.specs.Common.{IsWord, number_at, block_bytes, IsFirstBadWord}
use Rattle.words36.proofs.BlockLaws.{block_bytes-read, number_at-block_bytes, length-block_bytes}

-- the first n numbers in bytes
unfoldable pub words_in : List ℕ → ℕ → List ℕ
words_in bytes n = map (number_at bytes) (range_with_len 0 n)

pub record AreSpelled (bytes : List ℕ) (words : List ℕ) (n : ℕ) : Type 0 where
  pub each : All IsWord words
  pub long : length words ≡ n
  pub bytes_are : block_bytes words ≡ bytes

-- bytes whose numbers are words spell these
pub words_read : (bytes : List ℕ) (n : ℕ) → ((j : ℕ) → get_or bytes j 0 < 256) → length bytes ≡ 8 * n
    → ((k : ℕ) → k < n → IsWord (number_at bytes k)) → AreSpelled bytes (words_in bytes n) n
unfolding words_in
words_read bytes n small long fit =
    let words = map (number_at bytes) (range_with_len 0 n) in
    let count : length words ≡ n = length-map-range_with_len (number_at bytes) 0 n in
    let at = λ (k : ℕ) (d : ℕ) (h : k < n). get_or-map-range_with_len (number_at bytes) 0 n k k d h (omega arith) in
    record {
      each = λ k d h. subst IsWord (sym (at k d (omega (arith, count, h)))) (fit k (omega (arith, count, h)));
      long = count;
      bytes_are = block_bytes-read bytes words n small long count (record {
        value = λ k h. at k 0 h;
        fits = fit;
      });
    }

-- all numbers are words, or there is a first one that isn't
pub good_or_bad : (bytes : List ℕ) (n : ℕ)
    → ((k : ℕ) → k < n → IsWord (number_at bytes k)) ⊎ ((place : ℕ) × IsFirstBadWord n bytes place)
good_or_bad bytes zero = inl (λ k h. omega (arith, h))
good_or_bad bytes (suc n) = elim (good_or_bad bytes n) [
  | inl good ↦ (elim (nat_lt (number_at bytes n) (2 ^ 36)) as (λ b. nat_lt (number_at bytes n) (2 ^ 36) ≡ b
      → ((k : ℕ) → k < suc n → IsWord (number_at bytes k)) ⊎ ((place : ℕ) × IsFirstBadWord (suc n) bytes place)) [
        | true ↦ λ t. inl (λ k h. last k h good (small t))
        | false ↦ λ t. inr (n, record { inside = omega arith; bad = large t; first = good })
      ]) refl
  | inr bad ↦ inr (bad.0, record { inside = omega (arith, bad.1.inside); bad = bad.1.bad; first = bad.1.first })
]
  where
    small : nat_lt (number_at bytes n) (2 ^ 36) ≡ true → IsWord (number_at bytes n)
    small t = grind (arith, nat_tests)

    large : nat_lt (number_at bytes n) (2 ^ 36) ≡ false → 2 ^ 36 ≤ number_at bytes n
    large t = grind (arith, nat_tests)

    last : (k : ℕ) → k < suc n → ((j : ℕ) → j < n → IsWord (number_at bytes j)) → IsWord (number_at bytes n)
        → IsWord (number_at bytes k)
    last k h good here = elim (cases_lt k n) [
      | inl before ↦ good k before
      | inr not_before ↦ subst (λ (j : ℕ). IsWord (number_at bytes j)) (same k h not_before) here
    ]
      where
        same : (k : ℕ) → k < suc n → n ≤ k → n ≡ k
        same k h q = omega (arith, h, q)

-- the numbers in these bytes are these words
pub record AreNumbers (bytes words : List ℕ) : Type 0 where
  pub long : length bytes ≡ 8 * length words
  pub at : (k : ℕ) → k < length words → number_at bytes k ≡ get_or words k 0
  pub fits : (k : ℕ) → k < length words → IsWord (number_at bytes k)

pub numbers_of : (bytes words : List ℕ) → All IsWord words → block_bytes words ≡ bytes → AreNumbers bytes words
numbers_of bytes words each is = record {
  long = ap length (sym is) ∙ length-block_bytes words;
  at = at;
  fits = λ k h. subst IsWord (sym (at k h)) (each k 0 h);
}
  where
    at : (k : ℕ) → k < length words → number_at bytes k ≡ get_or words k 0
    at k h = ap (λ l. number_at l k) (sym is) ∙ number_at-block_bytes words k h (each k 0 h)

-- no number of such bytes is more than a word
pub no_bad : (bytes words : List ℕ) (place : ℕ) → All IsWord words → block_bytes words ≡ bytes
    → IsFirstBadWord (length bytes / 8) bytes place → ⊥
no_bad bytes words place each is bad =
    let numbers = numbers_of bytes words each is in
    let inside : place < length words = omega (arith, bad.inside, numbers.long) in
    let fits : number_at bytes place < 2 ^ 36 = numbers.fits place inside in
    omega (arith, bad.bad)
