-- Places of lists: how many there are after a list grows.
use Rattle.std.proofs.Common.{◌≡◌, ◌⊎◌, inl, inr, ℕ, suc, ◌*◌, ◌^◌, ◌<◌, ◌≤◌, arith, ap}
use Rattle.std.proofs.lemmas.Nat.{pow_below}
use native.Mathlib.Nat.{pow-suc}
use Rattle.spec_image.proofs.Common.{below_or_not}
use Rattle.directory.specs.Common.{IsFull, HasPlaces}

-- a power of two that isn't above n is not above the greatest one
pow_least : (n k j : ℕ) → n < 2 * 2 ^ k → 2 ^ j ≤ n → 2 ^ j ≤ 2 ^ k
pow_least n k j above low = step (below_or_not k j)
  where
    step : (k < j) ⊎ (j ≤ k) → 2 ^ j ≤ 2 ^ k
    step (inl h) = absurd (let e = twice (below_or_not (suc k) j) in omega arith)
      where
        twice : (suc k < j) ⊎ (j ≤ suc k) → 2 * 2 ^ k ≤ 2 ^ j
        twice (inl more) = let p = pow_below (suc k) j more in omega (arith, pow-suc 2 k)
        twice (inr less) = let same : j ≡ suc k = omega arith in
            let e : 2 ^ j ≡ 2 ^ suc k = ap (λ i. 2 ^ i) same in omega (arith, pow-suc 2 k)
    step (inr h) = same_or (below_or_not j k)
      where
        same_or : (j < k) ⊎ (k ≤ j) → 2 ^ j ≤ 2 ^ k
        same_or (inl less) = let p = pow_below j k less in omega arith
        same_or (inr more) = let same : j ≡ k = omega arith in
            let e : 2 ^ j ≡ 2 ^ k = ap (λ i. 2 ^ i) same in omega arith

-- between two powers of two there is no other
pub not_full : (n k : ℕ) → 2 ^ k < n → n < 2 * 2 ^ k → IsFull n → ⊥
not_full n k low high (inl e) = omega arith
not_full n k low high (inr (j, e)) = let p = pow_least n k j high (omega arith) in omega arith

-- a list between two powers of two has a place, and as many as it must after that is taken
pub grown_within : (n k c : ℕ) → 2 ^ k < n → n < 2 * 2 ^ k → HasPlaces n c → HasPlaces (suc n) c
grown_within n k c low high h = record {
  within = let e = h.doubled k low in omega arith;
  doubled = λ j below. let e = h.doubled k low in let p = pow_least n k j high (omega arith) in omega arith;
}

-- a list with no elements needs none
pub none_needed : (n c : ℕ) → n ≡ 0 → HasPlaces n c
none_needed n c none = record {
  within = omega arith;
  doubled = λ k below. absurd (omega arith);
}
