-- What an edit of a list leaves of a stretch of it.
use Rattle.std.proofs.Common.{◌≡◌, ◌⊎◌, ℕ, ◌+◌, ◌-◌, ◌<◌, ◌≤◌, List, ◌++◌, length, take, drop, slice_set, map, min}
use Rattle.std.proofs.Common.{sym, ap, ◌∙◌, arith, inl, inr}
use Rattle.std.proofs.lemmas.List.{drop-take, take-take, take-append-le, take-set-le, drop-set-lt, take_rest}
use Rattle.std.proofs.lemmas.List.{take_min, take-map, drop-map}

module _ {X : Type 0} where
  -- a stretch ends with the first n + m elements
  pub window : (n m : ℕ) (xs : List X) → take m (drop n xs) ≡ drop n (take (n + m) xs)
  window n m xs = sym (drop-take n m xs)

  -- if the first elements are the same, so is a stretch of them
  pub window_front : (n m : ℕ) (xs ys : List X) → take (n + m) xs ≡ take (n + m) ys
      → take m (drop n xs) ≡ take m (drop n ys)
  window_front n m xs ys e = window n m xs ∙ ap (drop n) e ∙ sym (window n m ys)

  pub window_set : (n m : ℕ) (xs : List X) (i : ℕ) (x : X) → (n + m ≤ i) ⊎ (i < n)
      → take m (drop n (slice_set xs i x)) ≡ take m (drop n xs)
  window_set n m xs i x (inl behind) = window_front n m (slice_set xs i x) xs (take-set-le (n + m) xs i x behind)
  window_set n m xs i x (inr before) = ap (take m) (drop-set-lt n xs i x before)

  pub window_more : (n m : ℕ) (xs ys : List X) → n + m ≤ length xs → take m (drop n (xs ++ ys)) ≡ take m (drop n xs)
  window_more n m xs ys h = window_front n m (xs ++ ys) xs (take-append-le (n + m) xs ys h)

  pub window_fewer : (n m k : ℕ) (xs : List X) → n + m ≤ k → take m (drop n (take k xs)) ≡ take m (drop n xs)
  window_fewer n m k xs h = window_front n m (take k xs) xs (take-take (n + m) k xs h)

-- the entries of a block, as they are sliced
pub sliced : {E X : Type 0} (view : E → X) (es : List E) (n m count : ℕ)
    → count ≡ min (length (take (length es - n) (drop n es))) m
    → map view (take count (take (length es - n) (drop n es))) ≡ take m (drop n (map view es))
sliced view es n m count is =
    let rest = drop n es in
    let whole : take (length es - n) rest ≡ rest = take_rest es n in
    let size : count ≡ min m (length rest) = let e = ap length whole in omega arith in
    ap (λ xs. map view (take count xs)) whole
    ∙ ap (λ k. map view (take k rest)) size
    ∙ ap (map view) (take_min m rest)
    ∙ sym (take-map view m rest)
    ∙ ap (take m) (sym (drop-map view n es))
