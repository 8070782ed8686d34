-- A core after words were written into it: those that were written are there, and all others stay.
use Rattle.std.proofs.Common.{◌≡◌, ◌⊎◌, inl, inr, ℕ, zero, suc, ◌+◌, ◌-◌, ◌<◌, ◌≤◌, List, [], ◌∷◌, ◌++◌, length, take}
use Rattle.std.proofs.Common.{drop, refl, ap, ◌∙◌, arith, drop-cons, append-nil}
use Rattle.std.specs.Prelude.{slice_index, slice_range, slice_set}
use Rattle.std.proofs.Math.ListN.{length-set}
use Rattle.std.proofs.lemmas.List.{drop-set-lt, drop-set-add, get_or-set_same, get_or-set_other, drop_all}
use Rattle.std.proofs.lemmas.List.{length-drop, length-take}
use Rattle.spec_machine.specs.Cores.{after_writes, placed}

pub writes_length : (core : List ℕ) (ws : List (ℕ × ℕ)) → length (after_writes core ws) ≡ length core
writes_length core [] = refl
writes_length core (w ∷ ws) = writes_length (slice_set core w.0 w.1) ws ∙ length-set core w.0 w.1

pub writes_append : (core : List ℕ) (xs ys : List (ℕ × ℕ))
    → after_writes core (xs ++ ys) ≡ after_writes (after_writes core xs) ys
writes_append core [] ys = refl
writes_append core (x ∷ xs) ys = writes_append (slice_set core x.0 x.1) xs ys

-- Single words.

pub spared : (core : List ℕ) (a : ℕ) (ws : List ℕ) (k : ℕ) → (k < a) ⊎ (a + length ws ≤ k)
    → slice_index (after_writes core (placed a ws)) k ≡ slice_index core k
spared core a [] k out = refl
spared core a (w ∷ ws) k (inl below) =
    spared (slice_set core a w) (a + 1) ws k (inl (omega arith))
    ∙ get_or-set_other core a k w 0 (λ e. omega (arith, e))
spared core a (w ∷ ws) k (inr past) =
    spared (slice_set core a w) (a + 1) ws k (inr (omega arith))
    ∙ get_or-set_other core a k w 0 (λ e. omega (arith, e))

pub found : (core : List ℕ) (a : ℕ) (ws : List ℕ) (i : ℕ) → i < length ws → a + i < length core
    → slice_index (after_writes core (placed a ws)) (a + i) ≡ slice_index ws i
found core a [] i few there = absurd (omega arith)
found core a (w ∷ ws) zero few there =
    let at : a + 0 ≡ a = omega arith in
    ap (slice_index (after_writes (slice_set core a w) (placed (a + 1) ws))) at
    ∙ spared (slice_set core a w) (a + 1) ws a (inl (omega arith))
    ∙ get_or-set_same core a w 0 (omega arith)
found core a (w ∷ ws) (suc i) few there =
    let at : a + suc i ≡ a + 1 + i = omega arith in
    ap (slice_index (after_writes (slice_set core a w) (placed (a + 1) ws))) at
    ∙ found (slice_set core a w) (a + 1) ws i (omega arith) (omega (arith, length-set core a w))

-- Consecutive words.

-- `count` words of a core from an address
abbrev pub window : List ℕ → ℕ → ℕ → List ℕ
window core a n = take n (drop a core)

pub range_window : (core : List ℕ) (a n : ℕ) → slice_range core a (a + n) ≡ window core a n
range_window core a n = let e : a + n - a ≡ n = omega arith in ap (λ k. take k (drop a core)) e

pub window-cons : (core : List ℕ) (a n : ℕ) → a < length core
    → window core a (suc n) ≡ slice_index core a ∷ window core (a + 1) n
window-cons core a n there =
    let next : suc a ≡ a + 1 = omega arith in
    ap (take (suc n)) (drop-cons core a 0 there) ∙ ap (λ k. slice_index core a ∷ take n (drop k core)) next

drop-writes : (core : List ℕ) (a i : ℕ) (ws : List ℕ)
    → drop a (after_writes core (placed (a + i) ws)) ≡ after_writes (drop a core) (placed i ws)
drop-writes core a i [] = refl
drop-writes core a i (w ∷ ws) =
    let at : a + i + 1 ≡ a + (i + 1) = omega arith in
    ap (λ k. drop a (after_writes (slice_set core (a + i) w) (placed k ws))) at
    ∙ drop-writes (slice_set core (a + i) w) a (i + 1) ws
    ∙ ap (λ xs. after_writes xs (placed (i + 1) ws)) (drop-set-add a core i w)

behind_first : (x : ℕ) (xs : List ℕ) (i : ℕ) (ws : List ℕ)
    → after_writes (x ∷ xs) (placed (suc i) ws) ≡ x ∷ after_writes xs (placed i ws)
behind_first x xs i [] = refl
behind_first x xs i (w ∷ ws) =
    let next : suc i + 1 ≡ suc (i + 1) = omega arith in
    ap (λ k. after_writes (x ∷ slice_set xs i w) (placed k ws)) next ∙ behind_first x (slice_set xs i w) (i + 1) ws

laid_over : (n : ℕ) (ws xs : List ℕ) → length ws ≤ n → n ≤ length xs
    → take n (after_writes xs (placed 0 ws)) ≡ ws ++ drop (length ws) (take n xs)
laid_over n [] xs few there = refl
laid_over zero (w ∷ ws) xs few there = absurd (omega arith)
laid_over (suc n) (w ∷ ws) [] few there = absurd (omega arith)
laid_over (suc n) (w ∷ ws) (x ∷ xs) few there =
    ap (take (suc n)) (behind_first w xs 0 ws)
    ∙ ap (λ ys. w ∷ ys) (laid_over n ws xs (omega arith) (omega arith))

-- words that are written at a window's first address, and what follows them
pub overlaid : (core : List ℕ) (a n : ℕ) (ws : List ℕ) → length ws ≤ n → a + n ≤ length core
    → window (after_writes core (placed a ws)) a n ≡ ws ++ drop (length ws) (window core a n)
overlaid core a n ws few there =
    let at : a ≡ a + 0 = omega arith in
    let more = length-drop a core in
    ap (λ k. take n (drop a (after_writes core (placed k ws)))) at ∙ ap (take n) (drop-writes core a 0 ws)
    ∙ laid_over n ws (drop a core) few (omega arith)

-- a window that is written whole
pub written : (core : List ℕ) (a n : ℕ) (ws : List ℕ) → length ws ≡ n → a + n ≤ length core
    → window (after_writes core (placed a ws)) a n ≡ ws
written core a n ws e there =
    let l = length-take n (drop a core) in
    overlaid core a n ws (omega arith) there
    ∙ ap (λ ys. ws ++ ys) (drop_all (length ws) (window core a n) (omega arith)) ∙ append-nil ws

-- words before a window
pub passed : (core : List ℕ) (a b : ℕ) (ws : List ℕ) → a + length ws ≤ b
    → drop b (after_writes core (placed a ws)) ≡ drop b core
passed core a b [] before = refl
passed core a b (w ∷ ws) before = passed (slice_set core a w) (a + 1) b ws (omega arith)
    ∙ drop-set-lt b core a w (omega arith)
