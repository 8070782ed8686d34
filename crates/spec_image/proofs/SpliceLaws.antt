-- A splice: how long it is, and each of its words.
use Rattle.std.proofs.Common.{◌≡◌, ℕ, ◌+◌, ◌-◌, ◌<◌, ◌≤◌, max, List, [], ◌∷◌, ◌++◌, length, replicate, take, drop}
use Rattle.std.proofs.Common.{refl, sym, ap, ◌∙◌, arith, ◌⊎◌, inl, inr}
use Rattle.std.specs.Prelude.{slice_index}
use Rattle.std.proofs.lemmas.List.{length-append, length-take, length-drop, length-replicate, get_or-take}
use Rattle.std.proofs.lemmas.List.{get_or-drop, get_or-replicate, get_or_past, get_or_append_left}
use Rattle.std.proofs.lemmas.List.{get_or-append_right}
use Rattle.std.proofs.lemmas.Bool.Decides.{nat_tests}
use Rattle.spec_image.specs.Splices.{splice, length_after, block_start}

-- a body before, zeros, words, and the body after
abbrev before : ℕ → List ℕ → List ℕ
before p body = take p body ++ replicate (p - length body) 0

length-before : (p : ℕ) (body : List ℕ) → length (before p body) ≡ p
length-before p body =
    let a = length-append (take p body) (replicate (p - length body) 0) in
    let b = length-take p body in
    let c = length-replicate {A = ℕ} (p - length body) 0 in
    omega arith

lengths : (p : ℕ) (body ws : List ℕ)
    → length (take p body ++ replicate (p - length body) 0 ++ ws ++ drop (p + length ws) body)
    ≡ max (length body) (p + length ws)
lengths p body ws =
    let a = length-append (take p body ++ replicate (p - length body) 0 ++ ws) (drop (p + length ws) body) in
    let b = length-append (take p body ++ replicate (p - length body) 0) ws in
    let c = length-append (take p body) (replicate (p - length body) 0) in
    let d = length-take p body in
    let e = length-drop (p + length ws) body in
    let f = length-replicate {A = ℕ} (p - length body) 0 in
    omega arith

pub length-splice : (body : List ℕ) (block : ℕ) (words : List ℕ) → length (splice body block words)
    ≡ length_after (length body) block (length words)
length-splice body block [] = refl
length-splice body block (w ∷ ws) = let h = lengths (block_start block) body (w ∷ ws) in grind arith

-- Words before the block are the body's, or zero if it has none.
before-index : (p : ℕ) (body : List ℕ) (i : ℕ) → i < p → (i < length body) ⊎ (length body ≤ i)
    → slice_index (before p body) i ≡ slice_index body i
before-index p body i below (inl there) =
    let l = length-take p body in
    get_or_append_left (take p body) (replicate (p - length body) 0) 0 i (omega arith) ∙ get_or-take p body i 0 below
before-index p body i below (inr past) =
    let l = length-take p body in
    get_or-append_right (take p body) (replicate (p - length body) 0) (length body) i 0 (omega arith) past
    ∙ get_or-replicate (p - length body) (i - length body) 0 0 (omega arith) ∙ sym (get_or_past body i 0 past)

pub below_or_not : (i n : ℕ) → (i < n) ⊎ (n ≤ i)
below_or_not i n = grind (arith, nat_tests)

-- a word outside what was put
pub splice-outside : (body : List ℕ) (block : ℕ) (words : List ℕ) (i : ℕ) → (i < block_start block)
    ⊎ (block_start block + length words ≤ i)
    → slice_index (splice body block words) i ≡ slice_index body i
splice-outside body block [] i out = refl
splice-outside body block (w ∷ ws) i (inl below) =
    let p = block_start block in
    let a = length-before p body in
    let b = length-append (before p body) (w ∷ ws) in
    get_or_append_left (before p body ++ (w ∷ ws)) (drop (p + length (w ∷ ws)) body) 0 i (omega arith)
    ∙ get_or_append_left (before p body) (w ∷ ws) 0 i (omega arith)
    ∙ before-index p body i below (below_or_not i (length body))
splice-outside body block (w ∷ ws) i (inr past) =
    let p = block_start block in
    let a = length-before p body in
    let b = length-append (before p body) (w ∷ ws) in
    get_or-append_right (before p body ++ (w ∷ ws)) (drop (p + length (w ∷ ws)) body) (p + length (w ∷ ws)) i 0
    (omega arith) past
    ∙ get_or-drop (p + length (w ∷ ws)) body (i - (p + length (w ∷ ws))) 0
    ∙ ap (slice_index body) (omega arith)

-- a word of what was put
pub splice-inside : (body : List ℕ) (block : ℕ) (words : List ℕ) (k : ℕ) → k < length words
    → slice_index (splice body block words) (block_start block + k) ≡ slice_index words k
splice-inside body block [] k few = omega (arith, few)
splice-inside body block (w ∷ ws) k few =
    let p = block_start block in
    let a = length-before p body in
    let b = length-append (before p body) (w ∷ ws) in
    get_or_append_left (before p body ++ (w ∷ ws)) (drop (p + length (w ∷ ws)) body) 0 (p + k) (omega arith)
    ∙ get_or-append_right (before p body) (w ∷ ws) p (p + k) 0 a (omega arith)
    ∙ ap (slice_index (w ∷ ws)) (omega arith)
