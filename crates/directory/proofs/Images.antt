-- A directory block whose entries are put in one after the other.
use Rattle.std.proofs.Common.{◌≡◌, ℕ, ◌+◌, ◌*◌, ◌-◌, ◌<◌, ◌≤◌, List, [], ◌∷◌, ◌++◌, map, length, get_or, take, drop}
use Rattle.std.proofs.Common.{replicate, flat_map, refl, sym, ap, ◌∙◌, arith, append_assoc, length-append, zero, suc}
use Rattle.std.proofs.lemmas.List.{length-map, length-take-le, flat_map_more, drop-replicate}
use Rattle.std.proofs.Math.Seq.{take-append_seam, drop-append-add}
use Rattle.spec_image.proofs.Common.{TellsApart}

pub length_words : {X : Type 0} (words : X → List ℕ) → TellsApart words → (xs : List X)
    → length (flat_map words xs) ≡ 3 * length xs
length_words words a [] = refl
length_words words a (x ∷ xs) =
    let head = a.three x in
    let rest = length_words words a xs in
    let e = length-append (words x) (flat_map words xs) in
    omega arith

taken_more : {E X : Type 0} (view : E → X) (es : List E) (i : ℕ) (d : E) → i < length es
    → take (suc i) (map view es) ≡ take i (map view es) ++ view (get_or es i d) ∷ []
taken_more view [] i d below = absurd (omega arith)
taken_more view (e ∷ es) zero d below = refl
taken_more view (e ∷ es) (suc i) d below = ap (λ vs. view e ∷ vs) (taken_more view es i d (omega arith))

words_more : {E X : Type 0} (view : E → X) (words : X → List ℕ) (es : List E) (i : ℕ) (d : E) → i < length es
    → d ≡ get_or es i d
    → flat_map words (take i (map view es)) ++ words (view d) ≡ flat_map words (take (i + 1) (map view es))
words_more view words es i d below is =
    let next : suc i ≡ i + 1 = omega arith in
    flat_map_more words [] (take i (map view es)) (view d)
    ∙ ap (λ e. flat_map words (take i (map view es) ++ view e ∷ [])) is
    ∙ ap (flat_map words) (sym (taken_more view es i d below))
    ∙ ap (λ k. flat_map words (take k (map view es))) next

-- an entry is put after those before it
pub entry_put : {E X : Type 0} (view : E → X) (words : X → List ℕ) → TellsApart words
    → (es : List E) (i : ℕ) (d : E) (first second : ℕ) (block written result : List ℕ) → length es ≤ 42 → i < length es
    → block ≡ first ∷ second ∷ (flat_map words (take i (map view es)) ++ replicate (126 - 3 * i) 0) → d ≡ get_or es i d
    → written ≡ words (view d)
    → result ≡ take (2 + 3 * i) block ++ (written ++ drop (2 + 3 * i + 3) block)
    → result ≡ first ∷ second ∷ (flat_map words (take (i + 1) (map view es)) ++ replicate (126 - 3 * (i + 1)) 0)
entry_put view words a es i d first second block written result few below is at_place w r =
    let before = take i (map view es) in
    let front = flat_map words before in
    let head = first ∷ second ∷ front in
    let zeros : List ℕ = replicate (126 - 3 * i) 0 in
    let rest : List ℕ = replicate (126 - 3 * (i + 1)) 0 in
    let entry = view d in
    let many = length-map es view in
    let taken : length before ≡ i = length-take-le i (map view es) (omega arith) in
    let counted = length_words words a before in
    let at : length head ≡ 2 + 3 * i = omega arith in
    let left : 126 - 3 * i - 3 ≡ 126 - 3 * (i + 1) = omega arith in
    r
    ∙ ap (λ b. take (2 + 3 * i) b ++ (written ++ drop (2 + 3 * i + 3) b)) is
    ∙ ap (λ k. take k (head ++ zeros) ++ (written ++ drop (k + 3) (head ++ zeros))) (sym at)
    ∙ (λ j. take-append_seam head zeros j ++ (w j ++ drop-append-add head zeros 3 j))
    ∙ ap (λ zs. head ++ (words entry ++ zs)) (drop-replicate 3 (126 - 3 * i) 0 ∙ ap (λ k. replicate k 0) left)
    ∙ sym (append_assoc head (words entry) rest)
    ∙ ap (λ fs. first ∷ second ∷ (fs ++ rest)) (words_more view words es i d below at_place)
