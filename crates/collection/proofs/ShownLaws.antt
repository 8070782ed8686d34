-- Paths as they are shown, byte by byte.
use Rattle.std.proofs.Common.{◌≡◌, ◌<◌, ◌≤◌, ◌+◌, ◌-◌, ◌++◌, ◌∙◌, ℕ, zero, suc, List, [], ◌∷◌, length, drop, ap}
use Rattle.std.proofs.Common.{arith, subst, sym}
use Rattle.std.specs.Prelude.{slice_index}
use Rattle.std.proofs.lemmas.List.{append_assoc, append-nil, drop_all, drop_more, get_or-drop}
use Rattle.collection.specs.HostNames.{hidden, shown, shown_after, shown_byte}

-- a byte that isn't shown
pub skips_one : (skipped : ℕ) (path : List ℕ) (place : ℕ) → 0 < skipped → place < length path
    → shown_after (skipped - 1) (drop (place + 1) path) ≡ shown_after skipped (drop place path)
skips_one zero path place some below = absurd (omega (arith, some))
skips_one (suc n) path place some below =
    let less : suc n - 1 ≡ n = omega arith in
    ap (λ (k : ℕ). shown_after k (drop (place + 1) path)) less
    ∙ sym (ap (shown_after (suc n)) (drop_more path place 0 below))

-- how many bytes the character at a place has, if it isn't shown
abbrev pub hidden_at : List ℕ → ℕ → ℕ
hidden_at path place =
    hidden (slice_index path place) (slice_index path (place + 1)) (slice_index path (place + 2))

-- the first byte of a character
pub shows_one : (path : List ℕ) (place : ℕ) → place < length path
    → shown_byte (hidden_at path place) (slice_index path place)
    ∷ shown_after (hidden_at path place - 1) (drop (place + 1) path) ≡ shown_after 0 (drop place path)
shows_one path place below =
    let rest : List ℕ = drop (place + 1) path in
    let first : ℕ = slice_index path place in
    let Shown : ℕ → ℕ → List ℕ =
    λ b c. shown_byte (hidden first b c) first ∷ shown_after (hidden first b c - 1) rest in
    let here : place + 1 + 0 ≡ place + 1 = omega arith in
    let there : place + 1 + 1 ≡ place + 2 = omega arith in
    let second : slice_index rest 0 ≡ slice_index path (place + 1) =
    get_or-drop (place + 1) path 0 0 ∙ ap (slice_index path) here in
    let third : slice_index rest 1 ≡ slice_index path (place + 2) =
    get_or-drop (place + 1) path 1 0 ∙ ap (slice_index path) there in
    sym (ap (shown_after 0) (drop_more path place 0 below) ∙ ap (λ b. Shown b (slice_index rest 1)) second
    ∙ ap (Shown (slice_index path (place + 1))) third)

-- one more byte was appended as it is shown
pub one_shown : (text more path : List ℕ) (place byte : ℕ) → place < length path
    → byte ≡ shown_byte (hidden_at path place) (slice_index path place) → more ≡ text ++ byte ∷ []
    → more ++ shown_after (hidden_at path place - 1) (drop (place + 1) path) ≡ text ++ shown_after 0 (drop place path)
one_shown text more path place byte below is pushed =
    ap (λ (l : List ℕ). l ++ shown_after (hidden_at path place - 1) (drop (place + 1) path)) pushed
    ∙ append_assoc text (byte ∷ []) _
    ∙ ap (λ (b : ℕ). text ++ b ∷ shown_after (hidden_at path place - 1) (drop (place + 1) path)) is
    ∙ ap (λ (l : List ℕ). text ++ l) (shows_one path place below)

-- all of it was appended
pub all_shown : (text more path : List ℕ) (place skipped : ℕ) → length path ≤ place
    → more ++ shown_after skipped (drop place path) ≡ text ++ shown path → more ≡ text ++ shown path
all_shown text more path place skipped past is =
    sym (append-nil more) ∙ ap (λ (l : List ℕ). more ++ shown_after skipped l) (sym (drop_all place path past)) ∙ is
