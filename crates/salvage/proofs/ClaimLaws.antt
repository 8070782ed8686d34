-- Blocks that are claimed one after the other.
use Rattle.std.proofs.Common.{◌≡◌, ℕ, ◌+◌, ◌<◌, ◌≤◌, List, [], ◌∷◌, ◌++◌, length, get_or, slice_index, take, drop, sym}
use Rattle.std.proofs.Common.{ap, ◌∙◌, arith, ⊎_elim, Option, None, Some}
use Rattle.std.proofs.lemmas.Bool.{cases_eq}
use Rattle.std.proofs.lemmas.List.{take-append-drop, get_or_default}
use Rattle.spec_image.specs.Common.{times}
use Rattle.spec_image.proofs.Common.{times-append}
use Rattle.changeset.specs.Common.{times_head, times_tail}
use Rattle.salvage.specs.Common.{AreClaimed}
use Rattle.salvage.proofs.CountLaws.{times_more, times_all}

pub claimed_none : (counts : List ℕ) → AreClaimed counts counts [] None
claimed_none counts m = omega arith

-- The blocks of a list, one by one.

pub claimed_more : (old now new blocks : List ℕ) (i b : ℕ) → i < length blocks → b ≡ get_or blocks i 0
    → AreClaimed old now (take i blocks) None → AreClaimed now new (b ∷ []) None
    → AreClaimed old new (take (i + 1) blocks) None
claimed_more old now new blocks i b below is first second m =
    omega (arith, first m, second m, times_more blocks i b below is m)

pub claimed_all : (old new blocks : List ℕ) (i : ℕ) → length blocks ≤ i → AreClaimed old new (take i blocks) None
    → AreClaimed old new blocks None
claimed_all old new blocks i past claimed m = omega (arith, claimed m, times_all blocks i past m)

-- One of them has four claims already.
pub claimed_to : (old now new blocks : List ℕ) (i b : ℕ) → i < length blocks → b ≡ get_or blocks i 0
    → AreClaimed old now (take i blocks) None → new ≡ now → slice_index now b ≡ 4
    → AreClaimed old new blocks (Some b)
claimed_to old now new blocks i b below is claimed same full =
    let one : times b (b ∷ []) ≡ 1 = times_head b b [] (λ i. b) in
    let more = times_more blocks i b below is b in
    let so_far = claimed b in
    let all = parts b (i + 1) in (
      omega arith,
      omega arith,
      λ m. let e = ap (λ (l : List ℕ). slice_index l m) same in let here = claimed m in let both = parts m i in
          (omega arith, omega arith),
    )
  where
    parts : (m k : ℕ) → times m blocks ≡ times m (take k blocks) + times m (drop k blocks)
    parts m k = ap (times m) (sym (take-append-drop k blocks)) ∙ times-append m (take k blocks) (drop k blocks)

-- Two lists, one after the other.

pub claimed_then : (old now new xs ys : List ℕ) (met : Option ℕ) → AreClaimed old now xs None
    → AreClaimed now new ys met → AreClaimed old new (xs ++ ys) met
claimed_then old now new xs ys None first second =
    λ m. omega (arith, first m, second m, times-append m xs ys)
claimed_then old now new xs ys (Some n) first second = (
  omega (arith, second.0, times-append n xs ys),
  omega (arith, first n, second.1, times-append n xs ys),
  λ m. let e = first m in let both = times-append m xs ys in let step = second.2 m in
      let least = step.0 in let most = step.1 in (omega arith, omega arith),
)

pub claimed_until : (old new xs ys : List ℕ) (n : ℕ) → AreClaimed old new xs (Some n)
    → AreClaimed old new (xs ++ ys) (Some n)
claimed_until old new xs ys n claimed = (
  omega (arith, claimed.0, times-append n xs ys),
  omega (arith, claimed.1, times-append n xs ys),
  λ m. let both = times-append m xs ys in let step = claimed.2 m in
      let least = step.0 in let most = step.1 in (omega arith, omega arith),
)

-- A block that has four claims already.
pub claimed_full : (old new : List ℕ) (n : ℕ) → new ≡ old → slice_index old n ≡ 4 → AreClaimed old new (n ∷ []) (Some n)
claimed_full old new n same full =
    let one : times n (n ∷ []) ≡ 1 = times_head n n [] (λ i. n) in (
      omega arith,
      omega arith,
      λ m. let e = ap (λ (l : List ℕ). slice_index l m) same in (omega arith, omega arith),
    )

-- how many claims a block has, read from the counts themselves
pub claims_at : (counts items : List ℕ) (b claims : ℕ) → counts ≡ items → b < length counts
    → claims ≡ get_or items b claims → slice_index counts b ≡ claims
claims_at counts items b claims same below is = get_or_default counts b 0 claims below
    ∙ ap (λ (l : List ℕ). get_or l b claims) same ∙ sym is

-- Of these blocks none has four claims.
pub open_more : (counts blocks : List ℕ) (i b : ℕ) → i < length blocks → b ≡ get_or blocks i 0
    → slice_index counts b < 4 → ((n : ℕ) → 0 < times n (take i blocks) → slice_index counts n < 4) → (n : ℕ)
    → 0 < times n (take (i + 1) blocks) → slice_index counts n < 4
open_more counts blocks i b below is few so_far n among = ⊎_elim
    (λ same. let e = ap (slice_index counts) same in omega arith)
    (λ other. let none = times_tail n b [] other in so_far n (omega (arith, times_more blocks i b below is n)))
    (cases_eq n b)
