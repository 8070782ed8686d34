-- The bytes of an image by eight words at a time, and the search for a first number that is no word.
use Rattle.std.proofs.Common.{ℕ, zero, suc, ◌≡◌, ◌∙◌, ◌+◌, ◌-◌, ◌*◌, ◌/◌, ◌%◌, ◌^◌, ◌<◌, ◌≤◌, ◌↔◌, List}
use Rattle.std.proofs.Common.{length, get_or, drop, length-drop, replicate, bit_or, arith, refl, ap, sym, subst}
use Rattle.std.proofs.Common.{inl, inr, Option, None, Some, is_some, false, true≢false}
use Rattle.std.proofs.lemmas.Bool.{cases_lt}
use Rattle.std.proofs.lemmas.List.{get_or_past, get_or-drop}
use Rattle.std.proofs.lemmas.Nat.{or_lt, and_le_l, and_le_r, pow_pos}
use Rattle.std.proofs.lemmas.Simd.{get_or-zip2, get_or-replicate, length-zip2, length-chunk, get_or-chunk}
use lib.Bits.{or_add_and}
use lib.Lanes.{zip2, chunk}
use Rattle.words36.specs.Common.{IsWord, IsFirstBadWord, number_at}

-- A number of eight bytes is a word if the first three are zero and the fourth is below 16.

eight_bytes : (a b c d e f g h : ℕ) → a < 256 → b < 256 → c < 256 → d < 256 → e < 256 → f < 256 → g < 256 → h < 256
    → (a * 256 ^ 7 + b * 256 ^ 6 + c * 256 ^ 5 + d * 256 ^ 4 + e * 256 ^ 3 + f * 256 ^ 2 + g * 256 + h < 2 ^ 36)
    ↔ ((a < 1) × (b < 1) × (c < 1) × (d < 16))
eight_bytes a b c d e f g h a8 b8 c8 d8 e8 f8 g8 h8 = (
  λ fits. (omega arith, omega arith, omega arith, omega arith),
  λ small. omega arith,
)

abbrev byte : List ℕ → ℕ → ℕ → ℕ
byte bytes place j = get_or bytes (8 * place + j) 0

abbrev HasSmallTop : List ℕ → ℕ → Type 0
HasSmallTop bytes place = (byte bytes place 0 < 2 ^ 0) × (byte bytes place 1 < 2 ^ 0) × (byte bytes place 2 < 2 ^ 0)
    × (byte bytes place 3 < 2 ^ 4)

word_by_bytes : (bytes : List ℕ) (place : ℕ) → ((j : ℕ) → get_or bytes j 0 < 256)
    → IsWord (number_at bytes place) ↔ HasSmallTop bytes place
unfolding number_at
word_by_bytes bytes place small =
    let first : get_or bytes (8 * place) 0 ≡ byte bytes place 0 = ap (λ m. get_or bytes m 0) (omega arith) in
    let all = eight_bytes _ _ _ _ _ _ _ _ (small (8 * place)) (small (8 * place + 1)) (small (8 * place + 2))
    (small (8 * place + 3)) (small (8 * place + 4)) (small (8 * place + 5)) (small (8 * place + 6))
    (small (8 * place + 7)) in (
      λ h. let tops = all.0 h in (subst (λ (m : ℕ). m < 1) first tops.0, tops.1, tops.2, tops.3),
      λ tops. all.1 (subst (λ (m : ℕ). m < 1) (sym first) tops.0, tops.1, tops.2, tops.3),
    )

-- The bits of two bytes.

or_fits : (k a b : ℕ) → (bit_or a b < 2 ^ k) ↔ ((a < 2 ^ k) × (b < 2 ^ k))
or_fits k a b =
    let sum = or_add_and a b in
    let left = and_le_l a b in
    let right = and_le_r a b in
    (λ h. (omega arith, omega arith), λ h. or_lt k a b h.0 h.1)

-- The bits that are set in the first n groups of 64 bytes: lane i is below a power of two if byte i of each group is.
pub record AreJoined (bytes joined : List ℕ) (n : ℕ) : Type 0 where
  pub long : length joined ≡ 64
  pub each : (i k : ℕ) → i < 64
      → (get_or joined i 0 < 2 ^ k) ↔ ((group : ℕ) → group < n → get_or bytes (64 * group + i) 0 < 2 ^ k)

pub joined_none : (bytes : List ℕ) → AreJoined bytes (replicate 64 0) 0
joined_none bytes = record {
  long = refl;
  each = λ i k inside. (
    λ _ group below. absurd (omega arith),
    λ _. subst (λ (m : ℕ). m < 2 ^ k) (sym (get_or-replicate {A = ℕ} 64 i 0 0 inside)) (pow_pos k),
  );
}

lane_more : (bytes joined : List ℕ) (n i : ℕ) → length joined ≡ 64 → 64 * n + 64 ≤ length bytes → i < 64
    → get_or (zip2 bit_or joined (chunk (64 * n) 64 bytes)) i 0
    ≡ bit_or (get_or joined i 0) (get_or bytes (64 * n + i) 0)
lane_more bytes joined n i long room inside =
    let more = length-chunk (64 * n) 64 bytes room in
    get_or-zip2 bit_or joined (chunk (64 * n) 64 bytes) i 0 0 0 (omega arith) (omega arith)
    ∙ ap (bit_or (get_or joined i 0)) (get_or-chunk (64 * n) 64 bytes i 0 inside)

up_to : (bytes : List ℕ) (n i k group : ℕ) → ((g : ℕ) → g < n → get_or bytes (64 * g + i) 0 < 2 ^ k)
    → get_or bytes (64 * n + i) 0 < 2 ^ k → group < n + 1 → get_or bytes (64 * group + i) 0 < 2 ^ k
up_to bytes n i k group before last below = elim (cases_lt group n) [
  | inl earlier ↦ before group earlier
  | inr later ↦ (let e : n ≡ group = omega arith in
      subst (λ (m : ℕ). get_or bytes (64 * m + i) 0 < 2 ^ k) e last)
]

pub joined_more : (bytes joined : List ℕ) (n : ℕ) → 64 * n + 64 ≤ length bytes → AreJoined bytes joined n
    → AreJoined bytes (zip2 bit_or joined (chunk (64 * n) 64 bytes)) (n + 1)
joined_more bytes joined n room was =
    let more = length-chunk (64 * n) 64 bytes room in
    record {
      long = length-zip2 bit_or joined (chunk (64 * n) 64 bytes) (was.long ∙ sym more) ∙ was.long;
      each = λ i k inside.
          let lane = lane_more bytes joined n i was.long room inside in
          let both = or_fits k (get_or joined i 0) (get_or bytes (64 * n + i) 0) in
          let before = was.each i k inside in (
            λ h group below.
                let parts = both.0 (subst (λ (m : ℕ). m < 2 ^ k) lane h) in
                up_to bytes n i k group (before.0 parts.0) parts.1 below,
            λ h. subst (λ (m : ℕ). m < 2 ^ k) (sym lane)
                (both.1 (before.1 (λ group below. h group (omega arith)), h n (omega arith))),
          );
    }

same_byte : (bytes : List ℕ) (group place j : ℕ)
    → get_or bytes (64 * group + (8 * place + j)) 0 ≡ byte bytes (8 * group + place) j
same_byte bytes group place j = ap (λ m. get_or bytes m 0) (omega arith)

-- a byte of a word of the bytes that are joined
module _ (bytes joined : List ℕ) (n : ℕ) (are : AreJoined bytes joined n) (place : ℕ) (inside : place < 8) where
  lane_of : (j k : ℕ) → j < 8
      → (byte joined place j < 2 ^ k) ↔ ((group : ℕ) → group < n → byte bytes (8 * group + place) j < 2 ^ k)
  lane_of j k within =
      let lane = are.each (8 * place + j) k (omega arith) in (
        λ h group below. subst (λ (m : ℕ). m < 2 ^ k) (same_byte bytes group place j) (lane.0 h group below),
        λ h. lane.1 (λ group below. subst (λ (m : ℕ). m < 2 ^ k) (sym (same_byte bytes group place j))
            (h group below)),
      )

  joined_small : ((j : ℕ) → get_or bytes j 0 < 256) → (j : ℕ) → get_or joined j 0 < 256
  joined_small small j = elim (cases_lt j 64) [
    | inl within ↦ (are.each j 8 within).1 (λ group below. small (64 * group + j))
    | inr past ↦ subst (λ (m : ℕ). m < 256) (sym (get_or_past joined j 0 (let e = are.long in omega arith)))
        (omega arith)
  ]

  -- a joined word is one if those that it is made of are
  pub joined_word : ((j : ℕ) → get_or bytes j 0 < 256)
      → IsWord (number_at joined place) ↔ ((group : ℕ) → group < n → IsWord (number_at bytes (8 * group + place)))
  joined_word small =
      let whole = word_by_bytes joined place (joined_small small) in
      let part = λ (group : ℕ). word_by_bytes bytes (8 * group + place) small in
      let a = lane_of 0 0 (omega arith) in
      let b = lane_of 1 0 (omega arith) in
      let c = lane_of 2 0 (omega arith) in
      let d = lane_of 3 4 (omega arith) in (
        λ h group below.
            let tops = whole.0 h in
            (part group).1 (
              a.0 tops.0 group below,
              b.0 tops.1 group below,
              c.0 tops.2 group below,
              d.0 tops.3 group below,
            ),
        λ h. whole.1 (
          a.1 (λ group below. ((part group).0 (h group below)).0),
          b.1 (λ group below. ((part group).0 (h group below)).1),
          c.1 (λ group below. ((part group).0 (h group below)).2),
          d.1 (λ group below. ((part group).0 (h group below)).3),
        ),
      )

-- A search for the first bad word that finds none.

none_before : (bytes : List ℕ) (n : ℕ) → ((place : ℕ) → IsFirstBadWord n bytes place → ⊥) → (m : ℕ) → m ≤ n
    → (k : ℕ) → k < m → IsWord (number_at bytes k)
none_before bytes n none zero room k below = absurd (omega arith)
none_before bytes n none (suc m) room k below =
    let before = none_before bytes n none m (omega arith) in
    elim (cases_lt k m) [
      | inl earlier ↦ before k earlier
      | inr later ↦ (let e : m ≡ k = omega arith in elim (cases_lt (number_at bytes k) (2 ^ 36)) [
        | inl fits ↦ fits
        | inr bad ↦ absurd (none k (record {
          inside = omega arith;
          bad = bad;
          first = subst (λ (p : ℕ). (q : ℕ) → q < p → IsWord (number_at bytes q)) e before;
        }))
      ])
    ]

pub none_bad : (bytes : List ℕ) (n : ℕ) (found : Option ℕ)
    → ((place : ℕ) → (found ≡ Some place) ↔ IsFirstBadWord n bytes place)
    → (is_some found ≡ false) ↔ ((k : ℕ) → k < n → IsWord (number_at bytes k))
none_bad bytes n None are = (
  λ _. none_before bytes n (λ place bad. true≢false (sym (ap is_some ((are place).1 bad)))) n (omega arith),
  λ _. refl,
)
none_bad bytes n (Some place) are = (
  λ is. absurd (true≢false is),
  λ words.
      let bad = (are place).0 refl in
      let over = bad.bad in
      absurd (let fits = words place bad.inside in omega arith),
)

-- there is one first bad word at most
pub first_alone : (bytes : List ℕ) (n p q : ℕ) → IsFirstBadWord n bytes p → IsFirstBadWord n bytes q → p ≡ q
first_alone bytes n p q is other = elim (cases_lt p q) [
  | inl before ↦ absurd (let fits = other.first p before in let over = is.bad in omega arith)
  | inr after ↦ elim (cases_lt q p) [
    | inl before ↦ absurd (let fits = is.first q before in let over = other.bad in omega arith)
    | inr from ↦ omega arith
  ]
]

-- The words of the bytes are those of the groups of eight, and those after them.

number_at_dropped : (bytes : List ℕ) (n at place : ℕ) → at ≡ 8 * n
    → number_at (drop at bytes) place ≡ number_at bytes (n + place)
unfolding number_at
number_at_dropped bytes n at place is =
    let byte_dropped : (j k : ℕ) → at + j ≡ k → get_or (drop at bytes) j 0 ≡ get_or bytes k 0 =
    λ j k e. get_or-drop at bytes j 0 ∙ ap (λ m. get_or bytes m 0) e in
    let a = byte_dropped (8 * place) (8 * (n + place)) (omega arith) in
    let b = byte_dropped (8 * place + 1) (8 * (n + place) + 1) (omega arith) in
    let c = byte_dropped (8 * place + 2) (8 * (n + place) + 2) (omega arith) in
    let d = byte_dropped (8 * place + 3) (8 * (n + place) + 3) (omega arith) in
    let e = byte_dropped (8 * place + 4) (8 * (n + place) + 4) (omega arith) in
    let f = byte_dropped (8 * place + 5) (8 * (n + place) + 5) (omega arith) in
    let g = byte_dropped (8 * place + 6) (8 * (n + place) + 6) (omega arith) in
    let h = byte_dropped (8 * place + 7) (8 * (n + place) + 7) (omega arith) in
    rw (a, b, c, d, e, f, g, h) refl

pub words_by_groups : (bytes joined : List ℕ) → ((place : ℕ) → place < 8 → IsWord (number_at joined place)
    ↔ ((group : ℕ) → group < length bytes / 64 → IsWord (number_at bytes (8 * group + place))))
    → (((k : ℕ) → k < 8 → IsWord (number_at joined k))
    × ((k : ℕ) → k < length (drop (length bytes / 64 * 64) bytes) / 8
    → IsWord (number_at (drop (length bytes / 64 * 64) bytes) k)))
    ↔ ((k : ℕ) → k < length bytes / 8 → IsWord (number_at bytes k))
words_by_groups bytes joined are =
    let groups = length bytes / 64 in
    let at = length bytes / 64 * 64 in
    let long = length-drop at bytes in
    let after = λ (k : ℕ). number_at_dropped bytes (8 * groups) at k (omega arith) in (
      λ h k below. elim (cases_lt k (8 * groups)) [
        | inl lane ↦ (let e : 8 * (k / 8) + k % 8 ≡ k = omega arith in
            subst (λ (m : ℕ). IsWord (number_at bytes m)) e
            ((are (k % 8) (omega arith)).0 (h.0 (k % 8) (omega arith)) (k / 8) (omega arith)))
        | inr past ↦ (let e : 8 * groups + (k - 8 * groups) ≡ k = omega arith in
            subst (λ (m : ℕ). IsWord (number_at bytes m)) e
            (subst IsWord (after (k - 8 * groups)) (h.1 (k - 8 * groups) (omega arith))))
      ],
      λ h. (
        λ k below. (are k below).1 (λ group lt. h (8 * group + k) (omega arith)),
        λ k below. subst IsWord (sym (after k)) (h (8 * groups + k) (omega arith)),
      ),
    )
