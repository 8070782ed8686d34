-- The lowest number that has a 1.
use Rattle.std.proofs.Common.{◌≡◌, ⊎_elim, ℕ, zero, suc, ◌+◌, ◌*◌, ◌-◌, ◌/◌, ◌%◌, ◌<◌, Bool, List, length, get_or}
use Rattle.std.proofs.Common.{Option, Some, None, cond, eqb, refl, sym, ◌∙◌, ap, subst, arith, eq-eqb, ne_eqb}
use Rattle.std.specs.Int.{bit_at}
use Rattle.std.proofs.lemmas.Bool.{cases_eq, cases_lt}
use Rattle.std.proofs.lemmas.List.{get_or_read}
use Rattle.alloctab.specs.Common.{word_bit, clear_bit, clear_at, lowest_one, or_else, first_clear, IsFirstPlace}
use Rattle.alloctab.proofs.LaneLaws.{zero_from_one, none_in_word}

abbrev one_at : (ℕ → ℕ) → ℕ → Option ℕ
one_at bits k = cond (eqb (bits k) 1) (Some k) None

lowest_more : (bits : ℕ → ℕ) (k : ℕ) → lowest_one bits (suc k) ≡ or_else (lowest_one bits k) (one_at bits k)
unfolding lowest_one
lowest_more bits k = refl

at_one : (bits : ℕ → ℕ) (k : ℕ) → bits k ≡ 1 → one_at bits k ≡ Some k
at_one bits k one = ap (λ (b : Bool). cond b (Some k) None) (eq-eqb (bits k) 1 one)

at_other : (bits : ℕ → ℕ) (k : ℕ) → (bits k ≡ 1 → ⊥) → one_at bits k ≡ None
at_other bits k other = ap (λ (b : Bool). cond b (Some k) None) (ne_eqb (bits k) 1 other)

pub lowest_none : (bits : ℕ → ℕ) (k : ℕ) → ((m : ℕ) → m < k → bits m ≡ 1 → ⊥) → lowest_one bits k ≡ None
unfolding lowest_one
lowest_none bits zero none = refl
lowest_none bits (suc k) none =
    ap (λ (o : Option ℕ). or_else o (one_at bits k)) (lowest_none bits k (λ m below. none m (omega arith)))
    ∙ at_other bits k (none k (omega arith))

pub lowest_is : (bits : ℕ → ℕ) (k n : ℕ) → n < k → bits n ≡ 1 → ((m : ℕ) → m < n → bits m ≡ 1 → ⊥)
    → lowest_one bits k ≡ Some n
lowest_is bits zero n below one first = absurd (omega arith)
lowest_is bits (suc k) n below one first = lowest_more bits k ∙ ⊎_elim
    (λ same. ap (λ (o : Option ℕ). or_else o (one_at bits k)) (lowest_none bits k (λ m before. first m (omega arith)))
    ∙ at_one bits k (ap bits (sym same) ∙ one) ∙ ap Some (sym same))
    (λ other. ap (λ (o : Option ℕ). or_else o (one_at bits k)) (lowest_is bits k n (omega arith) one first))
    (cases_eq n k)

-- What the lowest number is, if there is one.
abbrev pub IsLowest : (ℕ → ℕ) → ℕ → Option ℕ → Type 0
IsLowest bits k None = (m : ℕ) → m < k → bits m ≡ 1 → ⊥
IsLowest bits k (Some n) = (n < k) × (bits n ≡ 1) × ((m : ℕ) → m < n → bits m ≡ 1 → ⊥)

lowest_still : (bits : ℕ → ℕ) (k : ℕ) (o : Option ℕ) → IsLowest bits k o
    → IsLowest bits (suc k) (or_else o (one_at bits k))
lowest_still bits k (Some n) is = (omega arith, is.1, is.2)
lowest_still bits k None none = ⊎_elim
    (λ one. subst (IsLowest bits (suc k)) (sym (at_one bits k one)) (omega arith, one, none))
    (λ other. subst (IsLowest bits (suc k)) (sym (at_other bits k other)) (λ m below. ⊎_elim
    (λ same is. other (ap bits (sym same) ∙ is)) (λ apart. none m (omega arith)) (cases_eq m k)))
    (cases_eq (bits k) 1)

pub lowest_stands : (bits : ℕ → ℕ) (k : ℕ) → IsLowest bits k (lowest_one bits k)
unfolding lowest_one
lowest_stands bits zero = λ m below. absurd (omega arith)
lowest_stands bits (suc k) = lowest_still bits k (lowest_one bits k) (lowest_stands bits k)

pub lowest_of : (bits : ℕ → ℕ) (k : ℕ) (o : Option ℕ) → o ≡ lowest_one bits k → IsLowest bits k o
lowest_of bits k o is = subst (IsLowest bits k) (sym is) (lowest_stands bits k)

-- The first clear bit of two lists of words.

pub none_in_words : (set held : List ℕ) (places : ℕ) → ((w : ℕ) → w < places → clear_at set held w ≡ 0) → (m : ℕ)
    → m < 36 * places → clear_bit set held m ≡ 1 → ⊥
none_in_words set held places full m below is = none_in_word (get_or set (m / 36) 0) (get_or held (m / 36) 0)
    (35 - m % 36)
    (omega arith) (full (m / 36) (omega arith)) (zero_from_one (word_bit set m + word_bit held m) is)

pub first_in_words : (set held : List ℕ) (place first a b : ℕ) → length set ≡ length held → place < length set
    → a ≡ get_or set place a → b ≡ get_or held place b → ((w : ℕ) → w < place → clear_at set held w ≡ 0)
    → IsFirstPlace a b first → Some (place * 36 + first) ≡ first_clear set held
first_in_words set held place first a b same inside p q full is =
    let n = place * 36 + first in
    let set_is = get_or_read set place a inside p 0 in
    let held_is = get_or_read held place b (omega arith) q 0 in
    let within = is.inside in
    let bits : (m f : ℕ) → m ≡ place * 36 + f → f < 36 → word_bit set m + word_bit held m
    ≡ bit_at a (35 - f) + bit_at b (35 - f) = λ m f at below.
    let w : m / 36 ≡ place = omega arith in
    let r : 35 - m % 36 ≡ 35 - f = omega arith in
    (λ i. bit_at (get_or set (w i) 0) (r i) + bit_at (get_or held (w i) 0) (r i))
    ∙ (λ i. bit_at (sym set_is i) (35 - f) + bit_at (sym held_is i) (35 - f)) in
    let one : clear_bit set held n ≡ 1 =
    let e = bits n first refl within in let c = is.clear in
    ap (λ (b : Bool). cond {A = ℕ} b 1 0) (eq-eqb (word_bit set n + word_bit held n) 0 (omega arith)) in
    sym (lowest_is (clear_bit set held) (36 * length set) n (omega arith) one
    (λ m before at. ⊎_elim
    (λ early. none_in_words set held place full m (omega arith) at)
    (λ late. is.first (m - place * 36) (omega arith)
    (let e = bits m (m - place * 36) (omega arith) (omega arith) in
    let z = zero_from_one (word_bit set m + word_bit held m) at in omega arith))
    (cases_lt m (place * 36))))
