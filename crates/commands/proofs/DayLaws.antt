-- The parts of the text of a day.
use Rattle.std.proofs.Common.{◌≡◌, ℕ, ◌+◌, ◌-◌, ◌<◌, ◌==◌, true, List, ◌∷◌, length, get_or, refl, sym, ◌∙◌, ap, subst}
use Rattle.std.proofs.Common.{arith, map, inl, inr, zero, suc, if◌then◌else◌, Option, Some, None, IfNone, Result, Ok}
use Rattle.std.proofs.Common.{Err, IsOk, is_some, is_ok, false}
use Rattle.std.specs.Char.{to_ascii_lowercase}
use Rattle.words36.specs.Common.{IsDate}
use Rattle.spec_language.specs.Common.{month_text}
use Rattle.spec_language.proofs.Common.{stretch}
use Rattle.spec_image.proofs.Common.{same_tail}
use Rattle.commands.specs.Common.{is_other_than, IsMonthName, IsAtHyphen, IsHyphened, AreDayParts, IsDayText}
use Rattle.commands.proofs.DecimalLaws.{decimal_value}
use Rattle.commands.proofs.MadeLaws.{AreParted}

-- Months.

-- what distinguishes their names, in lower case
abbrev mark : List ℕ → ℕ
mark text = get_or text 0 0 + get_or text 1 0 + get_or text 2 0

abbrev month_of : ℕ → ℕ
month_of n =
    if n == 313 then 0 else if n == 301 then 1 else if n == 320 then 2 else if n == 323 then 3
    else if n == 327 then 4 else if n == 333 then 5 else if n == 331 then 6 else if n == 317 then 7
    else if n == 328 then 8 else if n == 326 then 9 else if n == 339 then 10 else 11

marked : (m : ℕ) → m < 12 → month_of (mark (map to_ascii_lowercase (month_text m))) ≡ m
marked zero h = refl
marked (suc zero) h = refl
marked (suc (suc zero)) h = refl
marked (suc (suc (suc zero))) h = refl
marked (suc (suc (suc (suc zero)))) h = refl
marked (suc (suc (suc (suc (suc zero))))) h = refl
marked (suc (suc (suc (suc (suc (suc zero)))))) h = refl
marked (suc (suc (suc (suc (suc (suc (suc zero))))))) h = refl
marked (suc (suc (suc (suc (suc (suc (suc (suc zero)))))))) h = refl
marked (suc (suc (suc (suc (suc (suc (suc (suc (suc zero))))))))) h = refl
marked (suc (suc (suc (suc (suc (suc (suc (suc (suc (suc zero)))))))))) h = refl
marked (suc (suc (suc (suc (suc (suc (suc (suc (suc (suc (suc zero))))))))))) h = refl
marked (suc (suc (suc (suc (suc (suc (suc (suc (suc (suc (suc (suc m)))))))))))) h = absurd (omega arith)

month_value : (text : List ℕ) (m n : ℕ) → IsMonthName text m → IsMonthName text n → m ≡ n
month_value text m n a b =
    let before : m - 1 < 12 = omega (arith, a.first, a.last) in
    let behind : n - 1 < 12 = omega (arith, b.first, b.last) in
    let same : m - 1 ≡ n - 1 = sym (marked (m - 1) before) ∙ ap (λ t. month_of (mark t)) (sym a.named ∙ b.named)
    ∙ marked (n - 1) behind in
    omega (arith, same, a.first, b.first)

-- a text differs from each name up to here
abbrev pub IsNoMonth : List ℕ → ℕ → Type 0
IsNoMonth text i = (m : ℕ) → m < i
    → map to_ascii_lowercase text ≡ map to_ascii_lowercase (month_text m) → ⊥

-- Hyphens.

pub no_hyphen : (text front back before after : List ℕ) → AreParted 45 text front back → length back ≡ 0
    → IsAtHyphen text before after → ⊥
no_hyphen text front back before after parted empty at =
    let r = stretch (is_other_than 45) front back before (45 ∷ after) parted.plain at.plain parted.stops refl
    (sym parted.whole ∙ at.spelled) in
    let some : length back ≡ length (45 ∷ after) = ap (λ (l : List ℕ). length l) r.1 in
    omega (arith, empty, some)

pub same_hyphen : (text before after front back : List ℕ) → IsAtHyphen text before after → IsAtHyphen text front back
    → (front ≡ before) × (back ≡ after)
same_hyphen text before after front back a b =
    let r = stretch (is_other_than 45) front (45 ∷ back) before (45 ∷ after) b.plain a.plain refl refl
    (sym b.spelled ∙ a.spelled) in
    (r.0, same_tail r.1)

-- the text after the first hyphen has no hyphen
pub one_hyphen : (text front back first second third : List ℕ) → IsAtHyphen text front back
    → ((before after : List ℕ) → IsAtHyphen back before after → ⊥) → IsHyphened text first second third → ⊥
one_hyphen text front back first second third at none h =
    let same = same_hyphen text front back first h.rest at h.one in
    none second third (subst (λ (l : List ℕ). IsAtHyphen l second third) same.1 h.two)

-- A text has one day.

same_parts : (text a b c first second third : List ℕ) → IsHyphened text a b c → IsHyphened text first second third
    → (first ≡ a) × (second ≡ b) × (third ≡ c)
same_parts text a b c first second third g h =
    let x = same_hyphen text a g.rest first h.rest g.one h.one in
    let y = same_hyphen g.rest b c second third g.two
    (subst (λ (l : List ℕ). IsAtHyphen l second third) x.1 h.two) in
    (x.0, y.0, y.1)

abbrev AreSame : ℕ → ℕ → ℕ → ℕ → ℕ → ℕ → Type 0
AreSame year month day y m d = (y ≡ year) × (m ≡ month) × (d ≡ day)

same_day : (a b c : List ℕ) (year month day y m d : ℕ) → AreDayParts a b c year month day → AreDayParts a b c y m d
    → AreSame year month day y m d
same_day a b c year month day y m d (inl p) (inl q) = (
  decimal_value 4 4 4 4 y year a q.year_is p.year_is,
  decimal_value 2 2 2 2 m month b q.month_is p.month_is,
  decimal_value 2 2 2 2 d day c q.day_is p.day_is,
)
same_day a b c year month day y m d (inl p) (inr q) = absurd (omega (arith, p.year_is.enough, q.day_is.few))
same_day a b c year month day y m d (inr p) (inl q) = absurd (omega (arith, q.year_is.enough, p.day_is.few))
same_day a b c year month day y m d (inr p) (inr q) = (
  decimal_value 4 4 4 4 y year c q.year_is p.year_is,
  month_value b m month q.month_is p.month_is,
  decimal_value 1 2 1 2 d day a q.day_is p.day_is,
)

-- the parts of a text name no day
pub no_day : (text a b c : List ℕ) (n : ℕ) → IsHyphened text a b c
    → ((year month day : ℕ) → AreDayParts a b c year month day → ⊥) → IsDayText text n → ⊥
no_day text a b c n h none t =
    let s = same_parts text a b c t.first t.second t.third h t.hyphened in
    none t.year t.month t.day
    (subst (λ (l : List ℕ). AreDayParts a b l t.year t.month t.day) s.2
    (subst (λ (l : List ℕ). AreDayParts a l t.third t.year t.month t.day) s.1
    (subst (λ (l : List ℕ). AreDayParts l t.second t.third t.year t.month t.day) s.0 t.parts)))

-- or one that the calendar lacks
pub no_date : (text a b c : List ℕ) (year month day n : ℕ) → IsHyphened text a b c → AreDayParts a b c year month day
    → (IsDate year month day → ⊥) → IsDayText text n → ⊥
no_date text a b c year month day n h parts none t =
    let s = same_parts text a b c t.first t.second t.third h t.hyphened in
    let same = same_day a b c year month day t.year t.month t.day parts
    (subst (λ (l : List ℕ). AreDayParts a b l t.year t.month t.day) s.2
    (subst (λ (l : List ℕ). AreDayParts a l t.third t.year t.month t.day) s.1
    (subst (λ (l : List ℕ). AreDayParts l t.second t.third t.year t.month t.day) s.0 t.parts))) in
    none (subst (λ k. IsDate year month k) same.2 (subst (λ k. IsDate year k t.day) same.1
    (subst (λ k. IsDate k t.month t.day) same.0 t.day_of_calendar)))

-- numbers that are refused are no date of the calendar
pub if_refused : {E P : Type 0} {Q : ℕ → Type 0} (date : Result ℕ E) (found : Option ℕ) → is_some found ≡ is_ok date
    → (P → IsOk date) → ((P → ⊥) → (n : ℕ) → Q n → ⊥) → IfNone found ((n : ℕ) → Q n → ⊥)
if_refused (Ok d) (Some n) same accepts none = tt
if_refused (Ok d) None same accepts none = let wrong : false ≡ true = same in cc
if_refused (Err e) (Some n) same accepts none = tt
if_refused (Err e) None same accepts none = none (λ p. let wrong = accepts p in cc)
