-- The value of octal digits, and the parts of [p,n].
use Rattle.std.proofs.Common.{◌≡◌, ℕ, ◌+◌, ◌*◌, ◌-◌, ◌^◌, ◌<◌, ◌≤◌, true, List, [], ◌∷◌, ◌++◌, length, take, get_or}
use Rattle.std.proofs.Common.{refl, sym, Option, Some, None, IfSome, IfNone, IsSome, ◌∙◌, ap, subst, arith}
use Rattle.std.proofs.Math.Nat.{pow-succ', mul-le-mul_right, mul_assoc, pow-le-pow_right}
use Rattle.std.proofs.lemmas.List.{take_more, length-take}
use Rattle.std.proofs.lemmas.Bool.Decides.{nat_tests}
use Rattle.words36.specs.Common.{join}
use Rattle.spec_language.specs.Common.{is_octal, Are, octal_after, octal, IsNumber, IsSmall, IsPair, IsBracketed}
use Rattle.spec_language.proofs.Common.{stretch, are_other, other_than, same_but_last}
use Rattle.spec_image.proofs.Common.{same_tail}
use Rattle.commands.proofs.FieldLaws.{are_more, are_at}

pub is_digit : (c : ℕ) → 48 ≤ c → c ≤ 55 → is_octal c ≡ true
is_digit c low high = grind (arith, nat_tests)

pub digit_is : (c : ℕ) → is_octal c ≡ true → (48 ≤ c) × (c ≤ 55)
digit_is c t = (grind (arith, nat_tests), grind (arith, nat_tests))

octal-append : (high : ℕ) (xs : List ℕ) (y : ℕ) → octal_after high (xs ++ y ∷ []) ≡ octal_after high xs * 8 + (y - 48)
octal-append high [] y = refl
octal-append high (x ∷ xs) y = octal-append (high * 8 + (x - 48)) xs y

-- a number has no more digits than its text
pub below_power : (high : ℕ) (xs : List ℕ) → Are is_octal xs → octal_after high xs + 1 ≤ (high + 1) * 8 ^ length xs
below_power high [] a = omega arith
below_power high (x ∷ xs) a =
    let d = digit_is x a.0 in
    let m : ℕ = high * 8 + (x - 48) in
    let first : octal_after m xs + 1 ≤ (m + 1) * 8 ^ length xs = below_power m xs a.1 in
    let next : (m + 1) * 8 ^ length xs
    ≤ ((high + 1) * 8) * 8 ^ length xs = mul-le-mul_right (8 ^ length xs) (omega (arith, d.0, d.1)) in
    let same : ((high + 1) * 8) * 8 ^ length xs ≡ (high + 1) * 8 ^ length (x ∷ xs) = mul_assoc (high + 1) 8
    (8 ^ length xs) ∙ ap (λ n. (high + 1) * n) (sym (pow-succ' 8 (length xs))) in
    omega (arith, first, next, same)

-- the value of the digits so far
pub record Reads (n : ℕ) (text : List ℕ) : Type 0 where
  pub digits : Are is_octal text
  pub value : n ≡ octal text

pub reads_more : (n : ℕ) (text : List ℕ) (i : ℕ) → i < length text → 48 ≤ get_or text i 0 → get_or text i 0 ≤ 55
    → Reads n (take i text) → Reads (n * 8 + (get_or text i 0 - 48)) (take (i + 1) text)
reads_more n text i h low high r = record {
  digits = are_more is_octal text i h (is_digit (get_or text i 0) low high) r.digits;
  value = ap (λ m. m * 8 + (get_or text i 0 - 48)) r.value ∙ sym (octal-append 0 (take i text) (get_or text i 0))
      ∙ ap octal (sym (take_more text i 0 h));
}

pub reads_small : (n : ℕ) (text : List ℕ) (i most : ℕ) → i < length text → length text ≤ most → most ≤ 12
    → Reads n (take i text) → n < 2 ^ 36
reads_small n text i most h few bound r =
    let l : length (take i text) ≤ 12 = omega (arith, length-take i text) in
    let p : 8 ^ length (take i text) ≤ 8 ^ 12 = pow-le-pow_right (omega arith) l in
    omega (arith, below_power 0 (take i text) r.digits, p, r.value)

pub no_digit : (most n : ℕ) (text : List ℕ) (i : ℕ) → IsNumber most text n → i < length text
    → (48 ≤ get_or text i 0) × (get_or text i 0 ≤ 55)
no_digit most n text i s h = digit_is (get_or text i 0) (are_at is_octal text i h s.digits)

pub same_value : (most n m : ℕ) (text : List ℕ) → IsNumber most text n → IsNumber most text m → n ≡ m
same_value most n m text a b = a.value ∙ sym b.value

-- p,n

-- a text with a comma isn't a text without one
pub no_comma : (text : List ℕ) (most p : ℕ) → Are (other_than 44) text → IsPair most text p → ⊥
no_comma text most p a s = absurd (wrong s.before s.behind (subst (Are (other_than 44)) s.spelled a))
  where
    wrong : (xs ys : List ℕ) → Are (other_than 44) (xs ++ 44 ∷ ys) → ⊥
    wrong [] ys b = let false_is = b.0 in cc
    wrong (x ∷ xs) ys b = wrong xs ys b.1

-- the parts of a pair are those at its comma
pub record AreParts (most : ℕ) (left right : List ℕ) (p : ℕ) : Type 0 where
  pub project : ℕ
  pub programmer : ℕ
  pub before : IsSmall most left project
  pub behind : IsSmall most right programmer
  pub some_project : 0 < project
  pub some_programmer : 0 < programmer
  pub value : p ≡ join project programmer

pub pair_parts : (text left right : List ℕ) (most p : ℕ) → Are (other_than 44) left → text ≡ left ++ 44 ∷ right
    → IsPair most text p → AreParts most left right p
pair_parts text left right most p a e s =
    let r = stretch (other_than 44) left (44 ∷ right) s.before (44 ∷ s.behind) a
    (are_other is_octal 44 refl s.before s.left.number.digits) refl refl (sym e ∙ s.spelled) in
    record {
      project = s.project;
      programmer = s.programmer;
      before = subst (λ (l : List ℕ). IsSmall most l s.project) (sym r.0) s.left;
      behind = subst (λ (l : List ℕ). IsSmall most l s.programmer) (sym (same_tail r.1)) s.right;
      some_project = s.some_project;
      some_programmer = s.some_programmer;
      value = s.value;
    }

pub small_value : (most n m : ℕ) (text : List ℕ) → IsSmall most text n → IsSmall most text m → n ≡ m
small_value most n m text a b = same_value most n m text a.number b.number

pub pair_is : (text left right : List ℕ) (most m n p : ℕ) → text ≡ left ++ 44 ∷ right → IsSmall most left m
    → IsSmall most right n → 0 < m → 0 < n → p ≡ join m n → IsPair most text p
pair_is text left right most m n p e a b some_m some_n v = record {
  project = m;
  programmer = n;
  before = left;
  behind = right;
  left = a;
  right = b;
  some_project = some_m;
  some_programmer = some_n;
  spelled = e;
  value = v;
}

-- [p,n]

pub bracketed_inner : (text inner : List ℕ) (p : ℕ) → text ≡ 91 ∷ (inner ++ 93 ∷ []) → IsBracketed text p
    → IsPair 6 inner p
bracketed_inner text inner p e s = subst (λ (l : List ℕ). IsPair 6 l p)
    (same_but_last 93 s.pair inner (same_tail (sym s.spelled ∙ e))) s.named

-- If the two numbers make a project and a programmer, they are the pair.

pub if_none : {X : Type 0} (found : Option X) (P : Type 0) → P → IfNone found P
if_none (Some x) P p = tt
if_none None P p = p

pub pair_some : (found : Option ℕ) (text left right : List ℕ) (most m n : ℕ) → text ≡ left ++ 44 ∷ right
    → IsSmall most left m → IsSmall most right n → IfSome found (λ p. p ≡ join m n)
    → (IsSome found → (0 < m) × (m < 2 ^ 18) × (0 < n) × (n < 2 ^ 18)) → IfSome found (λ p. IsPair most text p)
pair_some None text left right most m n e a b v fits = tt
pair_some (Some p) text left right most m n e a b v fits = let f = fits refl in
    pair_is text left right most m n p e a b f.0 f.2 v

pub pair_none : (found : Option ℕ) (text left right : List ℕ) (most m n : ℕ) → Are (other_than 44) left
    → text ≡ left ++ 44 ∷ right → IsSmall most left m → IsSmall most right n
    → ((0 < m) × (m < 2 ^ 18) × (0 < n) × (n < 2 ^ 18) → IsSome found) → IfNone found ((p : ℕ) → IsPair most text p → ⊥)
pair_none (Some p) text left right most m n plain e a b fits = tt
pair_none None text left right most m n plain e a b fits = λ p s.
    let parts = pair_parts text left right most p plain e s in
    let x : parts.project ≡ m = small_value most _ _ left parts.before a in
    let y : parts.programmer ≡ n = small_value most _ _ right parts.behind b in
    let wrong = fits (
      subst (λ (k : ℕ). 0 < k) x parts.some_project,
      a.small,
      subst (λ (k : ℕ). 0 < k) y parts.some_programmer,
      b.small,
    ) in
    cc

pub bracketed_none : (found : Option ℕ) (text inner : List ℕ) → text ≡ 91 ∷ (inner ++ 93 ∷ [])
    → IfNone found ((p : ℕ) → IsPair 6 inner p → ⊥) → IfNone found ((p : ℕ) → IsBracketed text p → ⊥)
bracketed_none (Some q) text inner e none = tt
bracketed_none None text inner e none = λ p s. none p (bracketed_inner text inner p e s)
