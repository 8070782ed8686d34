-- The value of decimal digits.
use Rattle.std.proofs.Common.{◌≡◌, ℕ, ◌+◌, ◌*◌, ◌-◌, ◌^◌, ◌<◌, ◌≤◌, true, List, [], ◌∷◌, ◌++◌, length, take, get_or}
use Rattle.std.proofs.Common.{refl, sym, ◌∙◌, ap, arith}
use Rattle.std.proofs.Math.Nat.{pow-succ', mul-le-mul_right, mul_assoc, pow-le-pow_right}
use Rattle.std.proofs.lemmas.List.{take_more, length-take}
use Rattle.std.proofs.lemmas.Bool.Decides.{nat_tests}
use Rattle.spec_language.specs.Common.{Are, is_digit, decimal_after}
use Rattle.commands.specs.Common.{IsDecimal}
use Rattle.commands.proofs.FieldLaws.{are_more, are_at}

digit : (c : ℕ) → 48 ≤ c → c ≤ 57 → is_digit c ≡ true
digit c low high = grind (arith, nat_tests)

digit_is : (c : ℕ) → is_digit c ≡ true → (48 ≤ c) × (c ≤ 57)
digit_is c t = (grind (arith, nat_tests), grind (arith, nat_tests))

decimal-append : (high : ℕ) (xs : List ℕ) (y : ℕ)
    → decimal_after high (xs ++ y ∷ []) ≡ decimal_after high xs * 10 + (y - 48)
decimal-append high [] y = refl
decimal-append high (x ∷ xs) y = decimal-append (high * 10 + (x - 48)) xs y

-- a number has no more digits than its text
below_power : (high : ℕ) (xs : List ℕ) → Are is_digit xs → decimal_after high xs + 1 ≤ (high + 1) * 10 ^ length xs
below_power high [] a = omega arith
below_power high (x ∷ xs) a =
    let d = digit_is x a.0 in
    let m : ℕ = high * 10 + (x - 48) in
    let first : decimal_after m xs + 1 ≤ (m + 1) * 10 ^ length xs = below_power m xs a.1 in
    let next : (m + 1) * 10 ^ length xs
    ≤ ((high + 1) * 10) * 10 ^ length xs = mul-le-mul_right (10 ^ length xs) (omega (arith, d.0, d.1)) in
    let same : ((high + 1) * 10) * 10 ^ length xs ≡ (high + 1) * 10 ^ length (x ∷ xs) = mul_assoc (high + 1) 10
    (10 ^ length xs) ∙ ap (λ n. (high + 1) * n) (sym (pow-succ' 10 (length xs))) in
    omega (arith, first, next, same)

-- the value of the decimal digits so far
pub record ReadsDecimal (n : ℕ) (text : List ℕ) : Type 0 where
  pub digits : Are is_digit text
  pub value : n ≡ decimal_after 0 text

pub decimal_more : (n : ℕ) (text : List ℕ) (i : ℕ) → i < length text → 48 ≤ get_or text i 0 → get_or text i 0 ≤ 57
    → ReadsDecimal n (take i text) → ReadsDecimal (n * 10 + (get_or text i 0 - 48)) (take (i + 1) text)
decimal_more n text i h low high r = record {
  digits = are_more is_digit text i h (digit (get_or text i 0) low high) r.digits;
  value = ap (λ m. m * 10 + (get_or text i 0 - 48)) r.value ∙ sym (decimal-append 0 (take i text) (get_or text i 0))
      ∙ ap (decimal_after 0) (sym (take_more text i 0 h));
}

pub decimal_small : (n : ℕ) (text : List ℕ) (i most : ℕ) → i < length text → length text ≤ most → most ≤ 6
    → ReadsDecimal n (take i text) → n < 100000
decimal_small n text i most h few bound r =
    let l : length (take i text) ≤ 5 = omega (arith, length-take i text) in
    let p : 10 ^ length (take i text) ≤ 10 ^ 5 = pow-le-pow_right (omega arith) l in
    omega (arith, below_power 0 (take i text) r.digits, p, r.value)

pub no_decimal : (least most n : ℕ) (text : List ℕ) (i : ℕ) → IsDecimal least most text n → i < length text
    → (48 ≤ get_or text i 0) × (get_or text i 0 ≤ 57)
no_decimal least most n text i s h = digit_is (get_or text i 0) (are_at is_digit text i h s.digits)

pub decimal_value : (least most few many n m : ℕ) (text : List ℕ) → IsDecimal least most text n
    → IsDecimal few many text m → n ≡ m
decimal_value least most few many n m text a b = a.value ∙ sym b.value
