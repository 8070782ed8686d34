-- Numbers written in digits, the first leftmost.
use Rattle.std.proofs.Common.{ℕ, zero, suc, ◌≡◌, ◌+◌, ◌*◌, ◌^◌, ◌<◌, arith, refl, add-one}
use Rattle.std.proofs.Math.Nat.{pow-zero, pow-suc, mul_comm}
use Rattle.std.proofs.lemmas.Nat.{mul-add-lt}

-- the number that the first n digits write
unfoldable pub leading : (ℕ → ℕ) → ℕ → ℕ → ℕ
leading digit base zero = 0
leading digit base (suc n) = leading digit base n * base + digit n

pub leading-none : (digit : ℕ → ℕ) (base : ℕ) → leading digit base 0 ≡ 0
unfolding leading
leading-none digit base = refl

pub leading-more : (digit : ℕ → ℕ) (base n : ℕ) → leading digit base (n + 1) ≡ leading digit base n * base + digit n
unfolding leading
leading-more digit base n = rw add-one refl

pub leading-lt : (digit : ℕ → ℕ) (base n : ℕ) → ((k : ℕ) → k < n → digit k < base) → leading digit base n < base ^ n
unfolding leading
leading-lt digit base zero h = omega (arith, pow-zero base)
leading-lt digit base (suc n) h =
    let below = mul-add-lt (leading digit base n) base (digit n) (base ^ n)
    (leading-lt digit base n (λ k q. h k (omega arith))) (h n (omega arith)) in
    omega (arith, pow-suc base n, mul_comm base (base ^ n))

pub leading_6 : (digit : ℕ → ℕ) → leading digit 64 6 ≡ digit 0 * 64 ^ 5 + digit 1 * 64 ^ 4 + digit 2 * 64 ^ 3
    + digit 3 * 64 ^ 2 + digit 4 * 64 + digit 5
unfolding leading
leading_6 digit = omega arith

pub leading_5 : (digit : ℕ → ℕ) → leading digit 128 5 ≡ digit 0 * 128 ^ 4 + digit 1 * 128 ^ 3 + digit 2 * 128 ^ 2
    + digit 3 * 128 + digit 4
unfolding leading
leading_5 digit = omega arith
