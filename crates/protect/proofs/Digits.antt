-- What holds for the digits 0 to 6, and for 7 and all above it, holds for every number.
use Rattle.std.proofs.Common.{◌≡◌, ◌≤◌, ◌<◌, ◌-◌, ◌^◌, ◌==◌, ℕ, zero, suc, Bool, false, nat_le, bit_and, refl, sym}
use Rattle.std.proofs.Common.{ap, ◌∙◌, arith}
use Rattle.std.proofs.lemmas.Bool.Decides.{nat_tests}
use Rattle.spec_machine.specs.Common.{acts_of, may_execute, may_read, may_append, may_update, may_supersede}
use Rattle.spec_machine.specs.Common.{may_rename, may_protect}
use Rattle.protect.specs.AllowedActs.{allows}

by_digits : (f g : ℕ → Bool) → f 0 ≡ g 0 → f 1 ≡ g 1 → f 2 ≡ g 2 → f 3 ≡ g 3 → f 4 ≡ g 4 → f 5 ≡ g 5 → f 6 ≡ g 6
    → ((d : ℕ) → 7 ≤ d → f d ≡ g d) → (d : ℕ) → f d ≡ g d
by_digits f g a b c d e p q more zero = a
by_digits f g a b c d e p q more (suc zero) = b
by_digits f g a b c d e p q more (suc (suc zero)) = c
by_digits f g a b c d e p q more (suc (suc (suc zero))) = d
by_digits f g a b c d e p q more (suc (suc (suc (suc zero)))) = e
by_digits f g a b c d e p q more (suc (suc (suc (suc (suc zero))))) = p
by_digits f g a b c d e p q more (suc (suc (suc (suc (suc (suc zero)))))) = q
by_digits f g a b c d e p q more (suc (suc (suc (suc (suc (suc (suc m))))))) = more
    (suc (suc (suc (suc (suc (suc (suc m))))))) (omega arith)

gone : (d : ℕ) → 7 ≤ d → 7 - d ≡ 0
gone d h = omega arith

-- no act is left
above : (d : ℕ) → 7 ≤ d → acts_of d ≡ 0
above d h = ap (λ n. 2 ^ n - 1) (gone d h)

above_of : (act : ℕ) → (bit_and 0 act == act) ≡ false → (d : ℕ) → 7 ≤ d → allows d act ≡ false
above_of act none d h = ap (λ n. bit_and n act == act) (above d h) ∙ none

past : (d n : ℕ) → n < 7 → 7 ≤ d → nat_le d n ≡ false
past d n few h = grind (arith, nat_tests)

not_zero : (d : ℕ) → 7 ≤ d → (d == 0) ≡ false
not_zero d h = grind (arith, nat_tests)

pub executes : (d : ℕ) → allows d 1 ≡ may_execute d
executes = by_digits (λ d. allows d 1) may_execute refl refl refl refl refl refl refl (λ d h. above_of 1 refl d h
    ∙ sym (past d 6 (omega arith) h))

pub reads : (d : ℕ) → allows d 2 ≡ may_read d
reads = by_digits (λ d. allows d 2) may_read refl refl refl refl refl refl refl (λ d h. above_of 2 refl d h
    ∙ sym (past d 5 (omega arith) h))

pub appends : (d : ℕ) → allows d 4 ≡ may_append d
appends = by_digits (λ d. allows d 4) may_append refl refl refl refl refl refl refl (λ d h. above_of 4 refl d h
    ∙ sym (past d 4 (omega arith) h))

pub updates : (d : ℕ) → allows d 8 ≡ may_update d
updates = by_digits (λ d. allows d 8) may_update refl refl refl refl refl refl refl (λ d h. above_of 8 refl d h
    ∙ sym (past d 3 (omega arith) h))

pub supersedes : (d : ℕ) → allows d 16 ≡ may_supersede d
supersedes = by_digits (λ d. allows d 16) may_supersede refl refl refl refl refl refl refl (λ d h. above_of 16 refl d h
    ∙ sym (past d 2 (omega arith) h))

pub renames : (d : ℕ) → allows d 32 ≡ may_rename d
renames = by_digits (λ d. allows d 32) may_rename refl refl refl refl refl refl refl (λ d h. above_of 32 refl d h
    ∙ sym (past d 1 (omega arith) h))

pub protects : (d : ℕ) → allows d 64 ≡ may_protect d
protects = by_digits (λ d. allows d 64) may_protect refl refl refl refl refl refl refl (λ d h. above_of 64 refl d h
    ∙ sym (not_zero d h))
