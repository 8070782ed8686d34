-- What is wrong with a block at which a reader stops.
use Rattle.std.proofs.Common.{◌≡◌, ⊎_elim, ℕ, ◌<◌, List, length}
use Rattle.std.proofs.lemmas.Bool.{cases_eq}
use Rattle.spec_image.specs.Common.{SpecPrime, SpecRun, InSpace}
use Rattle.retrieval.specs.Common.{SpellsPrime, SpellsExtension, IsBadPrime, IsBadExtension}

pub prime_stuck : (size layout : ℕ) (words : List ℕ) (p : SpecPrime) (runs : List SpecRun) (next : ℕ)
    → SpellsPrime layout words p runs next → 0 < next → (length runs ≡ 112 → InSpace size next → ⊥)
    → IsBadPrime size layout words
prime_stuck size layout words p runs next s some stuck =
    ⊎_elim (λ (full : length runs ≡ 112). IsBadPrime.next_outside p runs next s some (stuck full))
    (λ (less : length runs ≡ 112 → ⊥). IsBadPrime.short p runs next s some less) (cases_eq (length runs) 112)

pub extension_stuck : (size : ℕ) (words : List ℕ) (runs : List SpecRun) (next : ℕ) → SpellsExtension words runs next
    → 0 < next → (length runs ≡ 126 → InSpace size next → ⊥) → IsBadExtension size words
extension_stuck size words runs next s some stuck =
    ⊎_elim (λ (full : length runs ≡ 126). IsBadExtension.next_outside runs next s some (stuck full))
    (λ (less : length runs ≡ 126 → ⊥). IsBadExtension.short runs next s some less) (cases_eq (length runs) 126)
