-- The number of words in an input, and the inputs that are too long.
use Rattle.std.proofs.Common.{◌≡◌, ◌↔◌, ◌+◌, ◌*◌, ◌<◌, ◌≤◌, ℕ, List, [], ◌∷◌, length, Some, ap, sym, ◌∙◌, arith}
use Rattle.words36.specs.Common.{packed, octets_packed}
use Rattle.spec_language.specs.Common.{AreWords}
use Rattle.spec_machine.specs.Common.{longest}
use Rattle.spec_language.specs.declared.encoding.Encoding.{Encoding}
use Rattle.spec_language.specs.declared.encoding.Encoding.TheVariants.{Characters, Words, Octets}
use Rattle.commands.specs.Common.{IsTooLong}
use Rattle.commands.proofs.WordLaws.{length-words}

length-packed : (text : List ℕ) → (length text ≤ 5 * length (packed text))
    × (5 * length (packed text) < length text + 5)
length-packed [] = (omega arith, omega arith)
length-packed (a ∷ []) = (omega arith, omega arith)
length-packed (a ∷ b ∷ []) = (omega arith, omega arith)
length-packed (a ∷ b ∷ c ∷ []) = (omega arith, omega arith)
length-packed (a ∷ b ∷ c ∷ d ∷ []) = (omega arith, omega arith)
length-packed (a ∷ b ∷ c ∷ d ∷ e ∷ rest) =
    let p = length-packed rest in (omega (arith, p.0), omega (arith, p.1))

length-octets : (bytes : List ℕ) → (length bytes ≤ 4 * length (octets_packed bytes))
    × (4 * length (octets_packed bytes) < length bytes + 4)
length-octets [] = (omega arith, omega arith)
length-octets (a ∷ []) = (omega arith, omega arith)
length-octets (a ∷ b ∷ []) = (omega arith, omega arith)
length-octets (a ∷ b ∷ c ∷ []) = (omega arith, omega arith)
length-octets (a ∷ b ∷ c ∷ d ∷ rest) = let p = length-octets rest in (omega (arith, p.0), omega (arith, p.1))

pub too_long_for_words : (encoding : Encoding) (bytes words : List ℕ) → AreWords encoding bytes (Some words)
    → IsTooLong encoding bytes ↔ (longest < length words)
too_long_for_words Characters bytes words are =
    let many : length words ≡ length (packed bytes) = ap length are.1 in
    let p = length-packed bytes in
    (λ long. omega (arith, many, p.0, long), λ more. omega (arith, many, p.1, more))
too_long_for_words Words bytes words are =
    let many : length bytes ≡ 8 * length words = sym (ap length are.1) ∙ length-words words in
    (λ long. omega (arith, many, long), λ more. omega (arith, many, more))
too_long_for_words Octets bytes words are =
    let many : length words ≡ length (octets_packed bytes) = ap length are in
    let p = length-octets bytes in
    (λ long. omega (arith, many, p.0, long), λ more. omega (arith, many, p.1, more))
