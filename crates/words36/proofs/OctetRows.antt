-- Worked rows of bytes in words, computed by hand. "A" is 01000001 in binary, "B" 01000010, and so on. A word is its
-- bytes one after the other and then the count, 36 binary digits, of which each three are an octal digit:
-- 010 000 010 100 001 001 000 011 010 001 000 100 for "ABCD", with the count 0100 at its end.
use Rattle.std.proofs.Common.{◌≡◌, [], ◌∷◌, refl}
use Rattle.std.specs.Prelude.{codes}
use Rattle.words36.specs.Common.{octets_packed}

no_bytes : octets_packed [] ≡ []
no_bytes = refl

one_byte : octets_packed (codes "A") ≡ 0o202000000001 ∷ []
one_byte = refl

two_bytes : octets_packed (codes "AB") ≡ 0o202410000002 ∷ []
two_bytes = refl

three_bytes : octets_packed (codes "ABC") ≡ 0o202411030003 ∷ []
three_bytes = refl

four_bytes : octets_packed (codes "ABCD") ≡ 0o202411032104 ∷ []
four_bytes = refl

-- the first word has no count, since a byte follows: 0100 0100 0000 at its end, and "E" is 01000101
five_bytes : octets_packed (codes "ABCDE") ≡ 0o202411032100 ∷ 0o212000000001 ∷ []
five_bytes = refl

greatest_bytes : octets_packed (255 ∷ 255 ∷ 255 ∷ 255 ∷ 255 ∷ 255 ∷ 255 ∷ 255 ∷ [])
    ≡ 0o777777777760 ∷ 0o777777777764 ∷ []
greatest_bytes = refl
