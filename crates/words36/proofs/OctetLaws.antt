-- Bytes of eight bits and their words.
use Rattle.std.proofs.Common.{ℕ, zero, suc, Bool, true, false, ◌≡◌, ◌∙◌, ◌+◌, ◌-◌, ◌*◌, ◌/◌, ◌%◌, ◌^◌, ◌<◌, ◌≤◌, List}
use Rattle.std.proofs.Common.{[], ◌∷◌, ◌++◌, length, take, arith, refl, ap, sym, subst, Option, Some, None}
use Rattle.std.proofs.Common.{if◌then◌else◌}
use Rattle.std.proofs.lemmas.Grind.{common_steps}
use Rattle.std.specs.List.{All}
use Rattle.std.proofs.lemmas.List.Elements.{All-drop, All-take, All-append}
use Rattle.words36.specs.Common.{IsWord, octet_word, full_word_mark, octets_packed, IsOctet, AreOctets, four_octets}
use Rattle.words36.specs.Common.{CountsOctets, octets_in, octets_unpacked}
use Rattle.std.specs.Str.{bytes_eq}
use Rattle.std.proofs.lemmas.Option.{cond_some}
use Rattle.std.proofs.lemmas.Slice.Eq.{bytes_eq-Decides}

-- a word and its bytes

pub octets-four : (a b c d low : ℕ) → a < 256 → b < 256 → c < 256 → d < 256 → low < 16
    → four_octets (octet_word a b c d low) ≡ a ∷ b ∷ c ∷ d ∷ []
octets-four a b c d low p q r s t = grind arith

pub low-octets : (a b c d low : ℕ) → low < 16 → octet_word a b c d low % 16 ≡ low
low-octets a b c d low h = omega arith

-- whether a word is the last one, and how many of its bytes count

abbrev pub is_end : List ℕ → Bool
is_end [] = true
is_end (w ∷ words) = false

abbrev pub count_in : ℕ → Bool → ℕ
count_in w true = w % 16
count_in w false = 4

abbrev pub CountsIn : Bool → ℕ → ℕ → Type 0
CountsIn true w count = CountsOctets w count
CountsIn false w count = (w % 16 ≡ 0) × (count ≡ 4)

-- the bytes of words

abbrev pub octets : List ℕ → List ℕ
octets [] = []
octets (w ∷ words) = take (count_in w (is_end words)) (four_octets w) ++ octets words

abbrev pub AreSpelled : List ℕ → Type 0
AreSpelled [] = Unit {0}
AreSpelled (w ∷ words) = IsWord w × CountsIn (is_end words) w (count_in w (is_end words)) × AreSpelled words

end-packed : (bytes : List ℕ) → is_end (octets_packed bytes) ≡ is_end bytes
end-packed [] = refl
end-packed (a ∷ []) = refl
end-packed (a ∷ b ∷ []) = refl
end-packed (a ∷ b ∷ c ∷ []) = refl
end-packed (a ∷ b ∷ c ∷ d ∷ rest) = refl

-- the word of a group
ended_word : (a b c d count : ℕ) → a < 256 → b < 256 → c < 256 → d < 256 → 1 ≤ count → count ≤ 4
    → (a * 256 ^ 3 + b * 256 ^ 2 + c * 256 + d) % 256 ^ (4 - count) ≡ 0
    → CountsOctets (octet_word a b c d count) count
ended_word a b c d count p q r s from to none =
    let low = low-octets a b c d count (omega arith) in
    let above : octet_word a b c d count / 16 ≡ a * 256 ^ 3 + b * 256 ^ 2 + c * 256 + d = omega arith in
    (low, from, to, rw above none)

last-counts : (w count : ℕ) → CountsOctets w count → CountsOctets w (w % 16)
last-counts w count c = subst (λ n. CountsOctets w n) (sym c.0) c

pub packed-spelled : (bytes : List ℕ) → All IsOctet bytes → AreSpelled (octets_packed bytes)
packed-spelled [] h = tt
packed-spelled (a ∷ []) h =
    let p = h 0 0 (omega arith) in
    let counted = ended_word a 0 0 0 1 p (omega arith) (omega arith) (omega arith) (omega arith) (omega arith)
    (omega arith) in
    (omega arith, last-counts (octet_word a 0 0 0 1) 1 counted, tt)
packed-spelled (a ∷ b ∷ []) h =
    let p = h 0 0 (omega arith) in
    let q = h 1 0 (omega arith) in
    let counted = ended_word a b 0 0 2 p q (omega arith) (omega arith) (omega arith) (omega arith) (omega arith) in
    (omega arith, last-counts (octet_word a b 0 0 2) 2 counted, tt)
packed-spelled (a ∷ b ∷ c ∷ []) h =
    let p = h 0 0 (omega arith) in
    let q = h 1 0 (omega arith) in
    let r = h 2 0 (omega arith) in
    let counted = ended_word a b c 0 3 p q r (omega arith) (omega arith) (omega arith) (omega arith) in
    (omega arith, last-counts (octet_word a b c 0 3) 3 counted, tt)
packed-spelled (a ∷ b ∷ c ∷ d ∷ []) h =
    let p = h 0 0 (omega arith) in
    let q = h 1 0 (omega arith) in
    let r = h 2 0 (omega arith) in
    let s = h 3 0 (omega arith) in
    let counted = ended_word a b c d 4 p q r s (omega arith) (omega arith) (omega arith) in
    (omega arith, last-counts (octet_word a b c d 4) 4 counted, tt)
packed-spelled (a ∷ b ∷ c ∷ d ∷ e ∷ rest) h =
    let p = h 0 0 (omega arith) in
    let q = h 1 0 (omega arith) in
    let r = h 2 0 (omega arith) in
    let s = h 3 0 (omega arith) in
    let w = octet_word a b c d 0 in
    let full : CountsIn false w 4 = (low-octets a b c d 0 (omega arith), refl) in (
      omega arith,
      subst (λ end. CountsIn end w (count_in w end)) (sym (end-packed (e ∷ rest))) full,
      packed-spelled (e ∷ rest) (All-drop IsOctet 4 (a ∷ b ∷ c ∷ d ∷ e ∷ rest) h),
    )

last-octets : (a b c d count : ℕ) → a < 256 → b < 256 → c < 256 → d < 256 → count < 16
    → octets (octet_word a b c d count ∷ []) ≡ take count (a ∷ b ∷ c ∷ d ∷ []) ++ []
last-octets a b c d count p q r s t =
    ap (λ n. take n (four_octets (octet_word a b c d count)) ++ []) (low-octets a b c d count t)
    ∙ ap (λ four. take count four ++ []) (octets-four a b c d count p q r s t)

pub octets-packed : (bytes : List ℕ) → All IsOctet bytes → octets (octets_packed bytes) ≡ bytes
octets-packed [] h = refl
octets-packed (a ∷ []) h =
    last-octets a 0 0 0 1 (h 0 0 (omega arith)) (omega arith) (omega arith) (omega arith) (omega arith)
octets-packed (a ∷ b ∷ []) h =
    last-octets a b 0 0 2 (h 0 0 (omega arith)) (h 1 0 (omega arith)) (omega arith) (omega arith) (omega arith)
octets-packed (a ∷ b ∷ c ∷ []) h = last-octets a b c 0 3 (h 0 0 (omega arith)) (h 1 0 (omega arith))
    (h 2 0 (omega arith)) (omega arith) (omega arith)
octets-packed (a ∷ b ∷ c ∷ d ∷ []) h = last-octets a b c d 4 (h 0 0 (omega arith)) (h 1 0 (omega arith))
    (h 2 0 (omega arith)) (h 3 0 (omega arith)) (omega arith)
octets-packed (a ∷ b ∷ c ∷ d ∷ e ∷ rest) h =
    let w = octet_word a b c d 0 in
    let words = octets_packed (e ∷ rest) in
    let four = octets-four a b c d 0 (h 0 0 (omega arith)) (h 1 0 (omega arith)) (h 2 0 (omega arith))
    (h 3 0 (omega arith)) (omega arith) in
    let after = octets-packed (e ∷ rest) (All-drop IsOctet 4 (a ∷ b ∷ c ∷ d ∷ e ∷ rest) h) in
    ap (λ end. take (count_in w end) (four_octets w) ++ octets words) (end-packed (e ∷ rest))
    ∙ ap (λ l. take 4 l ++ octets words) four
    ∙ ap (λ more. a ∷ b ∷ c ∷ d ∷ more) after

pub same-octets : (xs ys : List ℕ) → All IsOctet xs → All IsOctet ys → octets_packed xs ≡ octets_packed ys → xs ≡ ys
same-octets xs ys p q same = sym (octets-packed xs p) ∙ ap octets same ∙ octets-packed ys q

-- one word after the other, read back

full_again : (w : ℕ) → IsWord w → w % 16 ≡ 0
    → w ≡ octet_word (w / 2 ^ 28 % 256) (w / 2 ^ 20 % 256) (w / 2 ^ 12 % 256) (w / 2 ^ 4 % 256) 0
full_again w h low = omega arith

full_mark-more : (bytes : List ℕ) → 0 < length bytes → full_word_mark bytes ≡ 0
full_mark-more [] h = absurd (omega arith)
full_mark-more (b ∷ bytes) h = refl

last_again : (w count : ℕ) → IsWord w → CountsOctets w count
    → w ∷ [] ≡ octets_packed (take count (four_octets w) ++ [])
last_again w zero h c = absurd (omega (arith, c.1))
last_again w (suc zero) h c = ap (λ x. x ∷ []) (omega (arith, c.0, c.3))
last_again w (suc (suc zero)) h c = ap (λ x. x ∷ []) (omega (arith, c.0, c.3))
last_again w (suc (suc (suc zero))) h c = ap (λ x. x ∷ []) (omega (arith, c.0, c.3))
last_again w (suc (suc (suc (suc zero)))) h c = ap (λ x. x ∷ []) (omega (arith, c.0))
last_again w (suc (suc (suc (suc (suc n))))) h c = absurd (omega (arith, c.2))

some_octets : (w : ℕ) (words : List ℕ) → AreSpelled (w ∷ words) → 0 < length (octets (w ∷ words))
some_octets w [] s =
    let from = s.1.1 in
    grind (arith, common_steps)
some_octets w (v ∷ words) s = omega arith

pub packed-octets : (words : List ℕ) → AreSpelled words → words ≡ octets_packed (octets words)
packed-octets [] s = refl
packed-octets (w ∷ []) s = last_again w (w % 16) s.0 s.1
packed-octets (w ∷ v ∷ words) s =
    let more = octets (v ∷ words) in
    let mark = full_mark-more more (some_octets v words s.2) in
    let word = full_again w s.0 s.1.0 in
    ap (λ x. x ∷ v ∷ words) word
    ∙ ap (λ low. octet_word (w / 2 ^ 28 % 256) (w / 2 ^ 20 % 256) (w / 2 ^ 12 % 256) (w / 2 ^ 4 % 256) low
    ∷ v ∷ words) (sym mark)
    ∙ ap (λ l. octet_word (w / 2 ^ 28 % 256) (w / 2 ^ 20 % 256) (w / 2 ^ 12 % 256) (w / 2 ^ 4 % 256)
    (full_word_mark more) ∷ l) (packed-octets (v ∷ words) s.2)

four-fit : (w : ℕ) → All IsOctet (four_octets w)
four-fit w = grind (arith, common_steps)

pub are_octets : (words : List ℕ) → All IsOctet (octets words)
are_octets [] = λ i d h. absurd (omega arith)
are_octets (w ∷ words) = All-append IsOctet (take (count_in w (is_end words)) (four_octets w)) (octets words)
    (All-take IsOctet (count_in w (is_end words)) (four_octets w) (four-fit w)) (are_octets words)

-- the result of a walk through the words

pub spelled-of : (words bytes : List ℕ) → AreOctets words bytes → AreSpelled words
spelled-of words bytes a = subst AreSpelled (sym a.packed) (packed-spelled bytes a.fit)

-- the bytes that are found

in-is : (words : List ℕ) → octets_in words ≡ octets words
in-is [] = refl
in-is (w ∷ []) = refl
in-is (w ∷ v ∷ words) = ap (λ l. take 4 (four_octets w) ++ l) (in-is (v ∷ words))

found-by : (words : List ℕ) (same : Bool) → bytes_eq (octets_packed (octets_in words)) words ≡ same
    → octets_unpacked words ≡ (if same then Some (octets_in words) else None)
found-by words same e = ap (λ b. if b then Some (octets_in words) else None) e

pub octets-found : (words bytes : List ℕ) → AreOctets words bytes → octets_unpacked words ≡ Some bytes
octets-found words bytes a =
    let read : octets_in words ≡ bytes = in-is words ∙ ap octets a.packed ∙ octets-packed bytes a.fit in
    let again : octets_packed (octets_in words) ≡ words = ap octets_packed read ∙ sym a.packed in
    let same = (bytes_eq-Decides (octets_packed (octets_in words)) words).1 again in
    found-by words true same ∙ ap (λ l. Some l) read

pub found-right : (words bytes : List ℕ) → octets_unpacked words ≡ Some bytes → AreOctets words bytes
found-right words bytes found =
    let same = cond_some (bytes_eq (octets_packed (octets_in words)) words) (octets_in words) bytes found in
    let again = (bytes_eq-Decides (octets_packed (octets_in words)) words).0 same.0 in
    record {
      fit = subst (All IsOctet) (sym (in-is words) ∙ same.1) (are_octets words);
      packed = sym again ∙ ap octets_packed same.1;
    }

none-by : (words : List ℕ) (found : Option (List ℕ)) → octets_unpacked words ≡ found
    → ((bytes : List ℕ) → AreOctets words bytes → ⊥) → found ≡ None
none-by words None is none = refl
none-by words (Some bytes) is none = absurd (none bytes (found-right words bytes is))

pub none-found : (words : List ℕ) → ((bytes : List ℕ) → AreOctets words bytes → ⊥) → octets_unpacked words ≡ None
none-found words none = none-by words (octets_unpacked words) refl none
