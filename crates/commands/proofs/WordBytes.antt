-- The words of a file as bytes: characters, bytes of eight bits, eight bytes for each.
use Rattle.std.proofs.Common.{◌≡◌, ℕ, ◌*◌, ◌/◌, ◌%◌, ◌^◌, ◌<◌, ◌≤◌, true, false, Bool, List, [], ◌∷◌, ◌++◌, length, All}
use Rattle.std.proofs.Common.{refl, sym, ◌∙◌, ap, subst, arith, zero, suc, nat_eq, nat_le, if◌then◌else◌, take, drop}
use Rattle.std.proofs.Common.{append-nil, Option, Some, None, IfNone, min}
use Rattle.std.proofs.lemmas.List.{append_cancel_left, take-append-drop, take_at, drop_all, length-take-le}
use Rattle.std.proofs.lemmas.List.{ext_get_or, length-append}
use Rattle.std.proofs.lemmas.List.Elements.{All-nil, All-cons, All-append, All-from_recursion}
use Rattle.std.proofs.lemmas.Bool.Decides.{nat_tests}
use Rattle.std.proofs.lemmas.Grind.{flat_map-append}
use Rattle.std.specs.Prelude.{flat_map}
use Rattle.words36.specs.Common.{ascii_word_of, five_characters, packed, unpacked, number_at, word_bytes, IsOctet}
use Rattle.words36.specs.Common.{IsWord}
use Rattle.words36.proofs.BlockLaws.{number_at-block_bytes}
use Rattle.spec_language.specs.Common.{is_character, AreWords, Are, not_null, typed}
use Rattle.spec_language.specs.declared.encoding.Encoding.{Encoding}
use Rattle.spec_language.specs.declared.encoding.Encoding.TheVariants.{Characters, Words, Octets}
use Rattle.spec_language.proofs.Common.{are_append}
use Rattle.commands.specs.Common.{HasBytes}
use Rattle.commands.proofs.WordLaws.{length-words}
use Rattle.words36.proofs.AsciiLaws.{five-ascii}

-- Characters of a file.

character_fits : (c : ℕ) → is_character c ≡ true → c ≤ 127
character_fits c is = grind (arith, nat_tests)

character_shown : (c : ℕ) → is_character c ≡ true → not_null c ≡ c ∷ []
character_shown zero is = let wrong : false ≡ true = is in cc
character_shown (suc c) is = let some : nat_eq (suc c) 0 ≡ false = grind (arith, nat_tests) in
    ap (λ (b : Bool). if b then [] else suc c ∷ []) some

-- the text that is printed for a text's words is the text
pub typed_packed : (text : List ℕ) → Are is_character text → typed (packed text) ≡ text
typed_packed [] are = refl
typed_packed (a ∷ []) are =
    ap (flat_map not_null) (five-ascii a 0 0 0 0 (character_fits a are.0) (omega arith) (omega arith) (omega arith)
    (omega arith))
    ∙ ap (λ l. l ++ []) (character_shown a are.0)
typed_packed (a ∷ b ∷ []) are =
    ap (flat_map not_null) (five-ascii a b 0 0 0 (character_fits a are.0) (character_fits b are.1.0) (omega arith)
    (omega arith) (omega arith))
    ∙ (λ i. character_shown a are.0 i ++ (character_shown b are.1.0 i ++ []))
typed_packed (a ∷ b ∷ c ∷ []) are =
    ap (flat_map not_null) (five-ascii a b c 0 0 (character_fits a are.0) (character_fits b are.1.0)
    (character_fits c are.1.1.0) (omega arith) (omega arith))
    ∙ (λ i. character_shown a are.0 i ++ (character_shown b are.1.0 i ++ (character_shown c are.1.1.0 i ++ [])))
typed_packed (a ∷ b ∷ c ∷ d ∷ []) are =
    ap (flat_map not_null) (five-ascii a b c d 0 (character_fits a are.0) (character_fits b are.1.0)
    (character_fits c are.1.1.0) (character_fits d are.1.1.1.0) (omega arith))
    ∙ (λ i. character_shown a are.0 i ++ (character_shown b are.1.0 i ++ (character_shown c are.1.1.0 i
    ++ (character_shown d are.1.1.1.0 i ++ []))))
typed_packed (a ∷ b ∷ c ∷ d ∷ e ∷ rest) are =
    ap (λ l. flat_map not_null (l ++ unpacked (packed rest)))
    (five-ascii a b c d e (character_fits a are.0) (character_fits b are.1.0)
    (character_fits c are.1.1.0) (character_fits d are.1.1.1.0) (character_fits e are.1.1.1.1.0))
    ∙ (λ i. character_shown a are.0 i ++ (character_shown b are.1.0 i ++ (character_shown c are.1.1.0 i
    ++ (character_shown d are.1.1.1.0 i ++ (character_shown e are.1.1.1.1.0 i
    ++ typed_packed rest are.1.1.1.1.1 i)))))

-- The text that is printed has only characters of a file.

shown_is : (c : ℕ) → c ≤ 127 → Are is_character (not_null c)
shown_is zero few = tt
shown_is (suc c) few =
    let some : nat_eq (suc c) 0 ≡ false = grind (arith, nat_tests) in
    let is : is_character (suc c) ≡ true = grind (arith, nat_tests) in
    subst (λ (b : Bool). Are is_character (if b then [] else suc c ∷ [])) (sym some) (is, tt)

typed_is : (w : ℕ) → Are is_character (flat_map not_null (five_characters w))
typed_is w =
    let a : w / (2 * 128 ^ 4) % 128 ≤ 127 = omega arith in
    let b : w / (2 * 128 ^ 3) % 128 ≤ 127 = omega arith in
    let c : w / (2 * 128 ^ 2) % 128 ≤ 127 = omega arith in
    let d : w / (2 * 128) % 128 ≤ 127 = omega arith in
    let e : w / 2 % 128 ≤ 127 = omega arith in
    are_append is_character _ _ (shown_is _ a) (are_append is_character _ _ (shown_is _ b)
    (are_append is_character _ _ (shown_is _ c) (are_append is_character _ _ (shown_is _ d)
    (are_append is_character _ _ (shown_is _ e) tt))))

pub typed_are : (words : List ℕ) → Are is_character (typed words)
typed_are [] = tt
typed_are (w ∷ words) =
    subst (Are is_character) (sym (flat_map-append not_null (five_characters w) (unpacked words)))
    (are_append is_character (flat_map not_null (five_characters w)) (typed words) (typed_is w) (typed_are words))

pub characters_are_octets : (bytes : List ℕ) → Are is_character bytes → All IsOctet bytes
characters_are_octets [] are = All-nil IsOctet
characters_are_octets (c ∷ bytes) are =
    let fits : c < 256 = omega (arith, character_fits c are.0) in
    All-cons IsOctet c bytes fits (characters_are_octets bytes are.1)

-- The words of a text, piece by piece.

packed_append : (front back : List ℕ) (n : ℕ) → length front ≡ 5 * n
    → packed (front ++ back) ≡ packed front ++ packed back
packed_append [] back n h = refl
packed_append (a ∷ []) back n h = let wrong : ⊥ = omega (arith, h) in absurd wrong
packed_append (a ∷ b ∷ []) back n h = let wrong : ⊥ = omega (arith, h) in absurd wrong
packed_append (a ∷ b ∷ c ∷ []) back n h = let wrong : ⊥ = omega (arith, h) in absurd wrong
packed_append (a ∷ b ∷ c ∷ d ∷ []) back n h = let wrong : ⊥ = omega (arith, h) in absurd wrong
packed_append (a ∷ b ∷ c ∷ d ∷ e ∷ rest) back zero h = let wrong : ⊥ = omega (arith, h) in absurd wrong
packed_append (a ∷ b ∷ c ∷ d ∷ e ∷ rest) back (suc n) h =
    let less : length rest ≡ 5 * n = omega (arith, h) in
    ap (λ (l : List ℕ). ascii_word_of (a ∷ b ∷ c ∷ d ∷ e ∷ []) ∷ l) (packed_append rest back n less)

-- a piece is all of it, or whole words
pub packed_pieces : (text piece after : List ℕ) (count n : ℕ) → n ≡ min (length text) (5 * count)
    → piece ≡ take n text → after ≡ drop n text → packed text ≡ packed piece ++ packed after
packed_pieces text piece after count n is is_piece is_after =
    by (nat_le (length text) (5 * count)) refl
  where
    whole : piece ++ after ≡ text
    whole = (λ i. is_piece i ++ is_after i) ∙ take-append-drop n text

    by : (b : Bool) → nat_le (length text) (5 * count) ≡ b → packed text ≡ packed piece ++ packed after
    by true few =
        let all : length text ≤ n = grind (arith, nat_tests) in
        let none : after ≡ [] = is_after ∙ drop_all n text all in
        ap packed (sym whole ∙ ap (λ (l : List ℕ). piece ++ l) none ∙ append-nil piece)
        ∙ sym (append-nil (packed piece)) ∙ ap (λ (l : List ℕ). packed piece ++ l) (ap packed (sym none))
    by false many =
        let long : n ≡ 5 * count = grind (arith, nat_tests) in
        let inside : n ≤ length text = grind (arith, nat_tests) in
        let some : length piece ≡ 5 * count = ap length is_piece ∙ length-take-le n text inside ∙ long in
        ap packed (sym whole) ∙ packed_append piece after count some

-- The rest of a text has the rest of the words exactly if the text has the words.
abbrev pub AreLeft : List ℕ → List ℕ → List ℕ → List ℕ → Type 0
AreLeft text words rest left = (packed rest ≡ left → packed text ≡ words) × (packed text ≡ words → packed rest ≡ left)

module _ (text words rest left piece after : List ℕ) (count n : ℕ) (p : AreLeft text words rest left)
    (is : n ≡ min (length rest) (5 * count)) (is_piece : piece ≡ take n rest) (is_after : after ≡ drop n rest)
    (front back : List ℕ) (m : ℕ) (some : m ≡ min (length left) (length (packed piece)))
    (is_front : front ≡ take m left) (is_back : back ≡ drop m left) where
  pieces : packed rest ≡ packed piece ++ packed after
  pieces = packed_pieces rest piece after count n is is_piece is_after

  parts : front ++ back ≡ left
  parts = (λ i. is_front i ++ is_back i) ∙ take-append-drop m left

  pub left_after : front ≡ packed piece → AreLeft text words after back
  left_after same = (
    (λ e. p.0 (pieces ∙ (λ i. sym same i ++ e i) ∙ parts)),
    (λ e. append_cancel_left (packed piece) (packed after) back
        (sym pieces ∙ p.1 e ∙ sym parts ∙ ap (λ (l : List ℕ). l ++ back) same)),
  )

  pub not_left : (front ≡ packed piece → ⊥) → packed text ≡ words → ⊥
  not_left other e =
      let whole : left ≡ packed piece ++ packed after = sym (p.1 e) ∙ pieces in
      let long : m ≡ length (packed piece) = some ∙ by (packed piece) (packed after) left whole in
      other (is_front ∙ ap (take m) whole ∙ take_at (packed piece) (packed after) m (sym long))
    where
      by : (xs ys zs : List ℕ) → zs ≡ xs ++ ys → min (length zs) (length xs) ≡ length xs
      by xs ys zs e = grind (arith, nat_tests, ap length e, length-append xs ys)

-- The words of a file as its characters.
module _ (words text : List ℕ) (is : text ≡ typed words) where
  pub characters_exact : packed text ≡ words → All IsOctet text × AreWords Characters text (Some words)
  characters_exact same =
      let are : Are is_character text = subst (Are is_character) (sym is) (typed_are words) in
      (characters_are_octets text are, (are, sym same))

  pub characters_none : (packed text ≡ words → ⊥) → HasBytes Characters words → ⊥
  characters_none other (bytes, fit, are) =
      let same : text ≡ bytes = is ∙ ap typed are.1 ∙ typed_packed bytes are.0 in
      other (ap packed same ∙ sym are.1)

-- the result if nothing was found
pub none_of : {X P : Type 0} (found : Option X) → ((x : X) → found ≡ Some x → ⊥) → IfNone found P → P
none_of None other p = p
none_of (Some x) other p = absurd (other x refl)

-- As words.
word_fits : (w : ℕ) → All IsOctet (word_bytes w)
word_fits w =
    let a : w / 256 ^ 7 % 256 < 256 = omega arith in
    let b : w / 256 ^ 6 % 256 < 256 = omega arith in
    let c : w / 256 ^ 5 % 256 < 256 = omega arith in
    let d : w / 256 ^ 4 % 256 < 256 = omega arith in
    let e : w / 256 ^ 3 % 256 < 256 = omega arith in
    let f : w / 256 ^ 2 % 256 < 256 = omega arith in
    let g : w / 256 % 256 < 256 = omega arith in
    let h : w % 256 < 256 = omega arith in
    All-from_recursion IsOctet (word_bytes w) (a, (b, (c, (d, (e, (f, (g, (h, tt))))))))

words_fit : (words : List ℕ) → All IsOctet (flat_map word_bytes words)
words_fit [] = All-nil IsOctet
words_fit (w ∷ words) = All-append IsOctet (word_bytes w) (flat_map word_bytes words) (word_fits w) (words_fit words)

pub words_exact : (words bytes : List ℕ) → All IsWord words → bytes ≡ flat_map word_bytes words
    → All IsOctet bytes × AreWords Words bytes (Some words)
words_exact words bytes all is =
    (subst (λ (l : List ℕ). All IsOctet l) (sym is) (words_fit words), (all, sym is))

-- In each encoding, bytes have at most one list of words.

pub words_same : (a b : List ℕ) → All IsWord a → All IsWord b → flat_map word_bytes a ≡ flat_map word_bytes b → a ≡ b
words_same a b fit other same =
    let long : length a ≡ length b = omega (arith, length-words a, length-words b, ap length same) in
    ext_get_or 0 a b long (λ i h.
    let inside : i < length b = omega (arith, h, long) in
    sym (number_at-block_bytes a i h (fit i 0 h)) ∙ ap (λ (l : List ℕ). number_at l i) same
    ∙ number_at-block_bytes b i inside (other i 0 inside))

pub one_reading : (encoding : Encoding) (bytes words other : List ℕ) → AreWords encoding bytes (Some words)
    → AreWords encoding bytes (Some other) → other ≡ words
one_reading Characters bytes words other p q = q.1 ∙ sym p.1
one_reading Words bytes words other p q = words_same other words q.0 p.0 (q.1 ∙ sym p.1)
one_reading Octets bytes words other p q = q ∙ sym p
