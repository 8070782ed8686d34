-- Bytes of an input, and the words that a file gets of them.
use Rattle.std.proofs.Common.{◌≡◌, ℕ, ◌+◌, ◌*◌, ◌/◌, ◌%◌, ◌^◌, ◌<◌, ◌≤◌, true, false, List, [], ◌∷◌, length, get_or}
use Rattle.std.proofs.Common.{All, Some, refl, sym, ◌∙◌, ap, subst, arith, zero, suc, nat_eq, Bool, ◌++◌, ◌||◌}
use Rattle.std.proofs.Common.{if◌then◌else◌}
use Rattle.std.proofs.lemmas.Bool.Decides.{nat_tests}
use Rattle.std.specs.List.{list_any}
use Rattle.std.specs.Prelude.{flat_map}
use Rattle.std.proofs.lemmas.List.Elements.{All-from_get_or}
use Rattle.words36.specs.Common.{IsWord, word_bytes, number_at}
use Rattle.words36.proofs.BlockLaws.{AreRead, block_bytes-read, number_at-block_bytes}
use Rattle.spec_language.specs.Common.{is_character, AreWords, Are, not_null}
use Rattle.spec_language.specs.declared.encoding.Encoding.TheVariants.{Words}
use Rattle.commands.proofs.FieldLaws.{are_at}

pub no_character : (bytes : List ℕ) (i : ℕ) → i < length bytes → false ≡ is_character (get_or bytes i 0)
    → Are is_character bytes → false ≡ true
no_character bytes i h e a = e ∙ are_at is_character bytes i h a

-- Eight bytes a word.

pub length-words : (words : List ℕ) → length (flat_map word_bytes words) ≡ 8 * length words
length-words [] = refl
length-words (w ∷ words) = omega (arith, length-words words)

pub not_eights : (bytes words : List ℕ) → (length bytes % 8 ≡ 0 → ⊥) → flat_map word_bytes words ≡ bytes → ⊥
not_eights bytes words odd same =
    let long : length bytes ≡ 8 * length words = sym (ap length same) ∙ length-words words in
    odd (omega arith)

-- if a place's bytes are no word, no words have the bytes
pub no_word : (bytes words : List ℕ) (i : ℕ) → 8 * i + 8 ≤ length bytes → 2 ^ 36 ≤ number_at bytes i → All IsWord words
    → flat_map word_bytes words ≡ bytes → ⊥
no_word bytes words i inside bad all same =
    let long : length bytes ≡ 8 * length words = sym (ap length same) ∙ length-words words in
    let within : i < length words = omega arith in
    let value : number_at bytes i ≡ get_or words i 0 = ap (λ l. number_at l i) (sym same)
    ∙ number_at-block_bytes words i within (all i 0 within) in
    let word : get_or words i 0 < 2 ^ 36 = all i 0 within in
    omega arith

pub all_words : (bytes words : List ℕ) (i : ℕ) → ((j : ℕ) → get_or bytes j 0 < 256) → length bytes % 8 ≡ 0
    → length bytes / 8 ≤ i → i ≤ length bytes / 8 → length words ≡ i → AreRead bytes words i
    → AreWords Words bytes (Some words)
all_words bytes words i small even above below long read =
    let all : length bytes ≡ 8 * i = omega arith in (
      All-from_get_or IsWord words 0 (λ k h.
          let within : k < i = omega arith in
          let P : ℕ → Type 0 = IsWord in
          subst P (sym (read.value k within)) (read.fits k within)),
      block_bytes-read bytes words i small all long read,
    )

-- Characters of which none is a null.
pub none_null : (characters : List ℕ) → list_any (λ c. nat_eq c 0) characters ≡ false
    → flat_map not_null characters ≡ characters
none_null [] none = refl
none_null (zero ∷ characters) none = let wrong : true ≡ false = none in absurd (cc)
none_null (suc c ∷ characters) none =
    let here : nat_eq (suc c) 0 ≡ false = grind (arith, nat_tests) in
    let rest = subst (λ b. (b || list_any (λ y. nat_eq y 0) characters) ≡ false) here none in
    ap (λ (b : Bool). (if b then [] else suc c ∷ []) ++ flat_map not_null characters) here
    ∙ ap (λ l. suc c ∷ l) (none_null characters rest)
