-- Lines of a list as a table, part by part.
use Rattle.std.proofs.Common.{◌≡◌, ℕ, ◌+◌, ◌-◌, ◌≤◌, ◌==◌, List, [], ◌∷◌, ◌++◌, length, take, get_or, ◌/◌, ◌%◌, ◌^◌}
use Rattle.std.proofs.Common.{append_assoc, sym, ◌∙◌, ap, subst, arith}
use Rattle.std.proofs.lemmas.Bool.Decides.{nat_tests}
use Rattle.std.proofs.lemmas.List.Elements.{All-nil, All-cons}
use Rattle.std.specs.Prelude.{codes, All}
use Rattle.std.specs.Char.{is_ascii_whitespace}
use Rattle.std.specs.Fmt.{decimal}
use Rattle.std.specs.List.{suffix_len}
use Rattle.std.specs.Str.{IsTrimAsciiEnd}
use Rattle.std.proofs.lemmas.List.Sums.{suffix_len_is}
use Rattle.words36.specs.Common.{characters}
use Rattle.words36.specs.declared.names.FileName.{FileName}
use Rattle.spec_language.specs.Common.{extension_text, three_digits, two_octal, two_digits, trimmed, owner_text}
use Rattle.spec_language.specs.Common.{place_fields, right_fields, day_field, minute_field, size_fields, row_text}
use Rattle.spec_image.specs.declared.entry.Entry.{Entry}

pub behind : (old a b x p : List ℕ) → a ≡ old ++ x → b ≡ a ++ p → b ≡ old ++ (x ++ p)
behind old a b x p e f = f ∙ ap (λ (l : List ℕ). l ++ p) e ∙ append_assoc old x p

-- among the characters from the blank upwards, only a blank is white space
blank_alone : (c : ℕ) → 32 ≤ c → is_ascii_whitespace c ≡ (c == 32)
blank_alone c h = grind (arith, nat_tests)

pub trimmed_is : (text rest : List ℕ) → All (λ c. 32 ≤ c) text → IsTrimAsciiEnd text rest → rest ≡ trimmed text
trimmed_is text rest all is =
    let within : is.0 ≤ length text = is.3 in
    let tail = suffix_len_is (λ c. c == 32) text is.0 0 within
    (λ k from below. sym (blank_alone (get_or text k 0) (all k 0 below)) ∙ is.4 k from below)
    (λ some. sym (blank_alone (get_or text (is.0 - 1) 0) (all (is.0 - 1) 0 (omega arith))) ∙ is.5 some) in
    let kept : is.0 ≡ length text - suffix_len (λ c. c == 32) text = omega arith in
    is.1 ∙ ap (λ n. take n text) kept

three_from_blank : (a b c : ℕ) → All (λ x. 32 ≤ x) ((a + 32) ∷ (b + 32) ∷ (c + 32) ∷ [])
three_from_blank a b c =
    All-cons (λ x. 32 ≤ x) (a + 32) ((b + 32) ∷ (c + 32) ∷ []) (omega arith)
    (All-cons (λ x. 32 ≤ x) (b + 32) ((c + 32) ∷ []) (omega arith)
    (All-cons (λ x. 32 ≤ x) (c + 32) [] (omega arith) (All-nil (λ x. 32 ≤ x))))

pub from_blank : (ext : ℕ) (text : List ℕ) → text ≡ extension_text ext → All (λ c. 32 ≤ c) text
from_blank ext text is =
    subst (All (λ c. 32 ≤ c)) (sym is) (three_from_blank (ext / 64 ^ 2 % 64) (ext / 64 % 64) (ext % 64))

-- The parts of a line.

pub place_pushed : (owner : ℕ) (name : FileName) (old owned placed named tabbed extended ended place first last : List
    ℕ)
    → place ≡ owner_text owner → first ≡ trimmed (characters name.name)
    → last ≡ trimmed (extension_text name.ext)
    → owned ≡ old ++ place → placed ≡ owned ++ 9 ∷ [] → named ≡ placed ++ first → tabbed ≡ named ++ 9 ∷ [] → extended
    ≡ tabbed ++ last
    → ended ≡ extended ++ 9 ∷ [] → ended ≡ old ++ place_fields owner name
place_pushed owner name old owned placed named tabbed extended ended place first last is_place is_first is_last
    is_owned is_placed is_named is_tabbed is_extended is_ended =
    let owned' = is_owned ∙ ap (λ (l : List ℕ). old ++ l) is_place in
    let named' : named ≡ placed ++ trimmed (characters name.name) = is_named
    ∙ ap (λ (l : List ℕ). placed ++ l) is_first in
    let extended' : extended ≡ tabbed ++ trimmed (extension_text name.ext) = is_extended
    ∙ ap (λ (l : List ℕ). tabbed ++ l) is_last in
    behind old extended ended _ _ (behind old tabbed extended _ _ (behind old named tabbed _ _
    (behind old placed named _ _ (behind old owned placed _ _ owned' is_placed) named') is_tabbed) extended') is_ended

pub rights_pushed : (protection mode : ℕ) (old protected tabbed moded ended three two : List ℕ)
    → three ≡ three_digits protection → two ≡ two_octal mode → protected ≡ old ++ three → tabbed ≡ protected ++ 9 ∷ []
    → moded ≡ tabbed ++ two → ended ≡ moded ++ 9 ∷ [] → ended ≡ old ++ right_fields protection mode
rights_pushed protection mode old protected tabbed moded ended three two is_three is_two is_protected is_tabbed is_moded
    is_ended =
    let protected' = is_protected ∙ ap (λ (l : List ℕ). old ++ l) is_three in
    let moded' : moded ≡ tabbed ++ two_octal mode = is_moded ∙ ap (λ (l : List ℕ). tabbed ++ l) is_two in
    behind old moded ended _ _ (behind old tabbed moded _ _ (behind old protected tabbed _ _ protected' is_tabbed)
    moded')
    is_ended

pub row_pushed : (owner : ℕ) (e : Entry) (old placed righted dated timed sized ended : List ℕ)
    → placed ≡ old ++ place_fields owner e.name → righted ≡ placed ++ right_fields e.protection e.mode
    → dated ≡ righted ++ day_field e.date → timed ≡ dated ++ minute_field e.time
    → sized ≡ timed ++ size_fields e.length e.blocks
    → ended ≡ sized ++ 10 ∷ [] → ended ≡ old ++ row_text owner e
unfolding row_text
row_pushed owner e old placed righted dated timed sized ended is_placed is_righted is_dated is_timed is_sized is_ended =
    behind old sized ended _ _ (behind old timed sized _ _ (behind old dated timed _ _ (behind old righted dated _ _
    (behind old placed righted _ _ is_placed is_righted) is_dated) is_timed) is_sized) is_ended

-- A day is pushed in five parts, and a minute in four.
pub day_pushed : (date : ℕ) (old yeared monthed parted dayed tabbed year month day : List ℕ)
    → year ≡ decimal (date / 372 + 1964) ++ codes "-" → month ≡ two_digits (date / 31 % 12 + 1)
    → day ≡ two_digits (date % 31 + 1) → yeared ≡ old ++ year → monthed ≡ yeared ++ month
    → parted ≡ monthed ++ 45 ∷ [] → dayed ≡ parted ++ day → tabbed ≡ dayed ++ 9 ∷ []
    → tabbed ≡ old ++ day_field date
day_pushed date old yeared monthed parted dayed tabbed year month day is_year is_month is_day is_yeared is_monthed
    is_parted is_dayed is_tabbed =
    let yeared' = is_yeared ∙ ap (λ (l : List ℕ). old ++ l) is_year in
    let monthed' : monthed ≡ yeared ++ two_digits (date / 31 % 12 + 1) = is_monthed
    ∙ ap (λ (l : List ℕ). yeared ++ l) is_month in
    let dayed' : dayed ≡ parted ++ two_digits (date % 31 + 1) = is_dayed ∙ ap (λ (l : List ℕ). parted ++ l) is_day in
    behind old dayed tabbed _ _ (behind old parted dayed _ _ (behind old monthed parted _ _
    (behind old yeared monthed _ _ yeared' monthed') is_parted) dayed') is_tabbed

pub minute_pushed : (minute : ℕ) (old houred parted minuted tabbed hour rest : List ℕ)
    → hour ≡ two_digits (minute / 60) → rest ≡ two_digits (minute % 60) → houred ≡ old ++ hour
    → parted ≡ houred ++ 58 ∷ [] → minuted ≡ parted ++ rest → tabbed ≡ minuted ++ 9 ∷ []
    → tabbed ≡ old ++ minute_field minute
minute_pushed minute old houred parted minuted tabbed hour rest is_hour is_rest is_houred is_parted is_minuted is_tabbed
    =
    let houred' = is_houred ∙ ap (λ (l : List ℕ). old ++ l) is_hour in
    let minuted' : minuted ≡ parted ++ two_digits (minute % 60) = is_minuted
    ∙ ap (λ (l : List ℕ). parted ++ l) is_rest in
    behind old minuted tabbed _ _ (behind old parted minuted _ _ (behind old houred parted _ _ houred' is_parted)
    minuted') is_tabbed
