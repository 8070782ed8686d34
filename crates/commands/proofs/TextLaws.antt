-- Sums and texts of a list of entries.
use Rattle.std.proofs.Common.{◌≡◌, ℕ, ◌+◌, ◌<◌, ◌==◌, false, Result, Ok, Err, IfOk, Option, Some, IfSome, refl, subst}
use Rattle.std.proofs.Common.{◌-◌, ◌^◌, append_assoc, List, [], ◌∷◌, ◌++◌, length, take, get_or, sym, ◌∙◌, ap, arith}
use Rattle.std.proofs.Common.{add_assoc}
use Rattle.std.proofs.lemmas.List.{take_more}
use Rattle.std.proofs.Padding.{padded_integral_zeros}
use Rattle.std.specs.Prelude.{codes}
use Rattle.std.specs.Fmt.{decimal, digits, format_spec, padded_integral, ◌++?◌}
use Rattle.std.specs.Option.{option_map}
use Rattle.words36.specs.Common.{ppn_text, characters}
use Rattle.spec_language.specs.Common.{octal_in, words_given, line, blocks_in, total_text, right_in, three_digits}
use Rattle.spec_language.specs.Common.{extension_text, day_text, entry_text}
use Rattle.spec_machine.specs.declared.call.Reply.{Reply}
use Rattle.spec_image.specs.declared.entry.Entry.{Entry}
use Rattle.commands.proofs.TableLaws.{behind}

blocks-append : (xs : List Entry) (e : Entry) → blocks_in (xs ++ e ∷ []) ≡ blocks_in xs + e.blocks
blocks-append [] e = omega arith
blocks-append (x ∷ xs) e = ap (λ n. x.blocks + n) (blocks-append xs e)
    ∙ sym (add_assoc x.blocks (blocks_in xs) e.blocks)

pub blocks_more : (entries : List Entry) (i : ℕ) (e : Entry) → i < length entries → e ≡ get_or entries i e
    → blocks_in (take (i + 1) entries) ≡ blocks_in (take i entries) + e.blocks
blocks_more entries i e h is = ap blocks_in (take_more entries i e h)
    ∙ blocks-append (take i entries) (get_or entries i e)
    ∙ ap (λ (x : Entry). blocks_in (take i entries) + x.blocks) (sym is)

-- The last line of a list that has entries.

total_apart : (a b c d e f : List ℕ) → a ++ (b ++ (c ++ (d ++ (e ++ (f ++ 10 ∷ [])))))
    ≡ (((((a ++ b) ++ c) ++ d) ++ e) ++ f) ++ 10 ∷ []
total_apart a b c d e f = simp append_assoc

total_is : (owner : ℕ) (entries : List Entry) → false ≡ (length entries == 0)
    → codes "Total " ++ (decimal (blocks_in entries)
    ++ (codes " blocks in " ++ (decimal (length entries) ++ (codes " files " ++ (ppn_text owner ++ 10 ∷ [])))))
    ≡ total_text owner entries
total_is owner [] e = cc
total_is owner (x ∷ xs) e = total_apart (codes "Total ") (decimal (blocks_in (x ∷ xs))) (codes " blocks in ")
    (decimal (length (x ∷ xs))) (codes " files ") (ppn_text owner)

pub total_ok : {V E : Type 0} (bytes : V → List ℕ) (result : Result V E) (owner : ℕ) (entries : List Entry) (blocks : ℕ)
    → false ≡ (length entries == 0) → blocks ≡ blocks_in entries
    → IfOk result (λ s. bytes s ≡ codes "Total "
    ++ (decimal blocks
    ++ (codes " blocks in " ++ (decimal (length entries) ++ (codes " files " ++ (ppn_text owner ++ 10 ∷ []))))))
    → IfOk result (λ s. bytes s ≡ total_text owner entries)
total_ok bytes (Ok s) owner entries blocks some same is =
    is ∙ ap (λ n. codes "Total " ++ (decimal n
    ++ (codes " blocks in " ++ (decimal (length entries) ++ (codes " files " ++ (ppn_text owner ++ 10 ∷ [])))))) same
    ∙ total_is owner entries some
total_ok bytes (Err e) owner entries blocks some same is = tt

-- An entry's line, part by part.

pub entry_pushed : (e : Entry) (old named spaced blocked opened protected closed dated ended text digits : List ℕ)
    → text ≡ decimal e.blocks → digits ≡ three_digits e.protection
    → named ≡ old ++ (characters e.name.name ++ codes " " ++ extension_text e.name.ext) → spaced ≡ named ++ 32 ∷ []
    → blocked ≡ spaced ++ right_in 5 text → opened ≡ blocked ++ codes "  <"
    → protected ≡ opened ++ digits → closed ≡ protected ++ codes ">  " → dated ≡ closed ++ day_text e.date
    → ended ≡ dated ++ 10 ∷ [] → ended ≡ old ++ entry_text e
unfolding entry_text
entry_pushed e old named spaced blocked opened protected closed dated ended text digits t d is_named is_spaced
    is_blocked is_opened is_protected is_closed is_dated is_ended =
    let right : blocked ≡ spaced ++ right_in 5 (decimal e.blocks) = is_blocked
    ∙ ap (λ (l : List ℕ). spaced ++ right_in 5 l) t in
    let three : protected ≡ opened ++ three_digits e.protection = is_protected ∙ ap (λ (l : List ℕ). opened ++ l) d in
    behind old dated ended _ _ (behind old closed dated _ _
    (behind old protected closed _ _ (behind old opened protected _ _
    (behind old blocked opened _ _ (behind old spaced blocked _ _ (behind old named spaced _ _ is_named is_spaced)
    right) is_opened) three) is_closed) is_dated) is_ended

-- The line of a reply with a number.

pub octal_output : (shown : Option (List ℕ)) (places n : ℕ) → shown ≡ Some (digits 8 false n)
    → option_map (padded_integral (format_spec 32 0 4 places (2 ^ 64 - 1)) false []) shown ≡ Some (octal_in places n)
octal_output shown places n e =
    ap (option_map (padded_integral (format_spec 32 0 4 places (2 ^ 64 - 1)) false [])) e
    ∙ ap Some (padded_integral_zeros (format_spec 32 0 4 places (2 ^ 64 - 1)) (digits 8 false n) refl refl)

pub reply_written : {V E : Type 0} (items : V → List ℕ) (result : Result V E) (reply : Reply)
    (word number bytes text : List ℕ) (shown : Option (List ℕ)) → words_given reply ≡ word ++ number → shown
    ≡ Some number
    → IfSome (Some word ++? shown) (λ bs. bytes ≡ bs) → text ≡ bytes → IfOk result (λ v. items v ≡ line text)
    → IfOk result (λ v. items v ≡ line (words_given reply))
reply_written items result reply word number bytes text shown is e ok same told =
    let spelled : bytes ≡ word ++ number = subst (λ o. IfSome (Some word ++? o) (λ bs. bytes ≡ bs)) e ok in
    subst (λ l. IfOk result (λ v. items v ≡ line l)) (same ∙ spelled ∙ sym is) told
