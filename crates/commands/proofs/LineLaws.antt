-- The stored bytes of a line are the line.
use Rattle.std.proofs.Common.{◌≡◌, ◌≢◌, ℕ, ◌<◌, ◌≤◌, ◌==◌, Bool, true, false, cond, List, [], ◌∷◌, ◌++◌, length, map}
use Rattle.std.proofs.Common.{refl, sym, ◌∙◌, ap, arith}
use Rattle.std.proofs.lemmas.Bool.Decides.{nat_tests}
use Rattle.spec_language.specs.Common.{Line, TooLong, without_return, line_of, fitting, upper}
use Rattle.commands.specs.Common.{KeepsLine, text_line}

-- A return as the last byte.

upper-return : (b : ℕ) → b ≢ 13 → upper b ≢ 13
upper-return b h = grind (arith, nat_tests)

one_return : (b : ℕ) (t : Bool) → (b == 13) ≡ t → cond (upper b == 13) [] (upper b ∷ [])
    ≡ map upper (cond t [] (b ∷ []))
one_return b true e = grind (arith, nat_tests)
one_return b false e = grind (arith, nat_tests, upper-return)

without_return-upper : (seen : List ℕ) → without_return (map upper seen) ≡ map upper (without_return seen)
without_return-upper [] = refl
without_return-upper (b ∷ []) = one_return b (b == 13) refl
without_return-upper (b ∷ c ∷ bs) = ap (λ l. upper b ∷ l) (without_return-upper (c ∷ bs))

without_return-last : (front : List ℕ) (last : ℕ) → without_return (front ++ last ∷ [])
    ≡ cond (last == 13) front (front ++ last ∷ [])
without_return-last [] last = refl
without_return-last (b ∷ []) last = elim (last == 13) as (λ t. b ∷ cond t [] (last ∷ [])
    ≡ cond t (b ∷ []) (b ∷ last ∷ [])) [ true ↦ refl | false ↦ refl ]
without_return-last (b ∷ c ∷ bs) last =
    ap (λ l. b ∷ l) (without_return-last (c ∷ bs) last)
    ∙ elim (last == 13) as (λ t. b ∷ cond t (c ∷ bs) (c ∷ (bs ++ last ∷ []))
    ≡ cond t (b ∷ c ∷ bs) (b ∷ c ∷ (bs ++ last ∷ []))) [ true ↦ refl | false ↦ refl ]

dropped_at : (front : List ℕ) (last : ℕ) → last ≡ 13 → front ≡ cond (last == 13) front (front ++ last ∷ [])
dropped_at front last h = grind (arith, nat_tests)

kept_at : (front : List ℕ) (last : ℕ) → last ≢ 13 → front ++ last ∷ [] ≡ cond (last == 13) front (front ++ last ∷ [])
kept_at front last h = grind (arith, nat_tests)

pub return_dropped : (text front : List ℕ) (last : ℕ) → text ≡ front ++ last ∷ [] → last ≡ 13
    → front ≡ without_return text
return_dropped text front last e h = dropped_at front last h ∙ sym (without_return-last front last)
    ∙ ap without_return (sym e)

pub return_kept : (text front : List ℕ) (last : ℕ) → text ≡ front ++ last ∷ [] → last ≢ 13 → text ≡ without_return text
return_kept text front last e h = e ∙ kept_at front last h ∙ sym (without_return-last front last)
    ∙ ap without_return (sym e)

-- The line.

upper_line : (bytes : List ℕ) → text_line (map upper bytes) ≡ line_of bytes
upper_line [] = refl
upper_line (b ∷ bs) = refl

fits : (raw bytes : List ℕ) → length raw ≤ 255 → line_of bytes ≡ fitting raw bytes
fits raw bytes h = grind (arith, nat_tests)

too_long : (raw bytes : List ℕ) → 255 < length raw → TooLong ∷ [] ≡ fitting raw bytes
too_long raw bytes h = grind (arith, nat_tests)

pub line_ended : (flag : Bool) (kept seen : List ℕ) (lines : List Line) → KeepsLine flag kept seen
    → lines ≡ cond flag (TooLong ∷ []) (text_line (without_return kept)) → lines ≡ fitting seen (without_return seen)
line_ended true kept seen lines h e = e ∙ too_long seen (without_return seen) h
line_ended false kept seen lines h e =
    e ∙ ap text_line (ap without_return h.0 ∙ without_return-upper seen) ∙ upper_line (without_return seen)
    ∙ fits seen (without_return seen) h.1
