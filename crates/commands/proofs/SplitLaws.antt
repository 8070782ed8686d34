-- The lines of an input are those of its whole lines, and then those of the rest.
use Rattle.std.proofs.Common.{◌≡◌, ℕ, ◌==◌, not, Bool, true, false, cond, List, [], ◌∷◌, ◌++◌, refl, sym, ◌∙◌, ap}
use Rattle.std.proofs.Common.{subst, append_assoc, append-nil, inl, inr}
use Rattle.spec_language.specs.Common.{Line, without_return, fitting, lines_after, lines}
use Rattle.commands.specs.Common.{HasNoFeed, AreWholeLines}

pub unless : {X : Type 0} (t : Bool) (x y : X) → not t ≡ true → cond t x y ≡ y
unless true x y e = cc
unless false x y e = refl

after_unended : (raw seen : List ℕ) → HasNoFeed seen → lines_after raw seen ≡ fitting (raw ++ seen) (raw ++ seen)
after_unended raw [] h = ap (λ (l : List ℕ). fitting l l) (sym (append-nil raw))
after_unended raw (b ∷ bs) h = unless (b == 10) _ _ h.0 ∙ after_unended (raw ++ b ∷ []) bs h.1
    ∙ ap (λ (l : List ℕ). fitting l l) (append_assoc raw (b ∷ []) bs)

after_fed : (raw seen : List ℕ) → HasNoFeed seen → lines_after raw (seen ++ 10 ∷ [])
    ≡ fitting (raw ++ seen) (without_return (raw ++ seen))
after_fed raw [] h = append-nil (fitting raw (without_return raw))
    ∙ ap (λ (l : List ℕ). fitting l (without_return l)) (sym (append-nil raw))
after_fed raw (b ∷ bs) h = unless (b == 10) _ _ h.0 ∙ after_fed (raw ++ b ∷ []) bs h.1
    ∙ ap (λ (l : List ℕ). fitting l (without_return l)) (append_assoc raw (b ∷ []) bs)

after_joined : (raw before rest : List ℕ) → lines_after raw ((before ++ 10 ∷ []) ++ rest)
    ≡ lines_after raw (before ++ 10 ∷ []) ++ lines rest
after_joined raw [] rest = ap (λ (l : List Line). l ++ lines rest) (sym (append-nil (fitting raw (without_return raw))))
after_joined raw (b ∷ bs) rest =
    let here : List Line = fitting raw (without_return raw) in
    elim (b == 10) as (λ t. cond t (here ++ lines_after [] ((bs ++ 10 ∷ []) ++ rest))
    (lines_after (raw ++ b ∷ []) ((bs ++ 10 ∷ []) ++ rest))
    ≡ cond t (here ++ lines_after [] (bs ++ 10 ∷ [])) (lines_after (raw ++ b ∷ []) (bs ++ 10 ∷ [])) ++ lines rest) [
      | true ↦ ap (λ (l : List Line). here ++ l) (after_joined [] bs rest)
          ∙ sym (append_assoc here (lines_after [] (bs ++ 10 ∷ [])) (lines rest))
      | false ↦ after_joined (raw ++ b ∷ []) bs rest
    ]

lines_joined : (front rest : List ℕ) → AreWholeLines front → lines (front ++ rest) ≡ lines front ++ lines rest
lines_joined front rest (inl e) = subst (λ (l : List ℕ). lines (l ++ rest) ≡ lines l ++ lines rest) (sym e) refl
lines_joined front rest (inr p) = subst (λ (l : List ℕ). lines (l ++ rest) ≡ lines l ++ lines rest) (sym p.1)
    (after_joined [] p.0 rest)

-- the lines up to a line feed, and up to the end
pub lines_fed : (read front seen : List ℕ) (b : ℕ) → b ≡ 10 → read ≡ front ++ seen → AreWholeLines front
    → HasNoFeed seen → lines (read ++ b ∷ []) ≡ lines front ++ fitting seen (without_return seen)
lines_fed read front seen b feed parted whole unended =
    (λ i. lines (parted i ++ feed i ∷ [])) ∙ ap lines (append_assoc front seen (10 ∷ []))
    ∙ lines_joined front (seen ++ 10 ∷ []) whole ∙ ap (λ (l : List Line). lines front ++ l) (after_fed [] seen unended)

pub lines_ended : (read front seen : List ℕ) → read ≡ front ++ seen → AreWholeLines front → HasNoFeed seen
    → lines read ≡ lines front ++ fitting seen seen
lines_ended read front seen parted whole unended = ap lines parted ∙ lines_joined front seen whole
    ∙ ap (λ (l : List Line). lines front ++ l) (after_unended [] seen unended)
