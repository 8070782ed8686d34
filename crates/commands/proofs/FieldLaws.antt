-- How the fields of a text are found.
use Rattle.std.proofs.Common.{◌≡◌, ◌≢◌, ℕ, ◌+◌, ◌<◌, nat_eq, not, Bool, true, false, List, [], ◌∷◌, ◌++◌, length}
use Rattle.std.proofs.Common.{take, drop, get_or, refl, sym, ◌∙◌, ap, subst, arith, eq-eqb, append-nil, inl, inr}
use Rattle.std.proofs.Common.{zero, suc}
use Rattle.std.proofs.Math.Seq.{drop-cons}
use Rattle.std.proofs.lemmas.List.{take_more, take-append-drop, drop_all}
use Rattle.std.specs.Prelude.{◌==◌}
use Rattle.std.proofs.lemmas.Bool.{eqb-true, cases_lt}
use Rattle.spec_language.specs.Common.{is_space, is_visible, Are, IsField, AreFields}
use Rattle.commands.specs.Common.{Begins, is_other_than}
use Rattle.spec_language.proofs.Common.{Stops, stretch, are_append}

-- Characters of a kind, one after the other, up to one of another.

pub are_more : (is : ℕ → Bool) (text : List ℕ) (i : ℕ) → i < length text → is (get_or text i 0) ≡ true
    → Are is (take i text) → Are is (take (i + 1) text)
are_more is text i h t a = subst (Are is) (sym (take_more text i 0 h))
    (are_append is (take i text) (get_or text i 0 ∷ []) a (t, tt))

pub is_same : (c k : ℕ) → c ≡ k → nat_eq c k ≡ true
is_same c k e = eq-eqb c k e

pub is_other : (c k : ℕ) → c ≢ k → not (nat_eq c k) ≡ true
is_other c k h = decide (nat_eq c k) refl
  where
    decide : (b : Bool) → nat_eq c k ≡ b → not b ≡ true
    decide true e = absurd (h (eqb-true c k e))
    decide false e = refl

not_other : (c k : ℕ) → c ≡ k → not (nat_eq c k) ≡ false
not_other c k e = ap not (is_same c k e)

pub not_same : (c k : ℕ) → c ≢ k → nat_eq c k ≡ false
not_same c k h = decide (nat_eq c k) refl
  where
    decide : (b : Bool) → nat_eq c k ≡ b → nat_eq c k ≡ false
    decide true e = absurd (h (eqb-true c k e))
    decide false e = e

stops_at : (is : ℕ → Bool) (text : List ℕ) (n : ℕ) → (n < length text → is (get_or text n 0) ≡ false)
    → Stops is (drop n text)
stops_at is text n h = elim (cases_lt n (length text)) [
  | inl l ↦ subst (Stops is) (sym (drop-cons text n 0 l)) (h l)
  | inr l ↦ subst (Stops is)
      (sym (drop_all n text l)) tt
]

pub word_stops : (text : List ℕ) (n : ℕ) → (n < length text → get_or text n 0 ≡ 32) → Stops is_visible (drop n text)
word_stops text n h = stops_at is_visible text n (λ l. not_other (get_or text n 0) 32 (h l))

pub mark_stops : (text : List ℕ) (n mark : ℕ) → (n < length text → get_or text n 0 ≡ mark)
    → Stops (is_other_than mark) (drop n text)
mark_stops text n mark h = stops_at (is_other_than mark) text n (λ l. not_other (get_or text n 0) mark (h l))

pub gap_stops : (text : List ℕ) (n : ℕ) → (n < length text → get_or text n 0 ≢ 32) → Stops is_space (drop n text)
gap_stops text n h = stops_at is_space text n (λ l. not_same (get_or text n 0) 32 (h l))

-- A field, and spaces after it.

is_one_field : (text : List ℕ) → 0 < length text → Are is_visible text → IsField text
is_one_field text some visible = record { some = some; visible = visible }

-- of spaces, the first is one
pub one_gap : (gap rest : List ℕ) → 0 < length gap → Are is_space gap → (more : List ℕ) × Are is_space more
    × (gap ++ rest ≡ 32 ∷ (more ++ rest))
one_gap [] rest some spaces = absurd (nothing some)
  where
    nothing : 0 < length {A = ℕ} [] → ⊥
    nothing h = omega (arith, h)
one_gap (c ∷ cs) rest some spaces = (cs, spaces.1, ap (λ k. k ∷ (cs ++ rest)) (eqb-true c 32 spaces.0))

pub are_at : (is : ℕ → Bool) (text : List ℕ) (i : ℕ) → i < length text → Are is text → is (get_or text i 0) ≡ true
are_at is [] i h a = absurd (omega arith)
are_at is (c ∷ cs) zero h a = a.0
are_at is (c ∷ cs) (suc i) h a = are_at is cs i (omega arith) a.1

-- A text whose first word has n bytes, and the gap after it m.
pub record IsSplit (text word behind gap argument : List ℕ) : Type 0 where
  pub whole : text ≡ word ++ behind
  pub visible : Are is_visible word
  pub stops : Stops is_visible behind
  pub rest : behind ≡ gap ++ argument
  pub spaces : Are is_space gap
  pub ends : Stops is_space argument

pub is_split : (text word behind gap argument : List ℕ) (n m : ℕ) → word ≡ take n text → behind ≡ drop n text
    → gap ≡ take m behind → argument ≡ drop m behind
    → Are is_visible (take n text) → (n < length text → get_or text n 0 ≡ 32) → Are is_space (take m behind)
    → (m < length behind → get_or behind m 0 ≢ 32) → IsSplit text word behind gap argument
is_split text word behind gap argument n m e f g h visible space spaces ends = record {
  whole = sym (take-append-drop n text) ∙ (λ i. sym e i ++ sym f i);
  visible = subst (Are is_visible) (sym e) visible;
  stops = subst (Stops is_visible) (sym f) (word_stops text n space);
  rest = sym (take-append-drop m behind) ∙ (λ i. sym g i ++ sym h i);
  spaces = subst (Are is_space) (sym g) spaces;
  ends = subst (Stops is_space) (sym h) (gap_stops behind m ends);
}

-- The first field of a text, and the text of the others.

nothing : 0 < length {A = ℕ} [] → ⊥
nothing h = omega (arith, h)

pub no_text : (text : List ℕ) → 0 < length text → text ≡ [] → ⊥
no_text text some e = nothing (subst (λ (l : List ℕ). 0 < length l) e some)

pub no_bytes : (text : List ℕ) → true ≡ (length text == 0) → text ≡ []
no_bytes [] e = refl
no_bytes (c ∷ cs) e = absurd (wrong (eqb-true (length (c ∷ cs)) 0 (sym e)))
  where
    wrong : length (c ∷ cs) ≡ 0 → ⊥
    wrong h = omega (arith, h)

both_none : (xs ys : List ℕ) → xs ++ ys ≡ [] → (xs ≡ []) × (ys ≡ [])
both_none [] ys e = (refl, e)
both_none (x ∷ xs) ys e = cc

pub not_blank : (b : Bool) → not b ≡ true → b ≡ false
not_blank true e = let wrong = e in cc
not_blank false e = refl

field_first : (f rest : List ℕ) → IsField f → Stops is_space (f ++ rest) × (0 < length (f ++ rest))
field_first [] rest field = absurd (nothing field.some)
field_first (c ∷ cs) rest field = (not_blank (is_space c) field.visible.0, omega arith)

fields_first : (g : List ℕ) (gs : List (List ℕ)) (text : List ℕ) → AreFields (g ∷ gs) text
    → Stops is_space text × (0 < length text)
fields_first g [] text a = subst (λ (l : List ℕ). Stops is_space l × (0 < length l)) (append-nil g
    ∙ sym a.1) (field_first g [] a.0)
fields_first g (h ∷ hs) text a = subst (λ (l : List ℕ). Stops is_space l × (0 < length l)) (sym a.4)
    (field_first g (32 ∷ (a.1 ++ a.3)) a.0)

-- A text that begins with a field begins with the word that was found.
pub record IsFirst (word gap rest one : List ℕ) (more : List (List ℕ)) : Type 0 where
  pub some : 0 < length word
  pub is : one ≡ word
  pub others : AreFields more rest
  pub ended : 0 < length gap → 0 < length rest

pub is_first : (text word behind gap rest one : List ℕ) (more : List (List ℕ)) → IsSplit text word behind gap rest
    → AreFields (one ∷ more) text → IsFirst word gap rest one more
is_first text word behind gap rest one [] s a =
    let r = stretch is_visible word behind one [] s.visible a.0.visible s.stops tt (sym s.whole ∙ a.1
    ∙ sym (append-nil one)) in
    let e = both_none gap rest (sym s.rest ∙ r.1) in
    record {
      some = subst (λ (l : List ℕ). 0 < length l) (sym r.0) a.0.some;
      is = sym r.0;
      others = e.1;
      ended = λ h. absurd (nothing (subst (λ (l : List ℕ). 0 < length l) e.0 h));
    }
is_first text word behind gap rest one (g ∷ gs) s a =
    let r = stretch is_visible word behind one (32 ∷ (a.1 ++ a.3)) s.visible a.0.visible s.stops refl (sym s.whole
    ∙ a.4) in
    let f = fields_first g gs a.3 a.5 in
    let q = stretch is_space gap rest (32 ∷ a.1) a.3 s.spaces (refl, a.2) s.ends f.0 (sym s.rest ∙ r.1) in
    record {
      some = subst (λ (l : List ℕ). 0 < length l) (sym r.0) a.0.some;
      is = sym r.0;
      others = subst (λ (l : List ℕ). AreFields (g ∷ gs) l) (sym q.1) a.5;
      ended = λ h. subst (λ (l : List ℕ). 0 < length l) (sym q.1) f.1;
    }

-- between a word and a field there is a space
some_gap : (gap rest : List ℕ) → Stops is_visible (gap ++ rest) → Stops is_space rest → 0 < length rest → 0 < length gap
some_gap [] [] stops ends some = absurd (nothing some)
some_gap [] (c ∷ cs) stops ends some = absurd (wrong (is_space c) stops ends)
  where
    wrong : (b : Bool) → not b ≡ false → b ≡ false → ⊥
    wrong true e f = cc
    wrong false e f = cc
some_gap (c ∷ cs) rest stops ends some = omega arith

first_joined : (text word behind gap rest : List ℕ) (more : List (List ℕ)) → IsSplit text word behind gap rest
    → 0 < length word → (0 < length gap → 0 < length rest) → AreFields more rest → AreFields (word ∷ more) text
first_joined text word behind gap rest [] s some ended a =
    let none : gap ≡ [] = no_gap gap (λ h. nothing (subst (λ (l : List ℕ). 0 < length l) a (ended h))) in
    let e : behind ≡ [] = s.rest ∙ (λ i. none i ++ a i) in
    (is_one_field word some s.visible, s.whole ∙ ap (λ l. word ++ l) e ∙ append-nil word)
  where
    no_gap : (xs : List ℕ) → (0 < length xs → ⊥) → xs ≡ []
    no_gap [] h = refl
    no_gap (x ∷ xs) h = absurd (h (omega arith))
first_joined text word behind gap rest (g ∷ gs) s some ended a =
    let f = fields_first g gs rest a in
    let d = one_gap gap rest (some_gap gap rest (subst (Stops is_visible) s.rest s.stops) s.ends f.1) s.spaces in
    (is_one_field word some s.visible, d.0, d.1, rest, s.whole ∙ ap (λ l. word ++ l) (s.rest ∙ d.2), a)

pub begins : (text word behind gap rest : List ℕ) → IsSplit text word behind gap rest → 0 < length word
    → (0 < length gap → 0 < length rest) → Begins text word rest
begins text word behind gap rest s some ended = record {
  only = λ one more a. let f = is_first text word behind gap rest one more s a in (f.is, f.others);
  joined = λ more a. first_joined text word behind gap rest more s some ended a;
}

-- Two fields.

pub no_second : (text word behind one other : List ℕ) → Begins text word behind
    → ((f : List ℕ) (fs : List (List ℕ)) → AreFields (f ∷ fs) behind → ⊥) → AreFields (one ∷ other ∷ []) text → ⊥
no_second text word behind one other b none a = none other [] (b.only one (other ∷ []) a).1

pub more_than_two : (text word behind argument rest one other : List ℕ) → Begins text word behind
    → Begins behind argument rest → 0 < length rest → AreFields (one ∷ other ∷ []) text → ⊥
more_than_two text word behind argument rest one other b d some a = no_text rest some
    (d.only other [] (b.only one (other ∷ []) a).1).1

pub two_fields_are : (text word behind argument rest : List ℕ) → Begins text word behind → Begins behind argument rest
    → true ≡ (length rest == 0) → AreFields (word ∷ argument ∷ []) text
two_fields_are text word behind argument rest b d e = b.joined (argument ∷ []) (d.joined [] (no_bytes rest e))
