-- The parts of [p,n]<PROT> and of SPEC<PROT>.
use Rattle.std.proofs.Common.{◌≡◌, ℕ, ◌^◌, ◌<◌, ◌≤◌, List, [], ◌∷◌, ◌++◌, length, take, drop, get_or, refl, sym, ◌∙◌}
use Rattle.std.proofs.Common.{subst, Option, Some, None, IfNone, arith}
use Rattle.std.proofs.Math.Nat.{pow-le-pow_right}
use Rattle.std.proofs.lemmas.List.{take-append-drop}
use Rattle.spec_language.specs.Common.{Are, IsNumber, IsSmall, IsBracketed, IsSpec, IsAngled, IsProtection}
use Rattle.spec_language.specs.Common.{IsProtected, IsNewDirectory}
use Rattle.spec_language.specs.declared.command.Spec.{Spec}
use Rattle.spec_language.proofs.Common.{Stops, stretch, bracketed_other, spec_other, same_but_last}
use Rattle.spec_image.proofs.Common.{same_tail}
use Rattle.commands.specs.Common.{is_other_than}
use Rattle.commands.proofs.FieldLaws.{mark_stops}
use Rattle.commands.proofs.NumberLaws.{below_power}

-- three digits are nine bits
pub number_fits : (text : List ℕ) (n : ℕ) → IsNumber 3 text n → n < 512
number_fits text n a =
    let p : 8 ^ length text ≤ 8 ^ 3 = pow-le-pow_right (omega arith) a.few in
    omega (arith, below_power 0 text a.digits, p, a.value)

number_small : (text : List ℕ) (n : ℕ) → IsNumber 3 text n → IsSmall 3 text n
number_small text n a = record { number = a; small = omega (arith, number_fits text n a) }

-- <PROT>

no_number : (text inner : List ℕ) (n : ℕ) → text ≡ 60 ∷ (inner ++ 62 ∷ []) → ((m : ℕ) → IsSmall 3 inner m → ⊥)
    → IsAngled text n → ⊥
no_number text inner n e none b =
    none n (number_small inner n
    (subst (λ l. IsNumber 3 l n) (same_but_last 62 b.digits inner (same_tail (sym b.spelled ∙ e))) b.number))

pub none_in_angles : (found : Option ℕ) (text inner : List ℕ) → text ≡ 60 ∷ (inner ++ 62 ∷ [])
    → IfNone found ((m : ℕ) → IsSmall 3 inner m → ⊥) → IfNone found ((n : ℕ) → IsAngled text n → ⊥)
none_in_angles (Some m) text inner e none = tt
none_in_angles None text inner e none = λ n. no_number text inner n e none

-- an empty text, or <PROT>

angled : (text : List ℕ) (n : ℕ) → 0 < length text → IsProtection text n → IsAngled text n
angled [] n some a = absurd (omega (arith, some))
angled (c ∷ cs) n some a = a

pub no_protection : (found : Option ℕ) (text : List ℕ) → 0 < length text
    → IfNone found ((n : ℕ) → IsAngled text n → ⊥) → IfNone found ((n : ℕ) → IsProtection text n → ⊥)
no_protection (Some m) text some none = tt
no_protection None text some none = λ n a. none n (angled text n some a)

pub protection_fits : (text : List ℕ) (n : ℕ) → IsProtection text n → n < 512
protection_fits [] n a = omega (arith, a)
protection_fits (c ∷ cs) n a = number_fits a.digits n a.number

-- A text, and its parts at the first mark.
pub record AreParted (mark : ℕ) (text front back : List ℕ) : Type 0 where
  pub whole : text ≡ front ++ back
  pub plain : Are (is_other_than mark) front
  pub stops : Stops (is_other_than mark) back

pub are_parted : (mark : ℕ) (text front back : List ℕ) (n : ℕ) → front ≡ take n text → back ≡ drop n text
    → Are (is_other_than mark) (take n text) → (n < length text → get_or text n 0 ≡ mark)
    → AreParted mark text front back
are_parted mark text front back n e f plain stop = record {
  whole = sym (take-append-drop n text) ∙ (λ i. sym e i ++ sym f i);
  plain = subst (Are (is_other_than mark)) (sym e) plain;
  stops = subst (Stops (is_other_than mark)) (sym f) (mark_stops text n mark stop);
}

pub made_is : (text front back : List ℕ) (p n : ℕ) → AreParted 60 text front back → IsBracketed front p
    → IsProtection back n → IsNewDirectory text p n
made_is text front back p n parted a b = record {
  before = front;
  behind = back;
  left = a;
  right = b;
  spelled = parted.whole;
}

protection_stops : (text : List ℕ) (n : ℕ) → IsProtection text n → Stops (is_other_than 60) text
protection_stops [] n a = tt
protection_stops (c ∷ cs) n a = subst (Stops (is_other_than 60)) (sym a.spelled) refl

pub made_parts : (text front back : List ℕ) (p n : ℕ) → AreParted 60 text front back → IsNewDirectory text p n
    → IsBracketed front p × IsProtection back n
made_parts text front back p n parted m =
    let r = stretch (is_other_than 60) front back m.before m.behind parted.plain
    (bracketed_other 60 m.before p refl refl refl refl m.left) parted.stops (protection_stops m.behind n m.right)
    (sym parted.whole ∙ m.spelled) in
    (subst (λ l. IsBracketed l p) (sym r.0) m.left, subst (λ l. IsProtection l n) (sym r.1) m.right)

-- SPEC<PROT>

pub protected_is : (text front back : List ℕ) (x : Spec) (n : ℕ) → AreParted 60 text front back → IsSpec front x
    → IsAngled back n → IsProtected text x n
protected_is text front back x n parted a b = record {
  before = front;
  behind = back;
  left = a;
  right = b;
  spelled = parted.whole;
}

pub protected_parts : (text front back : List ℕ) (x : Spec) (n : ℕ) → AreParted 60 text front back
    → IsProtected text x n → IsSpec front x × IsAngled back n
protected_parts text front back x n parted m =
    let r = stretch (is_other_than 60) front back m.before m.behind parted.plain
    (spec_other 60 refl refl refl refl refl refl m.before x m.left) parted.stops
    (subst (Stops (is_other_than 60)) (sym m.right.spelled) refl) (sym parted.whole ∙ m.spelled) in
    (subst (λ l. IsSpec l x) (sym r.0) m.left, subst (λ l. IsAngled l n) (sym r.1) m.right)
