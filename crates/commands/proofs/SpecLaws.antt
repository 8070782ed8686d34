-- Texts that name a file, and their parts.
use Rattle.std.proofs.Common.{◌≡◌, ℕ, ◌<◌, ◌≤◌, true, false, List, [], ◌∷◌, ◌++◌, length, get_or, append_assoc, ◌==◌}
use Rattle.std.proofs.Common.{not, Bool, refl, sym, ◌∙◌, ap, subst, Option, Some, None, IsSome, IfNone, arith, zero}
use Rattle.std.proofs.Common.{suc}
use Rattle.std.proofs.lemmas.Bool.{eqb-true}
use Rattle.std.proofs.lemmas.Bool.Decides.{nat_tests}
use Rattle.words36.specs.Common.{IsSixbitCharacter, IsSixbitText}
use Rattle.spec_language.specs.Common.{is_letter, Are, IsName, IsExtension, IsOwner, IsSpec, AreSpecs}
use Rattle.spec_language.specs.declared.command.Spec.{Spec}
use Rattle.spec_language.proofs.Common.{Stops, stretch, are_append, are_other, spec_other}
use Rattle.spec_image.proofs.Common.{same_tail}
use Rattle.commands.specs.Common.{IsFileName, is_other_than}
use Rattle.commands.proofs.FieldLaws.{are_at}
use Rattle.commands.proofs.MadeLaws.{AreParted}

-- Letters and digits are SIXBIT.

letter_sixbit : (c : ℕ) → is_letter c ≡ true → IsSixbitCharacter c
letter_sixbit c t = (grind (arith, nat_tests), grind (arith, nat_tests))

letter_at : (text : List ℕ) (i d : ℕ) → Are is_letter text → i < length text → IsSixbitCharacter (get_or text i d)
letter_at [] i d a h = absurd (omega arith)
letter_at (c ∷ cs) zero d a h = letter_sixbit c a.0
letter_at (c ∷ cs) (suc i) d a h = letter_at cs i d a.1 (omega arith)

pub letters_sixbit : (text : List ℕ) (most : ℕ) → most ≤ 6 → length text ≤ most → Are is_letter text → IsSixbitText text
letters_sixbit text most bound few a = (omega arith, λ i d h. letter_at text i d a h)

pub not_letters : (text : List ℕ) (i : ℕ) → i < length text → false ≡ is_letter (get_or text i 0) → Are is_letter text
    → false ≡ true
not_letters text i h e a = e ∙ are_at is_letter text i h a

-- a value that was found isn't missing
pub is_there : {X : Type 0} (found : Option X) (P : Type 0) → IsSome found → IfNone found P
is_there (Some x) P e = tt
is_there None P e = cc

-- NAME or NAME.EXT, and its parts at the first full stop.

extension_stops : (text : List ℕ) (ext : ℕ) → IsExtension text ext → Stops (is_other_than 46) text
extension_stops [] ext a = tt
extension_stops (c ∷ cs) ext a = ap (is_other_than 46) a.0

pub file_is : (text front back : List ℕ) (name ext : ℕ) → AreParted 46 text front back → IsName front name
    → IsExtension back ext → IsFileName text name ext
file_is text front back name ext parted a b = record {
  before = front;
  behind = back;
  named = a;
  extended = b;
  spelled = parted.whole;
}

pub file_parts : (text front back : List ℕ) (name ext : ℕ) → AreParted 46 text front back → IsFileName text name ext
    → IsName front name × IsExtension back ext
file_parts text front back name ext parted f =
    let r = stretch (is_other_than 46) front back f.before f.behind parted.plain
    (are_other is_letter 46 refl f.before f.named.letters) parted.stops (extension_stops f.behind ext f.extended)
    (sym parted.whole ∙ f.spelled) in
    (subst (λ l. IsName l name) (sym r.0) f.named, subst (λ l. IsExtension l ext) (sym r.1) f.extended)

-- A file's name with its owner, and its parts at the first bracket.

extension_plain : (text : List ℕ) (ext : ℕ) → IsExtension text ext → Are (is_other_than 91) text
extension_plain [] ext a = tt
extension_plain (c ∷ cs) ext a = (ap (is_other_than 91) a.0, are_other is_letter 91 refl cs a.2)

owner_stops : (text : List ℕ) (owner : Option ℕ) → IsOwner text owner → Stops (is_other_than 91) text
owner_stops text None a = subst (Stops (is_other_than 91)) (sym a) tt
owner_stops text (Some p) a = subst (Stops (is_other_than 91)) (sym a.spelled) refl

pub spec_is : (text front back : List ℕ) (x : Spec) → AreParted 91 text front back
    → IsFileName front x.name.name x.name.ext → IsOwner back x.owner → IsSpec text x
spec_is text front back x parted f o = record {
  name = f.before;
  extension = f.behind;
  owner = back;
  named = f.named;
  extended = f.extended;
  owned = o;
  spelled = parted.whole ∙ ap (λ l. l ++ back) f.spelled ∙ append_assoc f.before f.behind back;
}

pub spec_parts : (text front back : List ℕ) (x : Spec) → AreParted 91 text front back → IsSpec text x
    → IsFileName front x.name.name x.name.ext × IsOwner back x.owner
spec_parts text front back x parted s =
    let plain = are_append (is_other_than 91) s.name s.extension (are_other is_letter 91 refl s.name s.named.letters)
    (extension_plain s.extension x.name.ext s.extended) in
    let r = stretch (is_other_than 91) front back (s.name ++ s.extension) s.owner parted.plain plain parted.stops
    (owner_stops s.owner x.owner s.owned) (sym parted.whole ∙ s.spelled
    ∙ sym (append_assoc s.name s.extension s.owner)) in (
      record { before = s.name; behind = s.extension; named = s.named; extended = s.extended; spelled = r.0 },
      subst (λ l. IsOwner l x.owner) (sym r.1) s.owned,
    )

-- SPEC=SPEC, and its parts at the first equals sign.

marked : (c : ℕ) → is_other_than 61 c ≡ false → c ≡ 61
marked c e = decide (c == 61) refl
  where
    decide : (b : Bool) → (c == 61) ≡ b → c ≡ 61
    decide true t = eqb-true c 61 t
    decide false f = let wrong = sym e ∙ ap not f in cc

pub specs_are : (text front behind back : List ℕ) (first : ℕ) (to from : Spec) → AreParted 61 text front behind
    → behind ≡ first ∷ back → IsSpec front to → IsSpec back from → AreSpecs text to from
specs_are text front behind back first to from parted e a b =
    let mark = marked first (subst (Stops (is_other_than 61)) e parted.stops) in
    record {
      before = front;
      behind = back;
      left = a;
      right = b;
      spelled = parted.whole
          ∙ ap (λ l. front ++ l) (e ∙ ap (λ c. c ∷ back) mark);
    }

-- the second begins after the sign
pub record AreSides (front behind : List ℕ) (to from : Spec) : Type 0 where
  pub rest : List ℕ
  pub begun : behind ≡ 61 ∷ rest
  pub left : IsSpec front to
  pub right : IsSpec rest from

pub specs_parts : (text front behind : List ℕ) (to from : Spec) → AreParted 61 text front behind → AreSpecs text to from
    → AreSides front behind to from
specs_parts text front behind to from parted s =
    let r = stretch (is_other_than 61) front behind s.before (61 ∷ s.behind) parted.plain
    (spec_other 61 refl refl refl refl refl refl s.before to s.left) parted.stops refl (sym parted.whole ∙ s.spelled) in
    record { rest = s.behind; begun = r.1; left = subst (λ l. IsSpec l to) (sym r.0) s.left; right = s.right }

pub no_sides : (text front behind : List ℕ) (to from : Spec) → AreParted 61 text front behind → length behind ≡ 0
    → AreSpecs text to from → ⊥
no_sides text front behind to from parted none s =
    let sides = specs_parts text front behind to from parted s in
    let some : length behind ≡ length (61 ∷ sides.rest) = ap (λ (l : List ℕ). length l) sides.begun in
    omega (arith, none, some)

pub second_side : (text front behind back : List ℕ) (first : ℕ) (to from : Spec) → AreParted 61 text front behind
    → behind ≡ first ∷ back → AreSpecs text to from → IsSpec back from
second_side text front behind back first to from parted e s =
    let sides = specs_parts text front behind to from parted s in
    subst (λ l. IsSpec l from) (same_tail (sym sides.begun ∙ e)) sides.right
