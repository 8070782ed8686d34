-- What a text spells is unique: fields, numbers, names and files.
use Rattle.std.proofs.Common.{◌≡◌, ℕ, ◌<◌, Bool, true, false, not, List, [], ◌∷◌, ◌++◌, length, Option, Some, None}
use Rattle.std.proofs.Common.{refl, sym, ap, subst, ◌∙◌, arith}
use Rattle.std.specs.Prelude.{◌==◌}
use Rattle.std.proofs.lemmas.Bool.{eqb-true, eq-eqb}
use Rattle.words36.specs.Common.{left, join, sixbit}
use Rattle.spec_image.proofs.Common.{same_head, same_tail}
use Rattle.spec_language.specs.Spellings.{is_space, is_visible, is_octal, is_letter, Are, IsField, AreFields, octal}
use Rattle.spec_language.specs.Spellings.{IsNumber, IsSmall, IsPair, IsBracketed, IsName, IsExtension, IsOwner}
use Rattle.spec_language.specs.Spellings.{IsSpec}
use Rattle.spec_language.specs.declared.command.Spec.{Spec}

-- Lists.

pub none_all : {A : Type 0} {x : A} {xs : List A} → [] ≡ x ∷ xs → ⊥
none_all e = cc

pub differs : (n m : ℕ) → (n == m) ≡ false → n ≡ m → ⊥
differs n m f e = let wrong = sym f ∙ eq-eqb n m e in cc

append-none : (xs : List ℕ) → xs ++ [] ≡ xs
append-none [] = refl
append-none (x ∷ xs) = ap (λ ys. x ∷ ys) (append-none xs)

pub same_but_last : (k : ℕ) (xs ys : List ℕ) → xs ++ k ∷ [] ≡ ys ++ k ∷ [] → xs ≡ ys
same_but_last k [] [] e = refl
same_but_last k [] (y ∷ []) e = absurd (none_all (same_tail e))
same_but_last k [] (y ∷ z ∷ ys) e = absurd (none_all (same_tail e))
same_but_last k (x ∷ []) [] e = absurd (none_all (sym (same_tail e)))
same_but_last k (x ∷ z ∷ xs) [] e = absurd (none_all (sym (same_tail e)))
same_but_last k (x ∷ xs) (y ∷ ys) e =
    let h = same_head e in
    let t = same_but_last k xs ys (same_tail e) in
    λ i. h i ∷ t i

-- A stretch of characters of a kind, up to the first of another.

abbrev pub Stops : (ℕ → Bool) → List ℕ → Type 0
Stops is [] = Unit {0}
Stops is (c ∷ cs) = is c ≡ false

refuted : (is : ℕ → Bool) (c d : ℕ) → is c ≡ false → is d ≡ true → c ≡ d → ⊥
refuted is c d f t e = let wrong = sym f ∙ ap is e ∙ t in cc

pub stretch : (is : ℕ → Bool) (xs ys us vs : List ℕ) → Are is xs → Are is us → Stops is ys → Stops is vs
    → xs ++ ys ≡ us ++ vs → (xs ≡ us) × (ys ≡ vs)
stretch is [] ys [] vs a b s t e = (refl, e)
stretch is [] [] (u ∷ us) vs a b s t e = absurd (none_all e)
stretch is [] (y ∷ ys) (u ∷ us) vs a b s t e = absurd (refuted is y u s b.0 (same_head e))
stretch is (x ∷ xs) ys [] [] a b s t e = absurd (none_all (sym e))
stretch is (x ∷ xs) ys [] (v ∷ vs) a b s t e = absurd (refuted is v x t a.0 (sym (same_head e)))
stretch is (x ∷ xs) ys (u ∷ us) vs a b s t e =
    let h = same_head e in
    let r = stretch is xs ys us vs a.1 b.1 s t (same_tail e) in
    ((λ i. h i ∷ r.0 i), r.1)

pub are_append : (is : ℕ → Bool) (xs ys : List ℕ) → Are is xs → Are is ys → Are is (xs ++ ys)
are_append is [] ys a b = b
are_append is (x ∷ xs) ys a b = (a.0, are_append is xs ys a.1 b)

-- all except one character
abbrev pub other_than : ℕ → ℕ → Bool
other_than k c = not (c == k)

is_other : (is : ℕ → Bool) (k c : ℕ) → is k ≡ false → is c ≡ true → other_than k c ≡ true
is_other is k c f t = decide (c == k) refl
  where
    decide : (b : Bool) → (c == k) ≡ b → not (c == k) ≡ true
    decide true e = absurd (refuted is k c f t (sym (eqb-true c k e)))
    decide false e = rw e refl

pub are_other : (is : ℕ → Bool) (k : ℕ) → is k ≡ false → (xs : List ℕ) → Are is xs → Are (other_than k) xs
are_other is k f [] a = tt
are_other is k f (x ∷ xs) a = (is_other is k x f a.0, are_other is k f xs a.1)

-- Fields.

first_visible : (f : List ℕ) (rest : List ℕ) → IsField f → Stops is_space (f ++ rest)
first_visible [] rest field = absurd (nothing field.some)
  where
    nothing : 0 < length {A = ℕ} [] → ⊥
    nothing h = omega (arith, h)
first_visible (c ∷ cs) rest field = not_true (is_space c) field.visible.0
  where
    not_true : (b : Bool) → not b ≡ true → b ≡ false
    not_true true e = let wrong = e in cc
    not_true false e = refl

fields_visible : (f : List ℕ) (fs : List (List ℕ)) (text : List ℕ) → AreFields (f ∷ fs) text → Stops is_space text
fields_visible f [] text a = subst (Stops is_space) (append-none f ∙ sym a.1) (first_visible f [] a.0)
fields_visible f (g ∷ gs) text a = subst (Stops is_space) (sym a.4) (first_visible f _ a.0)

field_some : (f rest : List ℕ) → IsField f → [] ≡ f ++ rest → ⊥
field_some [] rest field e = nothing field.some
  where
    nothing : 0 < length {A = ℕ} [] → ⊥
    nothing h = omega (arith, h)
field_some (c ∷ cs) rest field e = none_all e

one_field : (f g gap rest : List ℕ) → IsField f → IsField g → f ≡ g ++ 32 ∷ (gap ++ rest) → ⊥
one_field f g gap rest a b e =
    let r = stretch is_visible f [] g (32 ∷ (gap ++ rest)) a.visible b.visible tt refl (append-none f ∙ e) in
    none_all r.1

pub same_fields : (fs gs : List (List ℕ)) (text : List ℕ) → AreFields fs text → AreFields gs text → fs ≡ gs
same_fields [] [] text a b = refl
same_fields [] (g ∷ []) text a b = absurd (field_some g [] b.0 (sym a ∙ b.1 ∙ sym (append-none g)))
same_fields [] (g ∷ h ∷ gs) text a b = absurd (field_some g _ b.0 (sym a ∙ b.4))
same_fields (f ∷ []) [] text a b = absurd (field_some f [] a.0 (sym b ∙ a.1 ∙ sym (append-none f)))
same_fields (f ∷ h ∷ fs) [] text a b = absurd (field_some f _ a.0 (sym b ∙ a.4))
same_fields (f ∷ []) (g ∷ []) text a b = ap (λ x. x ∷ []) (sym a.1 ∙ b.1)
same_fields (f ∷ []) (g ∷ h ∷ gs) text a b = absurd (one_field f g b.1 b.3 a.0 b.0 (sym a.1 ∙ b.4))
same_fields (f ∷ h ∷ fs) (g ∷ []) text a b = absurd (one_field g f a.1 a.3 b.0 a.0 (sym b.1 ∙ a.4))
same_fields (f ∷ f2 ∷ fs) (g ∷ g2 ∷ gs) text a b =
    let r = stretch is_visible f (32 ∷ (a.1 ++ a.3)) g (32 ∷ (b.1 ++ b.3)) a.0.visible b.0.visible refl refl (sym a.4
    ∙ b.4) in
    let q = stretch is_space a.1 a.3 b.1 b.3 a.2 b.2 (fields_visible f2 fs a.3 a.5) (fields_visible g2 gs b.3 b.5)
    (same_tail r.1) in
    let t = same_fields (f2 ∷ fs) (g2 ∷ gs) a.3 a.5 (subst (AreFields (g2 ∷ gs)) (sym q.1) b.5) in
    λ i. r.0 i ∷ t i

-- Numbers.

pub same_number : (most less : ℕ) (s t : List ℕ) (n m : ℕ) → s ≡ t → IsNumber most s n → IsNumber less t m → n ≡ m
same_number most less s t n m e a b = a.value ∙ ap octal e ∙ sym b.value

pub same_small : (most : ℕ) (s t : List ℕ) (n m : ℕ) → s ≡ t → IsSmall most s n → IsSmall most t m → n ≡ m
same_small most s t n m e a b = same_number most most s t n m e a.number b.number

pub same_pair : (most : ℕ) (s t : List ℕ) (p q : ℕ) → s ≡ t → IsPair most s p → IsPair most t q → p ≡ q
same_pair most s t p q e a b =
    let r = stretch is_octal a.before (44 ∷ a.behind) b.before (44 ∷ b.behind) a.left.number.digits b.left.number.digits
    refl refl (sym a.spelled ∙ e ∙ b.spelled) in
    let x = same_small most a.before b.before a.project b.project r.0 a.left b.left in
    let y = same_small most a.behind b.behind a.programmer b.programmer (same_tail r.1) a.right b.right in
    a.value ∙ (λ i. join (x i) (y i)) ∙ sym b.value

pub same_bracketed : (s t : List ℕ) (p q : ℕ) → s ≡ t → IsBracketed s p → IsBracketed t q → p ≡ q
same_bracketed s t p q e a b = same_pair 6 a.pair b.pair p q
    (same_but_last 93 a.pair b.pair (same_tail (sym a.spelled ∙ e ∙ b.spelled))) a.named b.named

-- a character that is in no number and is no comma and no bracket
pub bracketed_other : (k : ℕ) (s : List ℕ) (p : ℕ) → is_octal k ≡ false → other_than k 44 ≡ true
    → other_than k 91 ≡ true → other_than k 93 ≡ true → IsBracketed s p → Are (other_than k) s
bracketed_other k s p octal comma begun close a =
    let l = are_other is_octal k octal a.named.before a.named.left.number.digits in
    let r = are_other is_octal k octal a.named.behind a.named.right.number.digits in
    let pair = subst (Are (other_than k)) (sym a.named.spelled)
    (are_append (other_than k) a.named.before (44 ∷ a.named.behind) l (comma, r)) in
    subst (Are (other_than k)) (sym a.spelled) (begun, are_append (other_than k) a.pair (93 ∷ []) pair (close, tt))

-- Files.

owner_stops : (text : List ℕ) (owner : Option ℕ) → IsOwner text owner → Stops is_letter text
owner_stops text None a = subst (Stops is_letter) (sym a) tt
owner_stops text (Some p) a = subst (Stops is_letter) (sym a.spelled) refl

extension_stops : (ext text : List ℕ) (e : ℕ) (owner : Option ℕ) → IsExtension ext e → IsOwner text owner
    → Stops is_letter (ext ++ text)
extension_stops [] text e owner a b = owner_stops text owner b
extension_stops (c ∷ cs) text e owner a b = ap is_letter a.0

no_stop : (text cs : List ℕ) (owner : Option ℕ) (c : ℕ) → c ≡ 46 → IsOwner text owner → text ≡ c ∷ cs → ⊥
no_stop text cs None c dot a e = none_all (sym a ∙ e)
no_stop text cs (Some p) c dot a e = differs 91 46 refl (same_head (sym a.spelled ∙ e) ∙ dot)

same_name : (s t : List ℕ) (n m : ℕ) → s ≡ t → IsName s n → IsName t m → n ≡ m
same_name s t n m e a b = a.value ∙ ap sixbit e ∙ sym b.value

same_extension : (x y s t : List ℕ) (e f : ℕ) (o p : Option ℕ) → IsExtension x e → IsExtension y f → IsOwner s o
    → IsOwner t p → x ++ s ≡ y ++ t → (e ≡ f) × (s ≡ t)
same_extension [] [] s t e f o p a b c d q = (a ∙ sym b, q)
same_extension [] (y ∷ ys) s t e f o p a b c d q = absurd (no_stop s (ys ++ t) o y b.0 c q)
same_extension (x ∷ xs) [] s t e f o p a b c d q = absurd (no_stop t (xs ++ s) p x a.0 d (sym q))
same_extension (x ∷ xs) (y ∷ ys) s t e f o p a b c d q =
    let r = stretch is_letter xs s ys t a.2 b.2 (owner_stops s o c) (owner_stops t p d) (same_tail q) in
    (a.3 ∙ ap (λ z. left (sixbit z)) r.0 ∙ sym b.3, r.1)

same_owner : (s t : List ℕ) (o p : Option ℕ) → s ≡ t → IsOwner s o → IsOwner t p → o ≡ p
same_owner s t None None e a b = refl
same_owner s t None (Some q) e a b = absurd (none_all (sym a ∙ e ∙ b.spelled))
same_owner s t (Some p) None e a b = absurd (none_all (sym b ∙ sym e ∙ a.spelled))
same_owner s t (Some p) (Some q) e a b = ap Some (same_bracketed s t p q e a b)

pub same_spec : (s t : List ℕ) (x y : Spec) → s ≡ t → IsSpec s x → IsSpec t y → x ≡ y
same_spec s t x y e a b =
    let r = stretch is_letter a.name (a.extension ++ a.owner) b.name (b.extension
    ++ b.owner) a.named.letters b.named.letters
    (extension_stops a.extension a.owner x.name.ext x.owner a.extended a.owned)
    (extension_stops b.extension b.owner y.name.ext y.owner b.extended b.owned) (sym a.spelled ∙ e ∙ b.spelled) in
    let n = same_name a.name b.name x.name.name y.name.name r.0 a.named b.named in
    let q = same_extension a.extension b.extension a.owner b.owner x.name.ext y.name.ext x.owner y.owner
    a.extended b.extended a.owned b.owned r.1 in
    let f = q.0 in
    let o = same_owner a.owner b.owner x.owner y.owner q.1 a.owned b.owned in
    λ i. record { name = record { name = n i; ext = f i }; owner = o i }

extension_other : (k : ℕ) (text : List ℕ) (e : ℕ) → is_letter k ≡ false → other_than k 46 ≡ true → IsExtension text e
    → Are (other_than k) text
extension_other k [] e letter stop a = tt
extension_other k (c ∷ cs) e letter stop a = (ap (other_than k) a.0 ∙ stop, are_other is_letter k letter cs a.2)

owner_other : (k : ℕ) (text : List ℕ) (o : Option ℕ) → is_octal k ≡ false → other_than k 44 ≡ true
    → other_than k 91 ≡ true → other_than k 93 ≡ true → IsOwner text o → Are (other_than k) text
owner_other k text None octal comma begun close a = subst (Are (other_than k)) (sym a) tt
owner_other k text (Some p) octal comma begun close a = bracketed_other k text p octal comma begun close a

-- a character that is in no file's name
pub spec_other : (k : ℕ) → is_letter k ≡ false → is_octal k ≡ false → other_than k 46 ≡ true → other_than k 44 ≡ true
    → other_than k 91 ≡ true → other_than k 93 ≡ true
    → (text : List ℕ) (x : Spec) → IsSpec text x → Are (other_than k) text
spec_other k letter octal stop comma begun close text x a =
    subst (Are (other_than k)) (sym a.spelled)
    (are_append (other_than k) a.name (a.extension ++ a.owner) (are_other is_letter k letter a.name a.named.letters)
    (are_append (other_than k) a.extension a.owner (extension_other k a.extension x.name.ext letter stop a.extended)
    (owner_other k a.owner x.owner octal comma begun close a.owned)))
