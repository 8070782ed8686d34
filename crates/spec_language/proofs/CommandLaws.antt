-- A line has at most one reading in the grammar of sessions.
use Rattle.std.proofs.Common.{◌≡◌, ℕ, ◌+◌, ◌*◌, ◌<◌, List, [], ◌∷◌, length, Some, None, refl, sym, ap, subst, ◌∙◌}
use Rattle.std.proofs.Common.{arith}
use Rattle.std.specs.Prelude.{codes}
use Rattle.spec_language.specs.Spellings.{AreFields, IsField, IsBracketed, IsBlockCount, is_digit, decimal_after}
use Rattle.spec_language.specs.Commands.{IsAngled, IsProtection, AreSpecs, IsProtected, IsNewDirectory, IsCommand}
use Rattle.spec_language.specs.declared.command.Spec.{Spec}
use Rattle.spec_language.specs.declared.command.Command.{Command}
use Rattle.spec_language.specs.declared.command.Command.TheVariants.{Login, Directory, Copy, Rename, Delete, TypeOut}
use Rattle.spec_language.specs.declared.command.Command.TheVariants.{Protect, MakeDir, Quota}
use Rattle.spec_language.proofs.SpellingLaws.{differs, none_all, same_but_last, Stops, stretch, other_than, are_other}
use Rattle.spec_language.proofs.SpellingLaws.{same_fields, same_number, same_bracketed, bracketed_other, same_spec}
use Rattle.spec_language.proofs.SpellingLaws.{spec_other}
use Rattle.spec_image.proofs.Common.{same_head, same_tail}

-- Arguments.

same_angled : (s t : List ℕ) (n m : ℕ) → s ≡ t → IsAngled s n → IsAngled t m → n ≡ m
same_angled s t n m e a b = same_number 3 3 a.digits b.digits n m
    (same_but_last 62 a.digits b.digits (same_tail (sym a.spelled ∙ e ∙ b.spelled))) a.number b.number

same_specs : (s t : List ℕ) (x y v w : Spec) → s ≡ t → AreSpecs s x y → AreSpecs t v w → (x ≡ v) × (y ≡ w)
same_specs s t x y v w e a b =
    let r = stretch (other_than 61) a.before (61 ∷ a.behind) b.before (61 ∷ b.behind)
    (spec_other 61 refl refl refl refl refl refl a.before x a.left)
    (spec_other 61 refl refl refl refl refl refl b.before v b.left)
    refl refl (sym a.spelled ∙ e ∙ b.spelled) in
    (same_spec a.before b.before x v r.0 a.left b.left, same_spec a.behind b.behind y w (same_tail r.1) a.right b.right)

angled_stops : (s : List ℕ) (n : ℕ) → IsAngled s n → Stops (other_than 60) s
angled_stops s n a = subst (Stops (other_than 60)) (sym a.spelled) refl

same_protected : (s t : List ℕ) (x y : Spec) (n m : ℕ) → s ≡ t → IsProtected s x n → IsProtected t y m
    → (x ≡ y) × (n ≡ m)
same_protected s t x y n m e a b =
    let r = stretch (other_than 60) a.before a.behind b.before b.behind
    (spec_other 60 refl refl refl refl refl refl a.before x a.left)
    (spec_other 60 refl refl refl refl refl refl b.before y b.left)
    (angled_stops a.behind n a.right) (angled_stops b.behind m b.right) (sym a.spelled ∙ e ∙ b.spelled) in
    (same_spec a.before b.before x y r.0 a.left b.left, same_angled a.behind b.behind n m r.1 a.right b.right)

protection_stops : (s : List ℕ) (n : ℕ) → IsProtection s n → Stops (other_than 60) s
protection_stops [] n a = tt
protection_stops (c ∷ cs) n a = angled_stops (c ∷ cs) n a

same_protection : (s t : List ℕ) (n m : ℕ) → s ≡ t → IsProtection s n → IsProtection t m → n ≡ m
same_protection [] [] n m e a b = a ∙ sym b
same_protection [] (d ∷ ds) n m e a b = absurd (none_all e)
same_protection (c ∷ cs) [] n m e a b = absurd (none_all (sym e))
same_protection (c ∷ cs) (d ∷ ds) n m e a b = same_angled (c ∷ cs) (d ∷ ds) n m e a b

same_made : (s t : List ℕ) (p q n m : ℕ) → s ≡ t → IsNewDirectory s p n → IsNewDirectory t q m → (p ≡ q) × (n ≡ m)
same_made s t p q n m e a b =
    let r = stretch (other_than 60) a.before a.behind b.before b.behind
    (bracketed_other 60 a.before p refl refl refl refl a.left)
    (bracketed_other 60 b.before q refl refl refl refl b.left)
    (protection_stops a.behind n a.right) (protection_stops b.behind m b.right) (sym a.spelled ∙ e ∙ b.spelled) in
    (same_bracketed a.before b.before p q r.0 a.left b.left, same_protection a.behind b.behind n m r.1 a.right b.right)

-- Two lines with a word and an argument.

same_argument : (w v a b text : List ℕ) → AreFields (w ∷ a ∷ []) text → AreFields (v ∷ b ∷ []) text → a ≡ b
same_argument w v a b text f g = same_head (same_tail (same_fields (w ∷ a ∷ []) (v ∷ b ∷ []) text f g))

-- a word's number, by which the words of the grammar are distinguished
abbrev number : List ℕ → ℕ
number [] = 0
number (c ∷ cs) = c + 3 * number cs

-- the fields of a line, the word first
abbrev word : Command → List ℕ
word (Login p) = codes "LOGIN"
word (Directory o) = codes "DIRECTORY"
word (Copy x y) = codes "COPY"
word (Rename x y) = codes "RENAME"
word (Delete x) = codes "DELETE"
word (TypeOut x) = codes "TYPE"
word (Protect x n) = codes "PROTECT"
word (MakeDir p n) = codes "MAKDIR"
word (Quota p n) = codes "QUOTA"

bracketed_field : (s : List ℕ) (p : ℕ) → IsBracketed s p → IsField s
bracketed_field s p a = record {
  some = subst (λ t. 0 < length t) (sym a.spelled) (omega arith);
  visible = bracketed_other 32 s p refl refl refl refl a;
}

count_field : (s : List ℕ) (n : ℕ) → IsBlockCount s n → IsField s
count_field s n a = record { some = a.some; visible = are_other is_digit 32 refl s a.digits }

-- the fields of a line that gives a quota
pub limit_fields : (text : List ℕ) (p n : ℕ) (a : IsCommand text (Quota p n))
    → AreFields (codes "QUOTA" ∷ a.4.before ∷ a.4.behind ∷ []) text
limit_fields text p n a =
    let word : IsField (codes "QUOTA") = record {
      some = omega arith;
      visible = (refl, (refl, (refl, (refl, (refl, tt)))));
    } in
    let last : AreFields (a.4.behind ∷ []) a.4.behind = (count_field a.4.behind n a.4.right, refl) in
    let both : AreFields (a.4.before ∷ a.4.behind ∷ []) a.2 =
    (bracketed_field a.4.before p a.4.left, [], tt, a.4.behind, a.4.spelled, last) in
    (word, a.0, a.1, a.2, a.3, both)

has_word : (text : List ℕ) (c : Command) → IsCommand text c → (more : List (List ℕ)) × AreFields (word c ∷ more) text
has_word text (Login p) a = (a.0 ∷ [], a.1)
has_word text (Directory None) a = ([], a)
has_word text (Directory (Some p)) a = (a.0 ∷ [], a.1)
has_word text (Copy x y) a = (a.0 ∷ [], a.1)
has_word text (Rename x y) a = (a.0 ∷ [], a.1)
has_word text (Delete x) a = (a.0 ∷ [], a.1)
has_word text (TypeOut x) a = (a.0 ∷ [], a.1)
has_word text (Protect x n) a = (a.0 ∷ [], a.1)
has_word text (MakeDir p n) a = (a.0 ∷ [], a.1)
has_word text (Quota p n) a = (a.4.before ∷ a.4.behind ∷ [], limit_fields text p n a)

same_word : (text : List ℕ) (c d : Command) → IsCommand text c → IsCommand text d → number (word c) ≡ number (word d)
same_word text c d a b =
    let x = has_word text c a in
    let y = has_word text d b in
    ap number (same_head (same_fields (word c ∷ x.0) (word d ∷ y.0) text x.1 y.1))

same_limits : (text : List ℕ) (p q n m : ℕ) → IsCommand text (Quota p n) → IsCommand text (Quota q m) → (p ≡ q)
    × (n ≡ m)
same_limits text p q n m a b =
    let fields = same_tail (same_fields (codes "QUOTA" ∷ a.4.before ∷ a.4.behind ∷ [])
    (codes "QUOTA" ∷ b.4.before ∷ b.4.behind ∷ []) text (limit_fields text p n a) (limit_fields text q m b)) in (
      same_bracketed a.4.before b.4.before p q (same_head fields) a.4.left b.4.left,
      a.4.right.value ∙ ap (decimal_after 0) (same_head (same_tail fields)) ∙ sym b.4.right.value,
    )

pub same_command : (text : List ℕ) (c d : Command) → IsCommand text c → IsCommand text d → c ≡ d
same_command text (Login p) (Login q) a b = ap Login
    (same_bracketed a.0 b.0 p q (same_argument _ _ a.0 b.0 text a.1 b.1) a.2 b.2)
same_command text (Directory None) (Directory None) a b = refl
same_command text (Directory None) (Directory (Some q)) a b = absurd
    (none_all (same_tail (same_fields (codes "DIRECTORY" ∷ []) (codes "DIRECTORY" ∷ b.0 ∷ []) text a b.1)))
same_command text (Directory (Some p)) (Directory None) a b = absurd
    (none_all (same_tail (same_fields (codes "DIRECTORY" ∷ []) (codes "DIRECTORY" ∷ a.0 ∷ []) text b a.1)))
same_command text (Directory (Some p)) (Directory (Some q)) a b = ap (λ x. Directory (Some x))
    (same_bracketed a.0 b.0 p q (same_argument _ _ a.0 b.0 text a.1 b.1) a.2 b.2)
same_command text (Copy x y) (Copy v w) a b = let s = same_specs a.0 b.0 x y v w
    (same_argument _ _ a.0 b.0 text a.1 b.1) a.2 b.2 in λ i. Copy (s.0 i) (s.1 i)
same_command text (Rename x y) (Rename v w) a b = let s = same_specs a.0 b.0 x y v w
    (same_argument _ _ a.0 b.0 text a.1 b.1) a.2 b.2 in λ i. Rename (s.0 i) (s.1 i)
same_command text (Delete x) (Delete y) a b = ap Delete
    (same_spec a.0 b.0 x y (same_argument _ _ a.0 b.0 text a.1 b.1) a.2 b.2)
same_command text (TypeOut x) (TypeOut y) a b = ap TypeOut
    (same_spec a.0 b.0 x y (same_argument _ _ a.0 b.0 text a.1 b.1) a.2 b.2)
same_command text (Protect x n) (Protect y m) a b = let s = same_protected a.0 b.0 x y n m
    (same_argument _ _ a.0 b.0 text a.1 b.1) a.2 b.2 in λ i. Protect (s.0 i) (s.1 i)
same_command text (MakeDir p n) (MakeDir q m) a b = let s = same_made a.0 b.0 p q n m
    (same_argument _ _ a.0 b.0 text a.1 b.1) a.2 b.2 in λ i. MakeDir (s.0 i) (s.1 i)
same_command text (Quota p n) (Quota q m) a b = let s = same_limits text p q n m a b in λ i. Quota (s.0 i) (s.1 i)
same_command text (Login x) (Directory v) a b = absurd
    (differs (number (word (Login x))) (number (word (Directory v))) refl (same_word text (Login x) (Directory v) a b))
same_command text (Login x) (Copy v w) a b = absurd
    (differs (number (word (Login x))) (number (word (Copy v w))) refl (same_word text (Login x) (Copy v w) a b))
same_command text (Login x) (Rename v w) a b = absurd
    (differs (number (word (Login x))) (number (word (Rename v w))) refl (same_word text (Login x) (Rename v w) a b))
same_command text (Login x) (Delete v) a b = absurd
    (differs (number (word (Login x))) (number (word (Delete v))) refl (same_word text (Login x) (Delete v) a b))
same_command text (Login x) (TypeOut v) a b = absurd
    (differs (number (word (Login x))) (number (word (TypeOut v))) refl (same_word text (Login x) (TypeOut v) a b))
same_command text (Login x) (Protect v w) a b = absurd
    (differs (number (word (Login x))) (number (word (Protect v w))) refl (same_word text (Login x) (Protect v w) a b))
same_command text (Login x) (MakeDir v w) a b = absurd
    (differs (number (word (Login x))) (number (word (MakeDir v w))) refl (same_word text (Login x) (MakeDir v w) a b))
same_command text (Directory x) (Login v) a b = absurd
    (differs (number (word (Directory x))) (number (word (Login v))) refl (same_word text (Directory x) (Login v) a b))
same_command text (Directory x) (Copy v w) a b = absurd (differs (number (word (Directory x)))
    (number (word (Copy v w))) refl (same_word text (Directory x) (Copy v w) a b))
same_command text (Directory x) (Rename v w) a b = absurd (differs (number (word (Directory x)))
    (number (word (Rename v w))) refl (same_word text (Directory x) (Rename v w) a b))
same_command text (Directory x) (Delete v) a b = absurd (differs (number (word (Directory x)))
    (number (word (Delete v))) refl (same_word text (Directory x) (Delete v) a b))
same_command text (Directory x) (TypeOut v) a b = absurd (differs (number (word (Directory x)))
    (number (word (TypeOut v))) refl (same_word text (Directory x) (TypeOut v) a b))
same_command text (Directory x) (Protect v w) a b = absurd (differs (number (word (Directory x)))
    (number (word (Protect v w))) refl (same_word text (Directory x) (Protect v w) a b))
same_command text (Directory x) (MakeDir v w) a b = absurd (differs (number (word (Directory x)))
    (number (word (MakeDir v w))) refl (same_word text (Directory x) (MakeDir v w) a b))
same_command text (Copy x y) (Login v) a b = absurd
    (differs (number (word (Copy x y))) (number (word (Login v))) refl (same_word text (Copy x y) (Login v) a b))
same_command text (Copy x y) (Directory v) a b = absurd (differs (number (word (Copy x y)))
    (number (word (Directory v))) refl (same_word text (Copy x y) (Directory v) a b))
same_command text (Copy x y) (Rename v w) a b = absurd
    (differs (number (word (Copy x y))) (number (word (Rename v w))) refl (same_word text (Copy x y) (Rename v w) a b))
same_command text (Copy x y) (Delete v) a b = absurd
    (differs (number (word (Copy x y))) (number (word (Delete v))) refl (same_word text (Copy x y) (Delete v) a b))
same_command text (Copy x y) (TypeOut v) a b = absurd
    (differs (number (word (Copy x y))) (number (word (TypeOut v))) refl (same_word text (Copy x y) (TypeOut v) a b))
same_command text (Copy x y) (Protect v w) a b = absurd (differs (number (word (Copy x y)))
    (number (word (Protect v w))) refl (same_word text (Copy x y) (Protect v w) a b))
same_command text (Copy x y) (MakeDir v w) a b = absurd (differs (number (word (Copy x y)))
    (number (word (MakeDir v w))) refl (same_word text (Copy x y) (MakeDir v w) a b))
same_command text (Rename x y) (Login v) a b = absurd
    (differs (number (word (Rename x y))) (number (word (Login v))) refl (same_word text (Rename x y) (Login v) a b))
same_command text (Rename x y) (Directory v) a b = absurd (differs (number (word (Rename x y)))
    (number (word (Directory v))) refl (same_word text (Rename x y) (Directory v) a b))
same_command text (Rename x y) (Copy v w) a b = absurd
    (differs (number (word (Rename x y))) (number (word (Copy v w))) refl (same_word text (Rename x y) (Copy v w) a b))
same_command text (Rename x y) (Delete v) a b = absurd
    (differs (number (word (Rename x y))) (number (word (Delete v))) refl (same_word text (Rename x y) (Delete v) a b))
same_command text (Rename x y) (TypeOut v) a b = absurd (differs (number (word (Rename x y)))
    (number (word (TypeOut v))) refl (same_word text (Rename x y) (TypeOut v) a b))
same_command text (Rename x y) (Protect v w) a b = absurd (differs (number (word (Rename x y)))
    (number (word (Protect v w))) refl (same_word text (Rename x y) (Protect v w) a b))
same_command text (Rename x y) (MakeDir v w) a b = absurd (differs (number (word (Rename x y)))
    (number (word (MakeDir v w))) refl (same_word text (Rename x y) (MakeDir v w) a b))
same_command text (Delete x) (Login v) a b = absurd
    (differs (number (word (Delete x))) (number (word (Login v))) refl (same_word text (Delete x) (Login v) a b))
same_command text (Delete x) (Directory v) a b = absurd (differs (number (word (Delete x)))
    (number (word (Directory v))) refl (same_word text (Delete x) (Directory v) a b))
same_command text (Delete x) (Copy v w) a b = absurd
    (differs (number (word (Delete x))) (number (word (Copy v w))) refl (same_word text (Delete x) (Copy v w) a b))
same_command text (Delete x) (Rename v w) a b = absurd
    (differs (number (word (Delete x))) (number (word (Rename v w))) refl (same_word text (Delete x) (Rename v w) a b))
same_command text (Delete x) (TypeOut v) a b = absurd
    (differs (number (word (Delete x))) (number (word (TypeOut v))) refl (same_word text (Delete x) (TypeOut v) a b))
same_command text (Delete x) (Protect v w) a b = absurd (differs (number (word (Delete x)))
    (number (word (Protect v w))) refl (same_word text (Delete x) (Protect v w) a b))
same_command text (Delete x) (MakeDir v w) a b = absurd (differs (number (word (Delete x)))
    (number (word (MakeDir v w))) refl (same_word text (Delete x) (MakeDir v w) a b))
same_command text (TypeOut x) (Login v) a b = absurd
    (differs (number (word (TypeOut x))) (number (word (Login v))) refl (same_word text (TypeOut x) (Login v) a b))
same_command text (TypeOut x) (Directory v) a b = absurd (differs (number (word (TypeOut x)))
    (number (word (Directory v))) refl (same_word text (TypeOut x) (Directory v) a b))
same_command text (TypeOut x) (Copy v w) a b = absurd
    (differs (number (word (TypeOut x))) (number (word (Copy v w))) refl (same_word text (TypeOut x) (Copy v w) a b))
same_command text (TypeOut x) (Rename v w) a b = absurd (differs (number (word (TypeOut x)))
    (number (word (Rename v w))) refl (same_word text (TypeOut x) (Rename v w) a b))
same_command text (TypeOut x) (Delete v) a b = absurd
    (differs (number (word (TypeOut x))) (number (word (Delete v))) refl (same_word text (TypeOut x) (Delete v) a b))
same_command text (TypeOut x) (Protect v w) a b = absurd (differs (number (word (TypeOut x)))
    (number (word (Protect v w))) refl (same_word text (TypeOut x) (Protect v w) a b))
same_command text (TypeOut x) (MakeDir v w) a b = absurd (differs (number (word (TypeOut x)))
    (number (word (MakeDir v w))) refl (same_word text (TypeOut x) (MakeDir v w) a b))
same_command text (Protect x y) (Login v) a b = absurd
    (differs (number (word (Protect x y))) (number (word (Login v))) refl (same_word text (Protect x y) (Login v) a b))
same_command text (Protect x y) (Directory v) a b = absurd (differs (number (word (Protect x y)))
    (number (word (Directory v))) refl (same_word text (Protect x y) (Directory v) a b))
same_command text (Protect x y) (Copy v w) a b = absurd (differs (number (word (Protect x y)))
    (number (word (Copy v w))) refl (same_word text (Protect x y) (Copy v w) a b))
same_command text (Protect x y) (Rename v w) a b = absurd (differs (number (word (Protect x y)))
    (number (word (Rename v w))) refl (same_word text (Protect x y) (Rename v w) a b))
same_command text (Protect x y) (Delete v) a b = absurd (differs (number (word (Protect x y)))
    (number (word (Delete v))) refl (same_word text (Protect x y) (Delete v) a b))
same_command text (Protect x y) (TypeOut v) a b = absurd (differs (number (word (Protect x y)))
    (number (word (TypeOut v))) refl (same_word text (Protect x y) (TypeOut v) a b))
same_command text (Protect x y) (MakeDir v w) a b = absurd (differs (number (word (Protect x y)))
    (number (word (MakeDir v w))) refl (same_word text (Protect x y) (MakeDir v w) a b))
same_command text (MakeDir x y) (Login v) a b = absurd
    (differs (number (word (MakeDir x y))) (number (word (Login v))) refl (same_word text (MakeDir x y) (Login v) a b))
same_command text (MakeDir x y) (Directory v) a b = absurd (differs (number (word (MakeDir x y)))
    (number (word (Directory v))) refl (same_word text (MakeDir x y) (Directory v) a b))
same_command text (MakeDir x y) (Copy v w) a b = absurd (differs (number (word (MakeDir x y)))
    (number (word (Copy v w))) refl (same_word text (MakeDir x y) (Copy v w) a b))
same_command text (MakeDir x y) (Rename v w) a b = absurd (differs (number (word (MakeDir x y)))
    (number (word (Rename v w))) refl (same_word text (MakeDir x y) (Rename v w) a b))
same_command text (MakeDir x y) (Delete v) a b = absurd (differs (number (word (MakeDir x y)))
    (number (word (Delete v))) refl (same_word text (MakeDir x y) (Delete v) a b))
same_command text (MakeDir x y) (TypeOut v) a b = absurd (differs (number (word (MakeDir x y)))
    (number (word (TypeOut v))) refl (same_word text (MakeDir x y) (TypeOut v) a b))
same_command text (MakeDir x y) (Protect v w) a b = absurd (differs (number (word (MakeDir x y)))
    (number (word (Protect v w))) refl (same_word text (MakeDir x y) (Protect v w) a b))
same_command text (Login x) (Quota v w) a b = absurd (differs (number (word (Login x)))
    (number (word (Quota v w))) refl (same_word text (Login x) (Quota v w) a b))
same_command text (Directory x) (Quota v w) a b = absurd (differs (number (word (Directory x)))
    (number (word (Quota v w))) refl (same_word text (Directory x) (Quota v w) a b))
same_command text (Copy x y) (Quota v w) a b = absurd (differs (number (word (Copy x y)))
    (number (word (Quota v w))) refl (same_word text (Copy x y) (Quota v w) a b))
same_command text (Rename x y) (Quota v w) a b = absurd (differs (number (word (Rename x y)))
    (number (word (Quota v w))) refl (same_word text (Rename x y) (Quota v w) a b))
same_command text (Delete x) (Quota v w) a b = absurd (differs (number (word (Delete x)))
    (number (word (Quota v w))) refl (same_word text (Delete x) (Quota v w) a b))
same_command text (TypeOut x) (Quota v w) a b = absurd (differs (number (word (TypeOut x)))
    (number (word (Quota v w))) refl (same_word text (TypeOut x) (Quota v w) a b))
same_command text (Protect x y) (Quota v w) a b = absurd (differs (number (word (Protect x y)))
    (number (word (Quota v w))) refl (same_word text (Protect x y) (Quota v w) a b))
same_command text (MakeDir x y) (Quota v w) a b = absurd (differs (number (word (MakeDir x y)))
    (number (word (Quota v w))) refl (same_word text (MakeDir x y) (Quota v w) a b))
same_command text (Quota x y) (Login v) a b = absurd (differs (number (word (Quota x y)))
    (number (word (Login v))) refl (same_word text (Quota x y) (Login v) a b))
same_command text (Quota x y) (Directory v) a b = absurd (differs (number (word (Quota x y)))
    (number (word (Directory v))) refl (same_word text (Quota x y) (Directory v) a b))
same_command text (Quota x y) (Copy v w) a b = absurd (differs (number (word (Quota x y)))
    (number (word (Copy v w))) refl (same_word text (Quota x y) (Copy v w) a b))
same_command text (Quota x y) (Rename v w) a b = absurd (differs (number (word (Quota x y)))
    (number (word (Rename v w))) refl (same_word text (Quota x y) (Rename v w) a b))
same_command text (Quota x y) (Delete v) a b = absurd (differs (number (word (Quota x y)))
    (number (word (Delete v))) refl (same_word text (Quota x y) (Delete v) a b))
same_command text (Quota x y) (TypeOut v) a b = absurd (differs (number (word (Quota x y)))
    (number (word (TypeOut v))) refl (same_word text (Quota x y) (TypeOut v) a b))
same_command text (Quota x y) (Protect v w) a b = absurd (differs (number (word (Quota x y)))
    (number (word (Protect v w))) refl (same_word text (Quota x y) (Protect v w) a b))
same_command text (Quota x y) (MakeDir v w) a b = absurd (differs (number (word (Quota x y)))
    (number (word (MakeDir v w))) refl (same_word text (Quota x y) (MakeDir v w) a b))
