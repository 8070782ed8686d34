-- Lines that are in the grammars, and some that aren't.
use Rattle.std.proofs.Common.{◌≡◌, ℕ, ◌^◌, ◌<◌, ◌≤◌, Bool, true, List, [], ◌∷◌, ◌++◌, length, Option, Some, None}
use Rattle.std.proofs.Common.{refl, sym, ap, subst, ◌∙◌, arith}
use Rattle.std.specs.Prelude.{◌&&◌, nat_lt, nat_le, codes}
use Rattle.std.proofs.lemmas.Bool.Decides.{nat_tests}
use Rattle.words36.specs.Common.{left, join, sixbit}
use Rattle.words36.specs.declared.moment.Moment.{Moment}
use Rattle.spec_language.specs.Spellings.{is_space, is_visible, is_octal, is_letter, Are, IsField, AreFields, octal}
use Rattle.spec_language.specs.Spellings.{IsNumber, IsSmall, IsPair, IsBracketed, IsName, IsExtension, IsOwner}
use Rattle.spec_language.specs.Spellings.{IsSpec}
use Rattle.spec_language.specs.Commands.{IsCommand}
use Rattle.spec_language.specs.Scripts.{IsPlace, IsEvent}
use Rattle.spec_language.specs.declared.command.Command.TheVariants.{Login, Directory, Copy, Rename, Delete, TypeOut}
use Rattle.spec_language.specs.declared.command.Command.TheVariants.{Protect, MakeDir}
use Rattle.spec_machine.specs.declared.call.Call.TheVariants.{Close as CloseCall, Reset as ResetCall}
use Rattle.spec_machine.specs.declared.call.Call.TheVariants.{DeleteDir as DeleteCall}
use Rattle.spec_machine.specs.declared.call.Event.TheVariants.{Login as LoginEvent, Deposit, Examine, Call as Calls}
use Rattle.spec_image.proofs.Common.{same_tail}
use Rattle.spec_language.proofs.SpellingLaws.{stretch, same_but_last}
use Rattle.words36.proofs.OctetReaderLaws.{both-true}

-- Facts of closed texts, by computation.

abbrev all : (ℕ → Bool) → List ℕ → Bool
all is [] = true
all is (c ∷ cs) = is c && all is cs

are : (is : ℕ → Bool) (cs : List ℕ) → all is cs ≡ true → Are is cs
are is [] e = tt
are is (c ∷ cs) e = let h = both-true (is c) (all is cs) e in (h.0, are is cs h.1)

below : (a b : ℕ) → nat_lt a b ≡ true → a < b
below a b e = grind (arith, nat_tests)

up_to : (a b : ℕ) → nat_le a b ≡ true → a ≤ b
up_to a b e = grind (arith, nat_tests)

field : (text : List ℕ) → nat_lt 0 (length text) ≡ true → all is_visible text ≡ true → IsField text
field text some visible = record { some = below 0 (length text) some; visible = are is_visible text visible }

number : (most : ℕ) (text : List ℕ) → nat_lt 0 (length text) ≡ true → nat_le (length text) most ≡ true
    → all is_octal text ≡ true → IsNumber most text (octal text)
number most text some few digits = record {
  some = below 0 (length text) some;
  few = up_to (length text) most few;
  digits = are is_octal text digits;
  value = refl;
}

small : (most : ℕ) (text : List ℕ) → nat_lt 0 (length text) ≡ true → nat_le (length text) most ≡ true
    → all is_octal text ≡ true → nat_lt (octal text) (2 ^ 18) ≡ true → IsSmall most text (octal text)
small most text some few digits fits = record {
  number = number most text some few digits;
  small = below (octal text) (2 ^ 18) fits;
}

pair : (most : ℕ) (p n : List ℕ) → IsSmall most p (octal p) → IsSmall most n (octal n) → nat_lt 0 (octal p) ≡ true
    → nat_lt 0 (octal n) ≡ true → IsPair most (p ++ 44 ∷ n) (join (octal p) (octal n))
pair most p n left right some other = record {
  project = octal p;
  programmer = octal n;
  before = p;
  behind = n;
  left = left;
  right = right;
  some_project = below 0 (octal p) some;
  some_programmer = below 0 (octal n) other;
  spelled = refl;
  value = refl;
}

name : (text : List ℕ) → nat_lt 0 (length text) ≡ true → nat_le (length text) 6 ≡ true → all is_letter text ≡ true
    → IsName text (sixbit text)
name text some few letters = record {
  some = below 0 (length text) some;
  few = up_to (length text) 6 few;
  letters = are is_letter text letters;
  value = refl;
}

-- a full stop and an extension
dotted : (text : List ℕ) → nat_le (length text) 3 ≡ true → all is_letter text ≡ true
    → IsExtension (46 ∷ text) (left (sixbit text))
dotted text few letters = (refl, up_to (length text) 3 few, are is_letter text letters, refl)

spec : (text extension owner : List ℕ) (ext : ℕ) (o : Option ℕ) → IsName text (sixbit text) → IsExtension extension ext
    → IsOwner owner o
    → IsSpec (text ++ (extension ++ owner)) (record { name = record { name = sixbit text; ext = ext }; owner = o })
spec text extension owner ext o a b c = record {
  name = text;
  extension = extension;
  owner = owner;
  named = a;
  extended = b;
  owned = c;
  spelled = refl;
}

-- a word and an argument, with a number of extra spaces between them
line : (word gap argument : List ℕ) → IsField word → Are is_space gap → IsField argument
    → AreFields (word ∷ argument ∷ []) (word ++ 32 ∷ (gap ++ argument))
line word gap argument a b c = (a, gap, b, argument, refl, (c, refl))

one_two : IsBracketed (codes "[1,2]") (join 1 2)
one_two = record {
  pair = codes "1,2";
  named = pair 6 (codes "1") (codes "2") (small 6 (codes "1") refl refl refl refl)
      (small 6 (codes "2") refl refl refl refl) refl refl;
  spelled = refl;
}

ten_thirty : IsBracketed (codes "[10,030]") (join 0o10 0o30)
ten_thirty = record {
  pair = codes "10,030";
  named = pair 6 (codes "10") (codes "030") (small 6 (codes "10") refl refl refl refl)
      (small 6 (codes "030") refl refl refl refl) refl refl;
  spelled = refl;
}

foo_txt : IsSpec (codes "FOO.TXT") (record { name = record { name = 0o465757000000; ext = 0o647064 }; owner = None })
foo_txt = spec (codes "FOO") (codes ".TXT") [] 0o647064 None (name (codes "FOO") refl refl refl)
    (dotted (codes "TXT") refl refl) refl

-- Session lines.

login : IsCommand (codes "LOGIN [1,2]") (Login (join 1 2))
login = (codes "[1,2]", line (codes "LOGIN") [] (codes "[1,2]") (field _ refl refl) tt (field _ refl refl), one_two)

directory : IsCommand (codes "DIRECTORY") (Directory None)
directory = (field (codes "DIRECTORY") refl refl, refl)

directory_of : IsCommand (codes "DIRECTORY   [10,030]") (Directory (Some (join 0o10 0o30)))
directory_of = (
  codes "[10,030]",
  line (codes "DIRECTORY") (codes "  ") (codes "[10,030]") (field _ refl refl)
      (are is_space (codes "  ") refl) (field _ refl refl),
  ten_thirty,
)

copy : IsCommand (codes "COPY A1.=FOO.TXT")
    (Copy (record { name = record { name = sixbit (codes "A1"); ext = 0 }; owner = None })
    (record { name = record { name = 0o465757000000; ext = 0o647064 }; owner = None }))
copy = (
  codes "A1.=FOO.TXT",
  line (codes "COPY") [] (codes "A1.=FOO.TXT") (field _ refl refl) tt (field _ refl refl),
  record {
    before = codes "A1.";
    behind = codes "FOO.TXT";
    left = spec (codes "A1") (codes ".") [] 0 None (name (codes "A1") refl refl refl) (dotted [] refl refl) refl;
    right = foo_txt;
    spelled = refl;
  },
)

rename : IsCommand (codes "RENAME B[1,2]=FOO.TXT")
    (Rename (record { name = record { name = sixbit (codes "B"); ext = 0 }; owner = Some (join 1 2) })
    (record { name = record { name = 0o465757000000; ext = 0o647064 }; owner = None }))
rename = (
  codes "B[1,2]=FOO.TXT",
  line (codes "RENAME") [] (codes "B[1,2]=FOO.TXT") (field _ refl refl) tt (field _ refl refl),
  record {
    before = codes "B[1,2]";
    behind = codes "FOO.TXT";
    left = spec (codes "B") [] (codes "[1,2]") 0 (Some (join 1 2)) (name (codes "B") refl refl refl) refl one_two;
    right = foo_txt;
    spelled = refl;
  },
)

delete : IsCommand (codes "DELETE FOO.TXT")
    (Delete (record { name = record { name = 0o465757000000; ext = 0o647064 }; owner = None }))
delete = (
  codes "FOO.TXT",
  line (codes "DELETE") [] (codes "FOO.TXT") (field _ refl refl) tt (field _ refl refl),
  foo_txt,
)

type_out : IsCommand (codes "TYPE FOO.TXT")
    (TypeOut (record { name = record { name = 0o465757000000; ext = 0o647064 }; owner = None }))
type_out = (
  codes "FOO.TXT",
  line (codes "TYPE") [] (codes "FOO.TXT") (field _ refl refl) tt (field _ refl refl),
  foo_txt,
)

protect : IsCommand (codes "PROTECT FOO.TXT<57>")
    (Protect (record { name = record { name = 0o465757000000; ext = 0o647064 }; owner = None }) 0o57)
protect = (
  codes "FOO.TXT<57>",
  line (codes "PROTECT") [] (codes "FOO.TXT<57>") (field _ refl refl) tt (field _ refl refl),
  record {
    before = codes "FOO.TXT";
    behind = codes "<57>";
    left = foo_txt;
    right = record { digits = codes "57"; number = number 3 (codes "57") refl refl refl; spelled = refl };
    spelled = refl;
  },
)

makdir : IsCommand (codes "MAKDIR [1,2]") (MakeDir (join 1 2) 0)
makdir = (
  codes "[1,2]",
  line (codes "MAKDIR") [] (codes "[1,2]") (field _ refl refl) tt (field _ refl refl),
  record { before = codes "[1,2]"; behind = []; left = one_two; right = refl; spelled = refl },
)

makdir_with : IsCommand (codes "MAKDIR [1,2]<775>") (MakeDir (join 1 2) 0o775)
makdir_with = (
  codes "[1,2]<775>",
  line (codes "MAKDIR") [] (codes "[1,2]<775>") (field _ refl refl) tt (field _ refl refl),
  record {
    before = codes "[1,2]";
    behind = codes "<775>";
    left = one_two;
    right = record { digits = codes "775"; number = number 3 (codes "775") refl refl refl; spelled = refl };
    spelled = refl;
  },
)

-- A number of 0 is no project.
no_project : (ppn : ℕ) → IsBracketed (codes "[0,20]") ppn → ⊥
no_project ppn a =
    let inside = same_but_last 93 a.pair (codes "0,20") (same_tail (sym a.spelled)) in
    let r = stretch is_octal a.named.before (44 ∷ a.named.behind) (codes "0") (codes ",20") a.named.left.number.digits
    (are is_octal (codes "0") refl) refl refl (sym a.named.spelled ∙ inside) in
    let zero : a.named.project ≡ 0 = a.named.left.number.value ∙ ap octal r.0 in
    nothing (subst (λ n. 0 < n) zero a.named.some_project)
  where
    nothing : 0 < 0 → ⊥
    nothing h = omega (arith, h)

-- Lines of a call script.

place : (text : List ℕ) → nat_lt 0 (length text) ≡ true → nat_le (length text) 12 ≡ true → all is_octal text ≡ true
    → nat_lt (octal text) (2 ^ 18) ≡ true → IsPlace text (octal text)
place text some few digits fits = small 12 text some few digits fits

-- fields with one space between them
last : (f : List ℕ) → IsField f → AreFields (f ∷ []) f
last f a = (a, refl)

more : (f g : List ℕ) (gs : List (List ℕ)) (rest : List ℕ) → IsField f → AreFields (g ∷ gs) rest
    → AreFields (f ∷ g ∷ gs) (f ++ 32 ∷ rest)
more f g gs rest a b = (a, [], tt, rest, refl, b)

two : (f g : List ℕ) → IsField f → IsField g → AreFields (f ∷ g ∷ []) (f ++ 32 ∷ g)
two f g a b = more f g [] g a (last g b)

three : (f g h : List ℕ) → IsField f → IsField g → IsField h → AreFields (f ∷ g ∷ h ∷ []) (f ++ 32 ∷ (g ++ 32 ∷ h))
three f g h a b c = more f g (h ∷ []) (g ++ 32 ∷ h) a (two g h b c)

four : (f g h k : List ℕ) → IsField f → IsField g → IsField h → IsField k
    → AreFields (f ∷ g ∷ h ∷ k ∷ []) (f ++ 32 ∷ (g ++ 32 ∷ (h ++ 32 ∷ k)))
four f g h k a b c d = more f g (h ∷ k ∷ []) (g ++ 32 ∷ (h ++ 32 ∷ k)) a (three g h k b c d)

one : IsPlace (codes "1") 1
one = place (codes "1") refl refl refl refl

module _ (moment : Moment) where
  logs_in : IsEvent (codes "1 LOGIN 10,20 1000") moment (LoginEvent 1 (join 0o10 0o20) 0o1000)
  logs_in = (
    codes "1" ∷ codes "LOGIN" ∷ codes "10,20" ∷ codes "1000" ∷ [],
    four (codes "1") (codes "LOGIN") (codes "10,20") (codes "1000") (field _ refl refl) (field _ refl refl)
        (field _ refl refl) (field _ refl refl),
    (
      codes "1",
      codes "10,20",
      codes "1000",
      refl,
      one,
      pair 12 (codes "10") (codes "20") (place (codes "10") refl refl refl refl)
          (place (codes "20") refl refl refl refl) refl refl,
      place (codes "1000") refl refl refl refl,
    ),
  )

  deposits : IsEvent (codes "1 DEP 201 446353000000") moment (Deposit 1 0o201 0o446353000000)
  deposits = (
    codes "1" ∷ codes "DEP" ∷ codes "201" ∷ codes "446353000000" ∷ [],
    four (codes "1") (codes "DEP") (codes "201") (codes "446353000000") (field _ refl refl) (field _ refl refl)
        (field _ refl refl) (field _ refl refl),
    (
      codes "1",
      codes "201",
      codes "446353000000",
      refl,
      one,
      place (codes "201") refl refl refl refl,
      number 12 (codes "446353000000") refl refl refl,
    ),
  )

  examines : IsEvent (codes "1 EXA 302") moment (Examine 1 0o302)
  examines = (
    codes "1" ∷ codes "EXA" ∷ codes "302" ∷ [],
    three (codes "1") (codes "EXA") (codes "302") (field _ refl refl) (field _ refl refl) (field _ refl refl),
    (codes "1", codes "302", refl, one, place (codes "302") refl refl refl refl),
  )

  closes : IsEvent (codes "1 CLOSE 1 40") moment (Calls 1 (CloseCall 1 0o40) moment)
  closes = (
    codes "1" ∷ codes "CLOSE" ∷ codes "1" ∷ codes "40" ∷ [],
    four (codes "1") (codes "CLOSE") (codes "1") (codes "40") (field _ refl refl) (field _ refl refl)
        (field _ refl refl) (field _ refl refl),
    (
      codes "1",
      codes "CLOSE" ∷ codes "1" ∷ codes "40" ∷ [],
      refl,
      one,
      ((λ channel bits. CloseCall channel bits), refl, 1, one, 0o40, place (codes "40") refl refl refl refl, refl),
      refl,
    ),
  )

  removes : IsEvent (codes "1 REMDIR 300") moment (Calls 1 (DeleteCall 0o300) moment)
  removes = (
    codes "1" ∷ codes "REMDIR" ∷ codes "300" ∷ [],
    three (codes "1") (codes "REMDIR") (codes "300") (field _ refl refl) (field _ refl refl) (field _ refl refl),
    (
      codes "1",
      codes "REMDIR" ∷ codes "300" ∷ [],
      refl,
      one,
      ((λ address. DeleteCall address), refl, 0o300, place (codes "300") refl refl refl refl, refl),
      refl,
    ),
  )

  resets : IsEvent (codes "2 RESET") moment (Calls 2 ResetCall moment)
  resets = (
    codes "2" ∷ codes "RESET" ∷ [],
    two (codes "2") (codes "RESET") (field _ refl refl) (field _ refl refl),
    (codes "2", codes "RESET" ∷ [], refl, place (codes "2") refl refl refl refl, (refl, refl), refl),
  )
