-- Worked rows of texts, computed: lines, days and tables.
use Rattle.std.proofs.Common.{◌≡◌, ℕ, List, [], ◌∷◌, ◌++◌, replicate, refl}
use Rattle.std.specs.Prelude.{codes}
use Rattle.std.specs.Fmt.{digits}
use Rattle.spec_language.specs.Lines.{Bytes, TooLong, lines}
use Rattle.spec_language.specs.Texts.{day_text, row_text, table}
use Rattle.spec_image.specs.declared.entry.Entry.{Entry}
use Rattle.spec_machine.proofs.Common.{ten_twenty, foo}

-- Lines: letters in upper case, a return dropped only before a feed, no empty lines, and one that is too long.
lines_of : lines (codes "login [1,2]" ++ 13 ∷ 10 ∷ 10 ∷ 13 ∷ 10 ∷ codes "Foo" ++ 13 ∷ [])
    ≡ Bytes (codes "LOGIN [1,2]") ∷ Bytes (codes "FOO" ++ 13 ∷ []) ∷ []
lines_of = refl

too_long : lines (replicate 255 65 ++ 10 ∷ replicate 255 65 ++ 13 ∷ 10 ∷ replicate 256 65)
    ≡ Bytes (replicate 255 65) ∷ TooLong ∷ TooLong ∷ []
too_long = refl

-- Days, the last ones of twelve and of fifteen bits among them.
days : (day_text 0 ≡ codes " 1-Jan-1964") × (day_text 4095 ≡ codes " 4-Jan-1975")
    × (day_text 4096 ≡ codes " 5-Jan-1975") × (day_text 32767 ≡ codes " 1-Feb-2052")
unfolding digits
days = (refl, refl, refl, refl)

-- Lines of a list as a table: a file as it is in most lists; and a name with a blank inside, no extension, more than
-- one block, and the last day and minute that there are.
abbrev tabbed : List (List ℕ) → List ℕ
tabbed [] = []
tabbed (text ∷ []) = text ++ 10 ∷ []
tabbed (text ∷ next ∷ texts) = text ++ 9 ∷ tabbed (next ∷ texts)

abbrev foo_entry : Entry
foo_entry = record {
  name = record { name = foo; ext = 0o647064 };
  protection = 0o057;
  mode = 0;
  date = 4095;
  time = 605;
  length = 2;
  blocks = 1;
}

abbrev odd_entry : Entry
odd_entry = record {
  name = record { name = 0o410042000000; ext = 0 };
  protection = 0o777;
  mode = 0o17;
  date = 32767;
  time = 1439;
  length = 129;
  blocks = 2;
}

tables : (table ten_twenty (foo_entry ∷ odd_entry ∷ [])
    ≡ tabbed (codes "10,20" ∷ codes "FOO" ∷ codes "TXT" ∷ codes "057" ∷ codes "00" ∷ codes "1975-01-04"
    ∷ codes "10:05" ∷ codes "2" ∷ codes "1" ∷ [])
    ++ tabbed (codes "10,20" ∷ codes "A B" ∷ [] ∷ codes "777" ∷ codes "17" ∷ codes "2052-02-01" ∷ codes "23:59"
    ∷ codes "129" ∷ codes "2" ∷ [])) × (table ten_twenty [] ≡ [])
unfolding table row_text digits
tables = (refl, refl)
