-- The command of a text.
use Rattle.std.proofs.Common.{◌≡◌, ◌≢◌, ℕ, nat_eq, ◌==◌, Bool, true, false, ◌&&◌, List, [], ◌∷◌, Option, Some, None}
use Rattle.std.proofs.Common.{refl, sym, ◌∙◌, ap, subst}
use Rattle.std.specs.Prelude.{codes}
use Rattle.std.specs.Cmp.Lexicographic.{pointwise}
use Rattle.std.proofs.lemmas.Bool.{eq-eqb, eqb-true, both_ways, and_parts}
use Rattle.spec_language.specs.Common.{Line, Bytes, TooLong, AreFields, IsBracketed, IsSpec, IsNewDirectory}
use Rattle.spec_language.specs.Common.{IsProtected, AreSpecs, IsCommand, Says, Means}
use Rattle.spec_language.specs.declared.command.Spec.{Spec}
use Rattle.spec_language.specs.declared.command.Command.{Command}
use Rattle.spec_language.specs.declared.command.Command.TheVariants.{Login, Directory, Copy, Rename, Delete, TypeOut}
use Rattle.spec_language.specs.declared.command.Command.TheVariants.{Protect, MakeDir, Quota}
use Rattle.spec_language.proofs.Common.{limit_fields, differs, same_fields, none_all}
use Rattle.spec_image.proofs.Common.{same_head, same_tail}
use Rattle.commands.specs.Common.{Fits, IsParsedLine, FitsIn}
use Rattle.words36.specs.declared.moment.Moment.{Moment}
use Rattle.commands.specs.declared.language.Language.{Language}
use Rattle.commands.specs.declared.run.ParsedLine.{ParsedLine}
use Rattle.commands.specs.declared.run.ParsedLine.TheVariants.{NoLine, CommandLine, EventLine}
use Rattle.commands.proofs.MadeLaws.{protection_fits, number_fits}

same_pointwise : (xs : List ℕ) → pointwise nat_eq xs xs ≡ true
same_pointwise [] = refl
same_pointwise (x ∷ xs) = ap (λ b. b && pointwise nat_eq xs xs) (eq-eqb x x refl) ∙ same_pointwise xs

pub differ : (xs ys zs : List ℕ) (t : Bool) → t ≡ pointwise nat_eq xs ys → ys ≡ zs → t ≡ false → xs ≢ zs
differ xs ys zs t e f wrong same = both_ways t wrong (e ∙ ap (λ l. pointwise nat_eq xs l) (f ∙ sym same)
    ∙ same_pointwise xs)

pointwise_same : (xs ys : List ℕ) → pointwise nat_eq xs ys ≡ true → xs ≡ ys
pointwise_same [] [] e = refl
pointwise_same [] (y ∷ ys) e = cc
pointwise_same (x ∷ xs) [] e = cc
pointwise_same (x ∷ xs) (y ∷ ys) e =
    let both = and_parts (nat_eq x y) (pointwise nat_eq xs ys) e in
    let h = eqb-true x y both.0 in
    let t = pointwise_same xs ys both.1 in
    λ i. h i ∷ t i

pub agree : (xs ys zs : List ℕ) (t : Bool) → t ≡ pointwise nat_eq xs ys → ys ≡ zs → t ≡ true → xs ≡ zs
agree xs ys zs t e f right = pointwise_same xs ys (sym e ∙ right) ∙ f

-- words that begin with two letters are two
other_word : (c d : ℕ) (cs ds word : List ℕ) → (c == d) ≡ false → word ≡ c ∷ cs → word ≡ d ∷ ds → ⊥
other_word c d cs ds word differ e f = differs c d differ (same_head (sym e ∙ f))

-- and so are words of one first letter, by their second
other_second : (b c d : ℕ) (cs ds word : List ℕ) → (c == d) ≡ false → word ≡ b ∷ c ∷ cs → word ≡ b ∷ d ∷ ds → ⊥
other_second b c d cs ds word differ e f = differs c d differ (same_head (same_tail (sym e ∙ f)))

-- A text with one field or none.
pub says_no_fields : (text : List ℕ) (said : Option Command) → said ≡ None → text ≢ codes "DIRECTORY"
    → ((p n : ℕ) → IsCommand text (Quota p n) → ⊥)
    → ((word argument : List ℕ) → AreFields (word ∷ argument ∷ []) text → ⊥) → Says text said
says_no_fields text said e alone unlimited none = subst (Says text) (sym e) refuse
  where
    refuse : (command : Command) → IsCommand text command → ⊥
    refuse (Login p) a = none (codes "LOGIN") a.0 a.1
    refuse (Directory None) a = alone a.1
    refuse (Directory (Some p)) a = none (codes "DIRECTORY") a.0 a.1
    refuse (Copy x y) a = none (codes "COPY") a.0 a.1
    refuse (Rename x y) a = none (codes "RENAME") a.0 a.1
    refuse (Delete x) a = none (codes "DELETE") a.0 a.1
    refuse (TypeOut x) a = none (codes "TYPE") a.0 a.1
    refuse (Protect x n) a = none (codes "PROTECT") a.0 a.1
    refuse (MakeDir p n) a = none (codes "MAKDIR") a.0 a.1
    refuse (Quota p n) a = unlimited p n a

-- A text with two: the command for each word.
pub record SaysNothing (word argument : List ℕ) : Type 0 where
  pub login : word ≡ codes "LOGIN" → (p : ℕ) → IsBracketed argument p → ⊥
  pub directory : word ≡ codes "DIRECTORY" → (p : ℕ) → IsBracketed argument p → ⊥
  pub makdir : word ≡ codes "MAKDIR" → (p n : ℕ) → IsNewDirectory argument p n → ⊥
  pub copy : word ≡ codes "COPY" → (x y : Spec) → AreSpecs argument x y → ⊥
  pub typed : word ≡ codes "TYPE" → (x : Spec) → IsSpec argument x → ⊥
  pub rename : word ≡ codes "RENAME" → (x y : Spec) → AreSpecs argument x y → ⊥
  pub delete : word ≡ codes "DELETE" → (x : Spec) → IsSpec argument x → ⊥
  pub protect : word ≡ codes "PROTECT" → (x : Spec) (n : ℕ) → IsProtected argument x n → ⊥

says_nothing : (text word argument : List ℕ) (said : Option Command) → said ≡ None
    → AreFields (word ∷ argument ∷ []) text → SaysNothing word argument → Says text said
says_nothing text word argument said e f none = subst (Says text) (sym e) refuse
  where
    refuse : (command : Command) → IsCommand text command → ⊥
    refuse (Login p) a =
        let same = same_fields (word ∷ argument ∷ []) (codes "LOGIN" ∷ a.0 ∷ []) text f a.1 in
        none.login (same_head same) p
        (subst (λ l. IsBracketed l p) (sym (same_head (same_tail same))) a.2)
    refuse (Directory None) a = none_all
        (same_tail (same_fields (codes "DIRECTORY" ∷ []) (word ∷ argument ∷ []) text a f))
    refuse (Directory (Some p)) a =
        let same = same_fields (word ∷ argument ∷ []) (codes "DIRECTORY" ∷ a.0 ∷ []) text f a.1 in
        none.directory (same_head same) p
        (subst (λ l. IsBracketed l p) (sym (same_head (same_tail same))) a.2)
    refuse (Copy x y) a =
        let same = same_fields (word ∷ argument ∷ []) (codes "COPY" ∷ a.0 ∷ []) text f a.1 in
        none.copy (same_head same) x y
        (subst (λ l. AreSpecs l x y) (sym (same_head (same_tail same))) a.2)
    refuse (Rename x y) a =
        let same = same_fields (word ∷ argument ∷ []) (codes "RENAME" ∷ a.0 ∷ []) text f a.1 in
        none.rename (same_head same) x y
        (subst (λ l. AreSpecs l x y) (sym (same_head (same_tail same))) a.2)
    refuse (Delete x) a =
        let same = same_fields (word ∷ argument ∷ []) (codes "DELETE" ∷ a.0 ∷ []) text f a.1 in
        none.delete (same_head same) x
        (subst (λ l. IsSpec l x) (sym (same_head (same_tail same))) a.2)
    refuse (TypeOut x) a =
        let same = same_fields (word ∷ argument ∷ []) (codes "TYPE" ∷ a.0 ∷ []) text f a.1 in
        none.typed (same_head same) x
        (subst (λ l. IsSpec l x) (sym (same_head (same_tail same))) a.2)
    refuse (Protect x n) a =
        let same = same_fields (word ∷ argument ∷ []) (codes "PROTECT" ∷ a.0 ∷ []) text f a.1 in
        none.protect (same_head same) x n
        (subst (λ l. IsProtected l x n) (sym (same_head (same_tail same))) a.2)
    refuse (MakeDir p n) a =
        let same = same_fields (word ∷ argument ∷ []) (codes "MAKDIR" ∷ a.0 ∷ []) text f a.1 in
        none.makdir (same_head same) p n
        (subst (λ l. IsNewDirectory l p n) (sym (same_head (same_tail same))) a.2)
    refuse (Quota p n) a = none_all
        (same_tail (same_tail (same_fields (word ∷ argument ∷ []) (codes "QUOTA" ∷ a.4.before ∷ a.4.behind ∷ []) text
        f (limit_fields text p n a))))

pub says_no_login : (text word argument : List ℕ) (said : Option Command) → said ≡ None
    → AreFields (word ∷ argument ∷ []) text → word ≡ codes "LOGIN" → ((p : ℕ) → IsBracketed argument p → ⊥)
    → Says text said
says_no_login text word argument said none f is bad = says_nothing text word argument said none f (record {
  login = λ e. bad;
  directory = λ e. absurd (other_word 76 68 _ _ word refl is e);
  makdir = λ e. absurd (other_word 76 77 _ _ word refl is e);
  copy = λ e. absurd (other_word 76 67 _ _ word refl is e);
  typed = λ e. absurd (other_word 76 84 _ _ word refl is e);
  rename = λ e. absurd (other_word 76 82 _ _ word refl is e);
  delete = λ e. absurd (other_word 76 68 _ _ word refl is e);
  protect = λ e. absurd (other_word 76 80 _ _ word refl is e);
})

pub says_no_directory : (text word argument : List ℕ) (said : Option Command) → said ≡ None
    → AreFields (word ∷ argument ∷ []) text → word ≡ codes "DIRECTORY" → ((p : ℕ) → IsBracketed argument p → ⊥)
    → Says text said
says_no_directory text word argument said none f is bad = says_nothing text word argument said none f (record {
  login = λ e. absurd (other_word 68 76 _ _ word refl is e);
  directory = λ e. bad;
  makdir = λ e. absurd (other_word 68 77 _ _ word refl is e);
  copy = λ e. absurd (other_word 68 67 _ _ word refl is e);
  typed = λ e. absurd (other_word 68 84 _ _ word refl is e);
  rename = λ e. absurd (other_word 68 82 _ _ word refl is e);
  delete = λ e. absurd (other_second 68 73 69 _ _ word refl is e);
  protect = λ e. absurd (other_word 68 80 _ _ word refl is e);
})

pub says_no_makdir : (text word argument : List ℕ) (said : Option Command) → said ≡ None
    → AreFields (word ∷ argument ∷ []) text → word ≡ codes "MAKDIR" → ((p n : ℕ) → IsNewDirectory argument p n → ⊥)
    → Says text said
says_no_makdir text word argument said none f is bad = says_nothing text word argument said none f (record {
  login = λ e. absurd (other_word 77 76 _ _ word refl is e);
  directory = λ e. absurd (other_word 77 68 _ _ word refl is e);
  makdir = λ e. bad;
  copy = λ e. absurd (other_word 77 67 _ _ word refl is e);
  typed = λ e. absurd (other_word 77 84 _ _ word refl is e);
  rename = λ e. absurd (other_word 77 82 _ _ word refl is e);
  delete = λ e. absurd (other_word 77 68 _ _ word refl is e);
  protect = λ e. absurd (other_word 77 80 _ _ word refl is e);
})

pub says_no_copy : (text word argument : List ℕ) (said : Option Command) → said ≡ None
    → AreFields (word ∷ argument ∷ []) text → word ≡ codes "COPY" → ((x y : Spec) → AreSpecs argument x y → ⊥)
    → Says text said
says_no_copy text word argument said none f is bad = says_nothing text word argument said none f (record {
  login = λ e. absurd (other_word 67 76 _ _ word refl is e);
  directory = λ e. absurd (other_word 67 68 _ _ word refl is e);
  makdir = λ e. absurd (other_word 67 77 _ _ word refl is e);
  copy = λ e. bad;
  typed = λ e. absurd (other_word 67 84 _ _ word refl is e);
  rename = λ e. absurd (other_word 67 82 _ _ word refl is e);
  delete = λ e. absurd (other_word 67 68 _ _ word refl is e);
  protect = λ e. absurd (other_word 67 80 _ _ word refl is e);
})

pub says_no_type : (text word argument : List ℕ) (said : Option Command) → said ≡ None
    → AreFields (word ∷ argument ∷ []) text → word ≡ codes "TYPE" → ((x : Spec) → IsSpec argument x → ⊥)
    → Says text said
says_no_type text word argument said none f is bad = says_nothing text word argument said none f (record {
  login = λ e. absurd (other_word 84 76 _ _ word refl is e);
  directory = λ e. absurd (other_word 84 68 _ _ word refl is e);
  makdir = λ e. absurd (other_word 84 77 _ _ word refl is e);
  copy = λ e. absurd (other_word 84 67 _ _ word refl is e);
  typed = λ e. bad;
  rename = λ e. absurd (other_word 84 82 _ _ word refl is e);
  delete = λ e. absurd (other_word 84 68 _ _ word refl is e);
  protect = λ e. absurd (other_word 84 80 _ _ word refl is e);
})

pub says_no_rename : (text word argument : List ℕ) (said : Option Command) → said ≡ None
    → AreFields (word ∷ argument ∷ []) text → word ≡ codes "RENAME" → ((x y : Spec) → AreSpecs argument x y → ⊥)
    → Says text said
says_no_rename text word argument said none f is bad = says_nothing text word argument said none f (record {
  login = λ e. absurd (other_word 82 76 _ _ word refl is e);
  directory = λ e. absurd (other_word 82 68 _ _ word refl is e);
  makdir = λ e. absurd (other_word 82 77 _ _ word refl is e);
  copy = λ e. absurd (other_word 82 67 _ _ word refl is e);
  typed = λ e. absurd (other_word 82 84 _ _ word refl is e);
  rename = λ e. bad;
  delete = λ e. absurd (other_word 82 68 _ _ word refl is e);
  protect = λ e. absurd (other_word 82 80 _ _ word refl is e);
})

pub says_no_delete : (text word argument : List ℕ) (said : Option Command) → said ≡ None
    → AreFields (word ∷ argument ∷ []) text → word ≡ codes "DELETE" → ((x : Spec) → IsSpec argument x → ⊥)
    → Says text said
says_no_delete text word argument said none f is bad = says_nothing text word argument said none f (record {
  login = λ e. absurd (other_word 68 76 _ _ word refl is e);
  directory = λ e. absurd (other_second 68 69 73 _ _ word refl is e);
  makdir = λ e. absurd (other_word 68 77 _ _ word refl is e);
  copy = λ e. absurd (other_word 68 67 _ _ word refl is e);
  typed = λ e. absurd (other_word 68 84 _ _ word refl is e);
  rename = λ e. absurd (other_word 68 82 _ _ word refl is e);
  delete = λ e. bad;
  protect = λ e. absurd (other_word 68 80 _ _ word refl is e);
})

pub says_no_protect : (text word argument : List ℕ) (said : Option Command) → said ≡ None
    → AreFields (word ∷ argument ∷ []) text → word ≡ codes "PROTECT"
    → ((x : Spec) (n : ℕ) → IsProtected argument x n → ⊥)
    → Says text said
says_no_protect text word argument said none f is bad = says_nothing text word argument said none f (record {
  login = λ e. absurd (other_word 80 76 _ _ word refl is e);
  directory = λ e. absurd (other_word 80 68 _ _ word refl is e);
  makdir = λ e. absurd (other_word 80 77 _ _ word refl is e);
  copy = λ e. absurd (other_word 80 67 _ _ word refl is e);
  typed = λ e. absurd (other_word 80 84 _ _ word refl is e);
  rename = λ e. absurd (other_word 80 82 _ _ word refl is e);
  delete = λ e. absurd (other_word 80 68 _ _ word refl is e);
  protect = λ e. bad;
})

pub says_no_word : (text word argument : List ℕ) (said : Option Command) → said ≡ None
    → AreFields (word ∷ argument ∷ []) text → word ≢ codes "LOGIN" → word ≢ codes "DIRECTORY" → word ≢ codes "MAKDIR"
    → word ≢ codes "COPY" → word ≢ codes "TYPE" → word ≢ codes "RENAME" → word ≢ codes "DELETE"
    → word ≢ codes "PROTECT" → Says text said
says_no_word text word argument said none f login directory makdir copy typed rename delete protect =
    says_nothing text word argument said none f (record {
      login = λ e. absurd (login e);
      directory = λ e. absurd (directory e);
      makdir = λ e. absurd (makdir e);
      copy = λ e. absurd (copy e);
      typed = λ e. absurd (typed e);
      rename = λ e. absurd (rename e);
      delete = λ e. absurd (delete e);
      protect = λ e. absurd (protect e);
    })

-- The numbers of a parsed line are within their limits.

says_fits : (text : List ℕ) (said : Option Command) → Says text said → Fits said
says_fits text None m = tt
says_fits text (Some (Login p)) m = tt
says_fits text (Some (Directory o)) m = tt
says_fits text (Some (Copy x y)) m = tt
says_fits text (Some (Rename x y)) m = tt
says_fits text (Some (Delete x)) m = tt
says_fits text (Some (TypeOut x)) m = tt
says_fits text (Some (Protect x n)) m = number_fits m.2.right.digits n m.2.right.number
says_fits text (Some (MakeDir p n)) m = protection_fits m.2.behind n m.2.right
says_fits text (Some (Quota p n)) m = m.4.right.small

means_fits : (line : Line) (said : Option Command) → Means line said → Fits said
means_fits (Bytes text) said m = says_fits text said m
means_fits TooLong said m = subst Fits (sym m) tt

pub parsed_fits : (language : Language) (moment : Moment) (lines : List Line) (parsed : ParsedLine)
    → IsParsedLine language moment lines parsed → FitsIn parsed
parsed_fits language moment [] parsed h = subst FitsIn (sym h) tt
parsed_fits language moment (line ∷ lines) NoLine h = absurd h
parsed_fits language moment (line ∷ lines) (CommandLine meant) h = means_fits line meant h.1
parsed_fits language moment (line ∷ lines) (EventLine order) h = tt

pub said_fits : (parsed : ParsedLine) (meant : Option Command) → parsed ≡ CommandLine meant → FitsIn parsed → Fits meant
said_fits parsed meant e fits = subst FitsIn e fits
