-- Names by their parts.
use Rattle.std.proofs.Common.{◌≡◌, ◌<◌, ◌≤◌, ◌-◌, ◌++◌, ap, drop, nat_eq, arith, ℕ, zero, suc, Bool, true, false}
use Rattle.std.proofs.Common.{List, [], ◌∷◌, length, map, flat_map, refl, sym, Option, Some, None, Result, Ok, Err}
use Rattle.std.proofs.Common.{IfOk, IfNone, inl, inr, ◌∙◌, subst}
use Rattle.std.proofs.lemmas.List.{append-nil, append_assoc, drop_all}
use Rattle.words36.specs.declared.names.FileName.{FileName}
use Rattle.spec_language.specs.Common.{upper, is_letter}
use Rattle.commands.specs.Common.{IsFileName}
use Rattle.collection.specs.Common.{IsNameFor, IsOwnText, IsShortText, dotted, escaped, extended, plain}
use Rattle.directory.proofs.FoundEntries.{true_false}

-- a letter or a digit for which there is room
pub plain_taken : (room b : ℕ) (bytes : List ℕ) → 0 < room → is_letter (upper b) ≡ true
    → plain room (b ∷ bytes) ≡ upper b ∷ plain (room - 1) bytes
plain_taken zero b bytes more letter = absurd (omega (arith, more))
plain_taken (suc room) b bytes more letter =
    rw letter (ap (λ (n : ℕ). upper b ∷ plain n bytes) (omega arith))

-- any other byte, and one for which there is no room
pub plain_left : (room b : ℕ) (bytes : List ℕ) → is_letter (upper b) ≡ false
    → plain room (b ∷ bytes) ≡ plain room bytes
plain_left zero b bytes other = refl
plain_left (suc room) b bytes other = rw other refl

pub plain_none : (room : ℕ) → plain room [] ≡ []
plain_none zero = refl
plain_none (suc room) = refl

pub dotted_some : (cs : List ℕ) → 0 < length cs → dotted cs ≡ 46 ∷ cs
dotted_some [] more = absurd (omega (arith, more))
dotted_some (c ∷ cs) more = refl

pub extended_some : (cs : List ℕ) → 0 < length cs → extended cs ≡ 46 ∷ flat_map escaped cs
extended_some [] more = absurd (omega (arith, more))
extended_some (c ∷ cs) more = refl

-- there is one text at most
pub one_text : (text : Option (List ℕ)) (a b : List ℕ) → Some a ≡ text → Some b ≡ text → a ≡ b
one_text text a b p q = search

pub none_then : {T A B : Type 0} (found : Option T) → (A → B) → IfNone found A → IfNone found B
none_then None f p = f p
none_then (Some x) f p = tt

pub ok_none_then : {T E A B : Type 0} (result : Result (Option T) E) → (A → B) → IfOk result (λ found. IfNone found A)
    → IfOk result (λ found. IfNone found B)
ok_none_then (Ok None) f p = f p
ok_none_then (Ok (Some x)) f p = tt
ok_none_then (Err error) f p = tt

-- There is no name if neither the own one is a name nor, if that is allowed, the shorter one.
pub no_name : (shortens : Bool) (path : List ℕ)
    → ((text : List ℕ) (file : FileName) → IsOwnText path (Some text) → IsFileName (map upper text) file.name file.ext
    → ⊥)
    → (shortens ≡ true → (text : List ℕ) (file : FileName) → IsShortText path (Some text)
    → IsFileName (map upper text) file.name file.ext → ⊥)
    → (text : List ℕ) (file : FileName) → IsNameFor shortens path text file → ⊥
no_name shortens path own short text file (named, inl is) = own text file is named
no_name shortens path own short text file (named, inr (wanted, is, other)) = short wanted text file is named

-- a byte that was appended, in upper case
pub pushed_plain : (old new : List ℕ) (room b c : ℕ) (bytes : List ℕ) → new ≡ old ++ c ∷ [] → c ≡ upper b
    → nat_eq room 0 ≡ false → is_letter c ≡ true → new ++ plain (room - 1) bytes ≡ old ++ plain room (b ∷ bytes)
pushed_plain old new zero b c bytes pushed is room letter = absurd (true_false room)
pushed_plain old new (suc room) b c bytes pushed is some letter =
    ap (λ l. l ++ plain (suc room - 1) bytes) pushed ∙ append_assoc old (c ∷ []) (plain (suc room - 1) bytes)
    ∙ ap (λ l. old ++ l) (ap (λ d. d ∷ plain (suc room - 1) bytes) is
    ∙ sym (plain_taken (suc room) b bytes (omega arith) (subst (λ d. is_letter d ≡ true) is letter)))

-- nothing is left
pub ended_plain : (done goal part : List ℕ) (room n : ℕ) → length part ≤ n → done ++ plain room (drop n part) ≡ goal
    → done ≡ goal
ended_plain done goal part room n all p =
    sym (append-nil done) ∙ ap (λ l. done ++ l) (sym (plain_none room))
    ∙ ap (λ l. done ++ plain room l) (sym (drop_all n part all))
    ∙ p
