-- Lists of files that were saved, and of findings.
use Rattle.std.proofs.Common.{◌≡◌, ⊎_elim, ℕ, ◌+◌, ◌≤◌, ◌==◌, Bool, true, false, cond, List, [], ◌∷◌}
use Rattle.std.proofs.Common.{◌++◌, map, refl, sym, ap, subst, ◌∙◌, arith, append_assoc}
use Rattle.std.proofs.lemmas.Bool.{cases_eq}
use Rattle.std.proofs.lemmas.List.{map-append}
use Rattle.std.proofs.lemmas.List.Elements.{Contains-append_left, Contains-push}
use Rattle.std.specs.List.{AllByRecursion}
use Rattle.blockdisk.specs.Common.{Contents}
use Rattle.spec_image.specs.Common.{Place, times, SpecPrime, prime_block, first_extension}
use Rattle.spec_image.proofs.Common.{all_append, some_same, times-append, times_other, prime_ext_same, prime_same}
use Rattle.retrieval.specs.Common.{with_length, IsVersionAt}
use Rattle.words36.specs.declared.names.FileName.{FileName}
use Rattle.salvage.specs.Common.{AreAdded, AreApart, IsAmong, IsFinding, IsRead, place_in, IsLostBy, IsUnread}
use Rattle.salvage.specs.Common.{IsUnreadable}
use Rattle.salvage.specs.declared.saved.SavedFile.{SavedFile}
use Rattle.salvage.specs.declared.finding.Cost.{Cost}
use Rattle.salvage.specs.declared.finding.Defect.{Defect}
use Rattle.salvage.specs.declared.finding.Finding.{Finding}
use Rattle.salvage.specs.declared.finding.Cost.TheVariants as cost

-- What is at a prime block says of which place it is.
pub same_place : (size layout : ℕ) (contents : Contents) (f g : SavedFile) → IsRead size layout contents f
    → IsRead size layout contents g → f.at ≡ g.at → place_in f ≡ place_in g
same_place size layout contents f g read other at =
    let p : SpecPrime = with_length f.stored.prime f.stored.version.words in
    let q : SpecPrime = with_length g.stored.prime g.stored.version.words in
    let a = read.retrieved in
    let moved : IsVersionAt size contents layout f.at g.stored.prime g.stored.version = subst
    (λ (n : ℕ). IsVersionAt size contents layout n g.stored.prime g.stored.version) (sym at) other in
    let b = moved.retrieved in
    let words : prime_block p a.runs (first_extension a.further) ≡ prime_block q b.runs (first_extension b.further) =
    some_same (sym a.prime_is ∙ b.prime_is) in
    let small = read.ext_fits in
    let small' = other.ext_fits in
    let exts = prime_ext_same layout p q a.runs b.runs (first_extension a.further) (first_extension b.further)
    a.fits b.fits (omega arith) (omega arith) words in
    ap (λ (x : SpecPrime). x.place) (prime_same layout p q a.runs b.runs (first_extension a.further)
    (first_extension b.further) a.fits b.fits exts words)

-- Files at different blocks.

abbrev pub blocks_at : List SavedFile → List ℕ
blocks_at files = map (λ (file : SavedFile). file.at) files

none_at : (n : ℕ) (files : List SavedFile) → AllByRecursion (λ (g : SavedFile). g.at ≡ n → ⊥) files
    → times n (blocks_at files) ≡ 0
none_at n [] all = refl
none_at n (g ∷ files) all = times_other n g.at (blocks_at files) (λ same. all.0 (sym same)) ∙ none_at n files all.1

one_at : (n k : ℕ) → times n (k ∷ []) ≤ 1
one_at n k = by (n == k)
  where
    by : (b : Bool) → cond b 1 0 + 0 ≤ 1
    by true = omega arith
    by false = omega arith

pub apart_push : (files : List SavedFile) (f : SavedFile) → AreApart files
    → AllByRecursion (λ (g : SavedFile). g.at ≡ f.at → ⊥) files → AreApart (files ++ f ∷ [])
apart_push files f apart others n =
    let split : times n (blocks_at (files ++ f ∷ [])) ≡ times n (blocks_at files) + times n (f.at ∷ []) =
    ap (times n) (map-append (λ (g : SavedFile). g.at) files (f ∷ [])) ∙ times-append n (blocks_at files) (f.at ∷ []) in
    let one = one_at n f.at in
    let few = apart n in
    ⊎_elim
    (λ (here : n ≡ f.at). let none : times n (blocks_at files) ≡ 0 = subst (λ (k : ℕ). times k (blocks_at files) ≡ 0)
    (sym here) (none_at f.at files others) in omega arith)
    (λ away. let none = times_other n f.at [] away in omega arith)
    (cases_eq n f.at)

-- What was saved and what was reported, with more after it.

-- each file among the old ones is among the new ones, and what the old findings cost the new ones do
pub record Grows (files : List SavedFile) (findings : List Finding) (files' : List SavedFile)
    (findings' : List Finding) : Type 0 where
  pub among : (place : Place) (prime : ℕ) → IsAmong files place prime → IsAmong files' place prime
  pub lost : (costs : Cost) → IsLostBy findings costs → IsLostBy findings' costs
  pub unread : (ppn : ℕ) (name : FileName) → IsUnread findings ppn name → IsUnread findings' ppn name

pub one_file_more : (files : List SavedFile) (findings : List Finding) (f : SavedFile)
    → Grows files findings (files ++ f ∷ []) findings
one_file_more files findings f = record {
  among = λ place prime is. record {
    file = is.file;
    among = Contains-append_left files (f ∷ []) is.file is.among;
    at_is = is.at_is;
    place_is = is.place_is;
  };
  lost = λ costs is. is;
  unread = λ ppn name is. is;
}

pub lost_more : (findings more : List Finding) (costs : Cost) → IsLostBy findings costs
    → IsLostBy (findings ++ more) costs
lost_more findings more costs is = record {
  fault = is.fault;
  among = Contains-append_left findings more (record { fault = is.fault; costs = costs }) is.among;
}

pub unread_more : (findings more : List Finding) (ppn : ℕ) (name : FileName) → IsUnread findings ppn name
    → IsUnread (findings ++ more) ppn name
unread_more findings more ppn name is = record {
  fault = is.fault;
  among = Contains-append_left findings more (record { fault = is.fault; costs = cost.File ppn name }) is.among;
  is = is.is;
}

pub one_finding_more : (files : List SavedFile) (findings : List Finding) (finding : Finding)
    → Grows files findings files (findings ++ finding ∷ [])
one_finding_more files findings finding = record {
  among = λ place prime is. is;
  lost = λ costs is. lost_more findings (finding ∷ []) costs is;
  unread = λ ppn name is. unread_more findings (finding ∷ []) ppn name is;
}

pub lost_here : (findings : List Finding) (fault : Defect) (costs : Cost)
    → IsLostBy (findings ++ record { fault = fault; costs = costs } ∷ []) costs
lost_here findings fault costs = record {
  fault = fault;
  among = Contains-push findings (record { fault = fault; costs = costs });
}

pub unread_here : (findings : List Finding) (fault : Defect) (ppn : ℕ) (name : FileName) → IsUnreadable fault
    → IsUnread (findings ++ record { fault = fault; costs = cost.File ppn name } ∷ []) ppn name
unread_here findings fault ppn name is = record {
  fault = fault;
  among = Contains-push findings (record { fault = fault; costs = cost.File ppn name });
  is = is;
}

-- Findings that were added in two steps.
pub added_then : (size layout : ℕ) (contents : Contents) (old now new : List Finding)
    → AreAdded size layout contents old now → AreAdded size layout contents now new
    → AreAdded size layout contents old new
added_then size layout contents old now new first second = record {
  added = first.added ++ second.added;
  new_is = second.new_is ∙ ap (λ (l : List Finding). l ++ second.added) first.new_is
      ∙ append_assoc old first.added second.added;
  stand = all_append (IsFinding size layout contents) first.added second.added first.stand second.stand;
}
