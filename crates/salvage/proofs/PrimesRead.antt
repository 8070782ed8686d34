-- A block that is read as a prime block: its file is added, or what is wrong with it is reported.
use Rattle.std.proofs.Common.{◌≡◌, inl, inr, ℕ, ◌<◌, ◌^◌, List, [], ◌∷◌, ◌++◌, Result, Some, OnOk, refl, sym, ap}
use Rattle.std.proofs.Common.{subst, ◌∙◌, arith}
use Rattle.words36.specs.Common.{IsPpn}
use Rattle.blockdisk.specs.Common.{Contents}
use Rattle.spec_image.specs.Common.{InSpace, IsPrime, Place, place_of, SpecPrime, SpecRun}
use Rattle.spec_image.specs.Common.{prime_block, first_extension}
use Rattle.spec_image.proofs.Common.{some_same, prime_ext_same, prime_same}
use Rattle.retrieval.specs.Common.{with_length, SpellsPrime}
use Rattle.retrieval.specs.declared.prime.Prime.{Prime as PrimeValue}
use Rattle.volume.specs.Common.{IsOtherPlace}
use Rattle.volume.proofs.common.MarkedBlocks.{on_ok}
use Rattle.salvage.specs.Common.{ConcernsUnnamed, IsLostBy, IsPrimeAt, IsRead, IsReadAt, IsReported, place_in}
use Rattle.salvage.specs.declared.error.SalvageError.{SalvageError}
use Rattle.salvage.specs.declared.saved.SavedFile.{SavedFile}
use Rattle.salvage.specs.declared.finding.Cost.{Cost}
use Rattle.salvage.specs.declared.finding.Defect.{Defect}
use Rattle.salvage.specs.declared.finding.Finding.{Finding}
use Rattle.salvage.specs.declared.finding.Cost.TheVariants as cost
use Rattle.salvage.proofs.Members.{contains_here, nothing_behind}

-- A block names one place.

block_place : (layout : ℕ) (p q : SpecPrime) (runs others : List SpecRun) (next after : ℕ) → IsPrime layout p
    → IsPrime layout q → p.place.name.ext < 2 ^ 18 → q.place.name.ext < 2 ^ 18
    → prime_block p runs next ≡ prime_block q others after → p.place ≡ q.place
block_place layout p q runs others next after f g small small' words =
    let exts = prime_ext_same layout p q runs others next after f g small small' words in
    ap (λ (x : SpecPrime). x.place) (prime_same layout p q runs others next after f g exts words)

pub place_said : (layout : ℕ) (contents : Contents) (n : ℕ) (place : Place) (words : List ℕ) (p : SpecPrime)
    (runs : List SpecRun) (next : ℕ) → contents n ≡ Some words → SpellsPrime layout words p runs next
    → IsPrimeAt layout contents n place → p.place ≡ place
place_said layout contents n place words p runs next here spells is =
    let same : words ≡ is.words = some_same (sym here ∙ is.words_are) in
    block_place layout p is.p runs is.runs next is.next spells.fits is.spells.fits spells.ext_fits is.spells.ext_fits
    (sym spells.words_are ∙ same ∙ is.spells.words_are) ∙ is.place_is

file_place : (size layout : ℕ) (contents : Contents) (file : SavedFile) (place : Place)
    → IsRead size layout contents file → IsPrimeAt layout contents file.at place → place_in file ≡ place
file_place size layout contents file place read is =
    let p : SpecPrime = with_length file.stored.prime file.stored.version.words in
    let a = read.retrieved in
    let small = read.ext_fits in
    let same : prime_block p a.runs (first_extension a.further) ≡ is.words
    = some_same (sym a.prime_is ∙ is.words_are) in
    block_place layout p is.p a.runs is.runs (first_extension a.further) is.next a.fits is.spells.fits (omega arith)
    is.spells.ext_fits (same ∙ is.spells.words_are) ∙ is.place_is

-- Words that aren't those of a prime block are those of no prime block of this place.
pub unspelled : (layout : ℕ) (contents : Contents) (n : ℕ) (place : Place) (words : List ℕ) → contents n ≡ Some words
    → IsPpn place.ppn → place.name.ext < 2 ^ 18
    → ((p : SpecPrime) (runs : List SpecRun) (next : ℕ) → SpellsPrime layout words p runs next → ⊥)
    → IsOtherPlace layout contents place n
unspelled layout contents n place words here ppn_fits ext_fits none p runs next is same fits few are =
    none p runs next (record {
      words_are = some_same (sym here ∙ is);
      ppn_fits = subst (λ (q : Place). IsPpn q.ppn) (sym same) ppn_fits;
      ext_fits = subst (λ (q : Place). q.name.ext < 2 ^ 18) (sym same) ext_fits;
      fits = fits;
      few = few;
      are_runs = are;
    })

-- What is reported of it.

pub none_reported : (size layout : ℕ) (contents : Contents) (n : ℕ) (words : List ℕ) (old : List Finding)
    → contents n ≡ Some words
    → ((p : SpecPrime) (runs : List SpecRun) (next : ℕ) → SpellsPrime layout words p runs next → ⊥)
    → IsReported size layout contents n old old
none_reported size layout contents n words old here none = record {
  added = [];
  new_is = nothing_behind old;
  stand = tt;
  each = λ ppn name is. absurd (none is.p is.runs is.next
      (subst (λ (l : List ℕ). SpellsPrime layout l is.p is.runs is.next) (some_same (sym is.words_are ∙ here))
      is.spells));
}

pub one_reported : (size layout : ℕ) (contents : Contents) (n : ℕ) (fault : Defect) (words : List ℕ)
    (prime : PrimeValue) (long : ℕ) (runs : List SpecRun) (next : ℕ) (old new : List Finding) → InSpace size n
    → ConcernsUnnamed size layout contents n fault → contents n ≡ Some words
    → SpellsPrime layout words (with_length prime long) runs next
    → new ≡ old ++ record { fault = fault; costs = cost.Unnamed prime.ppn prime.file n } ∷ []
    → IsReported size layout contents n old new
one_reported size layout contents n fault words prime long runs next old new inside concerns here spells is = record {
  added = finding ∷ [];
  new_is = is;
  stand = (
    record {
      inside = inside;
      says = record {
        words = words;
        words_are = here;
        p = with_length prime long;
        runs = runs;
        next = next;
        spells = spells;
        place_is = refl;
      };
      concerns = concerns;
    },
    tt,
  );
  each = λ ppn name says.
      let same : place_of prime.ppn prime.file ≡ place_of ppn name = place_said layout contents n (place_of ppn name)
      words (with_length prime long) runs next here spells says in
      subst (λ (costs : Cost). IsLostBy (finding ∷ []) costs)
      (ap (λ (place : Place). cost.Unnamed place.ppn place.name n) same)
      (record { fault = fault; among = contains_here finding [] });
}
  where
    finding : Finding
    finding = record { fault = fault; costs = cost.Unnamed prime.ppn prime.file n }

-- Its file was added.
pub file_here : (size layout : ℕ) (contents : Contents) (n : ℕ) (files new : List SavedFile)
    (findings : List Finding) (file : SavedFile) → new ≡ files ++ file ∷ [] → file.at ≡ n
    → IsRead size layout contents file → IsReadAt size layout contents n files new findings findings
file_here size layout contents n files new findings file is at read = record {
  found = file ∷ [];
  new_is = is;
  added = [];
  told_is = nothing_behind findings;
  read = (read, tt);
  apart = λ m. grind arith;
  here = (at, tt);
  stand = tt;
  all = λ ppn name says. inl (record {
    file = file;
    among = contains_here file [];
    at_is = at;
    place_is = file_place size layout contents file (place_of ppn name) read
        (subst (λ (k : ℕ). IsPrimeAt layout contents k (place_of ppn name)) (sym at) says);
  });
}

-- Or what is wrong with it was reported.

told_here : (size layout : ℕ) (contents : Contents) (n : ℕ) (files : List SavedFile) (findings told : List Finding)
    → IsReported size layout contents n findings told
    → IsReadAt size layout contents n files files findings told
told_here size layout contents n files findings told is = record {
  found = [];
  new_is = nothing_behind files;
  added = is.added;
  told_is = is.new_is;
  read = tt;
  apart = λ m. omega arith;
  here = tt;
  stand = is.stand;
  all = λ ppn name says. inr (is.each ppn name says);
}

-- The same along a disk that was only read.
pub told_along : (size size' layout : ℕ) (contents contents' : Contents) (n : ℕ) (fault : Defect)
    (files : List SavedFile) (findings told : List Finding) (result : Result (Unit {0}) SalvageError) → size' ≡ size
    → contents' ≡ contents
    → (ConcernsUnnamed size' layout contents' n fault → OnOk result (IsReported size' layout contents' n findings told))
    → ConcernsUnnamed size layout contents n fault
    → OnOk result (IsReadAt size layout contents n files files findings told)
told_along size size' layout contents contents' n fault files findings told result same same' step concerns =
    on_ok result (IsReported size layout contents n findings told)
    (IsReadAt size layout contents n files files findings told)
    (told_here size layout contents n files findings told)
    (subst (λ (d : Contents). ConcernsUnnamed size layout d n fault
    → OnOk result (IsReported size layout d n findings told))
    same' (subst (λ (z : ℕ). ConcernsUnnamed z layout contents' n fault
    → OnOk result (IsReported z layout contents' n findings told)) same step) concerns)
