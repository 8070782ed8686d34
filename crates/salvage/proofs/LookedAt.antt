-- Blocks that are checked one after the other, and what is there.
use Rattle.std.proofs.Common.{◌≡◌, ◌⊎◌, inl, inr, ⊎_elim, ℕ, ◌+◌, ◌<◌, Bool, List, [], ◌∷◌, ◌++◌, map, slice_index}
use Rattle.std.proofs.Common.{refl, sym, ap, subst, ◌∙◌, arith, Result, Ok, Err, IfOk}
use Rattle.std.specs.List.{AllByRecursion}
use Rattle.std.proofs.lemmas.Bool.{cases_eq}
use Rattle.std.proofs.lemmas.List.{append_assoc}
use Rattle.words36.specs.declared.names.FileName.{FileName}
use Rattle.blockdisk.specs.Common.{Contents}
use Rattle.spec_image.specs.Common.{InSpace, Place, place_of, space_start, times}
use Rattle.spec_image.proofs.Common.{times-append, all_append}
use Rattle.changeset.specs.Common.{times_tail}
use Rattle.directory.proofs.GatheredEntries.{all_of}
use Rattle.salvage.specs.Common.{AreAdded, AreAlone, AreApart, AreFound, AreFree, CountTo, IsAmong, IsFinding, IsLostBy}
use Rattle.salvage.specs.Common.{IsPrimeAt, IsRead, IsReadAt, IsScanned, IsSearched, IsWanted, claims}
use Rattle.salvage.specs.declared.saved.SavedFile.{SavedFile}
use Rattle.salvage.specs.declared.search.Search.{Search}
use Rattle.salvage.specs.declared.search.Search.TheVariants.{Named, Used, Every}
use Rattle.salvage.specs.declared.finding.Cost.{Cost}
use Rattle.salvage.specs.declared.finding.Finding.{Finding}
use Rattle.salvage.specs.declared.finding.Cost.TheVariants as cost
use Rattle.salvage.proofs.Members.{contains_left, contains_right, map_behind, nothing_behind}

-- By the marks of the free blocks those are checked that are to be searched.

pub wanted : (search : Search) (size : ℕ) (contents : Contents) (free : List Bool) (n : ℕ) → n < size
    → AreFree size contents free → IsSearched search size contents n → IsWanted search free n
wanted Named size contents free n below are searched = searched
wanted Used size contents free n below are searched = λ marked. searched ((are n below).0 marked)
wanted Every size contents free n below are searched = tt

pub searched_by : (search : Search) (size : ℕ) (contents : Contents) (free : List Bool) (n : ℕ) → n < size
    → AreFree size contents free → IsWanted search free n → IsSearched search size contents n
searched_by Named size contents free n below are is = is
searched_by Used size contents free n below are is = λ says. is ((are n below).1 says)
searched_by Every size contents free n below are is = tt

-- Files and findings with more behind or before them.

among_before : (files more : List SavedFile) (place : Place) (prime : ℕ) → IsAmong files place prime
    → IsAmong (files ++ more) place prime
among_before files more place prime is = record {
  file = is.file;
  among = contains_left is.file files more is.among;
  at_is = is.at_is;
  place_is = is.place_is;
}

among_behind : (files more : List SavedFile) (place : Place) (prime : ℕ) → IsAmong more place prime
    → IsAmong (files ++ more) place prime
among_behind files more place prime is = record {
  file = is.file;
  among = contains_right is.file files more is.among;
  at_is = is.at_is;
  place_is = is.place_is;
}

lost_before : (findings more : List Finding) (costs : Cost) → IsLostBy findings costs
    → IsLostBy (findings ++ more) costs
lost_before findings more costs is = record {
  fault = is.fault;
  among = contains_left (record { fault = is.fault; costs = costs }) findings more is.among;
}

lost_behind : (findings more : List Finding) (costs : Cost) → IsLostBy more costs
    → IsLostBy (findings ++ more) costs
lost_behind findings more costs is = record {
  fault = is.fault;
  among = contains_right (record { fault = is.fault; costs = costs }) findings more is.among;
}

either : {A B C D : Type 0} → (A → C) → (B → D) → A ⊎ B → C ⊎ D
either f g (inl a) = inl (f a)
either f g (inr b) = inr (g b)

-- Before the first block nothing was found.
pub none_found : (size layout : ℕ) (contents : Contents) (search : Search) (counts : List ℕ) (findings : List Finding)
    (n : ℕ) → n ≡ space_start size → AreFound size layout contents search counts [] findings findings n
none_found size layout contents search counts findings n start = record {
  read = tt;
  apart = λ m. omega arith;
  earlier = tt;
  at = tt;
  added = [];
  told_is = nothing_behind findings;
  stand = tt;
  all = λ prime ppn name inside before searched uncounted says. absurd (let from = inside.from in omega arith);
}

-- After the blocks before it.

none_at : (m : ℕ) (files : List SavedFile) → AllByRecursion (λ file. file.at ≡ m → ⊥) files
    → times m (map (λ file. file.at) files) ≡ 0
none_at m [] others = refl
none_at m (x ∷ xs) others =
    let rest = none_at m xs others.1 in
    let here = times_tail m x.at (map (λ (file : SavedFile). file.at) xs) (λ same. others.0 (sym same)) in
    here ∙ rest

module _ (size layout : ℕ) (contents : Contents) (search : Search) (counts : List ℕ) (files : List SavedFile)
    (findings told : List Finding) (n : ℕ)
    (found : AreFound size layout contents search counts files findings told n) where
  earlier_more : AllByRecursion (λ file. file.at < n + 1) files
  earlier_more = all_of (λ file. file.at < n) (λ file. file.at < n + 1) files (λ file less. omega arith)
      found.earlier

  found_passed : (IsSearched search size contents n → slice_index counts n ≡ 0 → ⊥)
      → AreFound size layout contents search counts files findings told (n + 1)
  found_passed not = record {
    read = found.read;
    apart = found.apart;
    earlier = earlier_more;
    at = found.at;
    added = found.added;
    told_is = found.told_is;
    stand = found.stand;
    all = λ prime ppn name inside before searched uncounted says. ⊎_elim
        (λ same. absurd (not (subst (λ (k : ℕ). IsSearched search size contents k) same searched)
        (subst (λ (k : ℕ). slice_index counts k ≡ 0) same uncounted)))
        (λ other. found.all prime ppn name inside (omega arith) searched uncounted says) (cases_eq prime n);
  }

  pub passed_by : (free : List Bool) → n < size → AreFree size contents free
      → ((slice_index counts n ≡ 0) × IsWanted search free n → ⊥)
      → AreFound size layout contents search counts files findings told (n + 1)
  passed_by free below are not = found_passed (λ searched uncounted.
      not (uncounted, wanted search size contents free n below are searched))

  pub found_more : (new : List SavedFile) (after : List Finding) → InSpace size n
      → IsSearched search size contents n → slice_index counts n ≡ 0
      → IsReadAt size layout contents n files new told after
      → AreFound size layout contents search counts new findings after (n + 1)
  found_more new after inside searched uncounted at =
      subst (λ (l : List SavedFile). AreFound size layout contents search counts l findings after (n + 1))
      (sym at.new_is) (record {
        read = all_append (IsRead size layout contents) files at.found found.read at.read;
        apart = apart;
        earlier = all_append (λ file. file.at < n + 1) files at.found earlier_more
            (all_of (λ file. file.at ≡ n) (λ file. file.at < n + 1) at.found (λ file is. omega arith) at.here);
        at = all_append (λ file. InSpace size file.at × IsSearched search size contents file.at
            × (slice_index counts file.at ≡ 0)) files at.found found.at
            (all_of (λ file. file.at ≡ n) (λ file. InSpace size file.at × IsSearched search size contents file.at
            × (slice_index counts file.at ≡ 0)) at.found (λ file is. moved file.at is) at.here);
        added = found.added ++ at.added;
        told_is = at.told_is ∙ ap (λ (l : List Finding). l ++ at.added) found.told_is
            ∙ append_assoc findings found.added at.added;
        stand = all_append (IsFinding size layout contents) found.added at.added found.stand at.stand;
        all = all;
      })
    where
      moved : (k : ℕ) → k ≡ n
          → InSpace size k × IsSearched search size contents k × (slice_index counts k ≡ 0)
      moved k is = subst (λ (m : ℕ). InSpace size m × IsSearched search size contents m × (slice_index counts m ≡ 0))
          (sym is) (inside, searched, uncounted)

      apart : AreApart (files ++ at.found)
      apart m =
          let sum : times m (map (λ (file : SavedFile). file.at) (files ++ at.found))
          ≡ times m (map (λ (file : SavedFile). file.at) files)
          + times m (map (λ (file : SavedFile). file.at) at.found)
          = ap (times m) (map_behind files at.found)
          ∙ times-append m (map (λ (file : SavedFile). file.at) files)
          (map (λ (file : SavedFile). file.at) at.found) in
          ⊎_elim
          (λ same. let none = none_at m files (all_of (λ file. file.at < n) (λ file. file.at ≡ m → ⊥) files
          (λ file less is. omega arith) found.earlier) in let one = at.apart m in omega arith)
          (λ other. let none = none_at m at.found (all_of (λ file. file.at ≡ n) (λ file. file.at ≡ m → ⊥)
          at.found (λ file here is. other (sym is ∙ here)) at.here) in let one = found.apart m in omega arith)
          (cases_eq m n)

      here : (ppn : ℕ) (name : FileName) → IsPrimeAt layout contents n (place_of ppn name)
          → IsAmong (files ++ at.found) (place_of ppn name) n
          ⊎ IsLostBy (found.added ++ at.added) (cost.Unnamed ppn name n)
      here ppn name says = either (among_behind files at.found (place_of ppn name) n)
          (lost_behind found.added at.added (cost.Unnamed ppn name n)) (at.all ppn name says)

      all : (prime ppn : ℕ) (name : FileName) → InSpace size prime → prime < n + 1
          → IsSearched search size contents prime → slice_index counts prime ≡ 0
          → IsPrimeAt layout contents prime (place_of ppn name)
          → IsAmong (files ++ at.found) (place_of ppn name) prime
          ⊎ IsLostBy (found.added ++ at.added) (cost.Unnamed ppn name prime)
      all prime ppn name within before is none says = ⊎_elim
          (λ same. subst (λ (k : ℕ). IsAmong (files ++ at.found) (place_of ppn name) k
          ⊎ IsLostBy (found.added ++ at.added) (cost.Unnamed ppn name k)) (sym same)
          (here ppn name (subst (λ (k : ℕ). IsPrimeAt layout contents k (place_of ppn name)) same says)))
          (λ other. either (among_before files at.found (place_of ppn name) prime)
          (lost_before found.added at.added (cost.Unnamed ppn name prime))
          (found.all prime ppn name within (omega arith) is none says)) (cases_eq prime n)

-- All blocks were checked.

pub all_scanned : (size layout : ℕ) (contents : Contents) (search : Search) (counts : List ℕ)
    (named files : List SavedFile) (findings told : List Finding) → CountTo counts (claims named)
    → AreFound size layout contents search counts files findings told size → AreAlone size layout contents files
    → IsScanned size layout contents search named files told
all_scanned size layout contents search counts named files findings told counted found alone = record {
  read = found.read;
  apart = found.apart;
  at = all_of (λ file. InSpace size file.at × IsSearched search size contents file.at
      × (slice_index counts file.at ≡ 0)) (λ file. InSpace size file.at × IsSearched search size contents file.at
      × (claims named file.at ≡ 0)) files (λ file is. (is.0, is.1, unclaimed file.at is.2)) found.at;
  alone = alone;
  all = λ prime ppn name inside searched none says. either (λ among. among)
      (λ lost. subst (λ (l : List Finding). IsLostBy l (cost.Unnamed ppn name prime)) (sym found.told_is)
      (lost_behind findings found.added (cost.Unnamed ppn name prime) lost))
      (found.all prime ppn name inside inside.below searched (uncounted prime none) says);
}
  where
    unclaimed : (n : ℕ) → slice_index counts n ≡ 0 → claims named n ≡ 0
    unclaimed n is = let e = counted n in omega arith

    uncounted : (n : ℕ) → claims named n ≡ 0 → slice_index counts n ≡ 0
    uncounted n is = let e = counted n in omega arith

pub all_added : (size layout : ℕ) (contents : Contents) (search : Search) (counts : List ℕ)
    (files : List SavedFile) (findings told : List Finding) (n : ℕ)
    → AreFound size layout contents search counts files findings told n
    → AreAdded size layout contents findings told
all_added size layout contents search counts files findings told n found =
    record { added = found.added; new_is = found.told_is; stand = found.stand }

-- The same along a disk that was only read.

pub found_along : (size size' layout : ℕ) (contents contents' : Contents) (search : Search) (free : List Bool)
    (counts : List ℕ) (files new : List SavedFile) (findings told after : List Finding) (n : ℕ) → size' ≡ size
    → contents' ≡ contents
    → ((begun : List Finding) → AreFree size' contents' free
    → AreFound size' layout contents' search counts files begun told n
    → AreFound size' layout contents' search counts new begun after (n + 1))
    → AreFree size contents free → AreFound size layout contents search counts files findings told n
    → AreFound size layout contents search counts new findings after (n + 1)
found_along size size' layout contents contents' search free counts files new findings told after n same same' step =
    subst (λ (d : Contents). AreFree size d free → AreFound size layout d search counts files findings told n
    → AreFound size layout d search counts new findings after (n + 1)) same'
    (subst (λ (z : ℕ). AreFree z contents' free → AreFound z layout contents' search counts files findings told n
    → AreFound z layout contents' search counts new findings after (n + 1)) same (step findings))

pub found_end : (size layout : ℕ) (contents : Contents) (search : Search) (counts : List ℕ) (files : List SavedFile)
    (findings told : List Finding) (n : ℕ) → n ≡ size
    → AreFound size layout contents search counts files findings told n
    → AreFound size layout contents search counts files findings told size
found_end size layout contents search counts files findings told n same =
    subst (AreFound size layout contents search counts files findings told) same

-- what holds of a result that is there, both facts together
pub ok_both : {T E : Type 0} (result : Result T E) (P Q R : T → Type 0) → ((x : T) → P x → Q x → R x) → IfOk result P
    → IfOk result Q → IfOk result R
ok_both (Ok x) P Q R then p q = then x p q
ok_both (Err e) P Q R then p q = tt
