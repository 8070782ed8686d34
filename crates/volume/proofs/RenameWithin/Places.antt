-- What a new name in a directory makes of the places, and which of them a version is written for.
use Rattle.std.proofs.Common.{◌≡◌, inl, inr, ⊎_elim, ℕ, zero, suc, ◌==◌, ◌&&◌, ◌||◌, Bool, true, false, List, [], ◌∷◌}
use Rattle.std.proofs.Common.{slice_set, Option, Some, None, refl, sym, ap, ◌∙◌, arith}
use Rattle.std.proofs.lemmas.Bool.{cases_eq}
use Rattle.std.proofs.lemmas.Bool.Decides.{nat_tests}
use Rattle.std.specs.List.{list_any}
use Rattle.std.specs.FinMap.Entries.{find}
use Rattle.words36.specs.declared.names.FileName.{FileName}
use Rattle.spec_image.specs.declared.put.Put.{Put}
use Rattle.spec_image.specs.Common.{name_cmp, get, insert, remove, from_entries, same_place, place_of}
use Rattle.spec_image.proofs.Common.{some_none, get-insert_same, get-insert_other, get-removed, get-remove_other}
use Rattle.spec_image.proofs.Common.{get-from_entries, name_total, name_exact}
use Rattle.volume.specs.Common.{claims, claims_at, CurrentMap, CurrentVersion, CurrentDirectory, prime_in, pending_at}
use Rattle.volume.specs.Common.{IsFreeFor, IsMovedWithin}
use Rattle.volume.specs.declared.pending.PendingVersion.{PendingVersion}
use Rattle.volume.proofs.common.PrimeBlocks.{prime_of_place, prime_elsewhere, prime_set}

-- The map.

module _ (size : ℕ) (k k' : CurrentMap) (ppn : ℕ) (name to : FileName) (old : ℕ × CurrentVersion) (v : CurrentVersion)
    (words : List ℕ) (puts : List Put) (is : IsMovedWithin size k k' ppn name to old v words puts) where
  abbrev d : CurrentDirectory
  d = is.directory

  -- if the directories are those from before except one
  goes : (q : ℕ) (n : FileName) → prime_in k'.master.entries k'.directories q n
      ≡ prime_in k.master.entries (slice_set k.directories is.place is.directory') q n
  goes q n = λ i. prime_in (is.master i).entries (is.directories i) q n

  -- the directory has the names that it had, except the one that is another now
  in_directory : (n : FileName) → prime_in k'.master.entries k'.directories ppn n
      ≡ get (insert (remove (from_entries {R = name_cmp} d.chain.entries) name) to old.0) n
  in_directory n =
      goes ppn n ∙ prime_set k.master.entries k.directories is.place ppn n is.word d is.directory'
      is.there is.directory_at
      ∙ sym (get-from_entries name_total is.directory'.chain.entries n) ∙ ap (λ m. get m n) is.entry.names

  -- what a name had
  had : (n : FileName) → prime_in k.master.entries k.directories ppn n ≡ find name_cmp n d.chain.entries
  had n = prime_of_place k.master.entries k.directories is.place ppn n is.word d is.there is.directory_at

  pub moved_before : prime_in k.master.entries k.directories ppn name ≡ Some old.0
  moved_before = had name ∙ is.entry.was.1.found

  pub moved_here : prime_in k'.master.entries k'.directories ppn to ≡ Some old.0
  moved_here = in_directory to ∙ get-insert_same name_total (remove (from_entries d.chain.entries) name) to old.0

  pub moved_gone : (to ≡ name → ⊥) → prime_in k'.master.entries k'.directories ppn name ≡ None
  moved_gone differ =
      in_directory name
      ∙ get-insert_other name_total name_exact (remove (from_entries d.chain.entries) name) to old.0 name
      (λ same. differ (sym same))
      ∙ get-removed name_total (from_entries d.chain.entries) name

  other_name : (n : FileName) → (n ≡ name → ⊥) → (n ≡ to → ⊥) → prime_in k'.master.entries k'.directories ppn n
      ≡ prime_in k.master.entries k.directories ppn n
  other_name n differ apart =
      in_directory n
      ∙ get-insert_other name_total name_exact (remove (from_entries d.chain.entries) name) to old.0 n apart
      ∙ get-remove_other name_total name_exact (from_entries d.chain.entries) name n differ
      ∙ get-from_entries name_total d.chain.entries n ∙ sym (had n)

  pub moved_elsewhere : (q : ℕ) (n : FileName) → ((q ≡ ppn) × (n ≡ name) → ⊥) → ((q ≡ ppn) × (n ≡ to) → ⊥)
      → prime_in k'.master.entries k'.directories q n ≡ prime_in k.master.entries k.directories q n
  moved_elsewhere q n differ apart = ⊎_elim
      (λ (same : q ≡ ppn).
      ap (λ x. prime_in k'.master.entries k'.directories x n) same
      ∙ other_name n (λ is. differ (same, is)) (λ is. apart (same, is))
      ∙ ap (λ x. prime_in k.master.entries k.directories x n) (sym same))
      (λ other. goes q n ∙ prime_elsewhere k.master.entries k.directories is.place ppn q n is.word
      is.directory' is.there.is other) (cases_eq q ppn)

  -- a place that has a prime block, and isn't the old one, keeps it
  pub moved_stays : (q : ℕ) (n : FileName) (b : ℕ) → ((q ≡ ppn) × (n ≡ name) → ⊥)
      → prime_in k.master.entries k.directories q n ≡ Some b
      → prime_in k'.master.entries k'.directories q n ≡ Some b
  moved_stays q n b differ there = moved_elsewhere q n differ new_place ∙ there
    where
      new_place : (q ≡ ppn) × (n ≡ to) → ⊥
      new_place same = by is.entry.free
        where
          by : IsFreeFor d name to → ⊥
          by (inl kept) = differ (same.0, same.1 ∙ kept)
          by (inr none) = some_none (sym there ∙ (λ i. prime_in k.master.entries k.directories (same.0 i) (same.1 i))
              ∙ had to ∙ none)

-- A place that nothing is written for.

none_of : (f : Option PendingVersion → Bool) (slots : List (Option PendingVersion)) (key : ℕ) (p : PendingVersion)
    → pending_at slots key ≡ Some p → list_any f slots ≡ false → f (Some p) ≡ false
none_of f [] key p at none = absurd (some_none (sym at))
none_of f (o ∷ slots) zero p at none = ap f (sym at) ∙ first (f o) (list_any f slots) none
  where
    first : (x y : Bool) → (x || y) ≡ false → x ≡ false
    first false y is = refl
    first true y is = is
none_of f (o ∷ slots) (suc key) p at none = none_of f slots key p at (second (f o) (list_any f slots) none)
  where
    second : (x y : Bool) → (x || y) ≡ false → y ≡ false
    second false y is = is
    second true y is = cc

itself : (n : ℕ) → (n == n) ≡ true
itself n = grind (arith, nat_tests)

pub unclaimed_place : (pending : List (Option PendingVersion)) (ppn : ℕ) (name : FileName) (key : ℕ)
    (p : PendingVersion) → claims pending (place_of ppn name) ≡ false → pending_at pending key ≡ Some p
    → (p.prime.ppn ≡ ppn) × (p.prime.file ≡ name) → ⊥
unclaimed_place pending ppn name key p none at same =
    let claimed : claims_at (place_of ppn name) (Some p) ≡ false = none_of (claims_at (place_of ppn name)) pending key p
    at
    none in
    let here : same_place (place_of p.prime.ppn p.prime.file) (place_of ppn name)
    ≡ same_place (place_of ppn name) (place_of ppn name) = λ i. same_place (place_of (same.0 i) (same.1 i))
    (place_of ppn name) in
    let yes : same_place (place_of ppn name) (place_of ppn name) ≡ true = λ i. (itself ppn i && itself name.name i)
    && itself name.ext i in
    let apart : false ≡ true = sym claimed ∙ here ∙ yes in
    cc
