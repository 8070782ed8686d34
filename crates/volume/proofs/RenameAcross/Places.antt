-- What a file that moves to another directory makes of the places.
use Rattle.std.proofs.Common.{◌≡◌, ⊎_elim, ℕ, zero, suc, List, [], ◌∷◌, slice_get, slice_set, Some, None, refl, sym}
use Rattle.std.proofs.Common.{ap, ◌∙◌}
use Rattle.std.proofs.lemmas.Bool.{cases_eq}
use Rattle.std.specs.FinMap.Entries.{find}
use Rattle.words36.specs.declared.names.FileName.{FileName}
use Rattle.spec_image.specs.declared.put.Put.{Put}
use Rattle.spec_image.specs.Common.{SpecMasterEntry, name_cmp, get, insert, remove, from_entries}
use Rattle.spec_image.proofs.Common.{some_same, some_none, get-insert_same, get-insert_other, get-removed}
use Rattle.spec_image.proofs.Common.{get-remove_other, get-from_entries, name_total, name_exact}
use Rattle.volume.specs.Common.{CurrentMap, CurrentVersion, CurrentDirectory, prime_in, IsMovedAcross}
use Rattle.volume.proofs.common.PrimeBlocks.{prime_of_place, prime_elsewhere, prime_set}

-- An element of a list is another: those at other places stay.
pub set_elsewhere : {X : Type 0} (xs : List X) (i j : ℕ) (y : X) → (j ≡ i → ⊥)
    → slice_get (slice_set xs i y) j ≡ slice_get xs j
set_elsewhere [] i j y differ = refl
set_elsewhere (x ∷ xs) zero zero y differ = absurd (differ refl)
set_elsewhere (x ∷ xs) zero (suc j) y differ = refl
set_elsewhere (x ∷ xs) (suc i) zero y differ = refl
set_elsewhere (x ∷ xs) (suc i) (suc j) y differ = set_elsewhere xs i j y (λ same. differ (ap suc same))

module _ (size : ℕ) (k k' : CurrentMap) (ppn : ℕ) (name : FileName) (to_ppn : ℕ) (to : FileName)
    (old : ℕ × CurrentVersion)
    (v : CurrentVersion) (words : List ℕ) (puts : List Put)
    (is : IsMovedAcross size k k' ppn name to_ppn to old v words puts) where
  abbrev d : CurrentDirectory
  d = is.directory

  abbrev t : CurrentDirectory
  t = is.target

  -- the directories with the one that it comes to, and those with both
  abbrev entered : List CurrentDirectory
  entered = slice_set k.directories is.to_place is.target'

  abbrev both : List CurrentDirectory
  both = slice_set entered is.place is.directory'

  -- the two are at two places
  pub places_apart : is.place ≡ is.to_place → ⊥
  places_apart same =
      let one = some_same (sym is.there.is ∙ ap (slice_get k.master.entries) same ∙ is.to_there.is) in
      is.apart (sym (ap (λ (e : SpecMasterEntry). e.0) one))

  pub directory_stays : slice_get entered is.place ≡ Some is.directory
  directory_stays = set_elsewhere k.directories is.to_place is.place is.target' places_apart ∙ is.directory_at

  -- if the directories are those from before except the two
  goes : (q : ℕ) (n : FileName) → prime_in k'.master.entries k'.directories q n
      ≡ prime_in k.master.entries both q n
  goes q n = λ i. prime_in (is.master i).entries (is.directories i) q n

  -- the directory that it leaves has the names that it had, except this one
  left_names : (n : FileName) → prime_in k'.master.entries k'.directories ppn n
      ≡ get (remove (from_entries {R = name_cmp} d.chain.entries) name) n
  left_names n =
      goes ppn n
      ∙ prime_set k.master.entries entered is.place ppn n is.word d is.directory' is.there directory_stays
      ∙ sym (get-from_entries name_total is.directory'.chain.entries n) ∙ ap (λ m. get m n) is.removed.names

  -- the one that it comes to has those that it had, and this one
  target_names : (n : FileName) → prime_in k'.master.entries k'.directories to_ppn n
      ≡ get (insert (from_entries {R = name_cmp} t.chain.entries) to old.0) n
  target_names n =
      goes to_ppn n
      ∙ prime_elsewhere k.master.entries entered is.place ppn to_ppn n is.word is.directory' is.there.is is.apart
      ∙ prime_set k.master.entries k.directories is.to_place to_ppn n is.to_word t is.target' is.to_there is.target_at
      ∙ sym (get-from_entries name_total is.target'.chain.entries n) ∙ ap (λ m. get m n) is.entered.names

  -- what a name had
  had : (n : FileName) → prime_in k.master.entries k.directories ppn n ≡ find name_cmp n d.chain.entries
  had n = prime_of_place k.master.entries k.directories is.place ppn n is.word d is.there is.directory_at

  target_had : (n : FileName) → prime_in k.master.entries k.directories to_ppn n ≡ find name_cmp n t.chain.entries
  target_had n = prime_of_place k.master.entries k.directories is.to_place to_ppn n is.to_word t is.to_there
      is.target_at

  pub across_before : prime_in k.master.entries k.directories ppn name ≡ Some old.0
  across_before = had name ∙ is.removed.was.1.found

  -- the place was free
  pub across_free : prime_in k.master.entries k.directories to_ppn to ≡ None
  across_free = target_had to ∙ is.entered.was

  pub across_here : prime_in k'.master.entries k'.directories to_ppn to ≡ Some old.0
  across_here = target_names to ∙ get-insert_same name_total (from_entries t.chain.entries) to old.0

  pub across_gone : prime_in k'.master.entries k'.directories ppn name ≡ None
  across_gone = left_names name ∙ get-removed name_total (from_entries d.chain.entries) name

  other_name : (n : FileName) → (n ≡ name → ⊥) → prime_in k'.master.entries k'.directories ppn n
      ≡ prime_in k.master.entries k.directories ppn n
  other_name n differ =
      left_names n ∙ get-remove_other name_total name_exact (from_entries d.chain.entries) name n differ
      ∙ get-from_entries name_total d.chain.entries n ∙ sym (had n)

  other_target : (n : FileName) → (n ≡ to → ⊥) → prime_in k'.master.entries k'.directories to_ppn n
      ≡ prime_in k.master.entries k.directories to_ppn n
  other_target n differ =
      target_names n ∙ get-insert_other name_total name_exact (from_entries t.chain.entries) to old.0 n differ
      ∙ get-from_entries name_total t.chain.entries n ∙ sym (target_had n)

  pub across_elsewhere : (q : ℕ) (n : FileName) → ((q ≡ ppn) × (n ≡ name) → ⊥) → ((q ≡ to_ppn) × (n ≡ to) → ⊥)
      → prime_in k'.master.entries k'.directories q n ≡ prime_in k.master.entries k.directories q n
  across_elsewhere q n differ apart = ⊎_elim
      (λ (same : q ≡ ppn).
      ap (λ x. prime_in k'.master.entries k'.directories x n) same ∙ other_name n (λ is_name. differ (same, is_name))
      ∙ ap (λ x. prime_in k.master.entries k.directories x n) (sym same))
      (λ other. ⊎_elim
      (λ (same : q ≡ to_ppn).
      ap (λ x. prime_in k'.master.entries k'.directories x n) same ∙ other_target n (λ is_to. apart (same, is_to))
      ∙ ap (λ x. prime_in k.master.entries k.directories x n) (sym same))
      (λ another.
      goes q n
      ∙ prime_elsewhere k.master.entries entered is.place ppn q n is.word is.directory' is.there.is other
      ∙ prime_elsewhere k.master.entries k.directories is.to_place to_ppn q n is.to_word is.target' is.to_there.is
      another)
      (cases_eq q to_ppn)) (cases_eq q ppn)

  -- a place that has a prime block, and isn't the old one, keeps it
  pub across_stays : (q : ℕ) (n : FileName) (b : ℕ) → ((q ≡ ppn) × (n ≡ name) → ⊥)
      → prime_in k.master.entries k.directories q n ≡ Some b
      → prime_in k'.master.entries k'.directories q n ≡ Some b
  across_stays q n b differ there = across_elsewhere q n differ (λ same. some_none (sym there
      ∙ (λ i. prime_in k.master.entries k.directories (same.0 i) (same.1 i)) ∙ across_free)) ∙ there
