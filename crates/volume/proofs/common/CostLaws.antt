-- What is known in memory costs what the files cost, and no more blocks are in use than that.
use Rattle.std.proofs.Common.{◌≡◌, ℕ, suc, if◌then◌else◌, Bool, true, false, List, [], ◌∷◌, length, slice_get, Some}
use Rattle.std.proofs.Common.{None, ◌≢◌, refl, sym, ap, ◌∙◌, arith, Ordering}
use Rattle.std.specs.List.{AllByRecursion, AllZip}
use Rattle.std.specs.Ordering.{nat_cmp, eq_by_cmp}
use Rattle.std.specs.Cmp.{IsTotalOrder, nat_cmp_total}
use Rattle.std.specs.FinMap.{IsAntisymmetric, nat_cmp-IsAntisymmetric}
use Rattle.std.specs.FinMap.Entries.{find}
use Rattle.spec_image.specs.Common.{FinMap, EachOnce, get, remove, size, from_entries, map_values, sum_over, total}
use Rattle.spec_image.specs.Common.{version_cost, cost_of_blocks, directory_cost, cost_of_files, SpecFileEntry}
use Rattle.spec_image.specs.Common.{IsMasterEntryOf, StoredDirectory, DiskMap, directory_of, files_of, entry_of}
use Rattle.spec_image.proofs.Common.{some_none, apart, get-remove_other, sum-empty, sum-remove, size-remove}
use Rattle.spec_image.proofs.Common.{empty_of_size, size-from_entries, size-map_values, sum-map_values, name_total}
use Rattle.spec_image.proofs.Common.{name_exact}
use Rattle.directory.specs.Common.{IsChain}
use Rattle.volume.specs.Common.{CurrentMap, CurrentVersion, CurrentDirectory, AgreesOnFile, AgreesOnDirectory}
use Rattle.volume.specs.Common.{AgreesOnMap}
use Rattle.volume.specs.Common.{IsWholeVersion, IsWholeDirectory, cost_of_version, cost_of_directory, cost_of_known}
use Rattle.spec_image.specs.Costs as costs

-- Two lists, place by place.

pub zip_each : {A B : Type 0} (P : A → B → Type 0) (Q : B → Type 0) (xs : List A) (ys : List B) → length ys ≡ length xs
    → AllByRecursion Q ys
    → ((i : ℕ) (x : A) (y : B) → slice_get xs i ≡ Some x → slice_get ys i ≡ Some y → Q y → P x y) → AllZip P xs ys
zip_each P Q [] [] same all each = tt
zip_each P Q [] (y ∷ ys) same all each = absurd (omega arith)
zip_each P Q (x ∷ xs) [] same all each = absurd (omega arith)
zip_each P Q (x ∷ xs) (y ∷ ys) same all each = (
  each 0 x y refl refl all.0,
  zip_each P Q xs ys (omega arith) all.1 (λ i a b at at' q. each (suc i) a b at at' q),
)

-- A map's sum, by a list of its keys in any order, with a list of what each counts.

abbrev pub Pairs : {K V X Y : Type 0} {R : K → K → Ordering} → (K → X → Y → Type 0) → FinMap R X → K × V → Y → Type 0
Pairs {X = X} P m e y = (x : X) × (get m e.0 ≡ Some x) × P e.0 x y

module _ {K V X Y : Type 0} {R : K → K → Ordering} (o : IsTotalOrder R) (exact : IsAntisymmetric R)
    (P : K → X → Y → Type 0) where
  pub still_pairs : (m : FinMap R X) (k : K) (es : List (K × V)) (ys : List Y) → find R k es ≡ None
      → AllZip (Pairs P m) es ys → AllZip (Pairs P (remove m k)) es ys
  still_pairs m k [] [] none zip = tt
  still_pairs m k [] (y ∷ ys) none zip = absurd zip
  still_pairs m k (e ∷ es) [] none zip = absurd zip
  still_pairs m k (e ∷ es) (y ∷ ys) none zip = step (eq_by_cmp R k e.0) refl none
      (λ rest. still_pairs m k es ys rest zip.1)
    where
      other : eq_by_cmp R k e.0 ≡ false → e.0 ≢ k
      other t same = apart o k e.0 t (sym same)

      step : (b : Bool) → eq_by_cmp R k e.0 ≡ b → (if b then Some e.1 else find R k es) ≡ None
          → (find R k es ≡ None → AllZip (Pairs P (remove m k)) es ys)
          → AllZip (Pairs P (remove m k)) (e ∷ es) (y ∷ ys)
      step true t n rest = absurd (some_none n)
      step false t n rest = ((zip.0.0, get-remove_other o exact m k e.0 (other t) ∙ zip.0.1, zip.0.2), rest n)

abbrev pub Counts : {K V X Y : Type 0} {R : K → K → Ordering} → (X → ℕ) → (Y → ℕ) → FinMap R X → K × V → Y → Type 0
Counts f h m e y = Pairs (λ k x z. f x ≡ h z) m e y

module _ {K V X Y : Type 0} {R : K → K → Ordering} (o : IsTotalOrder R) (exact : IsAntisymmetric R) (f : X
    → ℕ) (h : Y → ℕ) where
  pub sum_counted : (m : FinMap R X) (es : List (K × V)) (ys : List Y) → size m ≡ length es → EachOnce R es
      → AllZip (Counts f h m) es ys → sum_over f m ≡ total h ys
  sum_counted m [] [] count once zip = ap (sum_over f) (empty_of_size m count) ∙ sum-empty R f
  sum_counted m [] (y ∷ ys) count once zip = absurd zip
  sum_counted m (e ∷ es) [] count once zip = absurd zip
  sum_counted m (e ∷ es) (y ∷ ys) count once zip =
      let one = size-remove o exact m e.0 zip.0.0 zip.0.1 in
      let part = sum-remove o exact f m e.0 zip.0.0 zip.0.1 in
      let rest = sum_counted (remove m e.0) es ys (omega arith) once.1
      (still_pairs o exact (λ k x y. f x ≡ h y) m e.0 es ys once.0 zip.1) in
      let here = zip.0.2 in
      omega arith

module _ {K V X : Type 0} {R : K → K → Ordering} (o : IsTotalOrder R) (exact : IsAntisymmetric R) where
  pub size_named : (view : X → V) (m : FinMap R X) (es : List (K × V)) → map_values view m ≡ from_entries es
      → EachOnce R es → size m ≡ length es
  size_named view m es named once = sym (size-map_values o view m) ∙ ap size named ∙ size-from_entries o exact es once

-- Files, directories, and the whole map.

file_costs : (d : StoredDirectory) (e : SpecFileEntry) (v : CurrentVersion) → AgreesOnFile d e v → IsWholeVersion v
    → Counts (λ f. version_cost (length f.file.body)) cost_of_version d.files e v
file_costs d e v known whole =
    let words : length known.0.file.body ≡ v.version.words = ap (λ f. f.words) known.2 in
    (known.0, known.1, ap version_cost words ∙ ap cost_of_blocks (sym whole.counted))

pub directory_costs : (size_of_disk : ℕ) (k : CurrentDirectory) (d : StoredDirectory) → AgreesOnDirectory k d
    → IsWholeDirectory size_of_disk k → costs.cost_of_directory (directory_of d) ≡ cost_of_directory k
directory_costs size_of_disk k d known whole =
    let once = whole.chain.each_once in
    let count = size_named name_total name_exact (λ f. f.prime) d.files k.chain.entries known.names once in
    let zip = zip_each (Counts (λ f. version_cost (length f.file.body)) cost_of_version d.files) IsWholeVersion
    k.chain.entries k.versions whole.aligned whole.versions
    (λ i e v at at' is. file_costs d e v (known.each i e v at at') is) in
    let files = sum_counted name_total name_exact (λ f. version_cost (length f.file.body)) cost_of_version
    d.files k.chain.entries k.versions count once zip in
    let same = sum-map_values name_total (λ f. version_cost (length f.body)) (λ f. f.file) d.files in
    let entries = ap directory_cost (size-map_values name_total (λ f. f.file) d.files ∙ count) in
    let chain = whole.chain.counted in
    omega arith

pub cost_is : (size_of_disk : ℕ) (k : CurrentMap) (m : DiskMap) → AgreesOnMap k m
    → IsChain nat_cmp (IsMasterEntryOf 2) k.master → length k.directories ≡ length k.master.entries
    → AllByRecursion (IsWholeDirectory size_of_disk) k.directories
    → cost_of_known k.master k.directories ≡ cost_of_files (files_of m)
cost_is size_of_disk k m known chain aligned each =
    let once = chain.each_once in
    let count = size_named nat_cmp_total nat_cmp-IsAntisymmetric entry_of m.directories k.master.entries
    known.names once in
    let zip = zip_each (Counts (λ d. costs.cost_of_directory (directory_of d)) cost_of_directory m.directories)
    (IsWholeDirectory size_of_disk) k.master.entries k.directories aligned each
    (λ i e d at at' is. let found = known.each i e d at at' in
    (found.0, found.1, directory_costs size_of_disk d found.0 found.2 is)) in
    let directories = sum_counted nat_cmp_total nat_cmp-IsAntisymmetric (λ d. costs.cost_of_directory (directory_of d))
    cost_of_directory m.directories k.master.entries k.directories count once zip in
    let same = sum-map_values nat_cmp_total costs.cost_of_directory directory_of m.directories in
    let entries = ap directory_cost (size-map_values nat_cmp_total directory_of m.directories ∙ count) in
    let counted = chain.counted in
    omega arith
