-- What the directories cost with the entries that are being created, by the directories that a volume knows.
use Rattle.std.proofs.Common.{◌≡◌, ◌≢◌, ℕ, ◌+◌, ◌-◌, if◌then◌else◌, Bool, true, false, List, [], ◌∷◌, length}
use Rattle.std.proofs.Common.{slice_get, Option, Some, None, refl, sym, ap, ◌∙◌, arith, Ordering}
use Rattle.std.specs.Prelude.{option_map}
use Rattle.std.specs.List.{AllZip}
use Rattle.std.specs.Ordering.{eq_by_cmp}
use Rattle.std.specs.Cmp.{IsTotalOrder, nat_cmp_total}
use Rattle.std.specs.FinMap.{IsAntisymmetric, nat_cmp-IsAntisymmetric}
use Rattle.std.specs.FinMap.Entries.{find}
use Rattle.blockdisk.specs.Common.{DiskState}
use Rattle.spec_image.specs.Common.{directory_cost, SpecMasterEntry, File, Files, Directory, map_directory, FinMap}
use Rattle.spec_image.specs.Common.{EachOnce, get, remove, size, sum_entries, total, SpecVersion, without_serials}
use Rattle.spec_image.specs.Common.{directory_of, entry_of}
use Rattle.spec_image.proofs.Common.{some_none, apart, get-remove_other, get-map_values, empty_of_size}
use Rattle.spec_image.proofs.Common.{size-map_values, size-remove, sum_entries-empty, sum_entries-remove, name_total}
use Rattle.spec_image.proofs.Common.{name_exact}
use Rattle.volume.specs.Common.{CurrentMap, CurrentDirectory, IsWholeDirectory, IsWholeMap, creates, growths}
use Rattle.volume.specs.declared.pending.PendingVersion.{PendingVersion}
use Rattle.volume.proofs.common.Answers.{Holds}
use Rattle.volume.proofs.common.CostLaws.{zip_each, size_named}

-- A map's sum, by a list of its keys in any order, with a list of what each counts.

abbrev CountsAt : {K V X Y : Type 0} {R : K → K → Ordering} → (K → X → ℕ) → (K → Y → ℕ) → FinMap R X → K × V
    → Y → Type 0
CountsAt {X = X} f h m e y = (x : X) × (get m e.0 ≡ Some x) × (f e.0 x ≡ h e.0 y)

-- the sum over two lists beside each other
abbrev sum_beside : {K V Y : Type 0} → (K → Y → ℕ) → List (K × V) → List Y → ℕ
sum_beside h [] ys = 0
sum_beside h (e ∷ es) [] = 0
sum_beside h (e ∷ es) (y ∷ ys) = h e.0 y + sum_beside h es ys

module _ {K V X Y : Type 0} {R : K → K → Ordering} (o : IsTotalOrder R) (exact : IsAntisymmetric R) (f : K
    → X → ℕ) (h : K → Y → ℕ) where
  still_counts : (m : FinMap R X) (k : K) (es : List (K × V)) (ys : List Y) → find R k es ≡ None
      → AllZip (CountsAt f h m) es ys → AllZip (CountsAt f h (remove m k)) es ys
  still_counts m k [] [] none zip = tt
  still_counts m k [] (y ∷ ys) none zip = absurd zip
  still_counts m k (e ∷ es) [] none zip = absurd zip
  still_counts m k (e ∷ es) (y ∷ ys) none zip = step (eq_by_cmp R k e.0) refl none
      (λ rest. still_counts m k es ys rest zip.1)
    where
      other : eq_by_cmp R k e.0 ≡ false → e.0 ≢ k
      other t same = apart o k e.0 t (sym same)

      step : (b : Bool) → eq_by_cmp R k e.0 ≡ b → (if b then Some e.1 else find R k es) ≡ None
          → (find R k es ≡ None → AllZip (CountsAt f h (remove m k)) es ys)
          → AllZip (CountsAt f h (remove m k)) (e ∷ es) (y ∷ ys)
      step true t n rest = absurd (some_none n)
      step false t n rest = ((zip.0.0, get-remove_other o exact m k e.0 (other t) ∙ zip.0.1, zip.0.2), rest n)

  sum_counted_at : (m : FinMap R X) (es : List (K × V)) (ys : List Y) → size m ≡ length es → EachOnce R es
      → AllZip (CountsAt f h m) es ys → sum_entries f m ≡ sum_beside h es ys
  sum_counted_at m [] [] count once zip = ap (sum_entries f) (empty_of_size m count) ∙ sum_entries-empty R f
  sum_counted_at m [] (y ∷ ys) count once zip = absurd zip
  sum_counted_at m (e ∷ es) [] count once zip = absurd zip
  sum_counted_at m (e ∷ es) (y ∷ ys) count once zip =
      let one = size-remove o exact m e.0 zip.0.0 zip.0.1 in
      let part = sum_entries-remove o exact f m e.0 zip.0.0 zip.0.1 in
      let rest = sum_counted_at (remove m e.0) es ys (omega arith) once.1 (still_counts m e.0 es ys once.0 zip.1) in
      let here = zip.0.2 in
      omega arith

-- Directories.

-- a directory of a volume's files, and the one that it knows
pub record Matches (files : Files SpecVersion) (ppn : ℕ) (d : CurrentDirectory) : Type 0 where
  pub directory : Directory SpecVersion
  pub there : get files ppn ≡ Some directory
  pub size_is : size directory.files ≡ length d.chain.entries

pub shown_at : (files : Files SpecVersion) (ppn : ℕ)
    → get (without_serials files) ppn ≡ option_map (map_directory (λ (v : SpecVersion). v.file)) (get files ppn)
shown_at files ppn = get-map_values nat_cmp_total (map_directory (λ (v : SpecVersion). v.file)) files ppn

module _ (d : DiskState) (k : CurrentMap) (files : Files SpecVersion) (holds : Holds d k (without_serials files))
    (whole : IsWholeMap d.size k) where
  -- what is at a place of the master directory
  pub matches : (i : ℕ) (e : SpecMasterEntry) (x : CurrentDirectory) → slice_get k.master.entries i ≡ Some e
      → slice_get k.directories i ≡ Some x → IsWholeDirectory d.size x → Matches files e.0 x
  matches i e x at at' is =
      let found = holds.held.known.each i e x at at' in
      let get_is : get (without_serials files) e.0
      ≡ Some (directory_of found.0) = ap (λ f. get f e.0) (sym holds.files_are)
      ∙ get-map_values nat_cmp_total directory_of holds.map.directories e.0 ∙ ap (option_map directory_of) found.1 in
      let count : size (directory_of found.0).files ≡ length x.chain.entries =
      size-map_values name_total (λ f. f.file) found.0.files
      ∙ size_named name_total name_exact (λ f. f.prime) found.0.files x.chain.entries found.2.names
      is.chain.each_once in
      by (get files e.0) refl (sym (shown_at files e.0) ∙ get_is) count
    where
      by : {f : Directory File} (was : Option (Directory SpecVersion)) → get files e.0 ≡ was
          → option_map (map_directory (λ (v : SpecVersion). v.file)) was ≡ Some f
          → size f.files ≡ length x.chain.entries
          → Matches files e.0 x
      by None is shown count = absurd (some_none (sym shown))
      by {f} (Some y) is shown count =
          let same : map_directory (λ (v : SpecVersion). v.file) y ≡ f = cc shown in
          record {
            directory = y;
            there = is;
            size_is = sym (size-map_values name_total (λ (v : SpecVersion). v.file) y.files)
                ∙ ap (λ (z : Directory File). size z.files) same ∙ count;
          }

  pub all_match : AllZip (λ (e : SpecMasterEntry) x. Matches files e.0 x) k.master.entries k.directories
  all_match = zip_each (λ (e : SpecMasterEntry) x. Matches files e.0 x) (IsWholeDirectory d.size) k.master.entries
      k.directories whole.aligned whole.each matches

  pub count_is : size files ≡ length k.master.entries
  count_is =
      sym (size-map_values nat_cmp_total (map_directory (λ (v : SpecVersion). v.file)) files)
      ∙ ap size (sym holds.files_are) ∙ size-map_values nat_cmp_total directory_of holds.map.directories
      ∙ size_named nat_cmp_total nat_cmp-IsAntisymmetric entry_of holds.map.directories k.master.entries
      holds.held.known.names whole.chain.each_once

  -- their costs, with this many more entries in each
  sum_is : (more : ℕ → ℕ) → sum_entries (λ ppn (x : Directory SpecVersion). directory_cost (size x.files + more ppn))
      files
      ≡ sum_beside (λ ppn (x : CurrentDirectory). directory_cost (length x.chain.entries + more ppn)) k.master.entries
      k.directories
  sum_is more =
      sum_counted_at nat_cmp_total nat_cmp-IsAntisymmetric
      (λ ppn (x : Directory SpecVersion). directory_cost (size x.files + more ppn)) (λ ppn (x : CurrentDirectory).
      directory_cost (length x.chain.entries + more ppn)) files k.master.entries k.directories
      count_is whole.chain.each_once (counted k.master.entries k.directories all_match)
    where
      counted : (es : List SpecMasterEntry) (ds : List CurrentDirectory)
          → AllZip (λ (e : SpecMasterEntry) x. Matches files e.0 x) es ds
          → AllZip (CountsAt (λ ppn (x : Directory SpecVersion). directory_cost (size x.files + more ppn))
          (λ ppn (x : CurrentDirectory). directory_cost (length x.chain.entries + more ppn)) files) es ds
      counted [] [] zip = tt
      counted [] (y ∷ ys) zip = absurd zip
      counted (e ∷ es) [] zip = absurd zip
      counted (e ∷ es) (y ∷ ys) zip =
          ((zip.0.directory, zip.0.there, ap (λ n. directory_cost (n + more e.0)) zip.0.size_is), counted es ys zip.1)

  -- what creations add to it
  pub growths_are : (pending : List (Option PendingVersion))
      → sum_entries (λ ppn (x : Directory SpecVersion). directory_cost (size x.files + total (creates ppn) pending))
      files
      ≡ sum_entries (λ ppn (x : Directory SpecVersion). directory_cost (size x.files + 0)) files
      + growths pending k.master.entries k.directories
  growths_are pending =
      let all = sum_is (λ ppn. total (creates ppn) pending) in
      let bare = sum_is (λ ppn. 0) in
      let more = apart_sums k.master.entries k.directories in
      omega arith
    where
      rises : (n m : ℕ) → directory_cost (n + m) ≡ directory_cost (n + 0) + (directory_cost (n + m) - directory_cost n)
      rises n m = omega arith

      apart_sums : (es : List SpecMasterEntry) (ds : List CurrentDirectory)
          → sum_beside
          (λ ppn (x : CurrentDirectory). directory_cost (length x.chain.entries + total (creates ppn) pending)) es ds
          ≡ sum_beside (λ ppn (x : CurrentDirectory). directory_cost (length x.chain.entries + 0)) es ds
          + growths pending es ds
      apart_sums [] ds = refl
      apart_sums (e ∷ es) [] = refl
      apart_sums (e ∷ es) (x ∷ ds) = omega (
        arith,
        rises (length x.chain.entries) (total (creates e.0) pending),
        apart_sums es ds,
      )
