-- There is a state to start from, whatever the files: their versions are numbered, one after the other.
use Rattle.std.proofs.Common.{◌≡◌, ◌<◌, ◌≤◌, ◌+◌, ◌&&◌, ℕ, false, T, List, [], ◌∷◌, ◌++◌, length, map, flat_map, refl}
use Rattle.std.proofs.Common.{sym, ap, subst, ◌∙◌, arith}
use Rattle.std.proofs.lemmas.Bool.Decides.{nat_tests}
use Rattle.std.specs.Prelude.{◌==◌}
use Rattle.std.specs.declared.cmp.Ordering.{Ordering}
use Rattle.std.specs.Ordering.{is_lt}
use Rattle.std.specs.Cmp.{IsTotalOrder, nat_cmp_total}
use Rattle.std.specs.FinMap.Entries.{is_sorted, below_all}
use Rattle.words36.specs.declared.names.FileName.{FileName}
use Rattle.spec_image.specs.Common.{FinMap, entries, values, map_values, from_entries, File, Files, Directory}
use Rattle.spec_image.specs.Common.{map_directory, SpecVersion}
use Rattle.spec_machine.specs.Common.{State, no_jobs, has_serial, HaveDistinctSerials, IsStart}
use Rattle.spec_image.proofs.Common.{name_total, entries_sorted, same_entries_map, entries-from_sorted}
use Rattle.spec_image.proofs.Common.{entries-map_values}

-- A map is made of another one's entries with more in each.
module _ {K X Y : Type 0} {R : K → K → Ordering} (o : IsTotalOrder R) (f : Y → X) where
  below-shown : (k : K) (ys : List (K × Y)) → below_all R k (map (λ e. (e.0, f e.1)) ys) ≡ below_all R k ys
  below-shown k [] = refl
  below-shown k (y ∷ ys) = ap (λ b. is_lt (R k y.0) && b) (below-shown k ys)

  sorted-shown : (ys : List (K × Y)) → is_sorted R (map (λ e. (e.0, f e.1)) ys) ≡ is_sorted R ys
  sorted-shown [] = refl
  sorted-shown (y ∷ ys) = λ i. below-shown y.0 ys i && sorted-shown ys i

  entries_made : (m : FinMap R X) (ys : List (K × Y)) → map (λ e. (e.0, f e.1)) ys ≡ entries m
      → entries (from_entries {R = R} ys) ≡ ys
  entries_made m ys shown = entries-from_sorted o ys
      (subst T (sorted-shown ys) (subst (λ es. T (is_sorted R es)) (sym shown) (entries_sorted m)))

  shown_again : (m : FinMap R X) (ys : List (K × Y)) → map (λ e. (e.0, f e.1)) ys ≡ entries m
      → map_values f (from_entries {R = R} ys) ≡ m
  shown_again m ys shown = same_entries_map (map_values f (from_entries ys)) m (entries-map_values o f (from_entries ys)
      ∙ ap (map (λ e. (e.0, f e.1))) (entries_made m ys shown) ∙ shown)

-- Numbers from n, one for each file.

abbrev numbered : ℕ → List (FileName × File) → List (FileName × SpecVersion)
numbered n [] = []
numbered n (e ∷ es) = (e.0, record { file = e.1; serial = n }) ∷ numbered (n + 1) es

names_stay : (n : ℕ) (es : List (FileName × File)) → map (λ e. (e.0, e.1.file)) (numbered n es) ≡ es
names_stay n [] = refl
names_stay n (e ∷ es) = ap (λ fs. e ∷ fs) (names_stay (n + 1) es)

abbrev directory_from : ℕ → Directory File → Directory SpecVersion
directory_from n d = record {
  protection = d.protection;
  quota = d.quota;
  files = from_entries (numbered n (entries d.files));
}

directory_stays : (n : ℕ) (d : Directory File) → map_directory (λ v. v.file) (directory_from n d) ≡ d
directory_stays n d = λ i. record {
  protection = d.protection;
  quota = d.quota;
  files = shown_again name_total (λ (v : SpecVersion). v.file) d.files (numbered n (entries d.files))
      (names_stay n (entries d.files)) i;
}

abbrev all_numbered : ℕ → List (ℕ × Directory File) → List (ℕ × Directory SpecVersion)
all_numbered n [] = []
all_numbered n (e ∷ es) = (e.0, directory_from n e.1) ∷ all_numbered (n + length (entries e.1.files)) es

directories_stay : (n : ℕ) (es : List (ℕ × Directory File))
    → map (λ e. (e.0, map_directory (λ (v : SpecVersion). v.file) e.1)) (all_numbered n es) ≡ es
directories_stay n [] = refl
directories_stay n (e ∷ es) = λ i. (e.0, directory_stays n e.1 i)
    ∷ directories_stay (n + length (entries e.1.files)) es i

-- Serials that rise are distinct.

abbrev Rise : ℕ → List SpecVersion → Type 0
Rise n [] = Unit {0}
Rise n (v ∷ vs) = (n ≤ v.serial) × Rise (v.serial + 1) vs

differs : (a b : ℕ) → b < a → (a == b) ≡ false
differs a b less = grind (arith, nat_tests)

none_below : (vs : List SpecVersion) (n k : ℕ) → k < n → Rise n vs → has_serial k vs ≡ false
none_below [] n k less rise = refl
none_below (v ∷ vs) n k less rise = cc (
  differs v.serial k (omega (arith, less, rise.0)),
  none_below vs (v.serial + 1) k (omega (arith, less, rise.0)) rise.1,
)

distinct : (vs : List SpecVersion) (n : ℕ) → Rise n vs → HaveDistinctSerials vs
distinct [] n rise = tt
distinct (v ∷ vs) n rise = (
  none_below vs (v.serial + 1) v.serial (omega arith) rise.1,
  distinct vs (v.serial + 1) rise.1,
)

rise_more : (vs : List SpecVersion) (n m : ℕ) → m ≤ n → Rise n vs → Rise m vs
rise_more [] n m le rise = tt
rise_more (v ∷ vs) n m le rise = (omega (arith, le, rise.0), rise.1)

rise-append : (n : ℕ) (es : List (FileName × File)) (vs : List SpecVersion) → Rise (n + length es) vs
    → Rise n (map (λ e. e.1) (numbered n es) ++ vs)
rise-append n [] vs rise = rise_more vs (n + 0) n (omega arith) rise
rise-append n (e ∷ es) vs rise =
    (omega arith, rise-append (n + 1) es vs (rise_more vs (n + length (e ∷ es)) (n + 1 + length es) (omega arith) rise))

rise_all : (n : ℕ) (es : List (ℕ × Directory File))
    → Rise n (flat_map (λ (d : Directory SpecVersion). values d.files) (map (λ e. e.1) (all_numbered n es)))
rise_all n [] = tt
rise_all n (e ∷ es) =
    let these : entries (from_entries {R = _} (numbered n (entries e.1.files))) ≡ numbered n (entries e.1.files) =
    entries_made name_total (λ (v : SpecVersion). v.file) e.1.files (numbered n (entries e.1.files))
    (names_stay n (entries e.1.files)) in
    let rest = flat_map (λ (d : Directory SpecVersion). values d.files)
    (map (λ e. e.1) (all_numbered (n + length (entries e.1.files)) es)) in
    subst (λ fs. Rise n (map (λ e. e.1) fs ++ rest)) (sym these)
    (rise-append n (entries e.1.files) rest (rise_all (n + length (entries e.1.files)) es))

pub a_start : (files : Files File) → (s : State) × IsStart files s
a_start files =
    let numbers = all_numbered 0 (entries files) in
    let stay = directories_stay 0 (entries files) in (
      record { files = from_entries numbers; jobs = no_jobs },
      record {
        files = shown_again nat_cmp_total (map_directory (λ (v : SpecVersion). v.file)) files numbers stay;
        serials = distinct _ 0
            (subst (λ es. Rise 0 (flat_map (λ (d : Directory SpecVersion). values d.files) (map (λ e. e.1) es)))
            (sym (entries_made nat_cmp_total (map_directory (λ (v : SpecVersion). v.file)) files numbers stay))
            (rise_all 0 (entries files)));
        jobs = refl;
      },
    )
