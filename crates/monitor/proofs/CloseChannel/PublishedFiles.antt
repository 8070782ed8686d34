-- A version becomes the file of its place: the files without serials, other places, and serials that stay distinct.
use Rattle.std.proofs.Common.{◌≡◌, ◌≤◌, ◌+◌, ℕ, Bool, true, false, Option, Some, None, refl, sym, ap, ◌∙◌, ⊎_elim}
use Rattle.std.proofs.Common.{arith}
use Rattle.std.proofs.lemmas.Bool.{eqb-true}
use Rattle.std.specs.Prelude.{◌==◌, option_map}
use Rattle.std.specs.Cmp.{nat_cmp_total}
use Rattle.std.specs.FinMap.{nat_cmp-IsAntisymmetric}
use Rattle.spec_image.specs.Common.{File, Files, Directory, Place, map_directory, get, insert, values, map_values}
use Rattle.spec_image.specs.Common.{SpecVersion, without_serials, file_in, file_at, with_file, with_file_in}
use Rattle.spec_machine.specs.Common.{has_serial, HaveDistinctSerials}
use Rattle.spec_image.proofs.Common.{same_or_other, get-insert_same, get-insert_other, map_values-insert, sum-insert}
use Rattle.spec_image.proofs.Common.{sum-values, name_total, name_exact}
use Rattle.volume.specs.Common.{files_put_in, files_published}
use Rattle.monitor.proofs.common.Growths.{shown_at}
use Rattle.monitor.proofs.common.Copies.{with_serial, versions_in, copies, none_copies, distinct_few, few_distinct}
use Rattle.monitor.proofs.common.Copies.{copies-files, one_if}

-- The files alone.

abbrev shown : Directory SpecVersion → Directory File
shown d = map_directory (λ v. v.file) d

pub files_with : (files : Files SpecVersion) (place : Place) (v : SpecVersion)
    → without_serials (with_file files place v) ≡ files_published (without_serials files) place.ppn place.name v.file
files_with files place v = by (get files place.ppn) refl
  where
    by : (o : Option (Directory SpecVersion)) → get files place.ppn ≡ o → without_serials (with_file_in o files place v)
        ≡ files_put_in (get (without_serials files) place.ppn) (without_serials files) place.ppn place.name v.file
    by None is = ap (λ o. files_put_in o (without_serials files) place.ppn place.name v.file)
        (sym (shown_at files place.ppn ∙ ap (option_map shown) is))
    by (Some d) is =
        map_values-insert nat_cmp_total nat_cmp-IsAntisymmetric shown files place.ppn
        (record d { files = insert d.files place.name v })
        ∙ ap (insert (map_values shown files) place.ppn)
        (λ i. record {
          protection = d.protection;
          quota = d.quota;
          files = map_values-insert name_total name_exact (λ (x : SpecVersion). x.file) d.files place.name v i;
        })
        ∙ ap (λ o. files_put_in o (without_serials files) place.ppn place.name v.file)
        (sym (shown_at files place.ppn ∙ ap (option_map shown) is))

-- another place
pub put_elsewhere : (files : Files SpecVersion) (place : Place) (v : SpecVersion) (q : Place) → (q ≡ place → ⊥)
    → file_at (with_file files place v) q ≡ file_at files q
put_elsewhere files place v q apart = by (get files place.ppn) refl
  where
    by : (o : Option (Directory SpecVersion)) → get files place.ppn ≡ o → file_at (with_file_in o files place v) q
        ≡ file_at files q
    by None is = refl
    by (Some d) is =
        let new : Directory SpecVersion = record d { files = insert d.files place.name v } in
        ⊎_elim
        (λ here.
        ap (λ o. file_in o q.name) (ap (get (insert files place.ppn new)) here
        ∙ get-insert_same nat_cmp_total files place.ppn new)
        ∙ get-insert_other name_total name_exact d.files place.name v q.name
        (λ name. apart (λ i. record { ppn = here i; name = name i }))
        ∙ sym (ap (λ o. file_in o q.name) (ap (get files) here ∙ is)))
        (λ other. ap (λ o. file_in o q.name)
        (get-insert_other nat_cmp_total nat_cmp-IsAntisymmetric files place.ppn new q.ppn other))
        (same_or_other nat_cmp_total nat_cmp-IsAntisymmetric q.ppn place.ppn)

-- Serials are distinct if each occurs at most once.

-- with one more, whatever was at its place
pub copies-put : (files : Files SpecVersion) (place : Place) (v : SpecVersion) (k : ℕ)
    → copies k (versions_in (with_file files place v)) ≤ copies k (versions_in files) + with_serial k v
copies-put files place v k = by (get files place.ppn) refl
  where
    by : (o : Option (Directory SpecVersion)) → get files place.ppn ≡ o
        → copies k (versions_in (with_file_in o files place v)) ≤ copies k (versions_in files) + with_serial k v
    by None is = omega arith
    by (Some d) is =
        let new : Directory SpecVersion = record d { files = insert d.files place.name v } in
        let in_files = sum-insert nat_cmp_total nat_cmp-IsAntisymmetric
        (λ (x : Directory SpecVersion). copies k (values x.files)) files place.ppn new (Some d) is in
        let in_names = sum-insert name_total name_exact (with_serial k) d.files place.name v
        (get d.files place.name) refl in
        let all = copies-files k files in
        let all' = copies-files k (insert files place.ppn new) in
        let was = sum-values (with_serial k) d.files in
        let now = sum-values (with_serial k) new.files in
        omega arith

-- a version with a serial that none has
pub distinct_put : (files : Files SpecVersion) (place : Place) (v : SpecVersion)
    → HaveDistinctSerials (versions_in files)
    → has_serial v.serial (versions_in files) ≡ false → HaveDistinctSerials (versions_in (with_file files place v))
distinct_put files place v distinct fresh = few_distinct (versions_in (with_file files place v))
    (λ k. by k (v.serial == k) refl)
  where
    by : (k : ℕ) (b : Bool) → (v.serial == k) ≡ b → copies k (versions_in (with_file files place v)) ≤ 1
    by k true e =
        let put = copies-put files place v k in
        let none = none_copies (versions_in files) v.serial fresh in
        let same = ap (λ n. copies n (versions_in files)) (eqb-true v.serial k e) in
        let one = ap one_if e in
        omega arith
    by k false e =
        let put = copies-put files place v k in
        let few = distinct_few (versions_in files) distinct k in
        let none = ap one_if e in
        omega arith
