-- The files without that of one place: the files without serials, other places, and serials, of which one is gone.
use Rattle.std.proofs.Common.{◌≡◌, ◌+◌, ℕ, false, Option, Some, None, refl, sym, ap, ◌∙◌, ⊎_elim, arith}
use Rattle.std.specs.Prelude.{option_map}
use Rattle.std.specs.Cmp.{nat_cmp_total}
use Rattle.std.specs.FinMap.{nat_cmp-IsAntisymmetric}
use Rattle.spec_image.specs.Common.{File, Files, Directory, Place, map_directory, get, insert, remove, values}
use Rattle.spec_image.specs.Common.{map_values, SpecVersion, without_serials, file_in, file_at, without_file}
use Rattle.spec_image.specs.Common.{without_file_in}
use Rattle.spec_machine.specs.Common.{has_serial, HaveDistinctSerials}
use Rattle.spec_image.proofs.Common.{same_or_other, get-insert_same, get-insert_other, get-remove_other}
use Rattle.spec_image.proofs.Common.{map_values-insert, map_values-remove, sum-insert_over, sum-remove, sum-values}
use Rattle.spec_image.proofs.Common.{name_total, name_exact, directory_of_file}
use Rattle.volume.specs.Common.{files_without, files_removed}
use Rattle.monitor.proofs.common.Growths.{shown_at}
use Rattle.monitor.proofs.common.PinnedSerials.{counts_one}
use Rattle.monitor.proofs.common.Copies.{with_serial, copies, none_copies, copies_none, distinct_few, few_distinct}
use Rattle.monitor.proofs.common.Copies.{versions_in, copies-files}

-- The files alone.

abbrev shown : Directory SpecVersion → Directory File
shown d = map_directory (λ v. v.file) d

pub files_left : (files : Files SpecVersion) (place : Place)
    → without_serials (without_file files place) ≡ files_removed (without_serials files) place.ppn place.name
files_left files place = by (get files place.ppn) refl
  where
    by : (o : Option (Directory SpecVersion)) → get files place.ppn ≡ o
        → without_serials (without_file_in o files place)
        ≡ files_without (get (without_serials files) place.ppn) (without_serials files) place.ppn place.name
    by None is = ap (λ o. files_without o (without_serials files) place.ppn place.name)
        (sym (shown_at files place.ppn ∙ ap (option_map shown) is))
    by (Some d) is =
        map_values-insert nat_cmp_total nat_cmp-IsAntisymmetric shown files place.ppn
        (record d { files = remove d.files place.name })
        ∙ ap (insert (map_values shown files) place.ppn)
        (λ i. record {
          protection = d.protection;
          quota = d.quota;
          files = map_values-remove name_total name_exact (λ (x : SpecVersion). x.file) d.files place.name i;
        })
        ∙ ap (λ o. files_without o (without_serials files) place.ppn place.name)
        (sym (shown_at files place.ppn ∙ ap (option_map shown) is))

-- another place
pub left_elsewhere : (files : Files SpecVersion) (place q : Place) → (q ≡ place → ⊥)
    → file_at (without_file files place) q ≡ file_at files q
left_elsewhere files place q apart = by (get files place.ppn) refl
  where
    by : (o : Option (Directory SpecVersion)) → get files place.ppn ≡ o → file_at (without_file_in o files place) q
        ≡ file_at files q
    by None is = refl
    by (Some d) is =
        let new : Directory SpecVersion = record d { files = remove d.files place.name } in
        ⊎_elim
        (λ here.
        ap (λ o. file_in o q.name) (ap (get (insert files place.ppn new)) here
        ∙ get-insert_same nat_cmp_total files place.ppn new)
        ∙ get-remove_other name_total name_exact d.files place.name q.name
        (λ name. apart (λ i. record { ppn = here i; name = name i }))
        ∙ sym (ap (λ o. file_in o q.name) (ap (get files) here ∙ is)))
        (λ other. ap (λ o. file_in o q.name)
        (get-insert_other nat_cmp_total nat_cmp-IsAntisymmetric files place.ppn new q.ppn other))
        (same_or_other nat_cmp_total nat_cmp-IsAntisymmetric q.ppn place.ppn)

-- Serials.

module _ (files : Files SpecVersion) (place : Place) (x : SpecVersion) (at : file_at files place ≡ Some x) where
  -- each occurs there as often as before, except that of the file
  pub copies_left : (k : ℕ) → copies k (versions_in (without_file files place)) + with_serial k x
      ≡ copies k (versions_in files)
  copies_left k =
      let d = directory_of_file files place x at in
      let new : Directory SpecVersion = record d.0 { files = remove d.0.files place.name } in
      let left : copies k (versions_in (without_file files place))
      ≡ copies k (versions_in (insert files place.ppn new)) =
      ap (λ o. copies k (versions_in (without_file_in o files place))) d.1 in
      let in_files = sum-insert_over nat_cmp_total nat_cmp-IsAntisymmetric
      (λ (z : Directory SpecVersion). copies k (values z.files)) files place.ppn new d.0 d.1 in
      let in_names = sum-remove name_total name_exact (with_serial k) d.0.files place.name x d.2 in
      let all = copies-files k files in
      let all' = copies-files k (insert files place.ppn new) in
      let was = sum-values (with_serial k) d.0.files in
      let now = sum-values (with_serial k) new.files in
      omega arith

  pub distinct_left : HaveDistinctSerials (versions_in files)
      → HaveDistinctSerials (versions_in (without_file files place))
  distinct_left distinct = few_distinct (versions_in (without_file files place))
      (λ k. let left = copies_left k in let few = distinct_few (versions_in files) distinct k in omega arith)

  -- a serial that no version has is still none's
  pub none_left : (k : ℕ) → has_serial k (versions_in files) ≡ false
      → has_serial k (versions_in (without_file files place)) ≡ false
  none_left k none =
      let left = copies_left k in
      let zero = none_copies (versions_in files) k none in
      copies_none (versions_in (without_file files place)) k (omega arith)

  -- no version has the serial of the file any more
  pub serial_gone : HaveDistinctSerials (versions_in files)
      → has_serial x.serial (versions_in (without_file files place)) ≡ false
  serial_gone distinct =
      let left = copies_left x.serial in
      let one = counts_one x.serial x refl in
      let few = distinct_few (versions_in files) distinct x.serial in
      copies_none (versions_in (without_file files place)) x.serial (omega arith)
