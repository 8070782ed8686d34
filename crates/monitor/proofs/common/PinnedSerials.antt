-- The serial of a file's version: one place has it, and none has it any more after another version is put there.
use Rattle.std.proofs.Common.{◌≡◌, ◌≤◌, ◌<◌, ◌+◌, ℕ, false, Some, refl, sym, ap, ◌∙◌, ⊎_elim, arith}
use Rattle.std.proofs.lemmas.Bool.{eq-eqb, ne_eqb}
use Rattle.std.specs.Cmp.{nat_cmp_total}
use Rattle.std.specs.FinMap.{nat_cmp-IsAntisymmetric}
use Rattle.spec_image.specs.Common.{Files, Directory, Place, get, insert, values, SpecVersion, file_at, with_file}
use Rattle.spec_image.specs.Common.{with_file_in}
use Rattle.spec_machine.specs.Common.{has_serial, HaveDistinctSerials}
use Rattle.spec_image.proofs.Common.{some_same, same_or_other, sum-values, sum-insert_over, at-le-sum, two-le-sum}
use Rattle.spec_image.proofs.Common.{name_total, name_exact, directory_of_file}
use Rattle.monitor.proofs.CloseChannel.PublishedFiles.{copies-put}
use Rattle.monitor.proofs.common.Copies.{copies-files, with_serial, copies, none_copies, copies_none, distinct_few}
use Rattle.monitor.proofs.common.Copies.{versions_in, one_if}

module _ (k : ℕ) where
  pub counts_one : (x : SpecVersion) → x.serial ≡ k → with_serial k x ≡ 1
  counts_one x same = ap one_if (eq-eqb x.serial k same)

  counts_none : (x : SpecVersion) → (x.serial ≡ k → ⊥) → with_serial k x ≡ 0
  counts_none x apart = ap one_if (ne_eqb x.serial k apart)

  -- how often a directory has it
  abbrev inside : Directory SpecVersion → ℕ
  inside d = copies k (values d.files)

  -- a file of this serial is counted
  is_counted : (files : Files SpecVersion) (place : Place) (x : SpecVersion) → file_at files place ≡ Some x
      → x.serial ≡ k
      → 0 < copies k (versions_in files)
  is_counted files place x at same =
      let d = directory_of_file files place x at in
      let one = counts_one x same in
      let here = at-le-sum name_total name_exact (with_serial k) d.0.files place.name x d.2 in
      let listed = sum-values (with_serial k) d.0.files in
      let all = at-le-sum nat_cmp_total nat_cmp-IsAntisymmetric inside files place.ppn d.0 d.1 in
      let counted = copies-files k files in
      omega arith

  -- two of them at two places are two
  two_counted : (files : Files SpecVersion) (p q : Place) (x y : SpecVersion) → file_at files p ≡ Some x
      → file_at files q ≡ Some y → x.serial ≡ k → y.serial ≡ k → (p ≡ q → ⊥) → 2 ≤ copies k (versions_in files)
  two_counted files p q x y at at' same same' apart =
      let d = directory_of_file files p x at in
      let e = directory_of_file files q y at' in
      let one = counts_one x same in
      let other = counts_one y same' in
      let counted = copies-files k files in
      let listed = sum-values (with_serial k) d.0.files in
      ⊎_elim
      (λ (here : q.ppn ≡ p.ppn).
      let directory : e.0 ≡ d.0 = some_same (sym e.1 ∙ ap (get files) here ∙ d.1) in
      let both = two-le-sum name_total name_exact (with_serial k) d.0.files p.name q.name x y d.2
      (ap (λ (z : Directory SpecVersion). get z.files q.name) (sym directory)
      ∙ e.2) (λ name. apart (λ i. record { ppn = sym here i; name = sym name i })) in
      let all = at-le-sum nat_cmp_total nat_cmp-IsAntisymmetric inside files p.ppn d.0 d.1 in
      omega arith)
      (λ elsewhere.
      let listed' = sum-values (with_serial k) e.0.files in
      let first = at-le-sum name_total name_exact (with_serial k) d.0.files p.name x d.2 in
      let second = at-le-sum name_total name_exact (with_serial k) e.0.files q.name y e.2 in
      let both = two-le-sum nat_cmp_total nat_cmp-IsAntisymmetric inside files p.ppn q.ppn d.0 e.0 d.1 e.1 elsewhere in
      omega arith)
      (same_or_other nat_cmp_total nat_cmp-IsAntisymmetric q.ppn p.ppn)

  -- a version in the place of another
  put_over : (files : Files SpecVersion) (place : Place) (v x : SpecVersion) → file_at files place ≡ Some x
      → copies k (versions_in (with_file files place v)) + with_serial k x
      ≡ copies k (versions_in files) + with_serial k v
  put_over files place v x at =
      let d = directory_of_file files place x at in
      let new : Directory SpecVersion = record d.0 { files = insert d.0.files place.name v } in
      let put : copies k (versions_in (with_file files place v))
      ≡ copies k (versions_in (insert files place.ppn new)) = ap
      (λ o. copies k (versions_in (with_file_in o files place v))) d.1 in
      let in_files = sum-insert_over nat_cmp_total nat_cmp-IsAntisymmetric inside files place.ppn new d.0 d.1 in
      let in_names = sum-insert_over name_total name_exact (with_serial k) d.0.files place.name v x d.2 in
      let all = copies-files k files in
      let all' = copies-files k (insert files place.ppn new) in
      let was = sum-values (with_serial k) d.0.files in
      let now = sum-values (with_serial k) new.files in
      omega arith

-- a serial that no version has is not that of a file
pub not_there : (files : Files SpecVersion) (place : Place) (x : SpecVersion) (k : ℕ) → file_at files place ≡ Some x
    → has_serial k (versions_in files) ≡ false → x.serial ≡ k → ⊥
not_there files place x k at none same =
    let some = is_counted k files place x at same in
    let zero = none_copies (versions_in files) k none in
    omega arith

module _ (files : Files SpecVersion) (distinct : HaveDistinctSerials (versions_in files)) where
  -- if serials are distinct, one place has it
  pub one_at : (p q : Place) (x y : SpecVersion) → file_at files p ≡ Some x → file_at files q ≡ Some y
      → x.serial ≡ y.serial
      → p ≡ q
  one_at p q x y at at' same = ⊎_elim
      (λ (here : p.ppn ≡ q.ppn). ⊎_elim (λ (name : p.name ≡ q.name). λ i. record { ppn = here i; name = name i })
      (λ apart. absurd (twice (λ is. apart (ap (λ (z : Place). z.name) is))))
      (same_or_other name_total name_exact p.name q.name))
      (λ apart. absurd (twice (λ is. apart (ap (λ (z : Place). z.ppn) is))))
      (same_or_other nat_cmp_total nat_cmp-IsAntisymmetric p.ppn q.ppn)
    where
      twice : (p ≡ q → ⊥) → ⊥
      twice apart =
          let two = two_counted y.serial files p q x y at at' same refl apart in
          let few = distinct_few (versions_in files) distinct y.serial in
          omega arith

  -- and none if a version of another serial is put there
  pub superseded : (place : Place) (v x : SpecVersion) → file_at files place ≡ Some x → (v.serial ≡ x.serial → ⊥)
      → has_serial x.serial (versions_in (with_file files place v)) ≡ false
  superseded place v x at apart =
      let put = put_over x.serial files place v x at in
      let one = counts_one x.serial x refl in
      let none = counts_none x.serial v apart in
      let few = distinct_few (versions_in files) distinct x.serial in
      copies_none (versions_in (with_file files place v)) x.serial (omega arith)

-- a serial that no version has is still none's
pub still_none : (files : Files SpecVersion) (place : Place) (v : SpecVersion) (k : ℕ)
    → has_serial k (versions_in files)
    ≡ false → (v.serial ≡ k → ⊥) → has_serial k (versions_in (with_file files place v)) ≡ false
still_none files place v k none apart =
    let zero = none_copies (versions_in files) k none in
    let other = counts_none k v apart in
    let put = copies-put files place v k in
    copies_none (versions_in (with_file files place v)) k (omega arith)
