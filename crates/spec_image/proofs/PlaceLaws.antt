-- What is current at a place, after a version was put at one and after a directory was made.
use Rattle.std.proofs.Common.{◌≡◌, ◌≢◌, Option, Some, None, false, true, refl, sym, ap, subst, ◌∙◌, ◌⊎◌, inl, inr}
use Rattle.std.proofs.Common.{⊎_elim, ℕ}
use Rattle.std.proofs.lemmas.Bool.{eq-eqb}
use Rattle.std.specs.Prelude.{IsSome, is_some}
use Rattle.std.specs.Cmp.{nat_cmp_total}
use Rattle.std.specs.FinMap.{nat_cmp-IsAntisymmetric}
use Rattle.spec_image.specs.Maps.{get, insert, remove, empty}
use Rattle.spec_image.specs.Files.{Directory, Files, Place, name_cmp, with_quota, files_limited}
use Rattle.spec_image.specs.Published.{SpecVersion, same_place, file_in, file_at, with_file, with_file_in, without_file}
use Rattle.spec_image.specs.Published.{without_file_in}
use Rattle.spec_image.proofs.MapLaws.{some_same, inserted, same_or_other, get-insert_same, get-insert_other}
use Rattle.spec_image.proofs.MapLaws.{get-remove_other, get-remove_is, get-empty}
use Rattle.spec_image.proofs.Names.{name_total, name_exact}

-- the directory of a file that exists
pub directory_of_file : (files : Files SpecVersion) (q : Place) (w : SpecVersion) → file_at files q ≡ Some w
    → (d : Directory SpecVersion) × (get files q.ppn ≡ Some d) × (get d.files q.name ≡ Some w)
directory_of_file files q w is = at (get files q.ppn) refl is
  where
    at : (o : Option (Directory SpecVersion)) → get files q.ppn ≡ o → file_in o q.name ≡ Some w
        → (d : Directory SpecVersion) × (get files q.ppn ≡ Some d) × (get d.files q.name ≡ Some w)
    at None e h = let wrong = h in cc
    at (Some d) e h = (d, e, h)

pub file_of_directory : (files : Files SpecVersion) (q : Place) (d : Directory SpecVersion) (w : SpecVersion)
    → get files q.ppn ≡ Some d → get d.files q.name ≡ Some w → file_at files q ≡ Some w
file_of_directory files q d w e h = ap (λ o. file_in o q.name) e ∙ h

pub some_is : {X : Type 0} (o : Option X) → IsSome o → (x : X) × (o ≡ Some x)
some_is None e = let wrong = e in cc
some_is (Some x) e = (x, refl)

is_some_of : {X : Type 0} (o : Option X) (x : X) → o ≡ Some x → IsSome o
is_some_of o x e = ap is_some e

-- a directory stays if another one is put
pub keeps_insert : (files : Files SpecVersion) (ppn : ℕ) (d : Directory SpecVersion) (q : ℕ) → IsSome (get files q)
    → IsSome (get (insert files ppn d) q)
keeps_insert files ppn d q is = ⊎_elim
    (λ here. is_some_of (get (insert files ppn d) q) d (ap (get (insert files ppn d)) here
    ∙ get-insert_same nat_cmp_total files ppn d))
    (λ other. subst (λ (o : Option (Directory SpecVersion)). IsSome o)
    (sym (get-insert_other nat_cmp_total nat_cmp-IsAntisymmetric files ppn d q other)) is)
    (same_or_other nat_cmp_total nat_cmp-IsAntisymmetric q ppn)

-- A version put at a place.

module _ (files : Files SpecVersion) (place : Place) (v : SpecVersion) where
  found_with : (o : Option (Directory SpecVersion)) → get files place.ppn ≡ o → (q : Place) (w : SpecVersion)
      → file_at (with_file_in o files place v) q ≡ Some w → (file_at files q ≡ Some w) ⊎ (w ≡ v)
  found_with None e q w is = inl is
  found_with (Some d) e q w is =
      let new : Directory SpecVersion = record d { files = insert d.files place.name v } in
      let found = directory_of_file (insert files place.ppn new) q w is in
      ⊎_elim
      (λ here. ⊎_elim (λ same. inr same.1)
      (λ other. inl (file_of_directory files q d w (ap (get files) here.0 ∙ e) other.1))
      (inserted name_total name_exact d.files place.name v q.name w
      (ap (λ (x : Directory SpecVersion). get x.files q.name) (sym here.1) ∙ found.2)))
      (λ other. inl (file_of_directory files q found.0 w other.1 found.2))
      (inserted nat_cmp_total nat_cmp-IsAntisymmetric files place.ppn new q.ppn found.0 found.1)

  stays_with : (o : Option (Directory SpecVersion)) → get files place.ppn ≡ o → (q : Place) → IsSome (file_at files q)
      → IsSome (file_at (with_file_in o files place v) q)
  stays_with None e q is = is
  stays_with (Some d) e q is =
      let new : Directory SpecVersion = record d { files = insert d.files place.name v } in
      let found = some_is (file_at files q) is in
      let at = directory_of_file files q found.0 found.1 in
      ⊎_elim
      (λ here. let same : d ≡ at.0 = some_same (sym e ∙ ap (get files) (sym here) ∙ at.1) in
      let there : get (insert files place.ppn new) q.ppn ≡ Some new = ap (get (insert files place.ppn new)) here
      ∙ get-insert_same nat_cmp_total files place.ppn new in
      ⊎_elim
      (λ name. is_some_of (file_at (insert files place.ppn new) q) v
      (file_of_directory (insert files place.ppn new) q new v there (ap (get new.files) name
      ∙ get-insert_same name_total d.files place.name v)))
      (λ name. is_some_of (file_at (insert files place.ppn new) q) found.0
      (file_of_directory (insert files place.ppn new) q new found.0 there
      (get-insert_other name_total name_exact d.files place.name v q.name name
      ∙ ap (λ (x : Directory SpecVersion). get x.files q.name) same ∙ at.2)))
      (same_or_other name_total name_exact q.name place.name))
      (λ other. is_some_of (file_at (insert files place.ppn new) q) found.0
      (file_of_directory (insert files place.ppn new) q at.0 found.0
      (get-insert_other nat_cmp_total nat_cmp-IsAntisymmetric files place.ppn new q.ppn other ∙ at.1) at.2))
      (same_or_other nat_cmp_total nat_cmp-IsAntisymmetric q.ppn place.ppn)

  pub found_with_file : (q : Place) (w : SpecVersion) → file_at (with_file files place v) q ≡ Some w
      → (file_at files q ≡ Some w) ⊎ (w ≡ v)
  found_with_file q w is = found_with (get files place.ppn) refl q w is

  pub stays_with_file : (q : Place) → IsSome (file_at files q) → IsSome (file_at (with_file files place v) q)
  stays_with_file q is = stays_with (get files place.ppn) refl q is

  keeps_with : (o : Option (Directory SpecVersion)) (q : ℕ) → IsSome (get files q)
      → IsSome (get (with_file_in o files place v) q)
  keeps_with None q is = is
  keeps_with (Some d) q is = keeps_insert files place.ppn (record d { files = insert d.files place.name v }) q is

  pub keeps_with_file : (q : ℕ) → IsSome (get files q) → IsSome (get (with_file files place v) q)
  keeps_with_file q is = keeps_with (get files place.ppn) q is

-- An empty directory made.

module _ (files : Files SpecVersion) (ppn protection quota : ℕ) (none : get files ppn ≡ None) where
  pub found_with_directory : (q : Place) (w : SpecVersion)
      → file_at (insert files ppn (record { protection = protection; quota = quota; files = empty })) q ≡ Some w
      → file_at files q ≡ Some w
  found_with_directory q w is =
      let new : Directory SpecVersion = record { protection = protection; quota = quota; files = empty } in
      let found = directory_of_file (insert files ppn new) q w is in
      ⊎_elim
      (λ here. let wrong = sym (get-empty name_cmp SpecVersion q.name)
      ∙ ap (λ (x : Directory SpecVersion). get x.files q.name) (sym here.1) ∙ found.2 in cc)
      (λ other. file_of_directory files q found.0 w other.1 found.2)
      (inserted nat_cmp_total nat_cmp-IsAntisymmetric files ppn new q.ppn found.0 found.1)

  pub stays_with_directory : (q : Place) → IsSome (file_at files q)
      → IsSome (file_at (insert files ppn (record { protection = protection; quota = quota; files = empty })) q)
  stays_with_directory q is =
      let new : Directory SpecVersion = record { protection = protection; quota = quota; files = empty } in
      let found = some_is (file_at files q) is in
      let at = directory_of_file files q found.0 found.1 in
      ⊎_elim
      (λ here. let wrong = sym none ∙ ap (get files) (sym here) ∙ at.1 in cc)
      (λ other. is_some_of (file_at (insert files ppn new) q) found.0
      (file_of_directory (insert files ppn new) q at.0 found.0
      (get-insert_other nat_cmp_total nat_cmp-IsAntisymmetric files ppn new q.ppn other ∙ at.1) at.2))
      (same_or_other nat_cmp_total nat_cmp-IsAntisymmetric q.ppn ppn)

-- A place that no longer has a file.

itself_same : (a : Place) → same_place a a ≡ true
itself_same a =
    let p = eq-eqb a.ppn a.ppn refl in
    let n = eq-eqb a.name.name a.name.name refl in
    let x = eq-eqb a.name.ext a.name.ext refl in
    rw p (rw n (rw x refl))

module _ (files : Files SpecVersion) (place : Place) where
  found_out : (o : Option (Directory SpecVersion)) → get files place.ppn ≡ o → (q : Place) (w : SpecVersion)
      → file_at (without_file_in o files place) q ≡ Some w → file_at files q ≡ Some w
  found_out None e q w is = is
  found_out (Some d) e q w is =
      let new : Directory SpecVersion = record d { files = remove d.files place.name } in
      let found = directory_of_file (insert files place.ppn new) q w is in
      ⊎_elim
      (λ here. file_of_directory files q d w (ap (get files) here.0 ∙ e)
      (get-remove_is name_total name_exact d.files place.name q.name w
      (ap (λ (x : Directory SpecVersion). get x.files q.name) (sym here.1) ∙ found.2)).1)
      (λ other. file_of_directory files q found.0 w other.1 found.2)
      (inserted nat_cmp_total nat_cmp-IsAntisymmetric files place.ppn new q.ppn found.0 found.1)

  stays_out : (o : Option (Directory SpecVersion)) → get files place.ppn ≡ o → (q : Place) → same_place q place ≡ false
      → IsSome (file_at files q) → IsSome (file_at (without_file_in o files place) q)
  stays_out None e q apart is = is
  stays_out (Some d) e q apart is =
      let new : Directory SpecVersion = record d { files = remove d.files place.name } in
      let found = some_is (file_at files q) is in
      let at = directory_of_file files q found.0 found.1 in
      ⊎_elim
      (λ here. let same : d ≡ at.0 = some_same (sym e ∙ ap (get files) (sym here) ∙ at.1) in
      let there : get (insert files place.ppn new) q.ppn ≡ Some new = ap (get (insert files place.ppn new)) here
      ∙ get-insert_same nat_cmp_total files place.ppn new in
      is_some_of (file_at (insert files place.ppn new) q) found.0
      (file_of_directory (insert files place.ppn new) q new found.0 there
      (get-remove_other name_total name_exact d.files place.name q.name (other_name here)
      ∙ ap (λ (x : Directory SpecVersion). get x.files q.name) same ∙ at.2)))
      (λ other. is_some_of (file_at (insert files place.ppn new) q) found.0
      (file_of_directory (insert files place.ppn new) q at.0 found.0
      (get-insert_other nat_cmp_total nat_cmp-IsAntisymmetric files place.ppn new q.ppn other ∙ at.1) at.2))
      (same_or_other nat_cmp_total nat_cmp-IsAntisymmetric q.ppn place.ppn)
    where
      other_name : q.ppn ≡ place.ppn → q.name ≢ place.name
      other_name ppn name =
          let here : q ≡ place = λ i. record { ppn = ppn i; name = name i } in
          let wrong = sym apart ∙ ap (λ (x : Place). same_place x place) here ∙ itself_same place in cc

  pub found_without_file : (q : Place) (w : SpecVersion) → file_at (without_file files place) q ≡ Some w
      → file_at files q ≡ Some w
  found_without_file q w is = found_out (get files place.ppn) refl q w is

  pub stays_without_file : (q : Place) → same_place q place ≡ false → IsSome (file_at files q)
      → IsSome (file_at (without_file files place) q)
  stays_without_file q apart is = stays_out (get files place.ppn) refl q apart is

  keeps_out : (o : Option (Directory SpecVersion)) (q : ℕ) → IsSome (get files q)
      → IsSome (get (without_file_in o files place) q)
  keeps_out None q is = is
  keeps_out (Some d) q is = keeps_insert files place.ppn (record d { files = remove d.files place.name }) q is

  pub keeps_without_file : (q : ℕ) → IsSome (get files q) → IsSome (get (without_file files place) q)
  keeps_without_file q is = keeps_out (get files place.ppn) q is

-- A directory that is gone.

pub found_without_directory : (files : Files SpecVersion) (ppn : ℕ) (q : Place) (w : SpecVersion)
    → file_at (remove files ppn) q ≡ Some w → file_at files q ≡ Some w
found_without_directory files ppn q w is =
    let found = directory_of_file (remove files ppn) q w is in
    file_of_directory files q found.0 w
    (get-remove_is nat_cmp_total nat_cmp-IsAntisymmetric files ppn q.ppn found.0 found.1).1 found.2

pub stays_without_directory : (files : Files SpecVersion) (ppn : ℕ) (q : Place) → q.ppn ≢ ppn → IsSome (file_at files q)
    → IsSome (file_at (remove files ppn) q)
stays_without_directory files ppn q other is = subst (λ o. IsSome (file_in o q.name))
    (sym (get-remove_other nat_cmp_total nat_cmp-IsAntisymmetric files ppn q.ppn other)) is

pub keeps_without_directory : (files : Files SpecVersion) (ppn q : ℕ) → q ≢ ppn → IsSome (get files q)
    → IsSome (get (remove files ppn) q)
keeps_without_directory files ppn q other is = subst (λ (o : Option (Directory SpecVersion)). IsSome o)
    (sym (get-remove_other nat_cmp_total nat_cmp-IsAntisymmetric files ppn q other)) is

-- A directory with another quota has the files that it had.

module _ (files : Files SpecVersion) (ppn quota : ℕ) where
  file_limited : (o : Option (Directory SpecVersion)) → get files ppn ≡ o → (q : Place)
      → file_at (with_quota files ppn quota o) q ≡ file_at files q
  file_limited None e q = refl
  file_limited (Some d) e q =
      let new : Directory SpecVersion = record d { quota = quota } in
      ⊎_elim
      (λ here. ap (λ o. file_in o q.name) (ap (get (insert files ppn new)) here
      ∙ get-insert_same nat_cmp_total files ppn new) ∙ sym (ap (λ o. file_in o q.name) (ap (get files) here ∙ e)))
      (λ other. ap (λ o. file_in o q.name)
      (get-insert_other nat_cmp_total nat_cmp-IsAntisymmetric files ppn new q.ppn other))
      (same_or_other nat_cmp_total nat_cmp-IsAntisymmetric q.ppn ppn)

  pub file_at-limited : (q : Place) → file_at (files_limited files ppn quota) q ≡ file_at files q
  file_at-limited q = file_limited (get files ppn) refl q

  keeps_quota : (o : Option (Directory SpecVersion)) (q : ℕ) → IsSome (get files q)
      → IsSome (get (with_quota files ppn quota o) q)
  keeps_quota None q is = is
  keeps_quota (Some d) q is = keeps_insert files ppn (record d { quota = quota }) q is

  pub keeps_limited : (q : ℕ) → IsSome (get files q) → IsSome (get (files_limited files ppn quota) q)
  keeps_limited q is = keeps_quota (get files ppn) q is
