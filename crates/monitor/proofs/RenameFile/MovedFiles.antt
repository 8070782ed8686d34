-- A file moves to another place: the files with and without serials, what each place has, and the serials, which stay
-- the same numbers.
use Rattle.std.proofs.Common.{◌≡◌, ◌≢◌, ◌+◌, ℕ, false, Option, Some, None, refl, sym, ap, ◌∙◌, ◌⊎◌, inl, inr, ⊎_elim}
use Rattle.std.proofs.Common.{arith}
use Rattle.std.specs.Prelude.{is_some, option_map}
use Rattle.std.specs.Cmp.{nat_cmp_total}
use Rattle.std.specs.FinMap.{nat_cmp-IsAntisymmetric}
use Rattle.spec_image.specs.Common.{File, Files, Directory, Place, map_directory, get, insert, remove, values}
use Rattle.spec_image.specs.Common.{SpecVersion, without_serials, file_in, file_at, with_file, with_file_in}
use Rattle.spec_image.specs.Common.{without_file}
use Rattle.spec_image.specs.Common.{without_file_in, with_protection}
use Rattle.spec_machine.specs.Common.{files_moved, has_serial, HaveDistinctSerials}
use Rattle.spec_image.proofs.Common.{same_or_other, get-insert_same, get-removed, get-map_values, sum-values}
use Rattle.spec_image.proofs.Common.{sum-insert_new, sum-insert_over, name_total, name_exact, some_is}
use Rattle.spec_image.proofs.Common.{keeps_without_file}
use Rattle.volume.specs.Common.{files_published}
use Rattle.monitor.proofs.RenameFile.DeletedFiles.{files_left, left_elsewhere, copies_left}
use Rattle.monitor.proofs.common.Growths.{shown_at}
use Rattle.monitor.proofs.CloseChannel.PublishedFiles.{files_with, put_elsewhere}
use Rattle.monitor.proofs.common.Copies.{with_serial, copies, none_copies, copies_none, distinct_few, few_distinct}
use Rattle.monitor.proofs.common.Copies.{copies-files, versions_in}
use Rattle.spec_machine.proofs.Common.{at_there}
use Rattle.volume.specs.RenameFile as volume

-- The files alone.

abbrev shown : Directory SpecVersion → Directory File
shown d = map_directory (λ v. v.file) d

-- what a place has is shown
pub shown_file : (files : Files SpecVersion) (place : Place)
    → volume.file_in (get (without_serials files) place.ppn) place.name
    ≡ option_map (λ (v : SpecVersion). v.file) (file_at files place)
shown_file files place = ap (λ o. volume.file_in o place.name) (shown_at files place.ppn)
    ∙ by (get files place.ppn)
  where
    by : (o : Option (Directory SpecVersion)) → volume.file_in (option_map shown o) place.name
        ≡ option_map (λ (v : SpecVersion). v.file) (file_in o place.name)
    by None = refl
    by (Some d) = get-map_values name_total (λ (v : SpecVersion). v.file) d.files place.name

-- The volume moves it as the machine does.
pub shown_moved : (files : Files SpecVersion) (old new : Place) (protection : ℕ) (x : SpecVersion)
    → file_at files old ≡ Some x
    → without_serials (files_moved files old new protection (Some x))
    ≡ volume.files_moved (without_serials files) old.ppn old.name new.ppn new.name protection
shown_moved files old new protection x at =
    files_with (without_file files old) new (with_protection x protection)
    ∙ ap (λ fs. files_published fs new.ppn new.name (volume.file_protected x.file protection)) (files_left files old)
    ∙ ap (λ o. volume.files_moved_as o (without_serials files) old.ppn old.name new.ppn new.name protection)
    (sym (shown_file files old ∙ ap (option_map (λ (v : SpecVersion). v.file)) at))

-- What a place has.

pub same_or_another : (p q : Place) → (p ≡ q) ⊎ (p ≢ q)
same_or_another p q = ⊎_elim
    (λ (here : p.ppn ≡ q.ppn). ⊎_elim
    (λ (name : p.name ≡ q.name). inl (λ i. record { ppn = here i; name = name i }))
    (λ apart. inr (λ same. apart (ap (λ (r : Place). r.name) same)))
    (same_or_other name_total name_exact p.name q.name))
    (λ apart. inr (λ same. apart (ap (λ (r : Place). r.ppn) same)))
    (same_or_other nat_cmp_total nat_cmp-IsAntisymmetric p.ppn q.ppn)

-- if a directory is there, a file that is put into it is found,
put_there : (files : Files SpecVersion) (place : Place) (d : Directory SpecVersion) (v : SpecVersion)
    → get files place.ppn ≡ Some d
    → file_at (with_file files place v) place ≡ Some v
put_there files place d v is =
    let new : Directory SpecVersion = record d { files = insert d.files place.name v } in
    ap (λ o. file_at (with_file_in o files place v) place) is
    ∙ at_there (insert files place.ppn new) place new (get-insert_same nat_cmp_total files place.ppn new)
    ∙ get-insert_same name_total d.files place.name v

-- and one that is taken away isn't
out_there : (files : Files SpecVersion) (place : Place) → file_at (without_file files place) place ≡ None
out_there files place = by (get files place.ppn) refl
  where
    by : (o : Option (Directory SpecVersion)) → get files place.ppn ≡ o → file_at (without_file_in o files place) place
        ≡ None
    by None is = ap (λ o. file_in o place.name) is
    by (Some d) is =
        let thinner : Directory SpecVersion = record d { files = remove d.files place.name } in
        at_there (insert files place.ppn thinner) place thinner (get-insert_same nat_cmp_total files place.ppn thinner)
        ∙ get-removed name_total d.files place.name

-- Serials.

-- a version is put where none is
copies_new : (k : ℕ) (files : Files SpecVersion) (place : Place) (d : Directory SpecVersion) (v : SpecVersion)
    → get files place.ppn ≡ Some d → file_at files place ≡ None
    → copies k (versions_in (with_file files place v)) ≡ copies k (versions_in files) + with_serial k v
copies_new k files place d v is none =
    let new : Directory SpecVersion = record d { files = insert d.files place.name v } in
    let put : copies k (versions_in (with_file files place v)) ≡ copies k (versions_in (insert files place.ppn new)) =
    ap (λ o. copies k (versions_in (with_file_in o files place v))) is in
    let free : get d.files place.name ≡ None = sym (at_there files place d is) ∙ none in
    let in_files = sum-insert_over nat_cmp_total nat_cmp-IsAntisymmetric
    (λ (x : Directory SpecVersion). copies k (values x.files)) files place.ppn new d is in
    let in_names = sum-insert_new name_total name_exact (with_serial k) d.files place.name v free in
    let all = copies-files k files in
    let all' = copies-files k (insert files place.ppn new) in
    let was = sum-values (with_serial k) d.files in
    let now = sum-values (with_serial k) new.files in
    omega arith

-- The move.
module _ (files : Files SpecVersion) (old new : Place) (protection : ℕ) (x : SpecVersion)
    (at : file_at files old ≡ Some x)
    (d : Directory SpecVersion) (housed : get files new.ppn ≡ Some d) where
  abbrev pub moved : Files SpecVersion
  moved = files_moved files old new protection (Some x)

  abbrev out : Files SpecVersion
  out = without_file files old

  still : (e : Directory SpecVersion) × (get out new.ppn ≡ Some e)
  still = some_is (get out new.ppn) (keeps_without_file files old new.ppn (ap is_some housed))

  pub moved_here : file_at moved new ≡ Some (with_protection x protection)
  moved_here = put_there out new still.0 (with_protection x protection) still.1

  pub moved_elsewhere : (q : Place) → q ≢ old → q ≢ new → file_at moved q ≡ file_at files q
  moved_elsewhere q apart other = put_elsewhere out new (with_protection x protection) q other
      ∙ left_elsewhere files old q apart

  module _ (free : new ≢ old → file_at files new ≡ None) where
    vacant : file_at out new ≡ None
    vacant = ⊎_elim
        (λ (same : new ≡ old). ap (file_at out) same ∙ out_there files old)
        (λ apart. left_elsewhere files old new apart ∙ free apart)
        (same_or_another new old)

    copies_moved : (k : ℕ) → copies k (versions_in moved) ≡ copies k (versions_in files)
    copies_moved k =
        let put = copies_new k out new still.0 (with_protection x protection) still.1 vacant in
        let gone = copies_left files old x at k in
        omega arith

    pub distinct_moved : HaveDistinctSerials (versions_in files) → HaveDistinctSerials (versions_in moved)
    distinct_moved distinct = few_distinct (versions_in moved)
        (λ k. let few = distinct_few (versions_in files) distinct k in let same = copies_moved k in omega arith)

    -- a serial that no version has is still none's
    pub none_moved : (k : ℕ) → has_serial k (versions_in files) ≡ false → has_serial k (versions_in moved) ≡ false
    none_moved k none = copies_none (versions_in moved) k (copies_moved k ∙ none_copies (versions_in files) k none)
