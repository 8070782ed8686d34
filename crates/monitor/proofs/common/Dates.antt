-- Dates that a layout holds: the last one, those of files, and their high bits in the words of a core.
use Rattle.std.proofs.Common.{◌≡◌, ◌<◌, ◌≤◌, ◌+◌, ◌-◌, ◌*◌, ◌/◌, ◌^◌, ℕ, Bool, true, false, List, [], ◌∷◌, Option}
use Rattle.std.proofs.Common.{None, Some, refl, sym, ap, subst, ◌∙◌, arith}
use Rattle.std.specs.Prelude.{◌==◌, if◌then◌else◌, slice_index, option_map}
use Rattle.std.specs.Cmp.{nat_cmp_total}
use Rattle.words36.specs.Common.{left, join}
use Rattle.words36.specs.declared.names.FileName.{FileName}
use Rattle.blockdisk.specs.Common.{DiskState}
use Rattle.spec_image.specs.Common.{File, Files, Directory, Place, map_directory, SettledStandsOn, pack_of, get}
use Rattle.spec_image.specs.Common.{SpecVersion, attributes, file_at, file_in, without_serials, date_limit, StoredFile}
use Rattle.spec_image.specs.Common.{StoredDirectory, directory_of}
use Rattle.spec_machine.specs.Common.{high_date, with_attributes, after_writes, last_date}
use Rattle.spec_image.proofs.Common.{some_same, some_none, get-map_values, name_total}
use Rattle.volume.specs.Common.{RestsAt}
use Rattle.monitor.specs.Common.{named_in}
use Rattle.monitor.proofs.common.Growths.{shown_at}

-- The last date of a layout.

last_below : (b : Bool) (date : ℕ) → date ≤ (if b then 2 ^ 12 - 1 else 2 ^ 15 - 1)
    → date < (if b then 2 ^ 12 else 2 ^ 15)
last_below true date h = omega arith
last_below false date h = omega arith

pub in_time : (layout date : ℕ) → date ≤ last_date layout → date < date_limit layout
in_time layout date = last_below (layout == 1) date

last_of : (b : Bool) (n : ℕ) → n + 1 ≡ (if b then 2 ^ 12 else 2 ^ 15) → n ≡ (if b then 2 ^ 12 - 1 else 2 ^ 15 - 1)
last_of true n h = omega arith
last_of false n h = omega arith

last_is : (layout n : ℕ) → n + 1 ≡ date_limit layout → n ≡ last_date layout
last_is layout = last_of (layout == 1)

-- a date that is tested by what `Layout::last_date` answers
pub late_in : (layout n date : ℕ) → n + 1 ≡ date_limit layout → n < date → last_date layout < date
late_in layout n date is past = subst (λ (k : ℕ). k < date) (last_is layout n is) past

pub timely_in : (layout n date : ℕ) → n + 1 ≡ date_limit layout → date ≤ n → date ≤ last_date layout
timely_in layout n date is timely = subst (λ (k : ℕ). date ≤ k) (last_is layout n is) timely

-- Its high bits are 0 if the layout has no place for them.

high_as : (b : Bool) (date : ℕ) → date < (if b then 2 ^ 12 else 2 ^ 15)
    → date / 4096 * 2 ^ 15 ≡ (if b then 0 else date / 4096 * 2 ^ 15)
high_as true date h = omega arith
high_as false date h = refl

high_same : (layout date : ℕ) → date < date_limit layout → high_date 2 date ≡ high_date layout date
high_same layout date = high_as (layout == 1) date

pub attributes_in : (layout : ℕ) (core : List ℕ) (e : ℕ) (f : File) → f.date < date_limit layout
    → with_attributes 2 core e f ≡ with_attributes layout core e f
attributes_in layout core e f dated = ap (λ (high : ℕ). after_writes core
    ((e + 1, join (left (slice_index core (e + 1))) high) ∷ (e + 2, attributes f) ∷ []))
    (high_same layout f.date dated)

-- Each file of a disk has a date that the layout holds.

module _ (d : DiskState) (files : Files File) (rest : RestsAt d files) where
  -- what it stands for
  stands : SettledStandsOn (pack_of d) d.contents files
  stands = rest.all d.contents (λ n closed. refl)

  pub file_dated : (ppn : ℕ) (name : FileName) (file : File) → named_in (get files ppn) name ≡ Some file
      → file.date < date_limit (pack_of d).layout
  file_dated ppn name file is =
      by (get stands.0.directories ppn) refl
      (ap (λ o. named_in o name) (sym (get-map_values nat_cmp_total directory_of stands.0.directories ppn)
      ∙ ap (λ f. get f ppn) stands.2) ∙ is)
    where
      in_stored : (stored : StoredDirectory) → get stands.0.directories ppn ≡ Some stored → (was : Option StoredFile)
          → get stored.files name ≡ was → option_map (λ (f : StoredFile). f.file) was ≡ Some file
          → file.date < date_limit (pack_of d).layout
      in_stored stored at None named shown = absurd (some_none (sym shown))
      in_stored stored at (Some f) named shown =
          let fits = ((stands.1.mapped.directories ppn stored at).files name f named).retrieved.fits in
          subst (λ (layout : ℕ). file.date < date_limit layout) stands.3
          (subst (λ (x : File). x.date < date_limit stands.0.layout) (some_same shown) fits.date)

      by : (was : Option StoredDirectory) → get stands.0.directories ppn ≡ was
          → named_in (option_map directory_of was) name ≡ Some file → file.date < date_limit (pack_of d).layout
      by None at named = absurd (some_none (sym named))
      by (Some stored) at named = in_stored stored at (get stored.files name) refl
          (sym (get-map_values name_total (λ (f : StoredFile). f.file) stored.files name) ∙ named)

pub shown_file : (o : Option (Directory SpecVersion)) (name : FileName) (x : SpecVersion) → file_in o name ≡ Some x
    → named_in (option_map (map_directory (λ (v : SpecVersion). v.file)) o) name ≡ Some x.file
shown_file None name x is = absurd (some_none (sym is))
shown_file (Some dir) name x is = get-map_values name_total (λ (v : SpecVersion). v.file) dir.files name
    ∙ ap (option_map (λ (v : SpecVersion). v.file)) is

-- and so has each version that is current
pub version_dated : (d : DiskState) (files : Files SpecVersion) → RestsAt d (without_serials files) → (place : Place)
    (x : SpecVersion) → file_at files place ≡ Some x → x.file.date < date_limit (pack_of d).layout
version_dated d files rest place x is =
    file_dated d (without_serials files) rest place.ppn place.name x.file
    (ap (λ o. named_in o place.name) (shown_at files place.ppn) ∙ shown_file (get files place.ppn) place.name x is)
