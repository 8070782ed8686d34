-- Where an ENTER begins: the directory of a volume that its place names, and the answer, by what is there.
use Rattle.std.proofs.Common.{◌≡◌, ◌<◌, ℕ, Bool, true, false, length, Option, None, Some, Result, Ok, Err, refl, sym}
use Rattle.std.proofs.Common.{ap, subst, ◌∙◌, arith}
use Rattle.std.specs.Prelude.{◌&&◌, ◌||◌, not, if◌then◌else◌, is_none, option_map}
use Rattle.std.specs.Ordering.{nat_cmp}
use Rattle.std.specs.Cmp.{nat_cmp_total}
use Rattle.std.specs.FinMap.{nat_cmp-IsAntisymmetric}
use Rattle.std.specs.FinMap.Entries.{find}
use Rattle.words36.specs.declared.names.FileName.{FileName}
use Rattle.blockdisk.specs.Common.{DiskState}
use Rattle.spec_image.specs.Common.{number_of, File, Directory, Files, map_directory, name_cmp, get, size, SpecVersion}
use Rattle.spec_image.specs.Common.{without_serials, file_in, StoredFile, StoredDirectory, directory_of, IsWhole}
use Rattle.spec_machine.specs.Common.{digit_for_directory, digit_for_version, may_look, may_create, may_supersede}
use Rattle.spec_machine.specs.Common.{directory_digit, file_digit}
use Rattle.spec_image.specs.declared.code.ErrorCode.{ErrorCode}
use Rattle.spec_machine.specs.declared.call.Reply.{Reply}
use Rattle.spec_machine.specs.declared.call.Reply.TheVariants.{Done, Refused}
use Rattle.spec_image.proofs.Common.{some_same, some_none, get-map_values, get-from_entries, name_total, name_exact}
use Rattle.volume.specs.Common.{is_absent, IsDirectoryOf, CurrentDirectory, Before, IsNamed, IsWholeDirectory}
use Rattle.volume.specs.Common.{IsWholeMap, MemoryMap}
use Rattle.volume.specs.declared.pending.PendingKind.{PendingKind}
use Rattle.volume.specs.declared.pending.PendingKind.TheVariants.{Create, Supersede, Update, Append}
use Rattle.volume.proofs.common.Answers.{Holds, directory_none, all_at_place}
use Rattle.volume.proofs.common.Lookups.{first_place}
use Rattle.volume.proofs.common.UsedBlocks.{element_at}
use Rattle.monitor.specs.Common.{found_file, found_in, begun_as, allowed}
use Rattle.monitor.proofs.common.Growths.{matches, shown_at}
use Rattle.spec_machine.specs.Jobs as machine

-- what a directory has under a name
pub named_before : (size : ℕ) (d : CurrentDirectory) → IsWholeDirectory size d → (name : FileName) → (old : Before)
    × IsNamed d name old
named_before size d whole name = by (find name_cmp name d.chain.entries) refl
  where
    by : (was : Option ℕ) → find name_cmp name d.chain.entries ≡ was → (old : Before) × IsNamed d name old
    by None none = (None, none)
    by (Some prime) some =
        let place = first_place name_total name_exact d.chain.entries name prime some in
        let aligned = whole.aligned in
        let within = place.1.within in
        let version = element_at d.versions place.0 (omega arith) in
        (Some (prime, version.0), (place.0, place.1, version.1))

-- the directory that a volume knows under the number of one that is there
pub record IsHome (map : MemoryMap) (files : Files SpecVersion) (ppn : ℕ) (name : FileName)
    (d : Directory SpecVersion) : Type 0 where
  pub known : CurrentDirectory
  pub there : IsDirectoryOf map ppn known
  pub entries : size d.files ≡ length known.chain.entries
  pub absent : is_absent name known ≡ is_none (get d.files name)

-- the directory of the files that a volume knows in this way
pub record IsKnownAs (files : Files SpecVersion) (ppn : ℕ) (name : FileName) (known : CurrentDirectory) : Type 0 where
  pub directory : Directory SpecVersion
  pub there : get files ppn ≡ Some directory
  pub entries : size directory.files ≡ length known.chain.entries
  pub absent : is_absent name known ≡ is_none (get directory.files name)
  pub few : (v : SpecVersion) → get directory.files name ≡ Some v → v.file.protection < 512

module _ (d : DiskState) (map : MemoryMap) (files : Files SpecVersion)
    (holds : Holds d map.known (without_serials files))
    (whole : IsWholeMap d.size map.known) (ppn : ℕ) where
  pub listed : (x : Directory SpecVersion) → get files ppn ≡ Some x → find nat_cmp ppn map.known.master.entries ≡ None
      → ⊥
  listed x there none = some_none (sym (shown_at files ppn
      ∙ ap (option_map (map_directory (λ (v : SpecVersion). v.file))) there)
      ∙ directory_none d map.known (without_serials files) holds ppn none)

  -- a directory that a volume knows
  pub home_of : (name : FileName) (x : CurrentDirectory) (there : IsDirectoryOf map ppn x) → IsKnownAs files ppn name x
  home_of name x there =
      let at = there.2 in
      let whole_at = all_at_place (IsWholeDirectory d.size) map.known.directories there.0 x whole.each there.3 in
      let match = matches d map.known files holds whole there.0 (ppn, there.1) x at.is there.3 whole_at in
      let found = holds.held.known.each there.0 (ppn, there.1) x at.is there.3 in
      let stored_is : get (without_serials files) ppn
      ≡ Some (directory_of found.0) = ap (λ f. get f ppn) (sym holds.files_are)
      ∙ get-map_values nat_cmp_total directory_of holds.map.directories ppn ∙ ap (option_map directory_of) found.1 in
      let shown : map_directory (λ (v : SpecVersion). v.file) match.directory
      ≡ directory_of found.0 = some_same (sym (shown_at files ppn
      ∙ ap (option_map (map_directory (λ (v : SpecVersion). v.file))) match.there) ∙ stored_is) in
      let names : option_map (λ (f : StoredFile). f.file) (get found.0.files name)
      ≡ option_map (λ (v : SpecVersion). v.file) (get match.directory.files name) =
      sym (get-map_values name_total (λ (f : StoredFile). f.file) found.0.files name)
      ∙ ap (λ (z : Directory File). get z.files name) (sym shown)
      ∙ get-map_values name_total (λ (v : SpecVersion). v.file) match.directory.files name in record {
        directory = match.directory;
        there = match.there;
        entries = match.size_is;
        absent = ap is_none (sym (get-from_entries name_total x.chain.entries name)
            ∙ ap (λ m. get m name) (sym found.2.names)
            ∙ get-map_values name_total (λ (f : StoredFile). f.prime) found.0.files name)
            ∙ prime_shown (get found.0.files name) ∙ ap is_none names ∙ name_shown (get match.directory.files name);
        few = λ v is. few (holds.held.stands.mapped.directories ppn found.0 found.1) v (get found.0.files name) refl
            (names ∙ ap (option_map (λ (v : SpecVersion). v.file)) is);
      }
    where
      name_shown : (was : Option SpecVersion) → is_none (option_map (λ (v : SpecVersion). v.file) was) ≡ is_none was
      name_shown None = refl
      name_shown (Some v) = refl

      prime_shown : (was : Option StoredFile) → is_none (option_map (λ (f : StoredFile). f.prime) was)
          ≡ is_none (option_map (λ (f : StoredFile). f.file) was)
      prime_shown None = refl
      prime_shown (Some f) = refl

      few : {stored : StoredDirectory} → IsWhole holds.map.layout d.contents ppn stored
          → (v : SpecVersion) (was : Option StoredFile) → get stored.files name ≡ was
          → option_map (λ (f : StoredFile). f.file) was ≡ Some v.file → v.file.protection < 512
      few whole v None at is = absurd (some_none (sym is))
      few whole v (Some f) at is = subst (λ (y : File). y.protection < 512) (some_same is)
          (whole.files name f at).retrieved.fits.protection

  pub home : (name : FileName) (x : Directory SpecVersion) → get files ppn ≡ Some x → IsHome map files ppn name x
  home name x there = by (find nat_cmp ppn map.known.master.entries) refl
    where
      by : (was : Option (ℕ × ℕ)) → find nat_cmp ppn map.known.master.entries ≡ was → IsHome map files ppn name x
      by None none = absurd (listed x there none)
      by (Some v) some =
          let place = first_place nat_cmp_total nat_cmp-IsAntisymmetric map.known.master.entries ppn v some in
          let aligned = whole.aligned in
          let within = place.1.within in
          let at = element_at map.known.directories place.0 (omega arith) in
          let h = home_of name at.0 (place.0, v, place.1, at.1) in
          let same : h.directory ≡ x = some_same (sym h.there ∙ there) in
          record {
            known = at.0;
            there = (place.0, v, place.1, at.1);
            entries = ap (λ (z : Directory SpecVersion). size z.files) (sym same) ∙ h.entries;
            absent = h.absent ∙ ap (λ (z : Directory SpecVersion). is_none (get z.files name)) same;
          }

-- What is answered.

-- by how a job may begin, and whether there is room for a new file or for another version
abbrev pub begin_reply : Result PendingKind ErrorCode → Bool → Bool → Reply
begin_reply (Err code) new_full old_full = Refused (number_of code)
begin_reply (Ok Create) new_full old_full = if new_full then Refused 0o14 else Done
begin_reply (Ok Supersede) new_full old_full = if old_full then Refused 0o14 else Done
begin_reply (Ok Update) new_full old_full = if old_full then Refused 0o14 else Done
begin_reply (Ok Append) new_full old_full = if old_full then Refused 0o14 else Done

-- the same as the machine has it
abbrev pub begin_at : ℕ → ℕ → FileName → Option (Directory SpecVersion) → machine.SpecJob → Bool → Bool → Bool → Bool
    → Reply
begin_at who owner name o job is_zero claimed new_full old_full =
    if is_none o then Refused 1
    else if is_zero then Refused 0
    else if is_none (file_in o name)
    then (if not (may_create (digit_for_directory job owner o)) then Refused 2 else if claimed then Refused 3
    else if new_full then Refused 0o14 else Done)
    else (if not (may_look (digit_for_directory job owner o))
    || not (may_supersede (digit_for_version job owner (file_in o name))) then Refused 2 else if claimed
    then Refused 3 else if old_full then Refused 0o14 else Done)

new_reply : (is_zero may claimed full old_full : Bool)
    → (if is_zero then Refused 0 else if not may then Refused 2 else if claimed then Refused 3 else if full
    then Refused 0o14 else Done) ≡ begin_reply (begun_as Create may is_zero claimed) full old_full
new_reply true may claimed full old_full = refl
new_reply false false claimed full old_full = refl
new_reply false true true full old_full = refl
new_reply false true false full old_full = refl

old_reply : (is_zero look supersede claimed full new_full : Bool)
    → (if is_zero then Refused 0 else if not look || not supersede then Refused 2 else if claimed then Refused 3
    else if full then Refused 0o14 else Done)
    ≡ begin_reply (begun_as Supersede (look && supersede) is_zero claimed) new_full full
old_reply true look supersede claimed full new_full = refl
old_reply false false supersede claimed full new_full = refl
old_reply false true false claimed full new_full = refl
old_reply false true true true full new_full = refl
old_reply false true true false full new_full = refl

pub begin_is : (name : FileName) (owner : ℕ) (job : machine.SpecJob) (o : Option (Directory SpecVersion))
    (is_zero claimed new_full old_full : Bool)
    → begin_at job.ppn owner name o job is_zero claimed new_full old_full
    ≡ begin_reply (allowed (found_in (option_map (map_directory (λ (v : SpecVersion). v.file)) o) name) job.ppn
    owner is_zero claimed) new_full old_full
begin_is name owner job None is_zero claimed new_full old_full = refl
begin_is name owner job (Some d) is_zero claimed new_full old_full =
    by (get d.files name) ∙ ap (λ f. begin_reply (allowed (found_file d.protection f) job.ppn owner is_zero claimed)
    new_full old_full) (sym (get-map_values name_total (λ (v : SpecVersion). v.file) d.files name))
  where
    answer_for : Option SpecVersion → Reply
    answer_for was =
        if is_zero then Refused 0
        else if is_none was
        then (if not (may_create (directory_digit d.protection job.ppn owner)) then Refused 2 else if claimed
        then Refused 3 else if new_full then Refused 0o14 else Done)
        else (if not (may_look (directory_digit d.protection job.ppn owner))
        || not (may_supersede (digit_for_version job owner was)) then Refused 2 else if claimed then Refused 3
        else if old_full then Refused 0o14 else Done)

    by : (was : Option SpecVersion) → answer_for was
        ≡ begin_reply (allowed (found_file d.protection (option_map (λ (v : SpecVersion). v.file) was)) job.ppn
        owner is_zero claimed) new_full old_full
    by None = new_reply is_zero (may_create (directory_digit d.protection job.ppn owner)) claimed new_full old_full
    by (Some v) = old_reply is_zero (may_look (directory_digit d.protection job.ppn owner))
        (may_supersede (file_digit v.file.protection job.ppn owner)) claimed old_full new_full
