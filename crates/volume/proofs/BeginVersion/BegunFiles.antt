-- A version that begins with the file of its place has that file's words, and costs what the file does.
use Rattle.std.proofs.Common.{◌≡◌, ◌↔◌, inl, inr, ℕ, ◌+◌, ◌<◌, Bool, true, false, [], length, Option, Some, None}
use Rattle.std.proofs.Common.{is_none, if◌then◌else◌, Result, Ok, Err, IsErrOf, refl, sym, ap, subst, ◌∙◌, arith}
use Rattle.std.specs.Cmp.{nat_cmp_total}
use Rattle.std.specs.Ordering.{nat_cmp}
use Rattle.std.specs.FinMap.{nat_cmp-IsAntisymmetric}
use Rattle.std.specs.FinMap.Entries.{find}
use Rattle.words36.specs.declared.names.FileName.{FileName}
use Rattle.blockdisk.specs.Common.{DiskState}
use Rattle.spec_image.specs.declared.code.ErrorCode.TheVariants.{NoDirectory, NotFound, NoRoom}
use Rattle.spec_image.specs.Common.{blocks_of, cost_of_blocks, version_cost, File, Directory, Files, name_cmp}
use Rattle.spec_image.specs.Common.{pack_of, get, date_limit, directory_of}
use Rattle.spec_image.proofs.Common.{some_same, name_total, name_exact}
use Rattle.alloctab.specs.Common.{space}
use Rattle.retrieval.specs.declared.prime.Prime.{Prime}
use Rattle.volume.specs.Common.{is_update, begin_cost, entries_with, begun, shared_prime, IsBegun, IsDirectoryOf}
use Rattle.volume.specs.Common.{CurrentVersion, CurrentDirectory, Before, IsNamed, IsWholeVersion, IsWholeDirectory}
use Rattle.volume.specs.Common.{cost_of_version, MemoryMap, pending_at, as_written, is_create, IsWholeMemory, IsNoFile}
use Rattle.volume.specs.Common.{IsVersionOf, IsFilePinned, IsPinAnswer, BeginsWithFile, HasSomeBody, IsSoundMemory}
use Rattle.volume.specs.Common.{RestsAt}
use Rattle.volume.specs.declared.error.CallError.{CallError}
use Rattle.volume.specs.declared.error.CallError.TheVariants.{Refused}
use Rattle.volume.specs.declared.handles.Pin.{Pin}
use Rattle.volume.specs.declared.pending.PendingKind.{PendingKind}
use Rattle.volume.specs.declared.pending.PendingKind.TheVariants.{Create, Supersede, Update, Append}
use Rattle.volume.proofs.common.Answers.{Holds, rest_holds, all_at_place}
use Rattle.volume.proofs.common.Lookups.{first_place}
use Rattle.volume.proofs.common.FileDates.{known_dated}
use Rattle.volume.proofs.common.UsedBlocks.{element_at}
use Rattle.volume.proofs.common.Packs.{pack_held}
use Rattle.volume.proofs.PinVersion.PinnedFiles.{IsFileOf, named_file, file_body, at_rest_holds, pin_refused}

module _ (s : DiskState) (c c' : MemoryMap) (failed : Bool) (key : ℕ) (kind : PendingKind) (prime : Prime)
    (sound : IsSoundMemory s c failed) (begins : IsBegun c c' key kind prime) (h : s.honest) (ok : failed ≡ false) where
  file_before : (files : Files File) → Holds s c.known files → (v : ℕ × CurrentVersion) → begins.old ≡ Some v
      → IsFileOf s files prime.ppn prime.file v.1
  file_before files holds v is = named_file s c files holds prime.ppn prime.file begins.directory v begins.there
      (subst (IsNamed begins.directory prime.file) is begins.named)

  -- the version before has its words
  pub body_before : (v : ℕ × CurrentVersion) → begins.old ≡ Some v → HasSomeBody s.contents v.1.version
  body_before v is =
      let holds = at_rest_holds s c failed sound h ok in
      let file = file_before holds.0 holds.1 v is in
      file_body s.contents v.1 file.file file.version_is

  -- and the layout has room for its moment, and so for that of what begins with it
  pub date_before : prime.moment.date < date_limit (pack_of s).layout
      → (begun kind prime begins.old).prime.moment.date < date_limit (pack_of s).layout
  date_before timely = by (is_update kind) begins.old refl
    where
      by : (b : Bool) (old : Before) → begins.old ≡ old
          → (if b then shared_prime prime old else prime).moment.date < date_limit (pack_of s).layout
      by false old is = timely
      by true None is = timely
      by true (Some v) is =
          let own = sound.rest h ok in
          let there = begins.there in
          subst (λ (layout : ℕ). v.1.prime.moment.date < date_limit layout) (pack_held s c.known own.map own.rest)
          (known_dated s.size c.known own.map s.contents (own.rest.all s.contents (λ n closed. refl)) prime.ppn
          begins.directory there.0 there.1 there.2 there.3 prime.file v
          (subst (IsNamed begins.directory prime.file) is begins.named))

  version_begun : (l : PendingKind) (v : ℕ × CurrentVersion) (file : File) → is_update l ≡ true
      → IsVersionOf s.contents v.1 file → IsVersionOf s.contents (as_written (begun l prime (Some v))) file
  version_begun Create v file updates is = cc
  version_begun Supersede v file updates is = cc
  version_begun Update v file updates is = record {
    protection = is.protection;
    mode = is.mode;
    time = is.time;
    date = is.date;
    words = is.words;
    body = is.body;
  }
  version_begun Append v file updates is = record {
    protection = is.protection;
    mode = is.mode;
    time = is.time;
    date = is.date;
    words = is.words;
    body = is.body;
  }

  no_creation : (l : PendingKind) → is_update l ≡ true → is_create l ≡ true → ⊥
  no_creation Create updates creates = cc
  no_creation Supersede updates creates = cc
  no_creation Update updates creates = cc
  no_creation Append updates creates = cc

  pub begins_with : (files : Files File) → RestsAt s files → is_update kind ≡ true
      → BeginsWithFile s.contents (pending_at c'.pending key) prime.file (get files prime.ppn)
  begins_with files rest updates = by begins.old refl begins.here
    where
      by : (prior : Before) → begins.old ≡ prior → pending_at c'.pending key ≡ Some (begun kind prime begins.old)
          → BeginsWithFile s.contents (pending_at c'.pending key) prime.file (get files prime.ppn)
      by None is here = absurd (no_creation kind updates (begins.is_new ∙ ap is_none is))
      by (Some v) is here =
          let file = file_before files (rest_holds s c failed sound h ok files rest) v is in (
            begun kind prime (Some v),
            here ∙ ap (λ (q : Before). Some (begun kind prime q)) is,
            directory_of file.stored,
            file.get_is,
            file.file,
            file.file_is,
            version_begun kind v file.file updates file.version_is,
          )

-- An error that is passed on is returned.
pub handed_on : {X Y C : Type 0} (answer : Result Y CallError) (error refused : CallError) → answer ≡ Err error
    → (IsErrOf {T = X} (Err error) refused ↔ C) → (IsErrOf answer refused ↔ C)
handed_on answer error refused is given = (
  λ said. given.0 (let both : Err error ≡ Err refused = sym is ∙ said in let same : error ≡ refused = cc in
      ap Err same),
  λ so. let was = given.1 so in let same : error ≡ refused = cc in is ∙ ap Err same,
)

-- one that is not refused is not, whatever it answers
pub not_refused : {X Y C : Type 0} (x : X) (y : Y) (refused : CallError) → (IsErrOf {T = X} (Ok x) refused ↔ C)
    → (IsErrOf {T = Y} (Ok y) refused ↔ C)
not_refused x y refused given = (λ said. absurd (cc), λ so. absurd (let no = given.1 so in cc))

-- The version that memory has of a file, which costs what the file does.
pub record IsFileKnown (c : MemoryMap) (ppn : ℕ) (name : FileName) (file : File) : Type 0 where
  pub directory : CurrentDirectory
  pub there : IsDirectoryOf c ppn directory
  pub version : ℕ × CurrentVersion
  pub named : IsNamed directory name (Some version)
  pub cost : cost_of_version version.1 ≡ version_cost (length file.body)

module _ (s : DiskState) (c : MemoryMap) (failed : Bool) (sound : IsSoundMemory s c failed) (h : s.honest)
    (ok : failed ≡ false) (files : Files File) (rest : RestsAt s files) (ppn : ℕ) (name : FileName)
    (directory : Directory File) (there : get files ppn ≡ Some directory) (file : File)
    (has : get directory.files name ≡ Some file) where
  holds : Holds s c.known files
  holds = rest_holds s c failed sound h ok files rest

  -- memory has it
  not_missing : (error : CallError) → IsNoFile c ppn name error → ⊥
  not_missing error none =
      let refused : Result Pin CallError = Err error in
      let answered = pin_refused s c files holds ppn name [] error refused refl none in
      let of_directory : IsFilePinned s.contents [] refused (get directory.files name) =
      subst (IsPinAnswer s.contents [] name refused) there answered in
      let of_file : IsFilePinned s.contents [] refused (Some file) =
      subst (IsFilePinned s.contents [] refused) has of_directory in
      let no : refused ≡ Ok of_file.0 = of_file.1 in
      cc

  file_cost : (d : CurrentDirectory) → IsDirectoryOf c ppn d → (v : ℕ × CurrentVersion) → IsNamed d name (Some v)
      → cost_of_version v.1 ≡ version_cost (length file.body)
  file_cost d at v named =
      let is = named_file s c files holds ppn name d v at named in
      let same : directory_of is.stored ≡ directory = some_same (sym is.get_is ∙ there) in
      let file_is : is.file ≡ file = some_same (sym is.file_is
      ∙ ap (λ (z : Directory File). get z.files name) same ∙ has) in
      let whole_d = all_at_place (IsWholeDirectory s.size) c.known.directories at.0 d sound.whole.map.each at.3 in
      let whole_v = all_at_place IsWholeVersion d.versions named.0 v.1 whole_d.versions named.2 in
      ap cost_of_blocks (whole_v.counted ∙ ap blocks_of (is.version_is.words
      ∙ ap (λ (f : File). length f.body) file_is))

  pub file_known : IsFileKnown c ppn name file
  file_known = by (find nat_cmp ppn c.known.master.entries) refl
    where
      named_in : (d : CurrentDirectory) (at : IsDirectoryOf c ppn d) (was : Option ℕ)
          → find name_cmp name d.chain.entries ≡ was → IsFileKnown c ppn name file
      named_in d at None none =
          absurd (not_missing (Refused NotFound) (inr (at.0, at.1, at.2, d, at.3, none, refl)))
      named_in d at (Some prime) some =
          let whole_d = all_at_place (IsWholeDirectory s.size) c.known.directories at.0 d sound.whole.map.each at.3 in
          let place = first_place name_total name_exact d.chain.entries name prime some in
          let aligned = whole_d.aligned in
          let within = place.1.within in
          let version = element_at d.versions place.0 (omega arith) in
          record {
            directory = d;
            there = at;
            version = (prime, version.0);
            named = (place.0, place.1, version.1);
            cost = file_cost d at (prime, version.0) (place.0, place.1, version.1);
          }

      by : (was : Option (ℕ × ℕ)) → find nat_cmp ppn c.known.master.entries ≡ was → IsFileKnown c ppn name file
      by None none = absurd (not_missing (Refused NoDirectory) (inl (none, refl)))
      by (Some w) some =
          let place = first_place nat_cmp_total nat_cmp-IsAntisymmetric c.known.master.entries ppn w some in
          let aligned = sound.whole.map.aligned in
          let within = place.1.within in
          let d = element_at c.known.directories place.0 (omega arith) in
          named_in d.0 (place.0, w, place.1, d.1) (find name_cmp name d.0.chain.entries) refl

-- what a version costs that begins with another, and that it is no creation
pub begins_with_cost : (kind : PendingKind) (entries : ℕ) (v : ℕ × CurrentVersion) → is_update kind ≡ true
    → begin_cost kind entries (Some v) ≡ cost_of_version v.1
begins_with_cost Create entries v updates = cc
begins_with_cost Supersede entries v updates = cc
begins_with_cost Update entries v updates = refl
begins_with_cost Append entries v updates = refl

pub update_creates : (kind : PendingKind) → is_update kind ≡ true → is_create kind ≡ false
update_creates Create updates = cc
update_creates Supersede updates = cc
update_creates Update updates = refl
update_creates Append updates = refl

-- If the directory and its version in memory decide whether there is room, so does the file.
pub full_by_file : {X : Type 0} (size : ℕ) (c : MemoryMap) (kind : PendingKind) (prime : Prime) (file : File)
    (answer : Result X CallError) → IsWholeMemory size c → IsFileKnown c prime.ppn prime.file file
    → is_update kind ≡ true
    → ((d : CurrentDirectory) → IsDirectoryOf c prime.ppn d → (old : Before) → IsNamed d prime.file old
    → is_create kind ≡ is_none old → (IsErrOf answer (Refused NoRoom)
    ↔ (space c.known.table.size < c.known.table.booked + begin_cost kind (entries_with c d prime.ppn) old)))
    → (IsErrOf answer (Refused NoRoom) ↔ (space size < c.known.table.booked + version_cost (length file.body)))
full_by_file size c kind prime file answer whole known updates room =
    subst (λ (n : ℕ). IsErrOf answer (Refused NoRoom)
    ↔ (space n < c.known.table.booked + version_cost (length file.body))) whole.map.size_is
    (subst (λ (cost : ℕ). IsErrOf answer (Refused NoRoom) ↔ (space c.known.table.size < c.known.table.booked + cost))
    (begins_with_cost kind (entries_with c known.directory prime.ppn) known.version updates ∙ known.cost)
    (room known.directory known.there (Some known.version) known.named (update_creates kind updates)))
