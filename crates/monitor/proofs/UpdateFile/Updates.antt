-- An ENTER that updates a file or appends to it begins, or is refused, as by the machine.
use Rattle.std.proofs.Common.{◌≡◌, ◌↔◌, ◌<◌, ℕ, ◌+◌, Bool, true, false, nat_lt, length, Option, None, Some, Result}
use Rattle.std.proofs.Common.{Ok, Err, refl, sym, ap, subst, ◌∙◌, ⊎_elim}
use Rattle.std.proofs.lemmas.Bool.{both_ways}
use Rattle.std.specs.Prelude.{◌==◌, ◌&&◌, ◌||◌, not, if◌then◌else◌, is_none, option_map}
use Rattle.std.specs.Ordering.{nat_cmp}
use Rattle.std.specs.FinMap.Entries.{find}
use Rattle.words36.specs.declared.names.FileName.{FileName}
use Rattle.blockdisk.specs.Common.{DiskState}
use Rattle.spec_image.specs.Common.{number_of, version_cost, File, Directory, Place, map_directory, get, SpecVersion}
use Rattle.spec_image.specs.Common.{without_serials, file_in, file_at, pack_of}
use Rattle.spec_machine.specs.Common.{State, digit_for_directory, digit_for_version, may_look, may_append, may_update}
use Rattle.spec_machine.specs.Common.{directory_digit, file_digit, exceeds_left, exceeds_limits, is_plain}
use Rattle.spec_machine.specs.Common.{present_cost}
use Rattle.spec_image.specs.declared.code.ErrorCode.{ErrorCode}
use Rattle.spec_image.specs.declared.code.ErrorCode.TheVariants.{NoDirectory, NameExists, NotFound, NoRoom}
use Rattle.spec_machine.specs.declared.call.Reply.{Reply}
use Rattle.spec_machine.specs.declared.call.Reply.TheVariants.{Done, Refused}
use Rattle.spec_image.proofs.Common.{get-map_values, name_total}
use Rattle.alloctab.specs.Common.{space}
use Rattle.volume.specs.Common.{entries_with, is_absent, is_update, IsBeginRefusal, IsDirectoryOf, IsOver, claims}
use Rattle.volume.specs.Common.{CurrentDirectory, MemoryMap, is_create, IsSoundMemory}
use Rattle.volume.specs.declared.error.CallError.{CallError}
use Rattle.volume.specs.declared.pending.PendingKind.{PendingKind}
use Rattle.volume.specs.declared.pending.PendingKind.TheVariants.{Update, Append}
use Rattle.volume.proofs.common.Answers.{Holds, rest_holds}
use Rattle.volume.proofs.BeginVersion.BegunFiles.{file_known, begins_with_cost, update_creates}
use Rattle.monitor.specs.Common.{IsKnown, IsAnswer, found_file, found_in, begun_as, UnderKeys, job_of, allowed_update}
use Rattle.monitor.specs.Common.{update_kind, update_answer_at}
use Rattle.monitor.specs.declared.found.Found.{Found}
use Rattle.monitor.specs.declared.job.Job.{Job}
use Rattle.monitor.proofs.EnterFile.Begins.{home, listed}
use Rattle.monitor.proofs.common.Numbers.{less, not_less}
use Rattle.monitor.proofs.EnterFile.Outcomes.{begun_kind}
use Rattle.monitor.proofs.common.Growths.{shown_at}
use Rattle.monitor.proofs.common.Limits.{AllowsBegin, limits_are}
use Rattle.spec_machine.specs.Jobs as machine
use Rattle.volume.specs.declared.error.CallError.TheVariants as errors
use Rattle.monitor.specs.declared.found.Found.TheVariants as found

-- How a job that may begin does so.

kind_updates : (digit : ℕ) → is_update (update_kind digit) ≡ true
kind_updates digit = by (may_update digit)
  where
    by : (b : Bool) → is_update (if b then Update else Append) ≡ true
    by true = refl
    by false = refl

-- it begins with the file
pub updates : (f : Found) (who owner : ℕ) (is_zero claimed : Bool) (kind : PendingKind)
    → allowed_update f who owner is_zero claimed ≡ Ok kind → is_update kind ≡ true
updates found.NoDirectory who owner is_zero claimed kind is = cc is
updates (found.Absent p) who owner is_zero claimed kind is = cc is
updates (found.Present p q) who owner is_zero claimed kind is =
    ap is_update (begun_kind (update_kind (file_digit q who owner)) kind _ is_zero claimed is)
    ∙ kind_updates (file_digit q who owner)

-- What is answered, by whether a job may and whether there is room for the whole file.
abbrev update_reply : Result PendingKind ErrorCode → Bool → Reply
update_reply (Err code) full = Refused (number_of code)
update_reply (Ok kind) full = if full then Refused 0o14 else Done

-- the same as the machine has it
abbrev update_at : ℕ → FileName → Option (Directory SpecVersion) → machine.SpecJob → Bool → Bool → Bool → Reply
update_at owner name o job is_zero claimed full =
    if is_none o then Refused 1
    else if is_zero then Refused 0
    else if is_none (file_in o name) then Refused 0
    else if not (may_look (digit_for_directory job owner o))
    || not (may_append (digit_for_version job owner (file_in o name))) then Refused 2
    else if claimed then Refused 3
    else if full then Refused 0o14
    else Done

none_reply : (is_zero : Bool) → (if is_zero then Refused 0 else Refused 0) ≡ Refused 0
none_reply true = refl
none_reply false = refl

file_reply : (kind : PendingKind) (is_zero look append claimed full : Bool)
    → (if is_zero then Refused 0 else if not look || not append then Refused 2 else if claimed then Refused 3
    else if full then Refused 0o14 else Done) ≡ update_reply (begun_as kind (look && append) is_zero claimed) full
file_reply kind true look append claimed full = refl
file_reply kind false false append claimed full = refl
file_reply kind false true false claimed full = refl
file_reply kind false true true true full = refl
file_reply kind false true true false full = refl

update_is : (name : FileName) (owner : ℕ) (job : machine.SpecJob) (o : Option (Directory SpecVersion))
    (is_zero claimed full : Bool)
    → update_at owner name o job is_zero claimed full
    ≡ update_reply (allowed_update (found_in (option_map (map_directory (λ (v : SpecVersion). v.file)) o) name) job.ppn
    owner is_zero claimed) full
update_is name owner job None is_zero claimed full = refl
update_is name owner job (Some d) is_zero claimed full =
    by (get d.files name) ∙ ap (λ f. update_reply (allowed_update (found_file d.protection f) job.ppn owner is_zero
    claimed) full) (sym (get-map_values name_total (λ (v : SpecVersion). v.file) d.files name))
  where
    answer_for : Option SpecVersion → Reply
    answer_for was =
        if is_zero then Refused 0
        else if is_none was then Refused 0
        else if not (may_look (directory_digit d.protection job.ppn owner))
        || not (may_append (digit_for_version job owner was)) then Refused 2
        else if claimed then Refused 3
        else if full then Refused 0o14
        else Done

    by : (was : Option SpecVersion) → answer_for was
        ≡ update_reply (allowed_update (found_file d.protection (option_map (λ (v : SpecVersion). v.file) was)) job.ppn
        owner is_zero claimed) full
    by None = none_reply is_zero
    by (Some v) = file_reply (update_kind (file_digit v.file.protection job.ppn owner)) is_zero
        (may_look (directory_digit d.protection job.ppn owner))
        (may_append (file_digit v.file.protection job.ppn owner)) claimed full

-- a directory without its serials
abbrev shown : Directory SpecVersion → Directory File
shown D = map_directory (λ (v : SpecVersion). v.file) D

module _ (d : DiskState) (map : MemoryMap) (s : State) (known : IsKnown d map s) (sound : IsSoundMemory d map false)
    (honest : d.honest) where
  holds : Holds d map.known (without_serials s.files)
  holds = rest_holds d map false sound honest refl (without_serials s.files) known.files

  -- how a job may write over the file of a place
  abbrev pub may : ℕ → Place → Result PendingKind ErrorCode
  may who place = allowed_update (found_in (get (without_serials s.files) place.ppn) place.name) who place.ppn
      (place.name.name == 0) (claims map.pending place)

  reply_is : (w : UnderKeys) (job : Job) (place : Place)
      → update_answer_at (pack_of d) s (job_of w job) place
      ≡ update_reply (may job.ppn place) (exceeds_limits (pack_of d) s place.ppn (present_cost (file_at s.files place)))
  reply_is w job place =
      (λ i. if is_none (get s.files place.ppn) then Refused 1
      else if place.name.name == 0 then Refused 0
      else if is_none (file_at s.files place) then Refused 0
      else if not (may_look (digit_for_directory (job_of w job) place.ppn (get s.files place.ppn)))
      || not (may_append (digit_for_version (job_of w job) place.ppn (file_at s.files place))) then Refused 2
      else if known.claimed place i then Refused 3
      else if exceeds_limits (pack_of d) s place.ppn (present_cost (file_at s.files place)) then Refused 0o14
      else Done)
      ∙ update_is place.name place.ppn (job_of w job) (get s.files place.ppn) (place.name.name == 0)
      (claims map.pending place) (exceeds_limits (pack_of d) s place.ppn (present_cost (file_at s.files place)))
      ∙ (let plain = sym (shown_at s.files place.ppn) in
      λ i. update_reply (allowed_update (found_in (plain i) place.name) job.ppn place.ppn (place.name.name == 0)
      (claims map.pending place)) (exceeds_limits (pack_of d) s place.ppn (present_cost (file_at s.files place))))

  pub refused : (w : UnderKeys) (job : Job) (place : Place) (code : ErrorCode) → may job.ppn place ≡ Err code
      → update_answer_at (pack_of d) s (job_of w job) place ≡ Refused (number_of code)
  refused w job place code is = reply_is w job place
      ∙ ap (λ r. update_reply r (exceeds_limits (pack_of d) s place.ppn (present_cost (file_at s.files place)))) is

  -- a file of this many words doesn't fit
  abbrev full : File → Bool
  full file = nat_lt (space d.size) (map.known.table.booked + version_cost (length file.body))

  -- nor does its directory's quota leave as much
  abbrev past : Place → File → Bool
  past place file = exceeds_left s place.ppn (version_cost (length file.body))

  -- There is a file over which a job may write, and the answer depends on the room and the quota.
  pub record Updates (w : UnderKeys) (job : Job) (place : Place) : Type 0 where
    pub directory : Directory File
    pub directory_at : get (without_serials s.files) place.ppn ≡ Some directory
    pub file : File
    pub file_at : get directory.files place.name ≡ Some file
    -- as the volume knows it
    pub home : CurrentDirectory
    pub there : IsDirectoryOf map place.ppn home
    pub found : find nat_cmp place.ppn map.known.master.entries ≡ None → ⊥
    pub present : is_absent place.name home ≡ false
    pub answer : update_answer_at (pack_of d) s (job_of w job)
        place ≡ (if full file || past place file then Refused 0o14 else Done)

  pub update_at_file : (w : UnderKeys) (job : Job) (place : Place) (kind : PendingKind) → may job.ppn place ≡ Ok kind
      → Updates w job place
  update_at_file w job place kind is = by (get s.files place.ppn) refl
      (sym (ap (λ o. allowed_update (found_in o place.name) job.ppn place.ppn (place.name.name
      == 0) (claims map.pending place)) (shown_at s.files place.ppn)) ∙ is)
    where
      with_file : (D : Directory SpecVersion) → get s.files place.ppn ≡ Some D → (was : Option SpecVersion)
          → get D.files place.name ≡ was
          → allowed_update (found_file D.protection (option_map (λ (v : SpecVersion). v.file) was)) job.ppn place.ppn
          (place.name.name == 0) (claims map.pending place) ≡ Ok kind → Updates w job place
      with_file D at None name ok = cc ok
      with_file D at (Some v) name ok =
          let h = home d map s.files holds sound.whole.map place.ppn place.name D at in
          let here : file_at s.files place ≡ Some v = ap (λ o. file_in o place.name) at ∙ name in
          record {
            directory = shown D;
            directory_at = shown_at s.files place.ppn ∙ ap (option_map shown) at;
            file = v.file;
            file_at = get-map_values name_total (λ (x : SpecVersion). x.file) D.files place.name
                ∙ ap (option_map (λ (x : SpecVersion). x.file)) name;
            home = h.known;
            there = h.there;
            found = listed d map s.files holds sound.whole.map place.ppn D at;
            present = h.absent ∙ ap is_none name;
            answer = reply_is w job place
                ∙ ap (λ r. update_reply r
                (exceeds_limits (pack_of d) s place.ppn (present_cost (file_at s.files place)))) is
                ∙ (λ i. if nat_lt (space d.size) (known.booked_is i + present_cost (here i))
                || exceeds_left s place.ppn (present_cost (here i)) then Refused 0o14 else Done);
          }

      by : (was : Option (Directory SpecVersion)) → get s.files place.ppn ≡ was
          → allowed_update (found_in (option_map shown was) place.name) job.ppn place.ppn (place.name.name
          == 0) (claims map.pending place) ≡ Ok kind → Updates w job place
      by None at ok = cc ok
      by (Some D) at ok =
          with_file D at (get D.files place.name) refl
          (ap (λ f. allowed_update (found_file D.protection f) job.ppn place.ppn (place.name.name
          == 0) (claims map.pending place))
          (sym (get-map_values name_total (λ (v : SpecVersion). v.file) D.files place.name)) ∙ ok)

  -- The answer if its directory's quota leaves as much as the file costs, and if it doesn't.
  module _ (w : UnderKeys) (job : Job) (place : Place) (kind : PendingKind) (ok : may job.ppn place ≡ Ok kind)
      (with_file : is_update kind ≡ true) (allows : Bool)
      (quota : AllowsBegin map place.ppn place.name kind allows) where
    abbrev found_at : Updates w job place
    found_at = update_at_file w job place kind ok

    quota_here : (allows ≡ false) ↔ IsOver map place.ppn (version_cost (length found_at.file.body))
    quota_here =
        let is = file_known d map false sound honest refl (without_serials s.files) known.files place.ppn place.name
        found_at.directory found_at.directory_at found_at.file found_at.file_at in
        subst (λ (cost : ℕ). (allows ≡ false) ↔ IsOver map place.ppn cost)
        (begins_with_cost kind (entries_with map is.directory place.ppn) is.version with_file ∙ is.cost)
        (quota is.directory is.there (Some is.version) is.named)

    left_there : allows ≡ true → past place found_at.file ≡ false
    left_there so = (limits_are d map s known sound honest place.ppn (version_cost (length found_at.file.body))).1
        (λ over. both_ways allows (quota_here.1 over) so)

    pub limited : allows ≡ false → update_answer_at (pack_of d) s (job_of w job) place ≡ Refused 0o14
    limited refuses = found_at.answer ∙ either (full found_at.file) (past place found_at.file)
        ((limits_are d map s known sound honest place.ppn (version_cost (length found_at.file.body))).0
        (quota_here.0 refuses))
      where
        either : (a b : Bool) → b ≡ true → (if a || b then Refused 0o14 else Done) ≡ Refused 0o14
        either true b is = refl
        either false b is = ap (λ t. if t then Refused 0o14 else Done) is

  -- The answer, by what the volume answers.
  module _ {X : Type 0} (w : UnderKeys) (job : Job) (place : Place) (kind : PendingKind) (result : Result X CallError)
      (ok : may job.ppn place ≡ Ok kind)
      (room : (D : Directory File) → get (without_serials s.files) place.ppn ≡ Some D → (file : File)
      → get D.files place.name ≡ Some file → (result ≡ Err (errors.Refused NoRoom)
      ↔ (space d.size < map.known.table.booked + version_cost (length file.body)))) where
    abbrev u : Updates w job place
    u = update_at_file w job place kind ok

    room_here : result ≡ Err (errors.Refused NoRoom)
        ↔ (space d.size < map.known.table.booked + version_cost (length u.file.body))
    room_here = room u.directory u.directory_at u.file u.file_at

    pub begun : (x : X) → result ≡ Ok x → is_update kind ≡ true → (allows : Bool) → allows ≡ true
        → AllowsBegin map place.ppn place.name kind allows
        → update_answer_at (pack_of d) s (job_of w job) place ≡ Done
    begun x is with_file allows so quota =
        let fits = not_less _ _ (λ many. let no = room_here.1 many in cc (is, no)) in
        let left = left_there w job place kind ok with_file allows quota so in
        u.answer ∙ (λ i. if fits i || left i then Refused 0o14 else Done)

    plain : (t : Bool) → is_plain (if t then Refused 0o14 else Done) ≡ false
    plain true = refl
    plain false = refl

    pub not_begun : (Y : Type 0) (error : CallError) → result ≡ Err error → is_update kind ≡ true
        → (result ≡ Err (errors.Refused NoDirectory) → find nat_cmp place.ppn map.known.master.entries ≡ None)
        → ((x : CurrentDirectory) → IsDirectoryOf map place.ppn x → (result ≡ Err (errors.Refused NameExists)
        ↔ ((is_create kind ≡ true) × (is_absent place.name x ≡ false))))
        → ((x : CurrentDirectory) → IsDirectoryOf map place.ppn x → (result ≡ Err (errors.Refused NotFound)
        ↔ ((is_create kind ≡ false) × (is_absent place.name x ≡ true))))
        → ((code : ErrorCode) → result ≡ Err (errors.Refused code) → IsBeginRefusal code)
        → (result ≡ Err errors.Device → ⊥) → (result ≡ Err errors.Failed → ⊥)
        → IsAnswer {X = Y} (Err error) (update_answer_at (pack_of d) s (job_of w job) place)
    not_begun Y (errors.Refused code) is with_file gone exists none codes device failed = ⊎_elim
        (λ e. absurd (u.found (gone (is ∙ ap (λ c. Err (errors.Refused c)) e))))
        (⊎_elim (λ e. let said = (exists u.home u.there).0 (is ∙ ap (λ c. Err (errors.Refused c)) e) in
        absurd (both_ways (is_create kind) (update_creates kind with_file) said.0))
        (⊎_elim (λ e. let said = (none u.home u.there).0 (is ∙ ap (λ c. Err (errors.Refused c)) e) in
        absurd (both_ways (is_absent place.name u.home) u.present said.1))
        (λ e. u.answer ∙ ap (λ t. if t || past place u.file then Refused 0o14 else Done)
        (less _ _ (room_here.0 (is ∙ ap (λ c. Err (errors.Refused c)) e)))
        ∙ ap (λ c. Refused (number_of c)) (sym e))))
        (codes code is)
    not_begun Y errors.Device is with_file gone exists none codes device failed = device is
    not_begun Y errors.NoMemory is with_file gone exists none codes device failed =
        ap is_plain u.answer ∙ plain (full u.file || past place u.file)
    not_begun Y errors.Failed is with_file gone exists none codes device failed = failed is
