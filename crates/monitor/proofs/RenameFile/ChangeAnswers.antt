-- A job may change a file, or is refused, as by the machine at the old place of a RENAME.
use Rattle.std.proofs.Common.{◌≡◌, ◌<◌, ℕ, Bool, true, false, Option, None, Some, Result, Ok, Err, refl, sym, ap, subst}
use Rattle.std.proofs.Common.{◌∙◌}
use Rattle.std.specs.Prelude.{◌==◌, ◌&&◌, ◌||◌, not, if◌then◌else◌, is_none, option_map}
use Rattle.std.specs.Cmp.{nat_cmp_total}
use Rattle.words36.specs.declared.names.FileName.{FileName}
use Rattle.blockdisk.specs.Common.{DiskState}
use Rattle.spec_image.specs.Common.{IsFileEntry, items, File, Files, Directory, Place, map_directory, get, SpecVersion}
use Rattle.spec_image.specs.Common.{without_serials, file_in, file_at, Pack, StoredFile, StoredDirectory}
use Rattle.spec_image.specs.Common.{directory_of, place_of}
use Rattle.spec_machine.specs.Common.{State, place_at, has_no_directory, is_absent, digit_for_directory}
use Rattle.spec_machine.specs.Common.{digit_for_version, directory_digit_at, deletes_at, protection_at}
use Rattle.spec_machine.specs.Common.{changes_protection, is_forbidden, rename_from, move_answer, may_look}
use Rattle.spec_machine.specs.Common.{may_rename, may_protect, directory_digit, file_digit, is_claimed}
use Rattle.spec_image.specs.declared.code.ErrorCode.{ErrorCode}
use Rattle.spec_image.specs.declared.code.ErrorCode.TheVariants.{NotFound, Protection, BeingModified}
use Rattle.spec_machine.specs.declared.call.Reply.{Reply}
use Rattle.spec_machine.specs.declared.call.Reply.TheVariants.{Done, Refused}
use Rattle.spec_image.proofs.Common.{some_none, get-map_values, get-from_entries, name_total, name_exact}
use Rattle.volume.specs.Common.{claims, CurrentMap, MemoryMap, IsSoundMemory}
use Rattle.volume.proofs.common.Answers.{Holds, rest_holds, all_at_place}
use Rattle.volume.proofs.common.Lookups.{first_place}
use Rattle.monitor.specs.Common.{may_become, is_other, changes_file, allowed_change, asked_protection, change_answer}
use Rattle.monitor.specs.Common.{IsChangeAnswer, IsKnown, found_file, found_in, named_in}
use Rattle.monitor.specs.declared.found.Found.{Found}
use Rattle.monitor.proofs.common.Growths.{shown_at}
use Rattle.monitor.proofs.common.PinnedRooms.{positive}
use Rattle.spec_machine.specs.Jobs as machine

-- A file of a disk has a name.
named_file : (d : DiskState) (k : CurrentMap) (files : Files File) → Holds d k files → (ppn : ℕ) (name : FileName)
    (file : File) → named_in (get files ppn) name ≡ Some file → 0 < name.name
named_file d k files holds ppn name file is =
    by (get holds.map.directories ppn) refl
    (ap (λ o. named_in o name) (sym (get-map_values nat_cmp_total directory_of holds.map.directories ppn)
    ∙ ap (λ f. get f ppn) holds.files_are) ∙ is)
  where
    in_stored : (stored : StoredDirectory) → get holds.map.directories ppn ≡ Some stored → (was : Option StoredFile)
        → get stored.files name ≡ was → option_map (λ (f : StoredFile). f.file) was ≡ Some file → 0 < name.name
    in_stored stored at None named shown = absurd (some_none (sym shown))
    in_stored stored at (Some f) named shown =
        let chain = (holds.held.stands.mapped.directories ppn stored at).chain in
        let es = items chain.nodes in
        let found = sym (get-from_entries name_total es name) ∙ ap (λ m. get m name) chain.map_is
        ∙ get-map_values name_total (λ (x : StoredFile). x.prime) stored.files name
        ∙ ap (option_map (λ (x : StoredFile). x.prime)) named in
        let place = first_place name_total name_exact es name f.prime found in
        (all_at_place IsFileEntry es place.0 (name, f.prime) chain.are_entries place.1.is).name

    by : (was : Option StoredDirectory) → get holds.map.directories ppn ≡ was
        → named_in (option_map directory_of was) name ≡ Some file → 0 < name.name
    by None at named = absurd (some_none (sym named))
    by (Some stored) at named = in_stored stored at (get stored.files name) refl
        (sym (get-map_values name_total (λ (f : StoredFile). f.file) stored.files name) ∙ named)

-- The tests of the machine, one after the other.

twice : (b : Bool) → b ≡ not (not b)
twice true = refl
twice false = refl

-- the digits of a file forbid what may not become
forbids : (may protects deletes : Bool) (own p : ℕ)
    → (not may || (not deletes && not (own == p) && not protects))
    ≡ not (may && not (is_other (if deletes then None else Some p) own && not protects))
forbids false protects deletes own p = refl
forbids true protects true own p = refl
forbids true protects false own p = twice (not (own == p) && not protects)

-- what the machine checks of a file that is there
abbrev asked_of : Bool → Bool → Reply
asked_of forbidden claimed = if forbidden then Refused 2 else if claimed then Refused 3 else Done

abbrev changes_or_not : Bool → Bool → Result (Unit {0}) ErrorCode
changes_or_not may claimed = if not may then Err Protection else if claimed then Err BeingModified else Ok tt

of_file : (may claimed : Bool) → IsChangeAnswer (changes_or_not may claimed) (asked_of (not may) claimed)
of_file false claimed = refl
of_file true true = refl
of_file true false = refl

-- and of a place, by whether names may be looked up there
abbrev asked_in : machine.SpecJob → ℕ → ℕ → Bool → Bool → Option SpecVersion → Reply
asked_in job e owner claimed look was =
    if not look then Refused 2
    else if is_none was then Refused 0
    else asked_of (not (may_rename (digit_for_version job owner was))
    || (not (deletes_at job e) && changes_protection (protection_at job e) was
    && not (may_protect (digit_for_version job owner was)))) claimed

abbrev allowed_in : ℕ → ℕ → Bool → Option ℕ → Bool → Bool → Option File → Result (Unit {0}) ErrorCode
allowed_in who owner is_zero protection claimed look None = if not look then Err Protection else Err NotFound
allowed_in who owner is_zero protection claimed look (Some f) = if not look then Err Protection
    else changes_file f.protection protection who owner is_zero claimed

allowed_is : (p who owner : ℕ) (is_zero : Bool) (protection : Option ℕ) (claimed : Bool) (was : Option File)
    → allowed_change (found_file p was) who owner is_zero protection claimed
    ≡ allowed_in who owner is_zero protection claimed (may_look (directory_digit p who owner)) was
allowed_is p who owner is_zero protection claimed None = refl
allowed_is p who owner is_zero protection claimed (Some f) = refl

in_directory : (job : machine.SpecJob) (e owner : ℕ) (is_zero claimed look : Bool) (was : Option SpecVersion)
    → ((x : SpecVersion) → was ≡ Some x → is_zero ≡ false)
    → IsChangeAnswer (allowed_in job.ppn owner is_zero (asked_protection job e) claimed look
    (option_map (λ (v : SpecVersion). v.file) was)) (asked_in job e owner claimed look was)
in_directory job e owner is_zero claimed false None named = refl
in_directory job e owner is_zero claimed false (Some v) named = refl
in_directory job e owner is_zero claimed true None named = refl
in_directory job e owner is_zero claimed true (Some v) named =
    let own = v.file.protection in
    let may = may_become own (asked_protection job e) job.ppn owner in
    let forbidden = forbids (may_rename (file_digit own job.ppn owner)) (may_protect (file_digit own job.ppn owner))
    (deletes_at job e) own (protection_at job e) in
    subst (λ z. IsChangeAnswer (if z then Err NotFound else changes_or_not may claimed) (asked_of
    (not (may_rename (file_digit own job.ppn owner)) || (not (deletes_at job e) && not (own == protection_at job e)
    && not (may_protect (file_digit own job.ppn owner)))) claimed)) (sym (named v refl))
    (subst (λ b. IsChangeAnswer (changes_or_not may claimed) (asked_of b claimed)) (sym forbidden)
    (of_file may claimed))

-- by the directory, if there is one
abbrev asked : machine.SpecJob → ℕ → ℕ → FileName → Bool → Option (Directory SpecVersion) → Reply
asked job e owner name claimed o = if is_none o then Refused 1
    else asked_in job e owner claimed (may_look (digit_for_directory job owner o)) (file_in o name)

abbrev shown : Directory SpecVersion → Directory File
shown d = map_directory (λ v. v.file) d

asked_is : (job : machine.SpecJob) (e owner : ℕ) (name : FileName) (claimed : Bool) (o : Option (Directory SpecVersion))
    → ((x : SpecVersion) → file_in o name ≡ Some x → (name.name == 0) ≡ false)
    → IsChangeAnswer (allowed_change (found_in (option_map shown o) name) job.ppn owner (name.name == 0)
    (asked_protection job e) claimed) (asked job e owner name claimed o)
asked_is job e owner name claimed None named = refl
asked_is job e owner name claimed (Some d) named =
    let look = may_look (directory_digit d.protection job.ppn owner) in
    subst (λ r. IsChangeAnswer r (asked job e owner name claimed (Some d)))
    (sym (ap (λ f. allowed_change (found_file d.protection f) job.ppn owner (name.name == 0)
    (asked_protection job e) claimed) (get-map_values name_total (λ (v : SpecVersion). v.file) d.files name)
    ∙ allowed_is d.protection job.ppn owner (name.name == 0) (asked_protection job e) claimed
    (option_map (λ (v : SpecVersion). v.file) (get d.files name))))
    (in_directory job e owner (name.name == 0) claimed look (get d.files name) named)

-- a file as it is shown
file_shown : (o : Option (Directory SpecVersion)) (name : FileName) (x : SpecVersion) → file_in o name ≡ Some x
    → named_in (option_map shown o) name ≡ Some x.file
file_shown None name x is = absurd (some_none (sym is))
file_shown (Some d) name x is = get-map_values name_total (λ (v : SpecVersion). v.file) d.files name
    ∙ ap (option_map (λ (v : SpecVersion). v.file)) is

pub change_answered : (d : DiskState) (map : MemoryMap) (s : State) → IsKnown d map s → IsSoundMemory d map false
    → d.honest
    → (job : machine.SpecJob) (e ppn : ℕ) (name : FileName)
    → IsChangeAnswer (allowed_change (found_in (get (without_serials s.files) ppn) name) job.ppn ppn (name.name == 0)
    (asked_protection job e) (claims map.pending (place_of ppn name))) (change_answer s job e (place_of ppn name))
change_answered d map s known sound honest job e ppn name =
    let claimed = claims map.pending (place_of ppn name) in
    subst (λ r. IsChangeAnswer (allowed_change (found_in (get (without_serials s.files) ppn) name) job.ppn ppn
    (name.name == 0) (asked_protection job e) claimed) r)
    (ap (λ b. asked job e ppn name b (get s.files ppn)) (sym (known.claimed (place_of ppn name))))
    (subst (λ o. IsChangeAnswer (allowed_change (found_in o name) job.ppn ppn (name.name == 0)
    (asked_protection job e) claimed) (asked job e ppn name claimed (get s.files ppn))) (sym (shown_at s.files ppn))
    (asked_is job e ppn name claimed (get s.files ppn) (λ x is. positive name.name (named_file d map.known
    (without_serials s.files) (rest_holds d map false sound honest refl (without_serials s.files) known.files) ppn name
    x.file (ap (λ o. named_in o name) (shown_at s.files ppn) ∙ file_shown (get s.files ppn) name x is)))))

-- The same of what is found, and asked for.
pub found_answered : (d : DiskState) (map : MemoryMap) (s : State) → IsKnown d map s → IsSoundMemory d map false
    → d.honest
    → (job : machine.SpecJob) (e ppn : ℕ) (name : FileName) (who word : ℕ) (protection : Option ℕ) (found : Found)
    (claimed : Bool) (result : Result (Unit {0}) ErrorCode)
    → result ≡ allowed_change found who ppn (word == 0) protection claimed
    → found ≡ found_in (get (without_serials s.files) ppn) name → job.ppn ≡ who → word ≡ name.name
    → protection ≡ asked_protection job e → claimed ≡ claims map.pending (place_of ppn name)
    → IsChangeAnswer result (change_answer s job e (place_of ppn name))
found_answered d map s known sound honest job e ppn name who word protection found claimed result is seen same zero
    asks claims_it =
    subst (λ r. IsChangeAnswer r (change_answer s job e (place_of ppn name)))
    (sym (is ∙ (λ i. allowed_change (seen i) (sym same i) ppn (zero i == 0) (asks i) (claims_it i))))
    (change_answered d map s known sound honest job e ppn name)

-- The answer of a RENAME begins in this way.

goes_on : (a b c d e : Bool) (next : Reply)
    → (if a then Refused 1 else if b then Refused 2 else if c then Refused 0 else if d then Refused 2
    else if e then Refused 3 else Done) ≡ Done
    → (if a then Refused 1 else if b then Refused 2 else if c then Refused 0 else if d then Refused 2
    else if e then Refused 3 else next) ≡ next
goes_on true b c d e next is = cc is
goes_on false true c d e next is = cc is
goes_on false false true d e next is = cc is
goes_on false false false true e next is = cc is
goes_on false false false false true next is = cc is
goes_on false false false false false next is = refl

stops : (a b c d e : Bool) (next : Reply) (code : ℕ)
    → (if a then Refused 1 else if b then Refused 2 else if c then Refused 0 else if d then Refused 2
    else if e then Refused 3 else Done) ≡ Refused code
    → (if a then Refused 1 else if b then Refused 2 else if c then Refused 0 else if d then Refused 2
    else if e then Refused 3 else next) ≡ Refused code
stops true b c d e next code is = is
stops false true c d e next code is = is
stops false false true d e next code is = is
stops false false false true e next code is = is
stops false false false false true next code is = is
stops false false false false false next code is = cc is

no_longer_absent : (a b c d e : Bool)
    → (if a then Refused 1 else if b then Refused 2 else if c then Refused 0 else if d then Refused 2
    else if e then Refused 3 else Done) ≡ Done → c ≡ false
no_longer_absent true b c d e is = cc is
no_longer_absent false true c d e is = cc is
no_longer_absent false false true d e is = cc is
no_longer_absent false false false d e is = refl

module _ (s : State) (job : machine.SpecJob) (e : ℕ) (old : Place) where
  pub rename_goes_on : (pack : Pack) → change_answer s job e old ≡ Done → rename_from pack s job e old
      ≡ (if deletes_at job e then Done else move_answer pack s job old (place_at job e))
  rename_goes_on pack = goes_on (has_no_directory s old) (not (may_look (directory_digit_at s job old)))
      (is_absent s old) (is_forbidden s job e old) (is_claimed s old)
      (if deletes_at job e then Done else move_answer pack s job old (place_at job e))

  pub rename_stops : (pack : Pack) (code : ℕ) → change_answer s job e old ≡ Refused code
      → rename_from pack s job e old ≡ Refused code
  rename_stops pack code = stops (has_no_directory s old) (not (may_look (directory_digit_at s job old)))
      (is_absent s old) (is_forbidden s job e old) (is_claimed s old)
      (if deletes_at job e then Done else move_answer pack s job old (place_at job e)) code

  -- the file is there
  pub changed_there : change_answer s job e old ≡ Done → (x : SpecVersion) × (file_at s.files old ≡ Some x)
  changed_there is = by (file_at s.files old) (no_longer_absent (has_no_directory s old)
      (not (may_look (directory_digit_at s job old))) (is_absent s old) (is_forbidden s job e old)
      (is_claimed s old) is)
    where
      by : (was : Option SpecVersion) → is_none was ≡ false → (x : SpecVersion) × (was ≡ Some x)
      by None none = cc none
      by (Some x) none = (x, refl)
