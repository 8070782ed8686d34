-- What the machine answers to a RENAME that moves a file, by what the volume answers.
use Rattle.std.proofs.Common.{◌≡◌, ◌≢◌, ◌⊎◌, ℕ, ◌+◌, ◌<◌, Bool, true, false, if◌then◌else◌, Option, None, Some, Result}
use Rattle.std.proofs.Common.{Err, refl, sym, ap, subst, ◌∙◌, ⊎_elim, arith}
use Rattle.std.specs.Prelude.{◌↔◌, ◌==◌, ◌&&◌, ◌||◌, not, is_none, nat_lt, option_map}
use Rattle.std.proofs.lemmas.Bool.{both_ways, cases_Bool, eq-eqb, ne_eqb}
use Rattle.std.proofs.lemmas.Bool.Decides.{nat_tests}
use Rattle.std.specs.Ordering.{nat_cmp}
use Rattle.std.specs.FinMap.Entries.{find}
use Rattle.words36.specs.declared.names.FileName.{FileName}
use Rattle.blockdisk.specs.Common.{DiskState}
use Rattle.spec_machine.specs.Common.{exceeds_left, State, place_at, has_no_directory, is_absent, directory_digit_at}
use Rattle.spec_machine.specs.Common.{deletes_at, is_forbidden, crowds, overfills, move_answer, rename_from, may_look}
use Rattle.spec_machine.specs.Common.{may_create, names_in, is_claimed, entry_count, booked, has_no_room, is_plain}
use Rattle.spec_machine.specs.Common.{present_cost}
use Rattle.spec_image.specs.Common.{number_of, Directory, Place, map_directory, name_cmp, get, SpecVersion}
use Rattle.spec_image.specs.Common.{without_serials, file_in, file_at, same_place, Pack, growth, place_of, pack_of}
use Rattle.spec_image.specs.declared.code.ErrorCode.{ErrorCode}
use Rattle.spec_image.specs.declared.code.ErrorCode.TheVariants.{NoDirectory, NotFound, NameExists, NoRoom}
use Rattle.spec_machine.specs.declared.call.Reply.{Reply}
use Rattle.spec_image.proofs.Common.{get-map_values, name_total, directory_of_file}
use Rattle.spec_machine.proofs.Common.{same_place-equal, grows_by_one, is_there}
use Rattle.alloctab.specs.Common.{space}
use Rattle.volume.specs.Common.{entries_with, IsDirectoryOf, IsOver, CurrentDirectory, cost_of_version, MemoryMap}
use Rattle.volume.specs.Common.{HasFile, HasNoRoom, IsSoundMemory}
use Rattle.volume.specs.declared.error.CallError.{CallError}
use Rattle.volume.specs.declared.error.CallError.TheVariants.{Refused}
use Rattle.volume.proofs.common.Answers.{Holds, rest_holds}
use Rattle.volume.proofs.BeginVersion.BegunFiles.{IsFileKnown, file_known}
use Rattle.monitor.specs.Common.{arrival_answer, change_answer, IsKnown}
use Rattle.monitor.proofs.EnterFile.Begins.{IsHome, home, home_of, listed}
use Rattle.monitor.proofs.RenameFile.ChangeAnswers.{rename_goes_on, changed_there}
use Rattle.monitor.proofs.common.Numbers.{less}
use Rattle.monitor.proofs.common.Growths.{shown_at}
use Rattle.monitor.proofs.common.Limits.{AllowsMove, LimitsAre, limits_are}
use Rattle.directory.proofs.AddedEntries.{some_number}
use Rattle.spec_machine.specs.Jobs as machine
use Rattle.spec_machine.specs.declared.call.Reply.TheVariants as replies

-- The answer, by its tests.

-- what is checked at the old place, and then this
abbrev asked_of : Bool → Bool → Bool → Bool → Bool → Reply → Reply
asked_of homeless hidden absent forbidden claimed rest =
    if homeless then replies.Refused 1
    else if hidden then replies.Refused 2
    else if absent then replies.Refused 0
    else if forbidden then replies.Refused 2
    else if claimed then replies.Refused 3
    else rest

-- it is found only after memory and the disk are needed
asked_plain : (a b c d e : Bool) (rest : Reply) → is_plain rest ≡ false → is_plain (asked_of a b c d e rest) ≡ false
asked_plain true b c d e rest is = refl
asked_plain false true c d e rest is = refl
asked_plain false false true d e rest is = refl
asked_plain false false false true e rest is = refl
asked_plain false false false false true rest is = refl
asked_plain false false false false false rest is = is

-- what is checked at the new place, and then this
abbrev comes_to : Bool → Bool → Bool → Bool → Reply → Reply
comes_to homeless kept_out taken claimed rest =
    if homeless then replies.Refused 1
    else if kept_out then replies.Refused 2
    else if taken then replies.Refused 4
    else if claimed then replies.Refused 3
    else rest

comes_done : (a b c d : Bool) (rest : Reply) → comes_to a b c d replies.Done ≡ replies.Done
    → comes_to a b c d rest ≡ rest
comes_done true b c d rest is = cc is
comes_done false true c d rest is = cc is
comes_done false false true d rest is = cc is
comes_done false false false true rest is = cc is
comes_done false false false false rest is = refl

comes_there : (a b c d : Bool) → comes_to a b c d replies.Done ≡ replies.Done → (a ≡ false) × (c ≡ false)
comes_there true b c d is = cc is
comes_there false true c d is = cc is
comes_there false false true d is = cc is
comes_there false false false d is = (refl, refl)

comes_other : (a b c d : Bool) (rest reply : Reply) → comes_to a b c d replies.Done ≡ reply
    → (reply ≡ replies.Done → ⊥) → comes_to a b c d rest ≡ reply
comes_other true b c d rest reply is other = is
comes_other false true c d rest reply is other = is
comes_other false false true d rest reply is other = is
comes_other false false false true rest reply is other = is
comes_other false false false false rest reply is other = absurd (other (sym is))

comes_plain : (a b c d full : Bool)
    → is_plain (comes_to a b c d (if full then replies.Refused 0o14 else replies.Done)) ≡ false
comes_plain true b c d full = refl
comes_plain false true c d full = refl
comes_plain false false true d full = refl
comes_plain false false false true full = refl
comes_plain false false false false true = refl
comes_plain false false false false false = refl

if_plain : (deletes : Bool) (rest : Reply) → is_plain rest ≡ false
    → is_plain (if deletes then replies.Done else rest) ≡ false
if_plain true rest is = refl
if_plain false rest is = is

module _ (pack : Pack) (s : State) (job : machine.SpecJob) (e : ℕ) (old new : Place) where
  abbrev answer : Reply
  answer = move_answer pack s job old new

  -- a refusal for what is at the new place
  arrived_other : (reply : Reply) → arrival_answer s job old new ≡ reply → (reply ≡ replies.Done → ⊥) → answer ≡ reply
  arrived_other reply is other = comes_other (has_no_directory s new)
      (not (new.ppn == old.ppn) && not (may_create (directory_digit_at s job new)))
      (not (same_place new old) && not (is_absent s new)) (not (same_place new old) && is_claimed s new) _
      reply is other

  arrived : arrival_answer s job old new ≡ replies.Done
      → answer ≡ (if crowds pack s old new || overfills s old new then replies.Refused 0o14 else replies.Done)
  arrived is = comes_done (has_no_directory s new)
      (not (new.ppn == old.ppn) && not (may_create (directory_digit_at s job new)))
      (not (same_place new old) && not (is_absent s new)) (not (same_place new old) && is_claimed s new) _ is

  arrival_there : arrival_answer s job old new ≡ replies.Done → (has_no_directory s new ≡ false)
      × ((not (same_place new old) && not (is_absent s new)) ≡ false)
  arrival_there is = comes_there (has_no_directory s new)
      (not (new.ppn == old.ppn) && not (may_create (directory_digit_at s job new)))
      (not (same_place new old) && not (is_absent s new)) (not (same_place new old) && is_claimed s new) is

  -- the new place is that of the words
  module _ (place : new ≡ place_at job e) (moves : deletes_at job e ≡ false)
      (changes : change_answer s job e old ≡ replies.Done) where
    at_new : rename_from pack s job e old ≡ answer
    at_new = rename_goes_on s job e old pack changes
        ∙ ap (λ b. if b then replies.Done else move_answer pack s job old (place_at job e)) moves
        ∙ ap (move_answer pack s job old) (sym place)

    pub arrival_refused : (reply : Reply) → arrival_answer s job old new ≡ reply → (reply ≡ replies.Done → ⊥)
        → rename_from pack s job e old ≡ reply
    arrival_refused reply is other = at_new ∙ arrived_other reply is other

    pub arrival_homeless : has_no_directory s new ≡ true → rename_from pack s job e old ≡ replies.Refused 1
    arrival_homeless none = at_new ∙ ap (λ b. if b then replies.Refused 1
        else if not (new.ppn == old.ppn) && not (may_create (directory_digit_at s job new)) then replies.Refused 2
        else if not (same_place new old) && not (is_absent s new) then replies.Refused 4
        else if not (same_place new old) && is_claimed s new then replies.Refused 3
        else if crowds pack s old new || overfills s old new then replies.Refused 0o14
        else replies.Done) none

-- the answer of a RENAME of what a channel reads isn't one that is found before memory and the disk are needed
pub rename_late : (pack : Pack) (s : State) (job : machine.SpecJob) (e : ℕ) (old : Place)
    → is_plain (rename_from pack s job e old) ≡ false
rename_late pack s job e old =
    let new = place_at job e in
    asked_plain (has_no_directory s old) (not (may_look (directory_digit_at s job old)))
    (is_absent s old) (is_forbidden s job e old) (is_claimed s old) _
    (if_plain (deletes_at job e) _
    (comes_plain (has_no_directory s new)
    (not (new.ppn == old.ppn) && not (may_create (directory_digit_at s job new)))
    (not (same_place new old) && not (is_absent s new)) (not (same_place new old) && is_claimed s new)
    (crowds pack s old new || overfills s old new)))

-- What a volume answers to a move, if it hasn't failed.
pub record IsMoveAnswer (size : ℕ) (c : MemoryMap) (ppn : ℕ) (name : FileName) (to_ppn : ℕ) (to : FileName)
    (answer : Result (Unit {0}) CallError) : Type 0 where
  pub no_directory : (answer ≡ Err (Refused NoDirectory)) ↔ ((find nat_cmp ppn c.known.master.entries ≡ None)
      ⊎ (HasFile c ppn name × (find nat_cmp to_ppn c.known.master.entries ≡ None)))
  pub not_found : (answer ≡ Err (Refused NotFound)) ↔ ((d : CurrentDirectory) × IsDirectoryOf c ppn d
      × (find name_cmp name d.chain.entries ≡ None))
  pub exists : (answer ≡ Err (Refused NameExists)) ↔ (HasFile c ppn name × ((to_ppn ≡ ppn) × (to ≡ name) → ⊥)
      × HasFile c to_ppn to)
  pub no_room : (answer ≡ Err (Refused NoRoom)) ↔ (HasFile c ppn name × (to_ppn ≡ ppn → ⊥)
      × HasNoRoom size c to_ppn to)
  pub codes : (code : ErrorCode) → answer ≡ Err (Refused code)
      → (code ≡ NoDirectory) ⊎ (code ≡ NotFound) ⊎ (code ≡ NameExists) ⊎ (code ≡ NoRoom)

none_of : {X : Type 0} (o : Option X) → is_none o ≡ true → o ≡ None
none_of None is = refl
none_of (Some x) is = cc is

-- two tests, of which the first holds and not both
only_first : (a b : Bool) → (not a && not b) ≡ false → a ≡ false → b ≡ true
only_first true b is first = cc first
only_first false true is first = refl
only_first false false is first = cc is

pub other_place : (a b : Place) → a ≢ b → same_place a b ≡ false
other_place a b apart = ⊎_elim
    (λ (is : same_place a b ≡ true). absurd (apart (same_place-equal a b is)))
    (λ not. not) (cases_Bool (same_place a b))

pub less_of : (a b : ℕ) → nat_lt a b ≡ true → a < b
less_of a b is = grind (arith, nat_tests)

all_three : (a b c : Bool) → (not a && not b && c) ≡ true → (a ≡ false) × (b ≡ false) × (c ≡ true)
all_three true b c is = cc is
all_three false true c is = cc is
all_three false false c is = (refl, refl, is)

module _ (d : DiskState) (c : MemoryMap) (s : State) (known : IsKnown d c s) (sound : IsSoundMemory d c false)
    (honest : d.honest) (job : machine.SpecJob) (e : ℕ) (ppn : ℕ) (name : FileName) (to_ppn : ℕ) (to : FileName)
    (place : place_of to_ppn to ≡ place_at job e) (moves : deletes_at job e ≡ false)
    (changes : change_answer s job e (place_of ppn name) ≡ replies.Done)
    (comes : arrival_answer s job (place_of ppn name) (place_of to_ppn to) ≡ replies.Done) where
  abbrev old : Place
  old = place_of ppn name

  abbrev new : Place
  new = place_of to_ppn to

  abbrev pack : Pack
  pack = pack_of d

  holds : Holds d c.known (without_serials s.files)
  holds = rest_holds d c false sound honest refl (without_serials s.files) known.files

  -- What the machine has there.

  pub moves_from : (x : SpecVersion) × (file_at s.files old ≡ Some x)
  moves_from = changed_there s job e old changes

  pub moves_home : (home : Directory SpecVersion) × (get s.files to_ppn ≡ Some home)
  moves_home = is_there (get s.files to_ppn) (arrival_there pack s job e old new comes).0

  old_home : (home : Directory SpecVersion) × (get s.files ppn ≡ Some home)
  old_home = let found = directory_of_file s.files old moves_from.0 moves_from.1 in (found.0, found.1)

  pub moves_free : new ≢ old → file_at s.files new ≡ None
  moves_free apart = none_of (file_at s.files new)
      (only_first (same_place new old) (is_absent s new) (arrival_there pack s job e old new comes).1
      (other_place new old apart))

  -- What the volume has.

  abbrev home_at : (ppn : ℕ) (name : FileName) (x : Directory SpecVersion) → get s.files ppn ≡ Some x
      → IsHome c s.files ppn name x
  home_at ppn name x is = home d c s.files holds sound.whole.map ppn name x is

  has_file : HasFile c ppn name
  has_file =
      let h = home_at ppn name old_home.0 old_home.1 in
      let in_home = sym (ap (λ o. file_in o name) old_home.1) ∙ moves_from.1 in
      (h.known, h.there, λ none. let absent = ap is_none (sym none) ∙ h.absent ∙ ap is_none in_home in cc absent)

  listed_at : (ppn : ℕ) (x : Directory SpecVersion) → get s.files ppn ≡ Some x
      → find nat_cmp ppn c.known.master.entries ≡ None → ⊥
  listed_at ppn x is = listed d c s.files holds sound.whole.map ppn x is

  -- a directory that the volume knows has this name if the files have it
  entered_at : (ppn : ℕ) (name : FileName) (x : CurrentDirectory) → IsDirectoryOf c ppn x
      → is_none (find name_cmp name x.chain.entries) ≡ is_none (file_at s.files (place_of ppn name))
  entered_at ppn name x there =
      let h = home_of d c s.files holds sound.whole.map ppn name x there in
      h.absent ∙ ap (λ o. is_none (file_in o name)) (sym h.there)

  counted_at : (x : CurrentDirectory) → IsDirectoryOf c to_ppn x → entry_count s to_ppn ≡ entries_with c x to_ppn
  counted_at x there =
      let h = home_of d c s.files holds sound.whole.map to_ppn to x there in
      λ i. (ap names_in h.there ∙ h.entries) i + known.creations to_ppn i

  -- Room.

  crowded : crowds pack s old new ≡ true → (to_ppn ≢ ppn) × HasNoRoom d.size c to_ppn to
  crowded full =
      let tests = all_three (to_ppn == ppn) (growth (entry_count s to_ppn) == 0) (has_no_room pack s) full in
      let apart : to_ppn ≢ ppn = λ same. let wrong = sym tests.0 ∙ eq-eqb to_ppn ppn same in cc wrong in
      let h = home_at to_ppn to moves_home.0 moves_home.1 in
      let none = moves_free (λ same. apart (ap (λ (q : Place). q.ppn) same)) in
      let count = counted_at h.known h.there in
      let grows : 0 < growth (entry_count s to_ppn) = some_number (growth (entry_count s to_ppn)) tests.1 in
      let past = less_of (space d.size) (booked s + 1) tests.2 in
      let books = known.booked_is in (
        apart,
        (
          h.known,
          h.there,
          none_of _ (entered_at to_ppn to h.known h.there ∙ ap is_none none),
          subst (λ (n : ℕ). 0 < growth n) count grows,
          subst (λ (n : ℕ). space d.size < c.known.table.booked + growth n) count (omega arith),
        ),
      )

  not_crowded : to_ppn ≢ ppn → HasNoRoom d.size c to_ppn to → crowds pack s old new ≡ true
  not_crowded apart (x, there, none, grows, past) =
      let count = counted_at x there in
      let once = grows_by_one (entries_with c x to_ppn) in
      let books = known.booked_is in
      let other = ne_eqb to_ppn ppn apart in
      let some : growth (entry_count s to_ppn) ≡ 1 = ap growth count ∙ (omega arith) in
      let full = less (space d.size) (booked s + 1) (omega arith) in
      λ i. not (other i) && not (some i == 0) && full i

  from_room : rename_from pack s job e old
      ≡ (if crowds pack s old new || overfills s old new then replies.Refused 0o14 else replies.Done)
  from_room = at_new pack s job e old new place moves changes ∙ arrived pack s job e old new comes

  -- The quota of the new directory.

  from_files : (x : SpecVersion) → file_at s.files old ≡ Some x → IsFileKnown c ppn name x.file
  from_files x there =
      let at = directory_of_file s.files old x there in
      file_known d c false sound honest refl (without_serials s.files) known.files ppn name
      (map_directory (λ (v : SpecVersion). v.file) at.0) (shown_at s.files ppn
      ∙ ap (option_map (map_directory (λ (v : SpecVersion). v.file))) at.1) x.file
      (get-map_values name_total (λ (v : SpecVersion). v.file) at.0.files name
      ∙ ap (option_map (λ (v : SpecVersion). v.file)) at.2)

  -- the number of blocks that the file needs there
  abbrev needs : ℕ
  needs = present_cost (file_at s.files old) + growth (entry_count s to_ppn)

  module _ (allows : Bool) (quota : AllowsMove c ppn name to_ppn allows) where
    quota_here : (allows ≡ false) ↔ ((ppn ≡ to_ppn → ⊥) × IsOver c to_ppn needs)
    quota_here =
        let is = from_files moves_from.0 moves_from.1 in
        let h = home_at to_ppn to moves_home.0 moves_home.1 in
        let cost : cost_of_version is.version.1 ≡ present_cost (file_at s.files old) =
        is.cost ∙ ap present_cost (sym moves_from.1) in
        subst (λ (n : ℕ). (allows ≡ false) ↔ ((ppn ≡ to_ppn → ⊥) × IsOver c to_ppn n))
        (λ i. cost i + growth (sym (counted_at h.known h.there) i))
        (quota is.directory h.known is.there h.there (Some is.version) is.named)

    limits : LimitsAre c s
    limits = limits_are d c s known sound honest

    -- it leaves as much, or the file stays in its directory
    leaves_it : allows ≡ true → overfills s old new ≡ false
    leaves_it so = ⊎_elim
        (λ (same : (to_ppn == ppn) ≡ true). ap (λ b. not b && exceeds_left s to_ppn needs) same)
        (λ (other : (to_ppn == ppn) ≡ false).
        let apart : ppn ≡ to_ppn → ⊥ = λ same. both_ways (to_ppn == ppn) other (eq-eqb to_ppn ppn (sym same)) in
        let left = (limits to_ppn needs).1 (λ over. both_ways allows (quota_here.1 (apart, over)) so) in
        λ i. not (other i) && left i)
        (cases_Bool (to_ppn == ppn))

    refuses_it : allows ≡ false → overfills s old new ≡ true
    refuses_it refuses =
        let why = quota_here.0 refuses in
        let other = ne_eqb to_ppn ppn (λ same. why.0 (sym same)) in
        let past = (limits to_ppn needs).0 why.1 in
        λ i. not (other i) && past i

    -- what the quota refuses
    pub moves_limited : allows ≡ false → rename_from pack s job e old ≡ replies.Refused 0o14
    moves_limited refuses = from_room ∙ either (crowds pack s old new) (overfills s old new) (refuses_it refuses)
      where
        either : (a b : Bool) → b ≡ true → (if a || b then replies.Refused 0o14 else replies.Done) ≡ replies.Refused
            0o14
        either true b is = refl
        either false b is = ap (λ t. if t then replies.Refused 0o14 else replies.Done) is

  module _ (answer : Result (Unit {0}) CallError) (is : IsMoveAnswer d.size c ppn name to_ppn to answer) where
    -- what isn't refused for lack of room isn't refused for it by the machine
    pub moves_done : (answer ≡ Err (Refused NoRoom) → ⊥) → (allows : Bool) → allows ≡ true
        → AllowsMove c ppn name to_ppn allows → rename_from pack s job e old ≡ replies.Done
    moves_done fits allows so quota = from_room ∙ ⊎_elim
        (λ (full : crowds pack s old new ≡ true). let no = crowded full in
        absurd (fits (is.no_room.1 (has_file, no.0, no.1))))
        (λ room. let left = leaves_it allows quota so in
        λ i. if room i || left i then replies.Refused 0o14 else replies.Done)
        (cases_Bool (crowds pack s old new))

    -- and it is refused for nothing else
    pub moves_refused : (code : ErrorCode) → answer ≡ Err (Refused code)
        → rename_from pack s job e old ≡ replies.Refused (number_of code)
    moves_refused code refused = ⊎_elim
        (λ (first : code ≡ NoDirectory). absurd (⊎_elim
        (λ none. listed_at ppn old_home.0 old_home.1 none)
        (λ none. listed_at to_ppn moves_home.0 moves_home.1 none.1)
        (is.no_directory.0 (refused ∙ ap (λ k. Err (Refused k)) first))))
        (λ rest. ⊎_elim
        (λ (second : code ≡ NotFound).
        let gone = is.not_found.0 (refused ∙ ap (λ k. Err (Refused k)) second) in
        let absent = sym (ap is_none gone.2) ∙ entered_at ppn name gone.0 gone.1 ∙ ap is_none moves_from.1 in
        cc absent)
        (λ rest'. ⊎_elim
        (λ (third : code ≡ NameExists).
        let taken = is.exists.0 (refused ∙ ap (λ k. Err (Refused k)) third) in
        let there = taken.2 in
        let free = moves_free (λ same. taken.1 (ap (λ (q : Place). q.ppn) same, ap (λ (q : Place). q.name) same)) in
        absurd (there.2 (none_of _ (entered_at to_ppn to there.0 there.1 ∙ ap is_none free))))
        (λ (last : code ≡ NoRoom).
        let no = is.no_room.0 (refused ∙ ap (λ k. Err (Refused k)) last) in
        from_room ∙ ap (λ b. if b || overfills s old new then replies.Refused 0o14 else replies.Done)
        (not_crowded no.1 no.2)
        ∙ ap (λ k. replies.Refused (number_of k)) (sym last))
        rest') rest) (is.codes code refused)
