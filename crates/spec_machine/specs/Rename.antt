-- RENAME, which gives the file that a channel has looked up another name, place or protection. A zero name deletes it.
-- Whoever has the version open continues to read it.
use Rattle.std.specs.Prelude.{ℕ, ◌+◌, ◌/◌, ◌^◌, ◌==◌, ◌&&◌, ◌||◌, not, Bool, false, is_some, if◌then◌else◌, Option}
use Rattle.std.specs.Prelude.{Some, None, slice_index}
use Rattle.spec_image.specs.Common.{Files, Place, SpecVersion, same_place, file_at, with_file, without_file}
use Rattle.spec_image.specs.Common.{with_protection, Pack, growth}
use Rattle.spec_machine.specs.Rights.{may_look, may_create, may_rename, may_protect}
use Rattle.spec_machine.specs.Cores.{lies_outside}
use Rattle.spec_machine.specs.Jobs.{SpecInput, SpecOutput, Channel, SpecJob, State, with_channel}
use Rattle.spec_machine.specs.Room.{is_claimed, entry_count, has_no_room}
use Rattle.spec_machine.specs.Charges.{exceeds_left}
use Rattle.spec_machine.specs.Lookup.{place_at, has_no_directory, is_absent, directory_digit_at, digit_at}
use Rattle.spec_machine.specs.Update.{present_cost}
use Rattle.spec_machine.specs.Outcomes.{settled, clean, refused_at}
use Rattle.spec_machine.specs.declared.call.Reply.{Reply}
use Rattle.spec_machine.specs.declared.call.Reply.TheVariants.{Done, Refused, AddressCheck}

-- The four words at an address name the new place, with the new protection in bits 0 to 8 of the third: 0 is a
-- protection like any other. Of a deletion only the zero name is read.

abbrev pub deletes_at : SpecJob → ℕ → Bool
deletes_at job e = slice_index job.core e == 0

abbrev pub protection_at : SpecJob → ℕ → ℕ
protection_at job e = slice_index job.core (e + 2) / 2 ^ 27

abbrev pub changes_protection : ℕ → Option SpecVersion → Bool
changes_protection protection None = false
changes_protection protection (Some v) = not (v.file.protection == protection)

-- the file's digit doesn't allow it
abbrev pub is_forbidden : State → SpecJob → ℕ → Place → Bool
is_forbidden s job e old =
    not (may_rename (digit_at s job old))
    || (not (deletes_at job e) && changes_protection (protection_at job e) (file_at s.files old)
    && not (may_protect (digit_at s job old)))

-- another directory would get one more block, and there is none left
abbrev pub crowds : Pack → State → Place → Place → Bool
crowds pack s old new = not (new.ppn == old.ppn) && not (growth (entry_count s new.ppn) == 0) && has_no_room pack s

-- another directory's quota doesn't leave what the moved file costs, with the block, if any, that its entry adds
abbrev pub overfills : State → Place → Place → Bool
overfills s old new = not (new.ppn == old.ppn)
    && exceeds_left s new.ppn (present_cost (file_at s.files old) + growth (entry_count s new.ppn))

-- the new place
abbrev pub move_answer : Pack → State → SpecJob → Place → Place → Reply
move_answer pack s job old new =
    if has_no_directory s new then Refused 1
    else if not (new.ppn == old.ppn) && not (may_create (directory_digit_at s job new)) then Refused 2
    else if not (same_place new old) && not (is_absent s new) then Refused 4
    else if not (same_place new old) && is_claimed s new then Refused 3
    else if crowds pack s old new || overfills s old new then Refused 0o14
    else Done

-- the place that was looked up, as it is now
abbrev pub rename_from : Pack → State → SpecJob → ℕ → Place → Reply
rename_from pack s job e old =
    if has_no_directory s old then Refused 1
    else if not (may_look (directory_digit_at s job old)) then Refused 2
    else if is_absent s old then Refused 0
    else if is_forbidden s job e old then Refused 2
    else if is_claimed s old then Refused 3
    else if deletes_at job e then Done
    else move_answer pack s job old (place_at job e)

-- depending on the channel's sides
abbrev pub rename_sides : Pack → State → SpecJob → ℕ → Option SpecInput → Option SpecOutput → Reply
rename_sides pack s job e None output = Refused 5
rename_sides pack s job e (Some i) output = if is_some output then Refused 5 else rename_from pack s job e i.place

abbrev pub rename_answer : Pack → State → SpecJob → Channel → ℕ → Reply
rename_answer pack s job c e = if lies_outside job.core e 4 then AddressCheck
    else rename_sides pack s job e c.input c.output

-- One change of the map: the version moves, or is gone. It keeps its serial, mode, time, date and words.

abbrev pub files_moved : Files SpecVersion → Place → Place → ℕ → Option SpecVersion → Files SpecVersion
files_moved files old new protection None = files
files_moved files old new protection (Some v) = with_file (without_file files old) new (with_protection v protection)

abbrev pub files_from : Files SpecVersion → SpecJob → ℕ → Place → Files SpecVersion
files_from files job e old =
    if deletes_at job e then without_file files old
    else files_moved files old (place_at job e) (protection_at job e) (file_at files old)

abbrev pub files_renamed : Files SpecVersion → SpecJob → ℕ → Option SpecInput → Files SpecVersion
files_renamed files job e None = files
files_renamed files job e (Some i) = files_from files job e i.place

-- the input side closes; the core is unchanged
abbrev pub rename_done : SpecJob → ℕ → Channel → SpecJob
rename_done job number c = with_channel job number (Some (record (clean c) { input = None }))

abbrev pub renames : Pack → State → SpecJob → ℕ → Channel → ℕ → Reply × (SpecJob × Files SpecVersion)
renames pack s job number c e =
    settled (rename_answer pack s job c e) (rename_done job number c, files_renamed s.files job e c.input)
    (λ reply. (refused_at job e reply, s.files))
