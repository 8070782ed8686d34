-- ENTER on a channel that has looked a file up: it updates that file, or appends to it.
use Rattle.std.specs.Prelude.{ℕ, ◌+◌, ◌||◌, not, Bool, false, if◌then◌else◌, length, Option, Some, None}
use Rattle.spec_image.specs.Common.{Place, blocks_of, version_cost, SpecVersion, same_place, file_at, Pack}
use Rattle.spec_machine.specs.Rights.{may_look, may_append, may_update}
use Rattle.spec_machine.specs.Jobs.{SpecInput, Update, Append, SpecOutput, SpecJob, State}
use Rattle.spec_machine.specs.Room.{is_claimed}
use Rattle.spec_machine.specs.Charges.{exceeds_limits}
use Rattle.spec_machine.specs.Lookup.{is_absent, directory_digit_at, digit_at}
use Rattle.spec_machine.specs.declared.call.Reply.{Reply}
use Rattle.spec_machine.specs.declared.call.Reply.TheVariants.{Done, Refused}

-- the input side has another name or directory
abbrev pub is_elsewhere : Option SpecInput → Place → Bool
is_elsewhere None place = false
is_elsewhere (Some i) place = not (same_place i.place place)

abbrev pub present_cost : Option SpecVersion → ℕ
present_cost None = 0
present_cost (Some v) = version_cost (length v.file.body)

-- Whatever file has that place now is updated, if there is room for the whole of it and the directory's quota leaves as
-- much.
abbrev pub update_answer : Pack → State → SpecJob → Place → Reply
update_answer pack s job place =
    if is_absent s place then Refused 0
    else if not (may_look (directory_digit_at s job place)) || not (may_append (digit_at s job place)) then Refused 2
    else if is_claimed s place then Refused 3
    else if exceeds_limits pack s place.ppn (present_cost (file_at s.files place)) then Refused 0o14
    else Done

-- the output side begins with the current version; a job that may only append begins after its last block
abbrev pub output_updating : ℕ → Place → SpecVersion → SpecOutput
output_updating digit place v =
    if may_update digit then record { place = place; kind = Update; pending = v.file; next = 1 }
    else record {
      place = place;
      kind = Append (blocks_of (length v.file.body));
      pending = v.file;
      next = blocks_of (length v.file.body) + 1;
    }

-- the input side gets that version, and its next block stays
abbrev pub input_updating : Option SpecInput → Option SpecVersion → Option SpecInput
input_updating None found = None
input_updating (Some i) None = Some i
input_updating (Some i) (Some v) = Some (record i { version = v })
