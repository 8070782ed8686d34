-- LOOKUP, and what every call reads that names a file by four words at an address. The first is the name, the left half
-- of the second the extension; the third has protection, mode, time and date; the fourth is the directory, 0 for the
-- job's own.
use Rattle.std.specs.Prelude.{ℕ, ◌+◌, ◌-◌, ◌*◌, ◌/◌, ◌%◌, ◌^◌, ◌==◌, ◌||◌, nat_le, not, Bool, is_some, is_none}
use Rattle.std.specs.Prelude.{if◌then◌else◌, List, [], ◌∷◌, length, Option, Some, None, slice_index}
use Rattle.words36.specs.Common.{left, join}
use Rattle.spec_image.specs.Common.{get, File, Directory, Place, blocks_of, SpecVersion, file_at, attributes, Pack}
use Rattle.spec_machine.specs.Rights.{file_digit, directory_digit, may_look, may_read}
use Rattle.spec_machine.specs.Cores.{lies_outside, after_writes}
use Rattle.spec_machine.specs.Jobs.{Channel, SpecJob, State, with_channel}
use Rattle.spec_machine.specs.Outcomes.{settled, clean, refused_at}
use Rattle.spec_machine.specs.declared.call.Reply.{Reply}
use Rattle.spec_machine.specs.declared.call.Reply.TheVariants.{Done, Refused, AddressCheck}

abbrev pub own_if_zero : ℕ → ℕ → ℕ
own_if_zero ppn own = if ppn == 0 then own else ppn

-- the place that the four words at an address name
abbrev pub place_at : SpecJob → ℕ → Place
place_at job e = record {
  ppn = own_if_zero (slice_index job.core (e + 3)) job.ppn;
  name = record { name = slice_index job.core e; ext = left (slice_index job.core (e + 1)) };
}

abbrev pub has_no_directory : State → Place → Bool
has_no_directory s place = is_none (get s.files place.ppn)

abbrev pub is_absent : State → Place → Bool
is_absent s place = is_none (file_at s.files place)

-- A job's digit for the directory of a place, and for the version that is current there.

abbrev pub digit_for_directory : SpecJob → ℕ → Option (Directory SpecVersion) → ℕ
digit_for_directory job owner None = 0
digit_for_directory job owner (Some d) = directory_digit d.protection job.ppn owner

abbrev pub directory_digit_at : State → SpecJob → Place → ℕ
directory_digit_at s job place = digit_for_directory job place.ppn (get s.files place.ppn)

abbrev pub digit_for_version : SpecJob → ℕ → Option SpecVersion → ℕ
digit_for_version job owner None = 7
digit_for_version job owner (Some v) = file_digit v.file.protection job.ppn owner

abbrev pub digit_at : State → SpecJob → Place → ℕ
digit_at s job place = digit_for_version job place.ppn (file_at s.files place)

abbrev pub lookup_answer : State → SpecJob → Channel → ℕ → Place → Reply
lookup_answer s job c e place =
    if lies_outside job.core e 4 then AddressCheck
    else if is_some c.output then Refused 5
    else if has_no_directory s place then Refused 1
    else if not (may_look (directory_digit_at s job place)) then Refused 2
    else if (place.name.name == 0) || is_absent s place then Refused 0
    else if not (may_read (digit_at s job place)) then Refused 2
    else Done

-- the right half of the extension's word: zero, or in layout 2 the date's high three bits
abbrev pub high_date : ℕ → ℕ → ℕ
high_date layout date = if layout == 1 then 0 else date / 4096 * 2 ^ 15

-- the fourth word: its left half is minus the number of words, up to 131,072 words, else the number of blocks
abbrev pub size_word : ℕ → ℕ
size_word words = join (if nat_le words 131072 then (2 ^ 18 - words) % 2 ^ 18 else blocks_of words) 0

-- the core with a file's attributes in the second and third word
abbrev pub with_attributes : ℕ → List ℕ → ℕ → File → List ℕ
with_attributes layout core e f = after_writes core
    ((e + 1, join (left (slice_index core (e + 1))) (high_date layout f.date)) ∷ (e + 2, attributes f) ∷ [])

-- an earlier input side is replaced
abbrev pub looked_up : Pack → SpecJob → ℕ → Channel → ℕ → Place → Option SpecVersion → SpecJob
looked_up pack job number c e place None = job
looked_up pack job number c e place (Some v) =
    with_channel (record job {
      core = after_writes (with_attributes pack.layout job.core e v.file)
          ((e + 3, size_word (length v.file.body)) ∷ []);
    })
    number (Some (record (clean c) { input = Some (record { place = place; version = v; next = 1 }) }))

abbrev pub lookup_done : Pack → State → SpecJob → ℕ → Channel → ℕ → Place → SpecJob
lookup_done pack s job number c e place = looked_up pack job number c e place (file_at s.files place)

abbrev pub lookup : Pack → State → SpecJob → ℕ → Channel → ℕ → Reply × SpecJob
lookup pack s job number c e =
    settled (lookup_answer s job c e (place_at job e)) (lookup_done pack s job number c e (place_at job e))
    (refused_at job e)
