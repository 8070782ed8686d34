-- ENTER, which opens a file for writing: a new one, one that will supersede a file, or, on a channel that
-- has looked a file up, that file itself.
use Rattle.std.specs.Prelude.{ℕ, ◌+◌, ◌/◌, ◌^◌, ◌==◌, ◌||◌, not, is_some, if◌then◌else◌, [], Option, Some, None}
use Rattle.std.specs.Prelude.{slice_index}
use Rattle.words36.specs.declared.moment.Moment.{Moment}
use Rattle.spec_image.specs.Common.{File, Place, SpecVersion, file_at, Pack, growth}
use Rattle.spec_machine.specs.Rights.{may_look, may_create, may_supersede}
use Rattle.spec_machine.specs.Cores.{lies_outside}
use Rattle.spec_machine.specs.Jobs.{Create, Supersede, SpecInput, SpecOutput, Channel, SpecJob, State, with_channel}
use Rattle.spec_machine.specs.Room.{is_claimed, entry_count}
use Rattle.spec_machine.specs.Charges.{exceeds_limits}
use Rattle.spec_machine.specs.Lookup.{place_at, has_no_directory, is_absent, directory_digit_at, digit_at}
use Rattle.spec_machine.specs.Lookup.{with_attributes}
use Rattle.spec_machine.specs.Update.{is_elsewhere, update_answer, output_updating, input_updating}
use Rattle.spec_machine.specs.Outcomes.{settled, clean, refused_at}
use Rattle.spec_machine.specs.declared.call.Reply.{Reply}
use Rattle.spec_machine.specs.declared.call.Reply.TheVariants.{Done, Refused, AddressCheck}

-- the name is absent
abbrev pub create_answer : Pack → State → SpecJob → Place → Reply
create_answer pack s job place =
    if not (may_create (directory_digit_at s job place)) then Refused 2
    else if is_claimed s place then Refused 3
    else if exceeds_limits pack s place.ppn (1 + growth (entry_count s place.ppn)) then Refused 0o14
    else Done

-- the name is present
abbrev pub supersede_answer : Pack → State → SpecJob → Place → Reply
supersede_answer pack s job place =
    if not (may_look (directory_digit_at s job place)) || not (may_supersede (digit_at s job place)) then Refused 2
    else if is_claimed s place then Refused 3
    else if exceeds_limits pack s place.ppn 1 then Refused 0o14
    else Done

-- depending on whether the channel has looked a file up
abbrev pub begin_answer : Pack → State → SpecJob → Option SpecInput → Place → Reply
begin_answer pack s job None place = if is_absent s place then create_answer pack s job place
    else supersede_answer pack s job place
begin_answer pack s job (Some i) place = update_answer pack s job place

abbrev pub enter_answer : Pack → State → SpecJob → Channel → ℕ → Place → Reply
enter_answer pack s job c e place =
    if lies_outside job.core e 4 then AddressCheck
    else if is_some c.output || is_elsewhere c.input place then Refused 5
    else if has_no_directory s place then Refused 1
    else if place.name.name == 0 then Refused 0
    else begin_answer pack s job c.input place

-- the protection in bits 0 to 8 of a word, or another one if they are 0
abbrev pub protection_or : ℕ → ℕ → ℕ
protection_or word default = if word / 2 ^ 27 == 0 then default else word / 2 ^ 27

abbrev pub new_file : ℕ → Channel → Moment → File
new_file protection c moment = record {
  protection = protection;
  mode = c.mode;
  time = moment.minute;
  date = moment.date;
  body = [];
}

-- The output side that an ENTER opens, by the version that is current: a new file's protection is the one given, a
-- superseding file's is that of the old file. `digit` is the job's digit for that version.
abbrev pub output_opened : SpecJob → Channel → ℕ → Moment → Place → ℕ → Option SpecInput → Option SpecVersion
    → SpecOutput
output_opened job c e moment place digit input None =
    record {
      place = place;
      kind = Create;
      pending = new_file (protection_or (slice_index job.core (e + 2)) 0o057) c moment;
      next = 1;
    }
output_opened job c e moment place digit None (Some v) = record {
  place = place;
  kind = Supersede;
  pending = new_file v.file.protection c moment;
  next = 1;
}
output_opened job c e moment place digit (Some i) (Some v) = output_updating digit place v

abbrev pub entered : Pack → SpecJob → ℕ → Channel → ℕ → Option SpecInput → SpecOutput → SpecJob
entered pack job number c e input o =
    with_channel (record job { core = with_attributes pack.layout job.core e o.pending }) number
    (Some (record (clean c) { input = input; output = Some o }))

abbrev pub enter_done : Pack → State → SpecJob → ℕ → Channel → ℕ → Moment → Place → SpecJob
enter_done pack s job number c e moment place =
    entered pack job number c e (input_updating c.input (file_at s.files place))
    (output_opened job c e moment place (digit_at s job place) c.input (file_at s.files place))

abbrev pub enter : Pack → State → SpecJob → ℕ → Channel → ℕ → Moment → Reply × SpecJob
enter pack s job number c e moment =
    settled (enter_answer pack s job c e (place_at job e)) (enter_done pack s job number c e moment (place_at job e))
    (refused_at job e)
