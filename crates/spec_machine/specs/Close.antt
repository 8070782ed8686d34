-- CLOSE and RELEAS. The blocks of what is published were booked by OUT and the place of its name by ENTER, so that
-- there may be no room only for the last buffer of a ring.
use Rattle.std.specs.Prelude.{ℕ, ◌/◌, ◌%◌, ◌==◌, ◌&&◌, ◌||◌, not, Bool, is_some, if◌then◌else◌, List, [], ◌++◌}
use Rattle.std.specs.Prelude.{Option, Some, None, option_map}
use Rattle.spec_image.specs.Common.{Files, SpecVersion, with_file, Pack}
use Rattle.spec_machine.specs.Cores.{after_writes}
use Rattle.spec_machine.specs.Rings.{is_buffered, last_words, closed_header}
use Rattle.spec_machine.specs.Jobs.{SpecInput, SpecOutput, Channel, SpecJob, State, with_channel}
use Rattle.spec_machine.specs.Outcomes.{settled, clean, stopped_in}
use Rattle.spec_machine.specs.Outputs.{place_answer, put_on}
use Rattle.spec_machine.specs.declared.call.Reply.{Reply}
use Rattle.spec_machine.specs.declared.call.Reply.TheVariants.{Done, AddressCheck}

-- The bits of a CLOSE: 1 and 2 keep a side open, 40 drops what was written. Others mean nothing.

abbrev pub keeps_output : ℕ → Bool
keeps_output bits = bits % 2 == 1

abbrev pub keeps_input : ℕ → Bool
keeps_input bits = bits / 2 % 2 == 1

abbrev pub discards : ℕ → Bool
discards bits = bits / 32 % 2 == 1

-- an output side closes, and what it wrote becomes the file of its name
abbrev pub publishes : Channel → ℕ → Bool
publishes c bits = is_some c.output && not (keeps_output bits) && not (discards bits)

-- The last buffer of an output side: its words are put before it is published.

abbrev pub last_buffer : SpecJob → Channel → Option (List ℕ)
last_buffer job c = if is_buffered c.mode then last_words job.core c.output_header else Some []

abbrev pub words_or_none : Option (List ℕ) → List ℕ
words_or_none None = []
words_or_none (Some words) = words

-- the output side with these words put
abbrev pub output_put : SpecJob → Channel → Option SpecOutput
output_put job c = put_on c.output (words_or_none (last_buffer job c))

abbrev pub last_answer : Pack → State → Channel → Option SpecOutput → Option (List ℕ) → Reply
last_answer pack s c None last = Done
last_answer pack s c (Some o) None = AddressCheck
last_answer pack s c (Some o) (Some words) = place_answer pack s c o words

abbrev pub close_answer : Pack → State → SpecJob → Channel → ℕ → Reply
close_answer pack s job c bits = if publishes c bits then last_answer pack s c c.output (last_buffer job c) else Done

-- the version that an output side publishes; its serial is the one free choice of an event
abbrev pub published : ℕ → SpecOutput → SpecVersion
published serial o = record { file = o.pending; serial = serial }

-- one change of the map
abbrev pub files_with : Files SpecVersion → ℕ → Option SpecOutput → Files SpecVersion
files_with files serial None = files
files_with files serial (Some o) = with_file files o.place (published serial o)

abbrev pub files_closed : ℕ → Files SpecVersion → SpecJob → Channel → ℕ → Files SpecVersion
files_closed serial files job c bits = if publishes c bits then files_with files serial (output_put job c) else files

-- an input side that stays pins the version that is published, if there is one
abbrev pub holding : Option SpecInput → Option SpecVersion → Option SpecInput
holding None v = None
holding (Some i) None = Some i
holding (Some i) (Some v) = Some (record i { version = v })

abbrev pub input_closed : ℕ → SpecJob → Channel → ℕ → Option SpecInput
input_closed serial job c bits =
    if not (keeps_input bits) then None
    else if publishes c bits then holding c.input (option_map (published serial) (output_put job c))
    else c.input

abbrev pub output_closed : Channel → ℕ → Option SpecOutput
output_closed c bits = if keeps_output bits then c.output else None

abbrev pub channel_closed : ℕ → SpecJob → Channel → ℕ → Channel
channel_closed serial job c bits = record (clean c) {
  input = input_closed serial job c bits;
  output = output_closed c bits;
}

-- The header of a side that closes is marked, the output's first; both are read before that.

abbrev pub header_closed : List ℕ → ℕ → Bool → List (ℕ × ℕ)
header_closed core header closes = if closes then closed_header core header else []

abbrev pub core_closed : List ℕ → Channel → ℕ → List ℕ
core_closed core c bits =
    if not (is_buffered c.mode) || discards bits then core
    else after_writes core
    (header_closed core c.output_header (is_some c.output && not (keeps_output bits))
    ++ header_closed core c.input_header (is_some c.input && not (keeps_input bits)))

abbrev pub close_done : ℕ → SpecJob → ℕ → Channel → ℕ → SpecJob
close_done serial job number c bits = with_channel (record job { core = core_closed job.core c bits }) number
    (Some (channel_closed serial job c bits))

abbrev pub closes : Pack → ℕ → State → SpecJob → ℕ → Channel → ℕ → Reply × (SpecJob × Files SpecVersion)
closes pack serial s job number c bits =
    settled (close_answer pack s job c bits) (
      close_done serial job number c bits,
      files_closed serial s.files job c bits,
    ) (λ reply. (stopped_in job number c reply, s.files))

-- RELEAS closes both sides, and then the channel, which stays open if they can't be closed.
abbrev pub releases : Pack → ℕ → State → SpecJob → ℕ → Channel → Reply × (SpecJob × Files SpecVersion)
releases pack serial s job number c =
    settled (close_answer pack s job c 0) (
      with_channel (record job { core = core_closed job.core c 0 }) number None,
      files_closed serial s.files job c 0,
    ) (λ reply. (stopped_in job number c reply, s.files))
