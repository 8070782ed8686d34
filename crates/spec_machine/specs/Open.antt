-- OPEN, and INBUF and OUTBUF, which set up the rings of a channel that is open.
use Rattle.std.specs.Prelude.{ℕ, ◌+◌, ◌%◌, ◌==◌, ◌||◌, ◌&&◌, not, Bool, is_some, if◌then◌else◌, List, [], ◌++◌}
use Rattle.std.specs.Prelude.{Option, Some, None, slice_index}
use Rattle.words36.specs.Common.{left, right}
use Rattle.spec_machine.specs.Jobs.{Channel, SpecJob, channel_at, with_channel, improper_mode}
use Rattle.spec_machine.specs.Cores.{lies_outside, after_writes}
use Rattle.spec_machine.specs.Rings.{is_buffered, byte_size, unused_header, setup, buffers_of}
use Rattle.spec_machine.specs.Outcomes.{settled, clean}
use Rattle.spec_machine.specs.declared.call.Reply.{Reply}
use Rattle.spec_machine.specs.declared.call.Reply.TheVariants.{Done, Refused, Stopped, AddressCheck}

-- DSK, in SIXBIT
abbrev pub disk : ℕ
disk = 0o446353000000

abbrev pub dump_mode : ℕ
dump_mode = 0o17

-- The three words at an address: the mode in the low four bits of the first, the device, and the two headers'
-- addresses, the output's in the left half.

abbrev pub mode_at : List ℕ → ℕ → ℕ
mode_at core a = slice_index core a % 16

abbrev pub device_at : List ℕ → ℕ → ℕ
device_at core a = slice_index core (a + 1)

abbrev pub output_header_at : List ℕ → ℕ → ℕ
output_header_at core a = left (slice_index core (a + 2))

abbrev pub input_header_at : List ℕ → ℕ → ℕ
input_header_at core a = right (slice_index core (a + 2))

abbrev pub is_mode : ℕ → Bool
is_mode mode = is_buffered mode || (mode == dump_mode)

-- a header that is named isn't in the core
abbrev pub misses_header : List ℕ → ℕ → Bool
misses_header core header = not (header == 0) && lies_outside core header 3

abbrev pub misses_headers : List ℕ → ℕ → Bool
misses_headers core a = is_buffered (mode_at core a)
    && (misses_header core (output_header_at core a) || misses_header core (input_header_at core a))

abbrev pub open_answer : SpecJob → ℕ → ℕ → Reply
open_answer job number a =
    if lies_outside job.core a 3 || misses_headers job.core a then AddressCheck
    else if is_some (channel_at job number) then Refused 5
    else if not (device_at job.core a == disk) || not (is_mode (mode_at job.core a))
    then Stopped (improper_mode + mode_at job.core a)
    else Done

abbrev pub channel_opened : List ℕ → ℕ → Channel
channel_opened core a = record {
  mode = mode_at core a;
  input_header = input_header_at core a;
  output_header = output_header_at core a;
  status = mode_at core a;
  input = None;
  output = None;
}

-- each header that is named gets a ring that isn't set up yet, the output's first
abbrev pub header_opened : ℕ → ℕ → List (ℕ × ℕ)
header_opened mode header = if header == 0 then [] else unused_header header (byte_size mode) 0

abbrev pub core_opened : List ℕ → ℕ → List ℕ
core_opened core a =
    if is_buffered (mode_at core a)
    then after_writes core (header_opened (mode_at core a) (output_header_at core a)
    ++ header_opened (mode_at core a) (input_header_at core a))
    else core

abbrev pub open_done : SpecJob → ℕ → ℕ → SpecJob
open_done job number a = with_channel (record job { core = core_opened job.core a }) number
    (Some (channel_opened job.core a))

-- a channel that isn't opened stays closed
abbrev pub opens : SpecJob → ℕ → ℕ → Reply × SpecJob
opens job number a = settled (open_answer job number a) (open_done job number a) (λ reply. job)

-- INBUF and OUTBUF, of n buffers, where 0 means 2

abbrev pub found_or_not : Option (List ℕ) → Reply
found_or_not None = AddressCheck
found_or_not (Some core) = Done

abbrev pub core_or : List ℕ → Option (List ℕ) → List ℕ
core_or core None = core
core_or core (Some after) = after

-- in dump mode there is no ring, and without a header there is none either
abbrev pub has_no_ring : ℕ → ℕ → Bool
has_no_ring mode header = not (is_buffered mode) || (header == 0)

-- the core after the setup
abbrev pub ring_made : SpecJob → Channel → ℕ → ℕ → Option (List ℕ)
ring_made job c header n = setup job.core header (byte_size c.mode) (buffers_of n)

abbrev pub ring_answer : SpecJob → Channel → ℕ → ℕ → Reply
ring_answer job c header n = if has_no_ring c.mode header then Refused 5 else found_or_not (ring_made job c header n)

abbrev pub sets_up : SpecJob → ℕ → Channel → ℕ → ℕ → Reply × SpecJob
sets_up job number c header n =
    settled (ring_answer job c header n)
    (with_channel (record job { core = core_or job.core (ring_made job c header n) }) number (Some (clean c)))
    (λ reply. job)
