-- OUT and USETO.
use Rattle.std.specs.Prelude.{ℕ, ◌+◌, ◌-◌, ◌*◌, ◌==◌, ◌&&◌, ◌||◌, nat_lt, nat_le, not, Bool, false, is_none}
use Rattle.std.specs.Prelude.{if◌then◌else◌, List, length, Option, Some, None, option_map}
use Rattle.spec_image.specs.Common.{blocks_of, version_cost, splice, length_after, Pack}
use Rattle.spec_machine.specs.Cores.{after_writes, joined}
use Rattle.spec_machine.specs.CommandLists.{dump_list}
use Rattle.spec_machine.specs.Rings.{is_buffered, byte_size, out_ready, ring_words, out_writes}
use Rattle.spec_machine.specs.Jobs.{Kind, Create, Supersede, Update, Append, SpecOutput, Channel, SpecJob, State}
use Rattle.spec_machine.specs.Jobs.{with_channel, block_too_large}
use Rattle.spec_machine.specs.Room.{exceeds_room}
use Rattle.spec_machine.specs.Charges.{exceeds_left}
use Rattle.spec_machine.specs.Inputs.{lacks_header}
use Rattle.spec_machine.specs.Outcomes.{settled, clean, reports, stopped_in}
use Rattle.spec_machine.specs.declared.call.Reply.{Reply}
use Rattle.spec_machine.specs.declared.call.Reply.TheVariants.{Done, Refused, AddressCheck}

-- the number of words in the most blocks that a file may have
abbrev pub longest : ℕ
longest = 16384 * 128

-- by how much the cost of an output side's version rises if `count` words are put
abbrev pub rise : SpecOutput → ℕ → ℕ
rise o count = version_cost (length_after (length o.pending.body) o.next count) - version_cost (length o.pending.body)

-- an append's next block is one that its version had when it began
abbrev pub is_before_end : Kind → ℕ → Bool
is_before_end Create next = false
is_before_end Supersede next = false
is_before_end Update next = false
is_before_end (Append blocks) next = nat_le next blocks

-- the version would cost more than before, and by more than the directory's quota leaves
abbrev pub outgrows : State → ℕ → ℕ → Bool
outgrows s ppn more = not (more == 0) && exceeds_left s ppn more

-- `count` words can't be put: they make too many blocks, or cost more than there is room for or the quota leaves, or an
-- append would change what was there. Putting no words is always possible.
abbrev pub finds_no_place : Pack → State → SpecOutput → ℕ → Bool
finds_no_place pack s o count =
    not (count == 0)
    && (nat_lt longest (length_after (length o.pending.body) o.next count)
    || exceeds_room pack s (rise o count)
    || outgrows s o.place.ppn (rise o count)
    || is_before_end o.kind o.next)

-- what an OUT finds in the core: the words that will be put, and the core that it leaves
pub record Outgoing : Type 0 where
  pub words : List ℕ
  pub core : List ℕ

abbrev pub ring_out : Channel → List ℕ → Outgoing
ring_out c ready = record {
  words = ring_words ready c.output_header;
  core = after_writes ready (out_writes ready c.output_header (byte_size c.mode));
}

-- by the command list at an address, or by the output side's ring. None is AddressCheck.
abbrev pub outgoing : SpecJob → Channel → ℕ → Option Outgoing
outgoing job c a =
    if is_buffered c.mode then option_map (ring_out c) (out_ready job.core c.output_header (byte_size c.mode))
    else option_map (λ areas. record { words = joined job.core areas; core = job.core }) (dump_list job.core a)

abbrev pub place_answer : Pack → State → Channel → SpecOutput → List ℕ → Reply
place_answer pack s c o words = if finds_no_place pack s o (length words) then reports c block_too_large else Done

abbrev pub found_answer : Pack → State → Channel → SpecOutput → Option Outgoing → Reply
found_answer pack s c o None = AddressCheck
found_answer pack s c o (Some found) = place_answer pack s c o found.words

abbrev pub put_answer : Pack → State → Channel → Option SpecOutput → Option Outgoing → Reply
put_answer pack s c None found = Refused 5
put_answer pack s c (Some o) found = if lacks_header c.mode c.output_header then Refused 5
    else found_answer pack s c o found

abbrev pub out_answer : Pack → State → SpecJob → Channel → ℕ → Reply
out_answer pack s job c a = put_answer pack s c c.output (outgoing job c a)

abbrev pub put_on : Option SpecOutput → List ℕ → Option SpecOutput
put_on None words = None
put_on (Some o) words = Some (record o {
  pending = record o.pending { body = splice o.pending.body o.next words };
  next = o.next + blocks_of (length words);
})

abbrev pub put_done : SpecJob → ℕ → Channel → Option Outgoing → SpecJob
put_done job number c None = job
put_done job number c (Some found) = with_channel (record job { core = found.core }) number
    (Some (record (clean c) { output = put_on c.output found.words }))

abbrev pub out_done : SpecJob → ℕ → Channel → ℕ → SpecJob
out_done job number c a = put_done job number c (outgoing job c a)

abbrev pub puts : Pack → State → SpecJob → ℕ → Channel → ℕ → Reply × SpecJob
puts pack s job number c a = settled (out_answer pack s job c a) (out_done job number c a) (stopped_in job number c)

-- USETO

abbrev pub useto_answer : Channel → ℕ → Reply
useto_answer c n = if is_none c.output then Refused 5 else if n == 0 then reports c block_too_large else Done

abbrev pub output_at : Option SpecOutput → ℕ → Option SpecOutput
output_at None n = None
output_at (Some o) n = Some (record o { next = n })

abbrev pub useto_done : Channel → ℕ → Channel
useto_done c n = record (clean c) { output = output_at c.output n }

abbrev pub useto : SpecJob → ℕ → Channel → ℕ → Reply × SpecJob
useto job number c n = settled (useto_answer c n) (with_channel job number (Some (useto_done c n)))
    (stopped_in job number c)
