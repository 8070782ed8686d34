-- IN and USETI.
use Rattle.std.specs.Prelude.{ℕ, ◌+◌, ◌==◌, ◌&&◌, ◌||◌, Bool, true, false, is_none, if◌then◌else◌, List, [], ◌∷◌}
use Rattle.std.specs.Prelude.{length, min, take, Option, Some, None}
use Rattle.spec_image.specs.Common.{blocks_of, words_from}
use Rattle.spec_machine.specs.Cores.{after_writes, dealt}
use Rattle.spec_machine.specs.CommandLists.{dump_list, word_count}
use Rattle.spec_machine.specs.Rings.{is_buffered, byte_size, data_words, in_ready, in_writes}
use Rattle.spec_machine.specs.Jobs.{SpecInput, SpecOutput, Channel, SpecJob, with_channel, cleared, block_too_large}
use Rattle.spec_machine.specs.Jobs.{end_of_file}
use Rattle.spec_machine.specs.Outcomes.{settled, clean, reports, stopped_in}
use Rattle.spec_machine.specs.declared.area.Area.{Area}
use Rattle.spec_machine.specs.declared.call.Reply.{Reply}
use Rattle.spec_machine.specs.declared.call.Reply.TheVariants.{Done, Refused, AddressCheck}

-- what a channel reads: what it has written, while its output side is open, else the version that it looked up
abbrev pub body_read : SpecInput → Option SpecOutput → List ℕ
body_read i None = i.version.file.body
body_read i (Some o) = o.pending.body

-- its words from the start of the next block
abbrev pub words_ahead : Option SpecInput → Option SpecOutput → List ℕ
words_ahead None output = []
words_ahead (Some i) output = words_from (body_read i output) i.next

abbrev pub is_empty : List ℕ → Bool
is_empty [] = true
is_empty (w ∷ ws) = false

-- a list that names no words is done even if no words are left
abbrev pub dump_in_answer : Channel → Option (List Area) → Reply
dump_in_answer c None = AddressCheck
dump_in_answer c (Some []) = Done
dump_in_answer c (Some (area ∷ areas)) = if is_empty (words_ahead c.input c.output) then reports c end_of_file else Done

-- a buffered mode without a header
abbrev pub lacks_header : ℕ → ℕ → Bool
lacks_header mode header = is_buffered mode && (header == 0)

abbrev pub ring_in_answer : Channel → Option (List ℕ) → Reply
ring_in_answer c None = AddressCheck
ring_in_answer c (Some ready) = if is_empty (words_ahead c.input c.output) then reports c end_of_file else Done

-- the core in which the input side's ring is ready for an IN
abbrev pub ring_in : SpecJob → Channel → Option (List ℕ)
ring_in job c = in_ready job.core c.input_header (byte_size c.mode)

abbrev pub in_answer : SpecJob → Channel → ℕ → Reply
in_answer job c a =
    if is_none c.input || lacks_header c.mode c.input_header then Refused 5
    else if is_buffered c.mode then ring_in_answer c (ring_in job c)
    else dump_in_answer c (dump_list job.core a)

abbrev pub areas_or_none : Option (List Area) → List Area
areas_or_none None = []
areas_or_none (Some areas) = areas

-- the areas that the command list at an address names
abbrev pub areas_at : SpecJob → ℕ → List Area
areas_at job a = areas_or_none (dump_list job.core a)

-- a ring takes one buffer of words
abbrev pub words_asked : SpecJob → Channel → ℕ → ℕ
words_asked job c a = if is_buffered c.mode then data_words else word_count (areas_at job a)

abbrev pub words_moved : SpecJob → Channel → ℕ → ℕ
words_moved job c a = min (words_asked job c a) (length (words_ahead c.input c.output))

-- The core with these words moved in, as many of them as were asked for.

abbrev pub buffer_filled : List ℕ → Channel → Option (List ℕ) → List ℕ → List ℕ
buffer_filled core c None words = core
buffer_filled core c (Some ready) words = after_writes ready
    (in_writes ready c.input_header (byte_size c.mode) (cleared c.status) (take data_words words))

abbrev pub core_filled : SpecJob → Channel → ℕ → List ℕ → List ℕ
core_filled job c a words =
    if is_buffered c.mode then buffer_filled job.core c (ring_in job c) words
    else after_writes job.core (dealt (areas_at job a) words)

abbrev pub moved_on : Option SpecInput → ℕ → Option SpecInput
moved_on None blocks = None
moved_on (Some i) blocks = Some (record i { next = i.next + blocks })

abbrev pub in_done : SpecJob → ℕ → Channel → ℕ → SpecJob
in_done job number c a =
    with_channel (record job { core = core_filled job c a (words_ahead c.input c.output) }) number
    (Some (record (clean c) { input = moved_on c.input (blocks_of (words_moved job c a)) }))

-- It reads and changes only its own job's record.
abbrev pub reads : SpecJob → ℕ → Channel → ℕ → Reply × SpecJob
reads job number c a = settled (in_answer job c a) (in_done job number c a) (stopped_in job number c)

-- USETI

abbrev pub useti_answer : Channel → ℕ → Reply
useti_answer c n = if is_none c.input then Refused 5 else if n == 0 then reports c block_too_large else Done

abbrev pub input_at : Option SpecInput → ℕ → Option SpecInput
input_at None n = None
input_at (Some i) n = Some (record i { next = n })

abbrev pub useti_done : Channel → ℕ → Channel
useti_done c n = record (clean c) { input = input_at c.input n }

abbrev pub useti : SpecJob → ℕ → Channel → ℕ → Reply × SpecJob
useti job number c n = settled (useti_answer c n) (with_channel job number (Some (useti_done c n)))
    (stopped_in job number c)
