-- Which words of its own core a call of a job may change, by the call and the job before it.
use Rattle.std.specs.Prelude.{◌≡◌, ◌<◌, ◌≤◌, ℕ, ◌+◌, ◌-◌, ◌==◌, ◌||◌, ◌&&◌, not, Bool, true, is_none, is_some}
use Rattle.std.specs.Prelude.{if◌then◌else◌, min, map, List, [], ◌∷◌, length, Option, Some, None}
use Rattle.std.specs.List.{filter}
use Rattle.spec_machine.specs.Common.{keeps_output, keeps_input, discards, dump_list, lies_outside, first_free}
use Rattle.spec_machine.specs.Common.{areas_or_none, Channel, SpecJob, State, channel_at, job_at, mode_at}
use Rattle.spec_machine.specs.Common.{output_header_at, input_header_at, has_no_ring, is_buffered, buffers_of}
use Rattle.spec_machine.specs.declared.area.Area.{Area}
use Rattle.spec_machine.specs.declared.call.Call.{Call}
use Rattle.spec_machine.specs.declared.call.Call.TheVariants.{Open, Inbuf, Outbuf, Lookup, Enter, Rename, In, Out}
use Rattle.spec_machine.specs.declared.call.Call.TheVariants.{Useti, Useto, Close, Releas, Getsts, Reset, MakeDir}
use Rattle.spec_machine.specs.declared.call.Call.TheVariants.{DeleteDir, Quota}
use Rattle.usercore.specs.Common.{ChangesWithin, words_at, setup_areas, in_areas, out_areas}

-- The parts of areas that lie in a core, without those that have no words.

abbrev pub clipped : List ℕ → Area → Area
clipped core area = words_at area.first (min area.count (length core - area.first))

abbrev pub in_core : List ℕ → List Area → List Area
in_core core areas = filter (λ area. not (area.count == 0)) (map (clipped core) areas)

-- an area of that kind
abbrev pub IsPart : List ℕ → Area → Type 0
IsPart core area = (0 < area.count) × (area.first + area.count ≤ length core)

-- an area below address 2^17, as each core's are
abbrev pub IsInside : Area → Type 0
IsInside area = area.first + area.count ≤ 0o400000

-- What a call names.

-- the three words of a header, or no words if it isn't meant; address 0 is no header
abbrev pub header_area : Bool → ℕ → Area
header_area is_meant header = words_at header (if is_meant && not (header == 0) then 3 else 0)

-- the headers that OPEN's three words name, in a mode with buffers
abbrev pub areas_opened : List ℕ → ℕ → List Area
areas_opened core a =
    if lies_outside core a 3 || not (is_buffered (mode_at core a)) then []
    else header_area true (output_header_at core a) ∷ header_area true (input_header_at core a) ∷ []

abbrev pub areas_set_up : List ℕ → Channel → ℕ → ℕ → List Area
areas_set_up core c header n = if has_no_ring c.mode header then [] else setup_areas core header (buffers_of n)

-- an IN fills a buffer, or what its command list names
abbrev pub areas_filled : List ℕ → Channel → ℕ → List Area
areas_filled core c a =
    if is_none c.input then []
    else if not (is_buffered c.mode) then areas_or_none (dump_list core a)
    else if c.input_header == 0 then []
    else in_areas core c.input_header

-- an OUT empties a buffer, and in dump mode changes no word
abbrev pub areas_emptied : List ℕ → Channel → List Area
areas_emptied core c =
    if is_none c.output || has_no_ring c.mode c.output_header then [] else out_areas core c.output_header

-- the headers of the sides that close, the output's first
abbrev pub areas_closed : Channel → ℕ → List Area
areas_closed c bits =
    if not (is_buffered c.mode) || discards bits then []
    else header_area (is_some c.output && not (keeps_output bits)) c.output_header
    ∷ header_area (is_some c.input && not (keeps_input bits)) c.input_header ∷ []

-- a call on a channel, which must be open
abbrev pub on_open : Option Channel → (Channel → List Area) → List Area
on_open None areas = []
on_open (Some c) areas = areas c

-- A line for each call. A refusal writes its code into the second word of the block that the call names. LOOKUP and
-- ENTER write a file's date and attributes into the second and third, and LOOKUP its size into the fourth.
abbrev pub areas_named : SpecJob → Call → List Area
areas_named job (Open ch a) = areas_opened job.core a
areas_named job (Inbuf ch n) = on_open (channel_at job ch) (λ c. areas_set_up job.core c c.input_header n)
areas_named job (Outbuf ch n) = on_open (channel_at job ch) (λ c. areas_set_up job.core c c.output_header n)
areas_named job (Lookup ch e) = on_open (channel_at job ch) (λ c. words_at (e + 1) 3 ∷ [])
areas_named job (Enter ch e) = on_open (channel_at job ch) (λ c. words_at (e + 1) 2 ∷ [])
areas_named job (Rename ch e) = on_open (channel_at job ch) (λ c. words_at (e + 1) 1 ∷ [])
areas_named job (In ch a) = on_open (channel_at job ch) (λ c. areas_filled job.core c a)
areas_named job (Out ch a) = on_open (channel_at job ch) (λ c. areas_emptied job.core c)
areas_named job (Useti ch n) = []
areas_named job (Useto ch n) = []
areas_named job (Close ch bits) = on_open (channel_at job ch) (λ c. areas_closed c bits)
areas_named job (Releas ch) = on_open (channel_at job ch) (λ c. areas_closed c 0)
areas_named job (Getsts ch) = []
areas_named job Reset = words_at first_free 1 ∷ []
areas_named job (MakeDir e) = words_at (e + 1) 1 ∷ []
areas_named job (DeleteDir e) = words_at (e + 1) 1 ∷ []
areas_named job (Quota e) = words_at (e + 1) 1 ∷ []

-- the areas of its core that a call of a job may change
abbrev pub areas_of : SpecJob → Call → List Area
areas_of job call = in_core job.core (areas_named job call)

-- none if nobody is logged in
abbrev pub areas_for : Option SpecJob → Call → List Area
areas_for None call = []
areas_for (Some job) call = areas_of job call

-- From one state to another, job n stays, and of its core no word outside these areas changes; all other jobs are as
-- before.
pub record ChangesJob (n : ℕ) (job : SpecJob) (areas : List Area) (s t : State) : Type 0 where
  pub after : SpecJob
  pub there : job_at t n ≡ Some after
  pub core : ChangesWithin areas job.core after.core
  pub others : (m : ℕ) → (m ≡ n → ⊥) → job_at t m ≡ job_at s m
