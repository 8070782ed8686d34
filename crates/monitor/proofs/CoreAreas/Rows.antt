-- What a row does to its job's core: it leaves the words outside the areas that the call names.
use Rattle.std.proofs.Common.{◌≡◌, ◌≢◌, ◌⊎◌, inl, inr, ℕ, ◌+◌, ◌<◌, ◌≤◌, Bool, true, false, List, [], ◌∷◌, ◌++◌}
use Rattle.std.proofs.Common.{length, refl, sym, subst, arith, slice_index, Option, Some, None, ◌==◌, ◌||◌, ◌&&◌}
use Rattle.std.proofs.Common.{if◌then◌else◌, take}
use Rattle.std.specs.Prelude.{not, is_none, is_some, option_map}
use Rattle.std.proofs.lemmas.List.{length-take}
use Rattle.words36.specs.Common.{left, join}
use Rattle.words36.specs.declared.moment.Moment.{Moment}
use Rattle.spec_image.specs.Common.{File, Files, SpecVersion, file_at, attributes, Pack}
use Rattle.spec_machine.specs.Common.{dump_list, after_writes, dealt, with_right, first_free, rings_begin, joined}
use Rattle.spec_machine.specs.Common.{lies_outside, SpecOutput, Channel, SpecJob, State, with_channel, cleared, settled}
use Rattle.spec_machine.specs.Common.{clean, stopped_in, refused_at, open_answer, open_done, opens, header_opened}
use Rattle.spec_machine.specs.Common.{mode_at, output_header_at, input_header_at, found_or_not, core_or, has_no_ring}
use Rattle.spec_machine.specs.Common.{ring_made, ring_answer, sets_up, misses_headers, place_at, high_date, size_word}
use Rattle.spec_machine.specs.Common.{with_attributes, looked_up, lookup_answer, lookup_done, lookup, digit_at}
use Rattle.spec_machine.specs.Common.{output_opened, enter_answer, enter_done, enter, ring_in, in_answer, in_done}
use Rattle.spec_machine.specs.Common.{areas_at, buffer_filled, reads, words_ahead, Outgoing, ring_out, outgoing}
use Rattle.spec_machine.specs.Common.{found_answer, put_answer, out_answer, put_done, out_done, puts, header_closed}
use Rattle.spec_machine.specs.Common.{core_closed, keeps_output, keeps_input, discards, is_buffered, byte_size}
use Rattle.spec_machine.specs.Common.{unused_header, buffers_of, out_ready, marked, pointer, data_words}
use Rattle.spec_machine.specs.declared.area.Area.{Area}
use Rattle.spec_machine.specs.declared.call.Reply.{Reply}
use Rattle.spec_machine.specs.declared.call.Reply.TheVariants.{Done, Value, Refused, Stopped, NoChannel, AddressCheck}
use Rattle.spec_machine.specs.declared.call.Reply.TheVariants.{NoJob, NoMemory, Device, Failed, DateRange}
use Rattle.spec_machine.proofs.Common.{settled_by, stopped_by}
use Rattle.spec_image.proofs.Common.{all_append}
use Rattle.usercore.specs.Common.{IsOutside, ChangesWithin, words_at, setup_areas, in_areas, out_areas}
use Rattle.monitor.specs.Common.{header_area, areas_opened, areas_set_up, areas_filled, areas_emptied, areas_closed}
use Rattle.usercore.proofs.AreaLaws.{AllMiss, Misses, writes_within, same_within, then_within, placed_miss}
use Rattle.usercore.proofs.AreaLaws.{setup_within, in_within, out_within, dealt_within}

-- one word of an area
word_misses : (first count at address : ℕ) → first ≤ at → at < first + count
    → (address < first) ⊎ (first + count ≤ address) → address ≢ at
word_misses first count at address from less (inl below) e = omega (arith, e)
word_misses first count at address from less (inr past) e = omega (arith, e)

-- What is left if the answer isn't Done.

pub stopped_within : (areas : List Area) (job : SpecJob) (number : ℕ) (c : Channel) (reply : Reply)
    → ChangesWithin areas job.core (stopped_in job number c reply).core
stopped_within areas job number c reply = stopped_by (λ j. ChangesWithin areas job.core j.core) job number c reply
    (same_within areas job.core) (λ status. same_within areas job.core)

-- the second word, with the code of a refusal
pub refused_within : (job : SpecJob) (e n : ℕ) (reply : Reply)
    → ChangesWithin (words_at (e + 1) (n + 1) ∷ []) job.core (refused_at job e reply).core
refused_within job e n (Refused code) =
    writes_within (words_at (e + 1) (n + 1) ∷ []) job.core
    ((e + 1, join (left (slice_index job.core (e + 1))) code) ∷ [])
    (λ address out. (word_misses (e + 1) (n + 1) (e + 1) address (omega arith) (omega arith) out.0, tt))
refused_within job e n Done = same_within _ job.core
refused_within job e n (Value w) = same_within _ job.core
refused_within job e n (Stopped w) = same_within _ job.core
refused_within job e n NoChannel = same_within _ job.core
refused_within job e n AddressCheck = same_within _ job.core
refused_within job e n NoJob = same_within _ job.core
refused_within job e n NoMemory = same_within _ job.core
refused_within job e n Device = same_within _ job.core
refused_within job e n Failed = same_within _ job.core
refused_within job e n DateRange = same_within _ job.core

-- a row of a job's record alone, and one that may change the files

abbrev Within : List Area → SpecJob → Reply × SpecJob → Type 0
Within areas job r = ChangesWithin areas job.core r.1.core

abbrev FilesWithin : List Area → SpecJob → Reply × (SpecJob × Files SpecVersion) → Type 0
FilesWithin areas job r = ChangesWithin areas job.core r.1.0.core

-- OPEN

header_miss : (m header address : ℕ) → IsOutside address (header_area true header)
    → AllMiss address (header_opened m header)
header_miss m header address out = by (header == 0) out
  where
    by : (b : Bool) → (address < header) ⊎ (header + (if true && not b then 3 else 0) ≤ address)
        → AllMiss address (if b then [] else unused_header header (byte_size m) 0)
    by true o = tt
    by false o = placed_miss header (join 0o400000 0 ∷ pointer (byte_size m) 0 ∷ 0 ∷ []) address o

opened_if : (core : List ℕ) (m o i : ℕ) (outside buffered : Bool) → outside ≡ false
    → ChangesWithin (if outside || not buffered then [] else header_area true o ∷ header_area true i ∷ []) core
    (if buffered then after_writes core (header_opened m o ++ header_opened m i) else core)
opened_if core m o i true buffered none = cc none
opened_if core m o i false false none = same_within [] core
opened_if core m o i false true none =
    writes_within (header_area true o ∷ header_area true i ∷ []) core (header_opened m o ++ header_opened m i)
    (λ address out. all_append (Misses address) (header_opened m o) (header_opened m i)
    (header_miss m o address out.0) (header_miss m i address out.1.0))

lies_inside : (outside misses : Bool) (reply : Reply) → (if outside || misses then AddressCheck else reply) ≡ Done
    → outside ≡ false
lies_inside true misses reply e = cc e
lies_inside false misses reply e = refl

pub opens_within : (job : SpecJob) (number a : ℕ) → Within (areas_opened job.core a) job (opens job number a)
opens_within job number a = settled_by (Within (areas_opened job.core a) job) (open_answer job number a)
    (open_done job number a) (λ reply. job)
    (λ is. opened_if job.core (mode_at job.core a) (output_header_at job.core a) (input_header_at job.core a)
    (lies_outside job.core a 3) (is_buffered (mode_at job.core a))
    (lies_inside (lies_outside job.core a 3) (misses_headers job.core a) _ is))
    (λ no. same_within (areas_opened job.core a) job.core)

-- INBUF and OUTBUF

pub sets_up_within : (job : SpecJob) (number : ℕ) (c : Channel) (header n : ℕ)
    → Within (areas_set_up job.core c header n) job (sets_up job number c header n)
sets_up_within job number c header n =
    settled_by (Within (areas_set_up job.core c header n) job) (ring_answer job c header n)
    (with_channel (record job { core = core_or job.core (ring_made job c header n) }) number (Some (clean c)))
    (λ reply. job) (λ is. by (has_no_ring c.mode header) (ring_made job c header n) refl is)
    (λ no. same_within (areas_set_up job.core c header n) job.core)
  where
    by : (b : Bool) (o : Option (List ℕ)) → ring_made job c header n ≡ o
        → (if b then Refused 5 else found_or_not o) ≡ Done
        → ChangesWithin (if b then [] else setup_areas job.core header (buffers_of n)) job.core (core_or job.core o)
    by true o p is = cc is
    by false None p is = cc is
    by false (Some ready) p is = setup_within job.core header (byte_size c.mode) (buffers_of n) ready p

-- LOOKUP, ENTER and the calls that name words of core for a refusal's code

attributes_within : (layout : ℕ) (core : List ℕ) (e n : ℕ) (f : File)
    → ChangesWithin (words_at (e + 1) (n + 2) ∷ []) core (with_attributes layout core e f)
attributes_within layout core e n f = writes_within (words_at (e + 1) (n + 2) ∷ []) core
    ((e + 1, join (left (slice_index core (e + 1))) (high_date layout f.date)) ∷ (e + 2, attributes f) ∷ [])
    (λ address out. (
      word_misses (e + 1) (n + 2) (e + 1) address (omega arith) (omega arith) out.0,
      (word_misses (e + 1) (n + 2) (e + 2) address (omega arith) (omega arith) out.0, tt),
    ))

pub lookup_within : (pack : Pack) (s : State) (job : SpecJob) (number : ℕ) (c : Channel) (e : ℕ)
    → Within (words_at (e + 1) 3 ∷ []) job (lookup pack s job number c e)
lookup_within pack s job number c e =
    settled_by (Within (words_at (e + 1) 3 ∷ []) job) (lookup_answer s job c e (place_at job e))
    (lookup_done pack s job number c e (place_at job e)) (refused_at job e)
    (λ is. found (file_at s.files (place_at job e)))
    (λ no. refused_within job e 2 (lookup_answer s job c e (place_at job e)))
  where
    found : (o : Option SpecVersion)
        → ChangesWithin (words_at (e + 1) 3 ∷ []) job.core (looked_up pack job number c e (place_at job e) o).core
    found None = same_within (words_at (e + 1) 3 ∷ []) job.core
    found (Some v) = then_within (words_at (e + 1) 3 ∷ []) job.core (with_attributes pack.layout job.core e v.file) _
        (attributes_within pack.layout job.core e 1 v.file)
        (writes_within (words_at (e + 1) 3 ∷ []) (with_attributes pack.layout job.core e v.file)
        ((e + 3, size_word (length v.file.body)) ∷ [])
        (λ address out. (word_misses (e + 1) 3 (e + 3) address (omega arith) (omega arith) out.0, tt)))

pub enter_within : (pack : Pack) (s : State) (job : SpecJob) (number : ℕ) (c : Channel) (e : ℕ) (moment : Moment)
    → Within (words_at (e + 1) 2 ∷ []) job (enter pack s job number c e moment)
enter_within pack s job number c e moment =
    settled_by (Within (words_at (e + 1) 2 ∷ []) job) (enter_answer pack s job c e (place_at job e))
    (enter_done pack s job number c e moment (place_at job e)) (refused_at job e)
    (λ is. attributes_within pack.layout job.core e 0 (output_opened job c e moment (place_at job e)
    (digit_at s job (place_at job e)) c.input (file_at s.files (place_at job e))).pending)
    (λ no. refused_within job e 1 (enter_answer pack s job c e (place_at job e)))

-- a row that, if it is Done, leaves core as it was
pub refuses_within : (job done : SpecJob) (files were : Files SpecVersion) (e : ℕ) (answer : Reply)
    → done.core ≡ job.core
    → FilesWithin (words_at (e + 1) 1 ∷ []) job (settled answer (done, files) (λ reply. (refused_at job e reply, were)))
refuses_within job done files were e answer same =
    settled_by (FilesWithin (words_at (e + 1) 1 ∷ []) job) answer (done, files)
    (λ reply. (refused_at job e reply, were))
    (λ is. subst (ChangesWithin (words_at (e + 1) 1 ∷ []) job.core) (sym same) (same_within _ job.core))
    (λ no. refused_within job e 0 answer)

-- IN, OUT, USETI and USETO

pub reads_within : (job : SpecJob) (number : ℕ) (c : Channel) (a : ℕ)
    → Within (areas_filled job.core c a) job (reads job number c a)
reads_within job number c a =
    settled_by (Within (areas_filled job.core c a) job) (in_answer job c a) (in_done job number c a)
    (stopped_in job number c)
    (λ is. by (is_none c.input) (is_buffered c.mode) (c.input_header == 0) _ is)
    (λ no. stopped_within (areas_filled job.core c a) job number c (in_answer job c a))
  where
    words : List ℕ
    words = words_ahead c.input c.output

    filled : (o : Option (List ℕ)) → ring_in job c ≡ o
        → ChangesWithin (in_areas job.core c.input_header) job.core (buffer_filled job.core c o words)
    filled None p = same_within _ job.core
    filled (Some ready) p = in_within job.core ready c.input_header (byte_size c.mode) (cleared c.status)
        (take data_words words) p (omega (arith, length-take data_words words))

    by : (none buffered zero : Bool) (reply : Reply)
        → (if none || (buffered && zero) then Refused 5 else reply) ≡ Done
        → ChangesWithin (if none then [] else if not buffered then areas_at job a else if zero then []
        else in_areas job.core c.input_header) job.core
        (if buffered then buffer_filled job.core c (ring_in job c) words
        else after_writes job.core (dealt (areas_at job a) words))
    by true b z reply is = cc is
    by false false z reply is = dealt_within job.core (areas_at job a) words
    by false true true reply is = cc is
    by false true false reply is = filled (ring_in job c) refl

pub puts_within : (pack : Pack) (s : State) (job : SpecJob) (number : ℕ) (c : Channel) (a : ℕ)
    → Within (areas_emptied job.core c) job (puts pack s job number c a)
puts_within pack s job number c a =
    settled_by (Within (areas_emptied job.core c) job) (out_answer pack s job c a) (out_done job number c a)
    (stopped_in job number c)
    (λ is. by (is_none c.output) (is_buffered c.mode) (c.output_header == 0) (lies c.output is) (has c.output is))
    (λ no. stopped_within (areas_emptied job.core c) job number c (out_answer pack s job c a))
  where
    found : Option Outgoing
    found = outgoing job c a

    lies : (o : Option SpecOutput) → put_answer pack s c o found ≡ Done → is_none o ≡ false
    lies None is = cc is
    lies (Some o) is = refl

    has : (o : Option SpecOutput) → put_answer pack s c o found ≡ Done
        → (is_buffered c.mode && (c.output_header == 0)) ≡ false
    has None is = cc is
    has (Some o) is = header (is_buffered c.mode && (c.output_header == 0)) (found_answer pack s c o found) is
      where
        header : (b : Bool) (reply : Reply) → (if b then Refused 5 else reply) ≡ Done → b ≡ false
        header true reply e = cc e
        header false reply e = refl

    emptied : (o : Option (List ℕ)) → out_ready job.core c.output_header (byte_size c.mode) ≡ o
        → ChangesWithin (out_areas job.core c.output_header) job.core
        (put_done job number c (option_map (ring_out c) o)).core
    emptied None p = same_within _ job.core
    emptied (Some ready) p = out_within job.core ready c.output_header (byte_size c.mode) p

    listed : (o : Option (List Area)) → ChangesWithin [] job.core (put_done job number c
        (option_map (λ areas. record { words = joined job.core areas; core = job.core }) o)).core
    listed None = same_within [] job.core
    listed (Some areas) = same_within [] job.core

    by : (none buffered zero : Bool) → none ≡ false → (buffered && zero) ≡ false
        → ChangesWithin (if none || (not buffered || zero) then [] else out_areas job.core c.output_header) job.core
        (put_done job number c (if buffered
        then option_map (ring_out c) (out_ready job.core c.output_header (byte_size c.mode))
        else option_map (λ areas. record { words = joined job.core areas; core = job.core })
        (dump_list job.core a))).core
    by true b z p q = cc p
    by false false z p q = listed (dump_list job.core a)
    by false true true p q = cc q
    by false true false p q = emptied (out_ready job.core c.output_header (byte_size c.mode)) refl

-- a row that changes a channel alone
pub channel_within : (job : SpecJob) (number : ℕ) (c : Channel) (answer : Reply) (o : Option Channel)
    → Within [] job (settled answer (with_channel job number o) (stopped_in job number c))
channel_within job number c answer o =
    settled_by (Within [] job) answer (with_channel job number o) (stopped_in job number c)
    (λ is. same_within [] job.core) (λ no. stopped_within [] job number c answer)

-- CLOSE and RELEAS

closed_miss : (core : List ℕ) (closes : Bool) (header address : ℕ) → IsOutside address (header_area closes header)
    → AllMiss address (header_closed core header closes)
closed_miss core closes header address out = by closes (header == 0) out
  where
    by : (b z : Bool) → (address < header) ⊎ (header + (if b && not z then 3 else 0) ≤ address)
        → AllMiss address (if b then if z then [] else (header, marked (slice_index core header)) ∷ (header + 2, 0) ∷ []
        else [])
    by false z o = tt
    by true true o = tt
    by true false o = (
      word_misses header 3 header address (omega arith) (omega arith) o,
      (word_misses header 3 (header + 2) address (omega arith) (omega arith) o, tt),
    )

pub closed_within : (core : List ℕ) (c : Channel) (bits : ℕ)
    → ChangesWithin (areas_closed c bits) core (core_closed core c bits)
closed_within core c bits =
    by (not (is_buffered c.mode) || discards bits) (is_some c.output && not (keeps_output bits))
    (is_some c.input && not (keeps_input bits))
  where
    by : (stays output input : Bool)
        → ChangesWithin
        (if stays then [] else header_area output c.output_header ∷ header_area input c.input_header ∷ [])
        core (if stays then core else after_writes core (header_closed core c.output_header output
        ++ header_closed core c.input_header input))
    by true output input = same_within [] core
    by false output input =
        writes_within (header_area output c.output_header ∷ header_area input c.input_header ∷ []) core
        (header_closed core c.output_header output ++ header_closed core c.input_header input)
        (λ address out. all_append (Misses address) (header_closed core c.output_header output)
        (header_closed core c.input_header input) (closed_miss core output c.output_header address out.0)
        (closed_miss core input c.input_header address out.1.0))

pub closes_within : (job done : SpecJob) (files were : Files SpecVersion) (number : ℕ) (c : Channel) (bits : ℕ)
    (answer : Reply)
    → done.core ≡ core_closed job.core c bits
    → FilesWithin (areas_closed c bits) job
    (settled answer (done, files) (λ reply. (stopped_in job number c reply, were)))
closes_within job done files were number c bits answer is =
    settled_by (FilesWithin (areas_closed c bits) job) answer (done, files)
    (λ reply. (stopped_in job number c reply, were))
    (λ yes. subst (ChangesWithin (areas_closed c bits) job.core) (sym is) (closed_within job.core c bits))
    (λ no. stopped_within (areas_closed c bits) job number c answer)

-- RESET

pub reset_within : (core : List ℕ)
    → ChangesWithin (words_at first_free 1 ∷ []) core (with_right core first_free rings_begin)
reset_within core = writes_within (words_at first_free 1 ∷ []) core
    ((first_free, join (left (slice_index core first_free)) rings_begin) ∷ [])
    (λ address out. (word_misses first_free 1 first_free address (omega arith) (omega arith) out.0, tt))
