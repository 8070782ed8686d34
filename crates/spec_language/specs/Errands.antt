-- Errands: what job 1 asks of the service if it logs in for one thing. A file is got, or put, or directories are
-- listed.
use Rattle.std.specs.Prelude.{◌≡◌, ℕ, ℤ, zero, suc, ◌+◌, ◌-◌, ◌*◌, ◌/◌, ◌&&◌, nat_le, Bool, List, [], ◌∷◌, ◌++◌}
use Rattle.std.specs.Prelude.{length, take, drop, All, Option, Some, None, Result, Ok, Err, codes, flat_map}
use Rattle.std.specs.Fmt.{decimal, signed_decimal}
use Rattle.words36.specs.Common.{IsWord, join, packed, word_bytes, octets_packed}
use Rattle.words36.specs.declared.moment.Moment.{Moment}
use Rattle.words36.specs.declared.names.FileName.{FileName}
use Rattle.spec_machine.specs.Common.{disk}
use Rattle.spec_language.specs.Spellings.{Are}
use Rattle.spec_language.specs.Texts.{Spoken, line, silent, both_said, complains, refuses, list_said}
use Rattle.spec_language.specs.Plans.{Plan, Show, Say, each, call_event, deposit_events, name_events, enter_events}
use Rattle.spec_language.specs.Plans.{list_events, out_event}
use Rattle.spec_language.specs.Plans.{read_plan, ends, ok, open_words, new_words, block_address, blocks_at_once}
use Rattle.spec_language.specs.Transcripts.{core_words}
use Rattle.spec_machine.specs.declared.call.Call.TheVariants.{Open, Enter, Outbuf, Close}
use Rattle.spec_machine.specs.declared.call.Event.{Event}
use Rattle.spec_machine.specs.declared.call.Reply.{Reply}
use Rattle.spec_machine.specs.declared.call.Event.TheVariants.{Login, Deposit}
use Rattle.spec_language.specs.declared.command.Spec.{Spec}
use Rattle.spec_language.specs.declared.encoding.Encoding.{Encoding}
use Rattle.spec_language.specs.declared.style.Style.{Style}
use Rattle.spec_language.specs.declared.encoding.Encoding.TheVariants.{Characters, Words, Octets}

-- a file in the directory of the one who logs in
abbrev pub own_file : FileName → Spec
own_file name = record { name = name; owner = None }

-- the job logs in
abbrev pub login_events : ℕ → List Event
login_events owner = Login 1 owner core_words ∷ []

-- A file is got: it is read whole, and then printed or refused.
abbrev pub get_plan : Moment → ℕ → Encoding → Spec → Plan
get_plan moment owner encoding spec = each moment (login_events owner) (read_plan moment encoding spec)

-- Directories are listed, one after the other, by the job that may look into all of them.

abbrev pub operator : ℕ
operator = join 1 2

unfoldable pub directories_plan : Style → List ℕ → Spoken → Plan
directories_plan style [] said = Say said
directories_plan style (owner ∷ owners) said =
    Show owner (λ answer. directories_plan style owners (both_said said (list_said style owner answer)))

abbrev pub list_plan : Moment → Style → List ℕ → Plan
list_plan moment style owners = each moment (login_events operator) (directories_plan style owners silent)

-- the same, after it was asked which directories there are
abbrev pub list_plan_of : Moment → Style → Result (List ℕ) Reply → Plan
list_plan_of moment style (Ok owners) = list_plan moment style owners
list_plan_of moment style (Err reply) = Say (refuses reply)

-- A file is put. Its bytes determine which words it has, or that they make no words: a character is a byte from 1 to
-- 127, since a null would be lost, and a word has 36 bits. Any bytes of eight bits make words.

abbrev pub is_character : ℕ → Bool
is_character byte = nat_le 1 byte && nat_le byte 127

abbrev pub AreWords : Encoding → List ℕ → Option (List ℕ) → Type 0
AreWords Characters bytes (Some words) = Are is_character bytes × (words ≡ packed bytes)
AreWords Characters bytes None = Are is_character bytes → ⊥
AreWords Words bytes (Some words) = All IsWord words × (flat_map word_bytes words ≡ bytes)
AreWords Words bytes None = (words : List ℕ) → All IsWord words → flat_map word_bytes words ≡ bytes → ⊥
AreWords Octets bytes (Some words) = words ≡ octets_packed bytes
AreWords Octets bytes None = ⊥

abbrev pub unfit : Encoding → List ℕ
unfit Characters = codes "?Not ASCII"
unfit Words = codes "?Bad words"
unfit Octets = codes "?Bad bytes"

-- Addresses in job 1's core: the header of a ring, and the data of its only buffer, which is where the rings of a job
-- begin that has logged in.

abbrev pub header_address : ℕ
header_address = 0o60

abbrev pub data_address : ℕ
data_address = 0o143

-- The new file is entered on channel 2: for characters in mode 0, with a ring of one buffer that an OUT brings into
-- use, else in dump mode.
abbrev pub create_events : Moment → Encoding → Spec → List Event
create_events moment Characters spec =
    deposit_events open_words (0 ∷ disk ∷ join header_address 0 ∷ []) ++ call_event moment (Open 2 open_words)
    ∷ (name_events new_words spec 0 ++ call_event moment (Enter 2 new_words) ∷ call_event moment (Outbuf 2 1)
    ∷ out_event moment ∷ [])
create_events moment Words spec = enter_events moment spec
create_events moment Octets spec = enter_events moment spec

-- The next `count` words are put: the header's byte pointer is at the last character of the last of them, or the
-- command list names them.
abbrev pub size_events : Moment → Encoding → ℕ → List Event
size_events moment Characters count =
    Deposit 1 (header_address + 1) (join 0o010700 (data_address - 1 + count)) ∷ out_event moment ∷ []
size_events moment Words count = list_events count ++ out_event moment ∷ []
size_events moment Octets count = list_events count ++ out_event moment ∷ []

-- their address in the core
abbrev pub part_address : Encoding → ℕ
part_address Characters = data_address
part_address Words = block_address
part_address Octets = block_address

abbrev pub fill_events : Moment → Encoding → List ℕ → List Event
fill_events moment encoding part = deposit_events (part_address encoding) part
    ++ size_events moment encoding (length part)

-- how many words a part has at most: those of a buffer, or of 16 blocks that a command list names
abbrev pub part_words : Encoding → ℕ
part_words Characters = 128
part_words Words = blocks_at_once * 128
part_words Octets = blocks_at_once * 128

-- how many parts `count` words make
abbrev pub parts_of : Encoding → ℕ → ℕ
parts_of encoding count = (count + part_words encoding - 1) / part_words encoding

-- words are put in parts, the last of which may be shorter
unfoldable pub fill_parts_plan : Moment → Encoding → ℕ → List ℕ → Plan → Plan
fill_parts_plan moment encoding zero words next = next
fill_parts_plan moment encoding (suc more) words next = each moment
    (fill_events moment encoding (take (part_words encoding) words))
    (fill_parts_plan moment encoding more (drop (part_words encoding) words) next)

abbrev pub fill_all_plan : Moment → Encoding → List ℕ → Plan → Plan
fill_all_plan moment encoding words next = fill_parts_plan moment encoding (parts_of encoding (length words)) words next

-- nothing is asked if a file can't have these bytes
abbrev pub put_plan : Moment → ℕ → Encoding → Spec → Option (List ℕ) → Plan
put_plan moment owner encoding spec None = Say (complains (unfit encoding))
put_plan moment owner encoding spec (Some words) =
    each moment (login_events owner) (each moment (create_events moment encoding spec)
    (fill_all_plan moment encoding words (each moment (call_event moment (Close 2 0) ∷ []) (ends moment ok))))

-- What is printed for a volume: the number of its blocks, and the number of those that are left, which may be below 0.
abbrev pub volume_line : ℕ → ℤ → List ℕ
volume_line blocks room = line (codes "Volume of " ++ decimal blocks ++ codes " blocks, room " ++ signed_decimal room)
