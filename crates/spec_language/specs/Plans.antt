-- What a line of a session asks of the service, one event after the other, each depending on the replies so far; and
-- what it prints in the end. It acts as job 1, in dump mode, with channels, addresses and sizes that are always the
-- same.
use Rattle.std.specs.Prelude.{◌≡◌, ℕ, zero, suc, ◌+◌, ◌*◌, ◌-◌, ◌/◌, ◌%◌, ◌^◌, ◌==◌, Bool, nat_le, if◌then◌else◌}
use Rattle.std.specs.Prelude.{List, [], ◌∷◌, ◌++◌, replicate, unwrap_or, codes, Result}
use Rattle.words36.specs.Common.{left, join}
use Rattle.words36.specs.declared.moment.Moment.{Moment}
use Rattle.spec_image.specs.Common.{blocks_of}
use Rattle.spec_machine.specs.Common.{disk, dump_mode}
use Rattle.spec_language.specs.Texts.{Spoken, prints, refuses, line, file_said, list_said}
use Rattle.spec_language.specs.declared.encoding.Encoding.{Encoding}
use Rattle.spec_language.specs.declared.encoding.Encoding.TheVariants.{Characters}
use Rattle.spec_language.specs.declared.style.Style.TheVariants.{Columns}
use Rattle.spec_language.specs.declared.command.Spec.{Spec}
use Rattle.spec_language.specs.declared.command.Command.{Command}
use Rattle.spec_language.specs.declared.command.Command.TheVariants.{Login as LoginLine, Directory as DirectoryLine}
use Rattle.spec_language.specs.declared.command.Command.TheVariants.{Copy as CopyLine, Rename as RenameLine}
use Rattle.spec_language.specs.declared.command.Command.TheVariants.{Delete as DeleteLine, TypeOut as TypeLine}
use Rattle.spec_language.specs.declared.command.Command.TheVariants.{Protect as ProtectLine, MakeDir as MakeLine}
use Rattle.spec_language.specs.declared.command.Command.TheVariants.{Quota as QuotaLine}
use Rattle.spec_image.specs.declared.entry.Entry.{Entry}
use Rattle.spec_machine.specs.declared.call.Call.{Call}
use Rattle.spec_machine.specs.declared.call.Call.TheVariants.{Open, Lookup, Enter, Rename, In, Out, Useti, Close}
use Rattle.spec_machine.specs.declared.call.Call.TheVariants.{Reset, MakeDir, Quota}
use Rattle.spec_machine.specs.declared.call.Event.{Event}
use Rattle.spec_machine.specs.declared.call.Event.TheVariants.{Deposit, Examine, Call as Calls}
use Rattle.spec_machine.specs.declared.call.Reply.{Reply}
use Rattle.spec_machine.specs.declared.call.Reply.TheVariants.{Done, Value, Stopped}

-- Addresses in job 1's core.

-- the three words of an OPEN
abbrev pub open_words : ℕ
open_words = 0o30

-- the four words of a file that is looked up, and of one that is entered
abbrev pub file_words : ℕ
file_words = 0o40

abbrev pub new_words : ℕ
new_words = 0o44

-- a command list of two words
abbrev pub list_words : ℕ
list_words = 0o50

-- the words of a block
abbrev pub block_address : ℕ
block_address = 0o200

-- Events.

abbrev pub call_event : Moment → Call → Event
call_event moment call = Calls 1 call moment

abbrev pub deposit_events : ℕ → List ℕ → List Event
deposit_events address [] = []
deposit_events address (w ∷ ws) = Deposit 1 address w ∷ deposit_events (address + 1) ws

-- the four words that name a file, with a protection
abbrev pub name_events : ℕ → Spec → ℕ → List Event
name_events address spec protection = deposit_events address
    (spec.name.name ∷ join spec.name.ext 0 ∷ protection * 2 ^ 27
    ∷ unwrap_or spec.owner 0 ∷ [])

-- a channel is opened in dump mode
abbrev pub open_events : Moment → ℕ → List Event
open_events moment channel = deposit_events open_words (dump_mode ∷ disk ∷ 0 ∷ [])
    ++ call_event moment (Open channel open_words)
    ∷ []

-- the file is looked up on channel 1
abbrev pub lookup_events : Moment → Spec → List Event
lookup_events moment spec = open_events moment 1 ++ name_events file_words spec 0
    ++ call_event moment (Lookup 1 file_words) ∷ []

-- the new file is entered on channel 2
abbrev pub enter_events : Moment → Spec → List Event
enter_events moment spec = open_events moment 2 ++ name_events new_words spec 0 ++ call_event moment (Enter 2 new_words)
    ∷ []

-- the command list names `count` words from the address of the block
abbrev pub list_events : ℕ → List Event
list_events count = deposit_events list_words (join ((2 ^ 18 - count) % 2 ^ 18) (block_address - 1) ∷ 0 ∷ [])

abbrev pub in_event : Moment → Event
in_event moment = call_event moment (In 1 list_words)

abbrev pub out_event : Moment → Event
out_event moment = call_event moment (Out 2 list_words)

-- block n is the next that is taken
abbrev pub useti_event : Moment → ℕ → Event
useti_event moment n = call_event moment (Useti 1 n)

-- The new name and place, with the protection that LOOKUP has put into the third word.
abbrev pub rename_events : Moment → Spec → Spec → List Event
rename_events moment to from =
    lookup_events moment from ++ Deposit 1 file_words to.name.name ∷ Deposit 1 (file_words + 1) (join to.name.ext 0)
    ∷ Deposit 1 (file_words + 3) (unwrap_or to.owner 0)
    ∷ call_event moment (Rename 1 file_words) ∷ []

abbrev pub delete_events : Moment → Spec → List Event
delete_events moment spec = lookup_events moment spec ++ Deposit 1 file_words 0
    ∷ call_event moment (Rename 1 file_words) ∷ []

abbrev pub protect_events : Moment → Spec → ℕ → List Event
protect_events moment spec protection = lookup_events moment spec ++ name_events file_words spec protection
    ++ call_event moment (Rename 1 file_words) ∷ []

abbrev pub make_dir_events : Moment → ℕ → ℕ → List Event
make_dir_events moment owner protection = deposit_events file_words (owner ∷ protection * 2 ^ 27 ∷ [])
    ++ call_event moment (MakeDir file_words) ∷ []

abbrev pub quota_events : Moment → ℕ → ℕ → List Event
quota_events moment owner blocks = deposit_events file_words (owner ∷ join blocks 0 ∷ [])
    ++ call_event moment (Quota file_words) ∷ []

-- Plans.

pub data Plan : Type 0 where
  -- an event is asked, and its reply determines what comes next
  Ask : Event → (Reply → Plan) → Plan
  -- the list of a directory is read, and the answer determines what comes next
  Show : ℕ → (Result (List Entry) Reply → Plan) → Plan
  -- nothing more is asked, and this is printed
  Say : Spoken → Plan

-- all channels are closed, whatever is answered
abbrev pub ends : Moment → Spoken → Plan
ends moment said = Ask (call_event moment Reset) (λ reply. Say said)

abbrev pub fails : Moment → Reply → Plan
fails moment reply = ends moment (refuses reply)

-- what comes after an event that has to be done, and after one that returns a word
abbrev pub if_done : Moment → Plan → Reply → Plan
if_done moment next Done = next
if_done moment next reply = fails moment reply

abbrev pub if_told : Moment → (ℕ → Plan) → Reply → Plan
if_told moment next (Value word) = next word
if_told moment next reply = fails moment reply

-- events, each of which has to be done
unfoldable pub each : Moment → List Event → Plan → Plan
each moment [] next = next
each moment (event ∷ events) next = Ask event (if_done moment (each moment events next))

abbrev pub examines : Moment → ℕ → (ℕ → Plan) → Plan
examines moment address next = Ask (Examine 1 address) (if_told moment next)

-- this number of words of the core, from an address
unfoldable pub fetches : Moment → ℕ → ℕ → (List ℕ → Plan) → Plan
fetches moment zero address next = next []
fetches moment (suc more) address next = examines moment address
    (λ word. fetches moment more (address + 1) (λ words. next (word ∷ words)))

-- The length of a body, by the file's fourth word, which LOOKUP has written: its left half is minus the number of words
-- or, for a longer body, the number of blocks.

abbrev pub says_words : ℕ → Bool
says_words size = nat_le (2 ^ 17) (left size)

abbrev pub blocks_said : ℕ → ℕ
blocks_said size = if says_words size then blocks_of (2 ^ 18 - left size) else left size

-- How many words the last block has, if only the number of blocks is given: an IN leaves the words of the core after
-- the body's end unchanged. After two INs over different words, the words that were moved are therefore the same, and
-- no others.

abbrev pub same_words : List ℕ → List ℕ → ℕ
same_words [] ys = 0
same_words (x ∷ xs) [] = 0
same_words (x ∷ xs) (y ∷ ys) = (if x == y then 1 else 0) + same_words xs ys

-- block n is taken over words that are all this one
abbrev pub takes_over : Moment → ℕ → ℕ → (List ℕ → Plan) → Plan
takes_over moment n word next = each moment (deposit_events block_address (replicate 128 word)
    ++ useti_event moment n ∷ in_event moment ∷ []) (fetches moment 128 block_address next)

abbrev pub counts : Moment → ℕ → (ℕ → Plan) → Plan
counts moment n next = takes_over moment n 0 (λ zeros. takes_over moment n 1 (λ ones. next (same_words zeros ones)))

-- the number of words of the last block, if the number of words is given
abbrev pub last_said : ℕ → ℕ
last_said size = (2 ^ 18 - left size - 1) % 128 + 1

abbrev pub sizes : Moment → ℕ → ℕ → (ℕ → Plan) → Plan
sizes moment n size next = if says_words size then next (last_said size) else counts moment n next

-- An IN after the last block reports the body's end.

abbrev pub is_end : ℕ → Bool
is_end status = status / 2 ^ 13 % 2 == 1

abbrev pub if_end : Moment → Plan → Reply → Plan
if_end moment next (Stopped status) = if is_end status then next else fails moment (Stopped status)
if_end moment next reply = fails moment reply

abbrev pub until_end : Moment → Plan → Plan
until_end moment next = Ask (in_event moment) (if_end moment next)

-- Copying: whole blocks, then the words of the last.

abbrev pub ok : Spoken
ok = prints (line (codes "OK"))

-- how many blocks an IN or an OUT moves, as long as that many whole ones are left
abbrev pub blocks_at_once : ℕ
blocks_at_once = 16

-- INs, each followed by an OUT of the words that it moved
unfoldable pub copy_runs_plan : Moment → ℕ → Plan → Plan
copy_runs_plan moment zero next = next
copy_runs_plan moment (suc more) next = each moment (in_event moment ∷ out_event moment ∷ [])
    (copy_runs_plan moment more next)

-- whole blocks: in runs, and those that make no run one by one
abbrev pub copy_blocks_plan : Moment → ℕ → Plan → Plan
copy_blocks_plan moment blocks next = each moment (list_events (blocks_at_once * 128))
    (copy_runs_plan moment (blocks / blocks_at_once) (each moment (list_events 128)
    (copy_runs_plan moment (blocks % blocks_at_once) next)))

abbrev pub copy_last_plan : Moment → ℕ → ℕ → Plan → Plan
copy_last_plan moment n size next = sizes moment n size
    (λ count. each moment (list_events count ++ useti_event moment n ∷ in_event moment ∷ out_event moment ∷ []) next)

abbrev pub copy_body_plan : Moment → ℕ → ℕ → Plan → Plan
copy_body_plan moment zero size next = next
copy_body_plan moment (suc more) size next = copy_blocks_plan moment more (copy_last_plan moment (suc more) size next)

abbrev pub copy_plan : Moment → Spec → Spec → Plan
copy_plan moment to from =
    each moment (lookup_events moment from ++ enter_events moment to ++ list_events 128)
    (examines moment (file_words + 3) (λ size. copy_body_plan moment (blocks_said size) size
    (until_end moment (each moment (call_event moment (Close 2 0) ∷ []) (ends moment ok)))))

-- the list of one directory
abbrev pub directory_plan : ℕ → Plan
directory_plan owner = Show owner (λ answer. Say (list_said Columns owner answer))

-- Typing: the words of whole blocks, then those of the last.

-- a number of INs, each of which moves `count` words
unfoldable pub type_runs_plan : Moment → ℕ → ℕ → (List ℕ → Plan) → Plan
type_runs_plan moment zero count next = next []
type_runs_plan moment (suc more) count next = each moment (in_event moment ∷ [])
    (fetches moment count block_address (λ words. type_runs_plan moment more count (λ others. next (words ++ others))))

-- `blocks` whole blocks: in runs, and those that make no run one by one
abbrev pub type_blocks_plan : Moment → ℕ → (List ℕ → Plan) → Plan
type_blocks_plan moment blocks next = each moment (list_events (blocks_at_once * 128))
    (type_runs_plan moment (blocks / blocks_at_once) (blocks_at_once * 128) (λ words. each moment (list_events 128)
    (type_runs_plan moment (blocks % blocks_at_once) 128 (λ others. next (words ++ others)))))

abbrev pub type_last_plan : Moment → ℕ → ℕ → (List ℕ → Plan) → Plan
type_last_plan moment n size next = sizes moment n size
    (λ count. each moment (list_events count ++ useti_event moment n ∷ in_event moment ∷ [])
    (fetches moment count block_address next))

abbrev pub type_body_plan : Moment → ℕ → ℕ → (List ℕ → Plan) → Plan
type_body_plan moment zero size next = next []
type_body_plan moment (suc more) size next = type_blocks_plan moment more
    (λ words. type_last_plan moment (suc more) size (λ others. next (words ++ others)))

-- a file is read whole, and then printed
abbrev pub read_plan : Moment → Encoding → Spec → Plan
read_plan moment encoding spec =
    each moment (lookup_events moment spec ++ list_events 128)
    (examines moment (file_words + 3) (λ size. type_body_plan moment (blocks_said size) size
    (λ words. until_end moment (ends moment (file_said encoding words)))))

abbrev pub type_plan : Moment → Spec → Plan
type_plan moment spec = read_plan moment Characters spec

-- the plan of a line, in a session that is logged in as `me`
abbrev pub line_plan : Moment → ℕ → Command → Plan
line_plan moment me (LoginLine owner) = Say (prints [])
line_plan moment me (DirectoryLine owner) = directory_plan (unwrap_or owner me)
line_plan moment me (CopyLine to from) = copy_plan moment to from
line_plan moment me (RenameLine to from) = each moment (rename_events moment to from) (ends moment ok)
line_plan moment me (DeleteLine spec) = each moment (delete_events moment spec) (ends moment ok)
line_plan moment me (TypeLine spec) = type_plan moment spec
line_plan moment me (ProtectLine spec protection) = each moment (protect_events moment spec protection) (ends moment ok)
line_plan moment me (MakeLine owner protection) = each moment (make_dir_events moment owner protection) (ends moment ok)
line_plan moment me (QuotaLine owner blocks) = each moment (quota_events moment owner blocks) (ends moment ok)

-- What is asked of the service, with the answer.
pub data Act : Type 0 where
  Asks : Event → Reply → Act
  Looks : ℕ → Result (List Entry) Reply → Act

-- With these acts a plan comes to what is left of it.
abbrev pub Leads : Plan → List Act → Plan → Type 0
Leads plan [] left = left ≡ plan
Leads (Ask event next) (Asks asked reply ∷ acts) left = (asked ≡ event) × Leads (next reply) acts left
Leads (Ask event next) (Looks owner answer ∷ acts) left = ⊥
Leads (Show owner next) (Asks asked reply ∷ acts) left = ⊥
Leads (Show owner next) (Looks shown answer ∷ acts) left = (shown ≡ owner) × Leads (next answer) acts left
Leads (Say said) (act ∷ acts) left = ⊥

-- These are the acts of a plan to its end, and this is printed then.
abbrev pub RunsPlan : Plan → List Act → Spoken → Type 0
RunsPlan plan acts said = Leads plan acts (Say said)
