-- Orders and answers as programs send and get them: a record of 16 bytes, which words of eight bytes follow. A number
-- has its highest byte first, as in an image.
use Rattle.std.specs.Prelude.{◌≡◌, ℕ, ◌+◌, ◌*◌, ◌/◌, ◌%◌, ◌^◌, ◌<◌, ◌≤◌, List, [], ◌∷◌, ◌++◌, length, All}
use Rattle.std.specs.Int.{bytes_high_first}
use Rattle.words36.specs.Common.{IsWord, IsPpn, block_bytes}
use Rattle.words36.specs.declared.moment.Moment.{Moment}
use Rattle.spec_machine.specs.declared.call.Call.{Call}
use Rattle.spec_machine.specs.declared.call.Call.TheVariants.{Open, Inbuf, Outbuf, Lookup, Enter, Rename, In, Out}
use Rattle.spec_machine.specs.declared.call.Call.TheVariants.{Useti, Useto, Close, Releas, Getsts, Reset, MakeDir}
use Rattle.spec_machine.specs.declared.call.Call.TheVariants.{DeleteDir, Quota}
use Rattle.spec_machine.specs.declared.call.Reply.TheVariants.{Done, Value, Refused, Stopped, NoChannel, AddressCheck}
use Rattle.spec_machine.specs.declared.call.Reply.TheVariants.{NoJob, NoMemory, Device, Failed, DateRange}
use Rattle.wire.specs.declared.answer.Answer.{Answer}
use Rattle.wire.specs.declared.answer.Answer.TheVariants.{Wrong, Reply as Replies, Room as HasRoom}
use Rattle.wire.specs.declared.header.Header.{Header}
use Rattle.wire.specs.declared.order.Order.{Order}
use Rattle.wire.specs.declared.order.Order.TheVariants.{Login, Deposit, Examine, Call as Calls, Room}

-- the bytes of a record
abbrev pub record_bytes : Header → List ℕ
record_bytes h =
    h.kind ∷ h.code ∷ h.job ∷ h.channel ∷ bytes_high_first 4 h.number ++ bytes_high_first 4 h.detail
    ++ bytes_high_first 4 h.count

-- its numbers have four bytes each
pub record FitsRecord (h : Header) : Type 0 where
  pub number_fits : h.number < 2 ^ 32
  pub detail_fits : h.detail < 2 ^ 32
  pub count_fits : h.count < 2 ^ 32

-- A call is named by the operation code of its monitor call; RESET by that of CALLI; the calls of this service, for
-- directories, by 1, 2 and 3.
abbrev pub opcode : Call → ℕ
opcode (Open channel address) = 0o50
opcode (Inbuf channel n) = 0o64
opcode (Outbuf channel n) = 0o65
opcode (Lookup channel address) = 0o76
opcode (Enter channel address) = 0o77
opcode (Rename channel address) = 0o55
opcode (In channel address) = 0o56
opcode (Out channel address) = 0o57
opcode (Useti channel n) = 0o74
opcode (Useto channel n) = 0o75
opcode (Close channel bits) = 0o70
opcode (Releas channel) = 0o71
opcode (Getsts channel) = 0o62
opcode Reset = 0o47
opcode (MakeDir address) = 1
opcode (DeleteDir address) = 2
opcode (Quota address) = 3

-- the channel that a call names, 0 if it names none
abbrev pub channel_named : Call → ℕ
channel_named (Open channel address) = channel
channel_named (Inbuf channel n) = channel
channel_named (Outbuf channel n) = channel
channel_named (Lookup channel address) = channel
channel_named (Enter channel address) = channel
channel_named (Rename channel address) = channel
channel_named (In channel address) = channel
channel_named (Out channel address) = channel
channel_named (Useti channel n) = channel
channel_named (Useto channel n) = channel
channel_named (Close channel bits) = channel
channel_named (Releas channel) = channel
channel_named (Getsts channel) = channel
channel_named Reset = 0
channel_named (MakeDir address) = 0
channel_named (DeleteDir address) = 0
channel_named (Quota address) = 0

-- the address or the other number that a call names, 0 if it names none
abbrev pub number_named : Call → ℕ
number_named (Open channel address) = address
number_named (Inbuf channel n) = n
number_named (Outbuf channel n) = n
number_named (Lookup channel address) = address
number_named (Enter channel address) = address
number_named (Rename channel address) = address
number_named (In channel address) = address
number_named (Out channel address) = address
number_named (Useti channel n) = n
number_named (Useto channel n) = n
number_named (Close channel bits) = bits
number_named (Releas channel) = 0
number_named (Getsts channel) = 0
number_named Reset = 0
number_named (MakeDir address) = address
number_named (DeleteDir address) = address
number_named (Quota address) = address

-- a date in the left 16 bits, a minute in the right ones
abbrev pub moment_number : Moment → ℕ
moment_number moment = moment.date * 2 ^ 16 + moment.minute

-- the record of an order
abbrev pub record_of : Order → Header
record_of (Login job ppn words) =
    record { kind = 1; code = 0; job = job; channel = 0; number = words; detail = 0; count = 1 }
record_of (Deposit job address count) =
    record { kind = 2; code = 0; job = job; channel = 0; number = address; detail = 0; count = count }
record_of (Examine job address count) =
    record { kind = 3; code = 0; job = job; channel = 0; number = address; detail = count; count = 0 }
record_of (Calls job call moment) = record {
  kind = 4;
  code = opcode call;
  job = job;
  channel = channel_named call;
  number = number_named call;
  detail = moment_number moment;
  count = 0;
}
record_of Room = record { kind = 5; code = 0; job = 0; channel = 0; number = 0; detail = 0; count = 0 }

-- the number of addresses that 18 bits have
abbrev pub most_words : ℕ
most_words = 2 ^ 18

-- The words that follow an order's record. Words that are deposited or examined are below address 2^18.
abbrev pub HasWords : Order → List ℕ → Type 0
HasWords (Login job ppn core) words = IsPpn ppn × (words ≡ ppn ∷ [])
HasWords (Deposit job address count) words = All IsWord words × (length words ≡ count) × (address + count ≤ most_words)
HasWords (Examine job address count) words = (words ≡ []) × (address + count ≤ most_words)
HasWords (Calls job call moment) words = words ≡ []
HasWords Room words = words ≡ []

-- A record and the bytes after it spell an order, with these words.
pub record IsOrder (header : Header) (body : List ℕ) (order : Order) (words : List ℕ) : Type 0 where
  pub record_is : record_of order ≡ header
  pub words_fit : HasWords order words
  pub body_is : block_bytes words ≡ body

-- Answers.

abbrev pub answer_kind : Answer → ℕ
answer_kind Wrong = 0
answer_kind (Replies Done) = 1
answer_kind (Replies (Value word)) = 2
answer_kind (Replies (Refused code)) = 3
answer_kind (Replies (Stopped status)) = 4
answer_kind (Replies NoChannel) = 5
answer_kind (Replies AddressCheck) = 6
answer_kind (Replies NoJob) = 7
answer_kind (Replies NoMemory) = 8
answer_kind (Replies Device) = 9
answer_kind (Replies Failed) = 10
answer_kind (Replies DateRange) = 11
answer_kind (HasRoom blocks) = 12

-- the number in an answer, 0 if it has none
abbrev pub answer_value : Answer → ℕ
answer_value Wrong = 0
answer_value (Replies Done) = 0
answer_value (Replies (Value word)) = word
answer_value (Replies (Refused code)) = code
answer_value (Replies (Stopped status)) = status
answer_value (Replies NoChannel) = 0
answer_value (Replies AddressCheck) = 0
answer_value (Replies NoJob) = 0
answer_value (Replies NoMemory) = 0
answer_value (Replies Device) = 0
answer_value (Replies Failed) = 0
answer_value (Replies DateRange) = 0
answer_value (HasRoom blocks) = blocks

-- the record of an answer that `count` groups of eight bytes follow: the value takes bytes 4 to 11
abbrev pub answer_record : Answer → ℕ → Header
answer_record answer count = record {
  kind = answer_kind answer;
  code = 0;
  job = 0;
  channel = 0;
  number = answer_value answer / 2 ^ 32;
  detail = answer_value answer % 2 ^ 32;
  count = count;
}
