-- What a session prints.
use Rattle.std.specs.Prelude.{ℕ, ◌+◌, ◌-◌, ◌/◌, ◌%◌, ◌^◌, ◌==◌, ◌||◌, Bool, true, false, if◌then◌else◌, List, [], ◌∷◌}
use Rattle.std.specs.Prelude.{◌++◌, length, take, replicate, flat_map, codes, Result, Ok, Err, Option, Some, None}
use Rattle.std.specs.Fmt.{decimal, digits}
use Rattle.std.specs.List.{suffix_len}
use Rattle.words36.specs.Common.{left, right, ppn_text, characters, unpacked, word_bytes, octets_unpacked}
use Rattle.words36.specs.declared.names.FileName.{FileName}
use Rattle.spec_image.specs.Common.{total}
use Rattle.spec_language.specs.Lines.{feed}
use Rattle.spec_image.specs.declared.entry.Entry.{Entry}
use Rattle.spec_language.specs.declared.encoding.Encoding.{Encoding}
use Rattle.spec_language.specs.declared.encoding.Encoding.TheVariants.{Characters, Words, Octets}
use Rattle.spec_language.specs.declared.style.Style.{Style}
use Rattle.spec_language.specs.declared.style.Style.TheVariants.{Columns, Table}
use Rattle.spec_machine.specs.declared.call.Reply.{Reply}
use Rattle.spec_machine.specs.declared.call.Reply.TheVariants.{Done, Value, Refused, Stopped, NoChannel, AddressCheck}
use Rattle.spec_machine.specs.declared.call.Reply.TheVariants.{NoJob, NoMemory, Device, Failed, DateRange}

-- A text, and what is counted of its lines: whether one was refused, and whether one met a fault of the disk or
-- came after it.
pub record Spoken : Type 0 where
  pub text : List ℕ
  pub refused : Bool
  pub broke : Bool

abbrev pub both_said : Spoken → Spoken → Spoken
both_said a b = record { text = a.text ++ b.text; refused = a.refused || b.refused; broke = a.broke || b.broke }

abbrev pub silent : Spoken
silent = record { text = []; refused = false; broke = false }

abbrev pub prints : List ℕ → Spoken
prints text = record { text = text; refused = false; broke = false }

abbrev pub line : List ℕ → List ℕ
line text = text ++ feed ∷ []

abbrev pub complains : List ℕ → Spoken
complains text = record { text = line text; refused = true; broke = false }

-- Refusals.

abbrev pub code_text : ℕ → List ℕ
code_text code =
    if code == 0 then codes "?File not found"
    else if code == 1 then codes "?No such directory"
    else if code == 2 then codes "?Protection failure"
    else if code == 3 then codes "?File being modified"
    else if code == 4 then codes "?File name already exists"
    else if code == 0o14 then codes "?No room"
    else if code == 0o22 then codes "?Directory not empty"
    else codes "?Illegal sequence"

-- A line never gets NoChannel or AddressCheck, since its channels and addresses are there.
abbrev pub refusal : Reply → List ℕ
refusal Done = codes "?Illegal sequence"
refusal (Value word) = codes "?Illegal sequence"
refusal (Refused code) = code_text code
refusal (Stopped status) = codes "?No room"
refusal NoChannel = codes "?Illegal sequence"
refusal AddressCheck = codes "?Illegal sequence"
refusal NoJob = codes "?Not logged in"
refusal NoMemory = codes "?No memory"
refusal Device = codes "?Device fault"
refusal Failed = codes "?Service stopped"
refusal DateRange = codes "?Date out of range"

abbrev pub is_broken : Reply → Bool
is_broken Done = false
is_broken (Value word) = false
is_broken (Refused code) = false
is_broken (Stopped status) = false
is_broken NoChannel = false
is_broken AddressCheck = false
is_broken NoJob = false
is_broken NoMemory = false
is_broken Device = true
is_broken Failed = true
is_broken DateRange = false

abbrev pub refuses : Reply → Spoken
refuses reply = record { text = line (refusal reply); refused = true; broke = is_broken reply }

-- What is printed for what is done.

abbrev pub greeting : ℕ → List ℕ
greeting owner = line (codes "Job 1 " ++ ppn_text owner)

-- the characters of words without nulls
abbrev pub not_null : ℕ → List ℕ
not_null c = if c == 0 then [] else c ∷ []

abbrev pub typed : List ℕ → List ℕ
typed words = flat_map not_null (unpacked words)

-- the bytes of words, if they have bytes, or that they have none
abbrev pub octets_said : Option (List ℕ) → Spoken
octets_said (Some bytes) = prints bytes
octets_said None = complains (codes "?Not bytes")

-- what is printed for a file of words: its characters; eight bytes for each word, the most significant first; or its
-- bytes of eight bits
abbrev pub file_said : Encoding → List ℕ → Spoken
file_said Characters words = prints (typed words)
file_said Words words = prints (flat_map word_bytes words)
file_said Octets words = octets_said (octets_unpacked words)

-- The list of a directory.

-- a text, filled with spaces at the left to `places` characters
abbrev pub right_in : ℕ → List ℕ → List ℕ
right_in places text = replicate (places - length text) 32 ++ text

-- a number of three octal digits
abbrev pub three_digits : ℕ → List ℕ
three_digits n = (n / 64 % 8 + 48) ∷ (n / 8 % 8 + 48) ∷ (n % 8 + 48) ∷ []

-- the three characters of an extension
abbrev pub extension_text : ℕ → List ℕ
extension_text ext = (ext / 64 ^ 2 % 64 + 32) ∷ (ext / 64 % 64 + 32) ∷ (ext % 64 + 32) ∷ []

abbrev pub month_text : ℕ → List ℕ
month_text month =
    if month == 0 then codes "Jan"
    else if month == 1 then codes "Feb"
    else if month == 2 then codes "Mar"
    else if month == 3 then codes "Apr"
    else if month == 4 then codes "May"
    else if month == 5 then codes "Jun"
    else if month == 6 then codes "Jul"
    else if month == 7 then codes "Aug"
    else if month == 8 then codes "Sep"
    else if month == 9 then codes "Oct"
    else if month == 10 then codes "Nov"
    else codes "Dec"

-- a day: each month has 31 numbers
abbrev pub day_text : ℕ → List ℕ
day_text date = right_in 2 (decimal (date % 31 + 1)) ++ codes "-" ++ month_text (date / 31 % 12) ++ codes "-"
    ++ decimal (date / 372 + 1964)

unfoldable pub entry_text : Entry → List ℕ
entry_text e =
    line (characters e.name.name ++ codes " " ++ extension_text e.name.ext ++ codes " " ++ right_in 5 (decimal e.blocks)
    ++ codes "  <" ++ three_digits e.protection ++ codes ">  " ++ day_text e.date)

abbrev pub blocks_in : List Entry → ℕ
blocks_in entries = total (λ e. e.blocks) entries

abbrev pub total_text : ℕ → List Entry → List ℕ
total_text owner [] = line (codes "No files " ++ ppn_text owner)
total_text owner (e ∷ es) =
    line (codes "Total " ++ decimal (blocks_in (e ∷ es)) ++ codes " blocks in " ++ decimal (length (e ∷ es))
    ++ codes " files " ++ ppn_text owner)

unfoldable pub listing : ℕ → List Entry → List ℕ
listing owner entries = flat_map entry_text entries ++ total_text owner entries

-- The list of a directory as a table: a line for each file, whose fields are separated by tabs. They are its owner,
-- name and extension, protection and mode in octal, day and minute, words and blocks.

abbrev pub tab : List ℕ
tab = 9 ∷ []

-- a text without the blanks at its end
abbrev pub trimmed : List ℕ → List ℕ
trimmed text = take (length text - suffix_len (λ c. c == 32) text) text

abbrev pub two_octal : ℕ → List ℕ
two_octal n = (n / 8 % 8 + 48) ∷ (n % 8 + 48) ∷ []

abbrev pub two_digits : ℕ → List ℕ
two_digits n = (n / 10 % 10 + 48) ∷ (n % 10 + 48) ∷ []

-- an owner as the words of a command line name it: `10,20`
abbrev pub owner_text : ℕ → List ℕ
owner_text owner = digits 8 false (left owner) ++ 44 ∷ digits 8 false (right owner)

abbrev pub place_fields : ℕ → FileName → List ℕ
place_fields owner name =
    owner_text owner ++ tab ++ trimmed (characters name.name) ++ tab ++ trimmed (extension_text name.ext) ++ tab

abbrev pub right_fields : ℕ → ℕ → List ℕ
right_fields protection mode = three_digits protection ++ tab ++ two_octal mode ++ tab

-- a day as `1975-01-04`: its year, its month from 01 and its number in the month
abbrev pub day_field : ℕ → List ℕ
day_field date = decimal (date / 372 + 1964) ++ codes "-" ++ two_digits (date / 31 % 12 + 1) ++ codes "-"
    ++ two_digits (date % 31 + 1) ++ tab

-- a minute of the day as `10:05`
abbrev pub minute_field : ℕ → List ℕ
minute_field minute = two_digits (minute / 60) ++ codes ":" ++ two_digits (minute % 60) ++ tab

abbrev pub size_fields : ℕ → ℕ → List ℕ
size_fields words blocks = decimal words ++ (tab ++ decimal blocks)

unfoldable pub row_text : ℕ → Entry → List ℕ
row_text owner e =
    line (place_fields owner e.name ++ right_fields e.protection e.mode ++ day_field e.date
    ++ minute_field e.time ++ size_fields e.length e.blocks)

unfoldable pub table : ℕ → List Entry → List ℕ
table owner entries = flat_map (row_text owner) entries

abbrev pub list_text : Style → ℕ → List Entry → List ℕ
list_text Columns owner entries = listing owner entries
list_text Table owner entries = table owner entries

abbrev pub list_said : Style → ℕ → Result (List Entry) Reply → Spoken
list_said style owner (Ok entries) = prints (list_text style owner entries)
list_said style owner (Err reply) = refuses reply
