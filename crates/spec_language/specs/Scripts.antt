-- What a line of a call script means, which is an event, and what is written for its reply. All numbers are octal.
use Rattle.std.specs.Prelude.{◌≡◌, ℕ, ◌-◌, ◌==◌, ◌&&◌, Bool, true, false, if◌then◌else◌, List, [], ◌∷◌, ◌++◌, length}
use Rattle.std.specs.Prelude.{replicate, Option, Some, None, codes}
use Rattle.std.specs.Fmt.{digits}
use Rattle.words36.specs.declared.moment.Moment.{Moment}
use Rattle.spec_language.specs.Lines.{Line, Bytes, TooLong}
use Rattle.spec_language.specs.Spellings.{AreFields, IsNumber, IsSmall, IsPair}
use Rattle.spec_machine.specs.declared.call.Call.{Call}
use Rattle.spec_machine.specs.declared.call.Call.TheVariants.{Open, Inbuf, Outbuf, Lookup, Enter, Rename, In, Out}
use Rattle.spec_machine.specs.declared.call.Call.TheVariants.{Useti, Useto, Close, Releas, Getsts, Reset, MakeDir}
use Rattle.spec_machine.specs.declared.call.Call.TheVariants.{DeleteDir, Quota}
use Rattle.spec_machine.specs.declared.call.Event.{Event}
use Rattle.spec_machine.specs.declared.call.Event.TheVariants.{Login, Deposit, Examine, Call as Calls}
use Rattle.spec_machine.specs.declared.call.Reply.{Reply}
use Rattle.spec_machine.specs.declared.call.Reply.TheVariants.{Done, Value, Refused, Stopped, NoChannel, AddressCheck}
use Rattle.spec_machine.specs.declared.call.Reply.TheVariants.{NoJob, NoMemory, Device, Failed, DateRange}

-- The words of calls, by how many numbers follow.

abbrev pub same_text : List ℕ → List ℕ → Bool
same_text [] [] = true
same_text [] (d ∷ ds) = false
same_text (c ∷ cs) [] = false
same_text (c ∷ cs) (d ∷ ds) = (c == d) && same_text cs ds

abbrev pub calls_of_two : List ℕ → Option (ℕ → ℕ → Call)
calls_of_two word =
    if same_text word (codes "OPEN") then Some (λ channel address. Open channel address)
    else if same_text word (codes "INBUF") then Some (λ channel n. Inbuf channel n)
    else if same_text word (codes "OUTBUF") then Some (λ channel n. Outbuf channel n)
    else if same_text word (codes "LOOKUP") then Some (λ channel address. Lookup channel address)
    else if same_text word (codes "ENTER") then Some (λ channel address. Enter channel address)
    else if same_text word (codes "RENAME") then Some (λ channel address. Rename channel address)
    else if same_text word (codes "IN") then Some (λ channel address. In channel address)
    else if same_text word (codes "OUT") then Some (λ channel address. Out channel address)
    else if same_text word (codes "USETI") then Some (λ channel n. Useti channel n)
    else if same_text word (codes "USETO") then Some (λ channel n. Useto channel n)
    else if same_text word (codes "CLOSE") then Some (λ channel bits. Close channel bits)
    else None

abbrev pub calls_of_one : List ℕ → Option (ℕ → Call)
calls_of_one word =
    if same_text word (codes "RELEAS") then Some (λ channel. Releas channel)
    else if same_text word (codes "GETSTS") then Some (λ channel. Getsts channel)
    else if same_text word (codes "MAKDIR") then Some (λ address. MakeDir address)
    else if same_text word (codes "REMDIR") then Some (λ address. DeleteDir address)
    else if same_text word (codes "QUOTA") then Some (λ address. Quota address)
    else None

-- numbers of up to twelve digits: those of jobs, channels, addresses and counts are below 1000000
abbrev pub IsPlace : List ℕ → ℕ → Type 0
IsPlace text n = IsSmall 12 text n

-- The word of a call and its numbers.
abbrev pub IsCallText : List (List ℕ) → Call → Type 0
IsCallText [] call = ⊥
IsCallText (word ∷ []) call = (word ≡ codes "RESET") × (call ≡ Reset)
IsCallText (word ∷ a ∷ []) call = (f : ℕ → Call) × (calls_of_one word ≡ Some f) × (x : ℕ) × IsPlace a x × (call ≡ f x)
IsCallText (word ∷ a ∷ b ∷ []) call = (f : ℕ → ℕ → Call) × (calls_of_two word ≡ Some f) × (x : ℕ) × IsPlace a x
    × (y : ℕ) × IsPlace b y × (call ≡ f x y)
IsCallText (word ∷ a ∷ b ∷ c ∷ more) call = ⊥

-- The fields of a line: the job first.
abbrev pub IsEventText : List (List ℕ) → Moment → Event → Type 0
IsEventText fields moment (Login n owner words) =
    (job : List ℕ) × (pair : List ℕ) × (count : List ℕ) × (fields ≡ job ∷ codes "LOGIN" ∷ pair ∷ count ∷ [])
    × IsPlace job n × IsPair 12 pair owner × IsPlace count words
IsEventText fields moment (Deposit n address word) =
    (job : List ℕ) × (place : List ℕ) × (value : List ℕ) × (fields ≡ job ∷ codes "DEP" ∷ place ∷ value ∷ [])
    × IsPlace job n × IsPlace place address × IsNumber 12 value word
IsEventText fields moment (Examine n address) =
    (job : List ℕ) × (place : List ℕ) × (fields ≡ job ∷ codes "EXA" ∷ place ∷ []) × IsPlace job n
    × IsPlace place address
IsEventText fields moment (Calls n call at) =
    (job : List ℕ) × (rest : List (List ℕ)) × (fields ≡ job ∷ rest) × IsPlace job n × IsCallText rest call
    × (at ≡ moment)

abbrev pub IsEvent : List ℕ → Moment → Event → Type 0
IsEvent text moment event = (fields : List (List ℕ)) × AreFields fields text × IsEventText fields moment event

-- what a text means, if it means anything
abbrev pub SaysEvent : List ℕ → Moment → Option Event → Type 0
SaysEvent text moment (Some event) = IsEvent text moment event
SaysEvent text moment None = (event : Event) → IsEvent text moment event → ⊥

-- and what a line means: a line that is too long means nothing
abbrev pub MeansEvent : Line → Moment → Option Event → Type 0
MeansEvent (Bytes text) moment said = SaysEvent text moment said
MeansEvent TooLong moment said = said ≡ None

-- What is written, without the line feed.

-- a number in octal, of at least `places` digits
abbrev pub octal_in : ℕ → ℕ → List ℕ
octal_in places n = replicate (places - length (digits 8 false n)) 48 ++ digits 8 false n

abbrev pub words_given : Reply → List ℕ
words_given Done = codes "DONE"
words_given (Value word) = codes "VALUE " ++ octal_in 12 word
words_given (Refused code) = codes "REFUSED " ++ digits 8 false code
words_given (Stopped status) = codes "STOPPED " ++ octal_in 6 status
words_given NoChannel = codes "NOCHANNEL"
words_given AddressCheck = codes "ADDRESS"
words_given NoJob = codes "NOJOB"
words_given NoMemory = codes "NOMEMORY"
words_given Device = codes "DEVICE"
words_given Failed = codes "FAILED"
words_given DateRange = codes "DATE"

-- what is written for a line that isn't in the grammar
abbrev pub wrong : List ℕ
wrong = codes "SYNTAX"
