-- The files of a directory, and files that are taken out so that they can come back exactly.
use Rattle.std.specs.Prelude.{◌≡◌, ◌⊎◌, ℕ, nat_le, if◌then◌else◌, List, [], ◌∷◌, All, Option, Some, None, flat_map}
use Rattle.std.specs.Prelude.{Result, Ok, Err}
use Rattle.words36.specs.Common.{word_bytes, IsOctet, octets_unpacked, IsWord}
use Rattle.words36.specs.declared.moment.Moment.{Moment}
use Rattle.spec_language.specs.Common.{AreWords, login_events, get_plan, operator, Act, Asks, Plan, Show, Say, Leads}
use Rattle.spec_language.specs.Common.{RunsPlan}
use Rattle.spec_language.specs.Common.{call_event, each, Spoken, prints, refuses, typed, core_words}
use Rattle.spec_machine.specs.declared.call.Call.TheVariants.{Reset}
use Rattle.spec_machine.specs.declared.call.Event.TheVariants.{Login}
use Rattle.spec_machine.specs.declared.call.Reply.{Reply}
use Rattle.spec_language.specs.declared.command.Spec.{Spec}
use Rattle.spec_language.specs.declared.encoding.Encoding.{Encoding}
use Rattle.spec_language.specs.declared.encoding.Encoding.TheVariants.{Characters, Words, Octets}
use Rattle.spec_image.specs.declared.entry.Entry.{Entry}
use Rattle.commands.specs.PlanSteps.{FollowsPlan}
use Rattle.commands.specs.Machines.{Machine, GoesBy}
use Rattle.commands.specs.declared.export_file.Exported.{Exported}
use Rattle.commands.specs.declared.export_file.Exported.TheVariants.{File, Refused, NotBytes}

-- The files of a directory.

abbrev pub entries_answered : {V : Type 0} → (V → List Entry) → Result V Reply → Result (List Entry) Reply
entries_answered entries (Ok v) = Ok (entries v)
entries_answered entries (Err reply) = Err reply

-- The plan that logs in as [1,2], who may list all directories, and lists one.
abbrev pub asks_for : Moment → ℕ → (Result (List Entry) Reply → Plan) → Plan
asks_for moment owner next = each moment (login_events operator) (Show owner next)

-- The answer is the reply to this plan; or LOGIN was refused, and all channels were closed.
abbrev pub AreEntries : Moment → ℕ → List Act → Result (List Entry) Reply → Type 0
AreEntries moment owner acts answer =
    ((next : Result (List Entry) Reply → Plan) → Leads (asks_for moment owner next) acts (next answer))
    ⊎ ((reply : Reply) × (reset : Reply) × (answer ≡ Err reply)
    × (acts ≡ Asks (Login 1 operator core_words) reply ∷ Asks (call_event moment Reset) reset ∷ [])
    × ((next : Result (List Entry) Reply → Plan) → RunsPlan (asks_for moment owner next) acts (refuses reply)))

-- The list of a directory was requested, and this is the answer.
pub record HasEntries {V S : Type 0} (entries : V → List Entry) (machine : S → Machine) (old new : S)
    (moment : Moment) (owner : ℕ) (result : Result V Reply) : Type 0 where
  pub acts : List Act
  pub goes : GoesBy machine old new acts
  pub answer : AreEntries moment owner acts (entries_answered entries result)

-- Words that were read.

-- their outcome: eight bytes for each, also if there was no memory for them; or the refusal by a reply
abbrev pub SaysWords : {V E : Type 0} → (V → List ℕ) → Spoken → Result (Result V E) Reply → Type 0
SaysWords items said (Ok (Ok v)) = said ≡ prints (flat_map word_bytes (items v))
SaysWords items said (Ok (Err error)) = (words : List ℕ) × (said ≡ prints (flat_map word_bytes words))
SaysWords items said (Err reply) = said ≡ refuses reply

-- A plan that reads words was done to its end.
pub record HasWordsRead {V E S : Type 0} (items : V → List ℕ) (result : Result (Result V E) Reply)
    (machine : S → Machine) (old new : S) (plan : Plan) : Type 0 where
  pub said : Spoken
  pub led : FollowsPlan machine old new plan (Say said)
  pub says : SaysWords items said result

-- Words as bytes.

-- some bytes spell these words
abbrev pub HasBytes : Encoding → List ℕ → Type 0
HasBytes encoding words = (bytes : List ℕ) × All IsOctet bytes × AreWords encoding bytes (Some words)

-- the encodings of a file that was written in a mode, the most likely first: 0 and 1 are those of characters
abbrev pub encodings_for : ℕ → List Encoding
encodings_for mode =
    if nat_le mode 1 then Characters ∷ Octets ∷ Words ∷ [] else Octets ∷ Characters ∷ Words ∷ []

-- it is the first of these in which some bytes spell the words
abbrev pub IsFirstFor : List ℕ → List Encoding → Encoding → Type 0
IsFirstFor words [] encoding = ⊥
IsFirstFor words (first ∷ others) encoding =
    (HasBytes first words × (encoding ≡ first))
    ⊎ ((HasBytes first words → ⊥) × IsFirstFor words others encoding)

-- the bytes that are printed for words
abbrev pub ArePrinted : Encoding → List ℕ → List ℕ → Type 0
ArePrinted Characters words bytes = bytes ≡ typed words
ArePrinted Words words bytes = bytes ≡ flat_map word_bytes words
ArePrinted Octets words bytes = octets_unpacked words ≡ Some bytes

-- The answer for words that were read. In a given encoding they are as they are printed. Otherwise the bytes spell the
-- very words, in the first encoding of the mode in which any bytes do.
abbrev pub IsExport : Option Encoding → ℕ → List ℕ → Exported → Type 0
IsExport None mode words (File encoding bytes) =
    IsFirstFor words (encodings_for mode) encoding × AreWords encoding bytes.items (Some words)
IsExport None mode words (Refused reply) = ⊥
IsExport None mode words NotBytes = ⊥
IsExport (Some asked) mode words (File encoding bytes) = (encoding ≡ asked) × ArePrinted asked words bytes.items
IsExport (Some asked) mode words (Refused reply) = ⊥
IsExport (Some asked) mode words NotBytes = (asked ≡ Octets) × (octets_unpacked words ≡ None)

-- The answer is bytes that spell the words, and no others: a file that is made of them has these words.
abbrev pub ComesBack : List ℕ → Exported → Type 0
ComesBack words (File encoding bytes) =
    AreWords encoding bytes.items (Some words)
    × ((said : Option (List ℕ)) → AreWords encoding bytes.items said → said ≡ Some words)
ComesBack words (Refused reply) = ⊥
ComesBack words NotBytes = ⊥

-- words that a plan printed, and the answer for them
abbrev pub ExportsWords : Option Encoding → ℕ → Plan → List Act → Exported → Type 0
ExportsWords asked mode plan acts exported =
    (words : List ℕ) × All IsWord words × RunsPlan plan acts (prints (flat_map word_bytes words))
    × IsExport asked mode words exported

-- A file was read to its end, and this is the answer: its bytes, or the reply that refused it. If there was no memory
-- for them, it wasn't refused.
abbrev pub Exports : {E : Type 0} → Option Encoding → ℕ → Plan → List Act → Result Exported E → Type 0
Exports asked mode plan acts (Ok (File encoding bytes)) = ExportsWords asked mode plan acts (File encoding bytes)
Exports asked mode plan acts (Ok (Refused reply)) = RunsPlan plan acts (refuses reply)
Exports asked mode plan acts (Ok NotBytes) = ExportsWords asked mode plan acts NotBytes
Exports asked mode plan acts (Err error) =
    (words : List ℕ) × RunsPlan plan acts (prints (flat_map word_bytes words))

pub record HasExported {E S : Type 0} (machine : S → Machine) (old new : S) (asked : Option Encoding) (mode : ℕ)
    (plan : Plan) (result : Result Exported E) : Type 0 where
  pub acts : List Act
  pub goes : GoesBy machine old new acts
  pub exports : Exports asked mode plan acts result

-- a file in a directory, read as words by [1,2], who may read all of them
abbrev pub export_plan : Moment → Spec → Plan
export_plan moment spec = get_plan moment operator Words spec
