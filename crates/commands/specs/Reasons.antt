-- The details of a refusal, besides what is printed: which lines were refused, and why bytes can't be a file.
use Rattle.std.specs.Prelude.{◌≡◌, ◌≢◌, ◌+◌, ◌-◌, ◌*◌, ◌%◌, ◌^◌, ◌<◌, ◌≤◌, ◌==◌, ℕ, Bool, true, false, min, List, []}
use Rattle.std.specs.Prelude.{◌∷◌, ◌++◌, length, map, take, slice_index, Option, Some, None, Result, Ok, Err}
use Rattle.std.specs.Prelude.{if◌then◌else◌}
use Rattle.words36.specs.Common.{number_at}
use Rattle.spec_language.specs.Common.{is_character, AreWords, Line, feed, fitting, without_return, Are}
use Rattle.spec_machine.specs.Common.{longest}
use Rattle.spec_language.specs.declared.encoding.Encoding.{Encoding}
use Rattle.spec_language.specs.declared.encoding.Encoding.TheVariants.{Characters, Words, Octets}
use Rattle.commands.specs.declared.reason.Misfit.{Misfit}
use Rattle.commands.specs.declared.reason.Misfit.TheVariants.{Byte, Length, Word, Excess}
use Rattle.commands.specs.declared.reason.Reason.{Reason}
use Rattle.commands.specs.declared.reason.Reason.TheVariants.{Lines, Input}

-- Bytes that can't be a file.

-- the most bytes that a file can hold: five characters to a word, or eight bytes, or four of eight bits
abbrev pub most_bytes : Encoding → ℕ
most_bytes Characters = 5 * longest
most_bytes Words = 8 * longest
most_bytes Octets = 4 * longest

abbrev pub IsTooLong : Encoding → List ℕ → Type 0
IsTooLong encoding bytes = most_bytes encoding < length bytes

-- no input that begins with these bytes can be a file
abbrev pub BeginsNoFile : Encoding → List ℕ → Type 0
BeginsNoFile encoding bytes = (more : List ℕ) → AreWords encoding (bytes ++ more) None

-- the first byte that isn't a character; a number of bytes that eight doesn't divide; the first word of more than 36
-- bits; more bytes than a file can hold
abbrev pub IsMisfit : Encoding → List ℕ → Misfit → Type 0
IsMisfit encoding bytes (Byte byte place) =
    (encoding ≡ Characters) × (0 < place) × (place ≤ length bytes) × Are is_character (take (place - 1) bytes)
    × (slice_index bytes (place - 1) ≡ byte) × (is_character byte ≡ false)
IsMisfit encoding bytes (Length count) = (encoding ≡ Words) × (count ≡ length bytes) × (count % 8 ≢ 0)
IsMisfit encoding bytes (Word place) =
    (encoding ≡ Words) × (0 < place) × (8 * place ≤ length bytes) × (length bytes % 8 ≡ 0)
    × ((before : ℕ) → before + 1 < place → number_at bytes before < 2 ^ 36) × (2 ^ 36 ≤ number_at bytes (place - 1))
IsMisfit encoding bytes (Excess most) = (most ≡ most_bytes encoding) × IsTooLong encoding bytes

-- the words that bytes spell, or why they don't spell any
abbrev pub HasWords : {V : Type 0} → (V → List ℕ) → Encoding → List ℕ → Result V Misfit → Type 0
HasWords items encoding bytes (Ok words) = AreWords encoding bytes (Some (items words))
HasWords items encoding bytes (Err misfit) = AreWords encoding bytes None × IsMisfit encoding bytes misfit

abbrev pub words_said : {V : Type 0} → (V → List ℕ) → Result V Misfit → Option (List ℕ)
words_said items (Ok words) = Some (items words)
words_said items (Err misfit) = None

-- the reason in the tally of an input: there is no reason exactly if it can be a file
abbrev pub IsInputReason : Encoding → List ℕ → Option Reason → Type 0
IsInputReason encoding bytes None = (words : List ℕ) × AreWords encoding bytes (Some words)
IsInputReason encoding bytes (Some (Lines lines)) = ⊥
IsInputReason encoding bytes (Some (Input misfit)) = IsMisfit encoding bytes misfit

-- Lines that were refused.

-- a number as a `u64` counts it
abbrev pub capped : ℕ → ℕ
capped n = min n (2 ^ 64 - 1)

-- the number of line feeds
abbrev pub feeds : List ℕ → ℕ
feeds [] = 0
feeds (b ∷ bs) = (if b == feed then 1 else 0) + feeds bs

-- the lines of these bytes with their numbers; before the bytes come others, which are in line n
abbrev pub numbered_after : ℕ → List ℕ → List ℕ → List (ℕ × Line)
numbered_after n raw [] = map (λ line. (n, line)) (fitting raw raw)
numbered_after n raw (b ∷ bs) =
    if b == feed then map (λ line. (n, line)) (fitting raw (without_return raw)) ++ numbered_after (n + 1) [] bs
    else numbered_after n (raw ++ b ∷ []) bs

-- the lines of an input, each with its number, which counts empty ones too
abbrev pub numbered : List ℕ → List (ℕ × Line)
numbered input = numbered_after 1 [] input

-- the number of a line if it was refused
abbrev pub mark : Bool → ℕ → List ℕ
mark true n = n ∷ []
mark false n = []

-- the reason for the numbers of the lines that were refused
abbrev pub reason_of : List ℕ → Option Reason
reason_of [] = None
reason_of (n ∷ more) = Some (Lines (record { count = capped (length more + 1); first = capped n }))

-- the reason after one more line
abbrev pub counts : Option Reason → ℕ → Bool → Option Reason
counts reason number false = reason
counts None number true = Some (Lines (record { count = 1; first = number }))
counts (Some (Lines lines)) number true =
    Some (Lines (record { count = capped (lines.count + 1); first = lines.first }))
counts (Some (Input misfit)) number true = Some (Input misfit)
