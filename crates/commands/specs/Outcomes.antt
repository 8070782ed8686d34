-- What the errands of job 1 come to, if the service has kept its promises.
use Rattle.std.specs.Prelude.{◌≡◌, ◌⊎◌, ◌<◌, ℕ, IsTrue, List, All, length, Option, None, Some, Ok, codes, flat_map}
use Rattle.std.specs.declared.alloc.AllocError.{AllocError}
use Rattle.std.specs.Io.KnownBytes.{Appends, Consumes, IsAtEnd}
use Rattle.words36.specs.Common.{word_bytes, IsWord}
use Rattle.words36.specs.declared.moment.Moment.{Moment}
use Rattle.spec_language.specs.Common.{AreShort, HasFiles, IsPut, IsLineRefused, IsPrinted, HasHalfwordExtension}
use Rattle.spec_language.specs.Common.{place_of, IsRefusedAt, AreWords, get_plan, put_plan, operator, unfit, Act}
use Rattle.spec_language.specs.Common.{Spoken}
use Rattle.spec_language.specs.Common.{complains, refuses}
use Rattle.spec_machine.specs.Common.{State, Service, Serving}
use Rattle.spec_image.specs.Common.{SpecVersion, file_at}
use Rattle.spec_machine.specs.declared.call.Reply.{Reply}
use Rattle.spec_language.specs.declared.command.Spec.{Spec}
use Rattle.spec_language.specs.declared.encoding.Encoding.{Encoding}
use Rattle.commands.specs.Transfers.{Delivery, Errand, put_plan_new}
use Rattle.commands.specs.Export.{HasExported, IsExport, export_plan}
use Rattle.commands.specs.Import.{Imported, said_behind}
use Rattle.commands.specs.Machines.{Machine}
use Rattle.commands.specs.Reasons.{BeginsNoFile, IsTooLong}
use Rattle.commands.specs.Streams.{spoken}
use Rattle.commands.specs.declared.answer.Tally.{Tally}
use Rattle.commands.specs.declared.export_file.Exported.{Exported}
use Rattle.commands.specs.declared.export_file.Exported.TheVariants.{Refused}

-- Why an input was refused: it can't be a file, read to its end or to bytes with which no file begins; it is too long;
-- or a reply was not the wanted one.
abbrev pub IsRefusedFor : Moment → Encoding → Type 0 → List ℕ → List Act → Spoken → Type 0
IsRefusedFor moment encoding at_end read acts said =
    ((at_end ⊎ BeginsNoFile encoding read) × AreWords encoding read None × (said ≡ complains (unfit encoding)))
    ⊎ (IsTooLong encoding read × (said ≡ complains (codes "?No room")))
    ⊎ (at_end × IsRefusedAt moment acts said)

-- The file has the words of the whole input. Or the input was refused and nothing has changed.
abbrev pub IsStored : Moment → ℕ → State → Encoding → Spec → Type 0 → List ℕ → List Act → Spoken → Service → Type 0
IsStored moment me s encoding spec at_end read acts said last =
    (at_end × (words : List ℕ) × AreWords encoding read (Some words) × IsPut moment me s encoding spec words said last)
    ⊎ (IsTrue said.refused × HasFiles s.files last × IsRefusedFor moment encoding at_end read acts said)

-- An input whose answer was written is stored or refused; it is stored only if it was read to its end.
abbrev pub DeliveriesKeepFiles : {S : Type 0} → (S → Machine) → Type 0
DeliveriesKeepFiles {S} machine =
    (source left sink full : Option (List ℕ)) (old new : S) (moment : Moment) (me : ℕ) (encoding : Encoding)
    (spec : Spec) (tally : Tally)
    → (delivery : Delivery source left sink full machine old new encoding (put_plan moment me encoding spec) (Ok tally))
    → (machine new).honest → (s : State) → (machine old).serves (Serving s) → 1 < length s.jobs
    → HasHalfwordExtension spec
    → (read : List ℕ) × (written : List ℕ) × Consumes source left read × Appends sink full written
    × (last : Service) × (machine new).serves last
    × IsStored moment me s encoding spec (IsAtEnd left) read delivery.acts (spoken written tally) last

-- No file has the name, or it is 0, which is no name.
abbrev pub IsFree : ℕ → State → Spec → Type 0
IsFree me s spec = (spec.name.name ≡ 0) ⊎ (file_at s.files (place_of me spec) ≡ None)

-- The file has the words of the whole input, and no file had its name. Or the input was refused and nothing has
-- changed.
abbrev pub IsStoredNew : Moment → ℕ → State → Encoding → Spec → Type 0 → List ℕ → Spoken → Service → Type 0
IsStoredNew moment me s encoding spec at_end read said last =
    (at_end × (words : List ℕ) × AreWords encoding read (Some words)
    × IsPut moment me s encoding spec words said last × IsFree me s spec)
    ⊎ (IsTrue said.refused × HasFiles s.files last)

-- The same for an input that is stored only if there is no file of its name.
abbrev pub DeliveriesMakeFiles : {S : Type 0} → (S → Machine) → Type 0
DeliveriesMakeFiles {S} machine =
    (source left sink full : Option (List ℕ)) (old new : S) (moment : Moment) (me : ℕ) (encoding : Encoding)
    (spec : Spec) (tally : Tally)
    → (delivery : Delivery source left sink full machine old new encoding (put_plan_new moment me encoding spec)
    (Ok tally))
    → (machine new).honest → (s : State) → (machine old).serves (Serving s) → 1 < length s.jobs
    → HasHalfwordExtension spec
    → (read : List ℕ) × (written : List ℕ) × Consumes source left read × Appends sink full written
    × (last : Service) × (machine new).serves last
    × IsStoredNew moment me s encoding spec (IsAtEnd left) read (spoken written tally) last

-- The text that is written for imported bytes is, after their label, the text of such a put.
abbrev pub ImportsMakeFiles : {S : Type 0} → (S → Machine) → Type 0
ImportsMakeFiles {S} machine =
    (sink full : Option (List ℕ)) (old new : S) (moment : Moment) (me : ℕ) (encoding : Encoding) (spec : Spec)
    (label bytes : List ℕ) (tally : Tally)
    → Imported sink full machine old new encoding label bytes (put_plan_new moment me encoding spec) (Ok tally)
    → (machine new).honest → (s : State) → (machine old).serves (Serving s) → 1 < length s.jobs
    → HasHalfwordExtension spec
    → (written : List ℕ) × Appends sink full written × (said : Spoken) × (spoken written tally ≡ said_behind label said)
    × (last : Service) × (machine new).serves last
    × IsStoredNew moment me s encoding spec (Unit {0}) bytes said last

-- For a file that is got, its version's words are written in the encoding, or it is refused at a reply that was not the
-- wanted one; the files stay.
abbrev pub ErrandsShowFiles : {S : Type 0} → (S → Machine) → Type 0
ErrandsShowFiles {S} machine =
    (sink full : Option (List ℕ)) (old new : S) (moment : Moment) (me : ℕ) (encoding : Encoding) (spec : Spec)
    (tally : Tally) → (errand : Errand sink full machine old new (get_plan moment me encoding spec) (Ok tally))
    → (machine new).honest → (s : State) → (machine old).serves (Serving s) → 1 < length s.jobs
    → HasHalfwordExtension spec
    → AreShort s.files
    → (written : List ℕ) × Appends sink full written × (last : Service) × (machine new).serves last
    × (IsPrinted me s encoding spec (spoken written tally) last
    ⊎ (IsLineRefused s.files (spoken written tally) last × IsRefusedAt moment errand.acts (spoken written tally)))

-- Words that were read from a body. Their bytes, eight for each, are those of the body, so they are its own words, if
-- these fit.
pub record AreReadOf (body words : List ℕ) : Type 0 where
  pub fit : All IsWord words
  pub printed : flat_map word_bytes words ≡ flat_map word_bytes body
  pub same : All IsWord body → words ≡ body

-- The words of the version that was found are taken out; or the file is refused, at the reply that was not the wanted
-- one.
abbrev pub IsExportOf : Moment → Option Encoding → ℕ → State → Spec → List Act → Exported → Type 0
IsExportOf moment asked mode s spec acts exported =
    ((v : SpecVersion) × (file_at s.files (place_of operator spec) ≡ Some v)
    × (words : List ℕ) × AreReadOf v.file.body words × IsExport asked mode words exported)
    ⊎ ((reply : Reply) × (exported ≡ Refused reply) × IsRefusedAt moment acts (refuses reply))

-- The answer for a file that is taken out is what its version's words come to, or a refusal at a reply that was not the
-- wanted one; the files stay.
abbrev pub ExportsShowFiles : {S : Type 0} → (S → Machine) → Type 0
ExportsShowFiles {S} machine =
    (old new : S) (moment : Moment) (asked : Option Encoding) (mode : ℕ) (spec : Spec) (exported : Exported)
    → (out : HasExported {E = AllocError} machine old new asked mode (export_plan moment spec) (Ok exported))
    → (machine new).honest → (s : State) → (machine old).serves (Serving s) → 1 < length s.jobs
    → HasHalfwordExtension spec
    → AreShort s.files
    → (last : Service) × (machine new).serves last × HasFiles s.files last
    × IsExportOf moment asked mode s spec out.acts exported
