-- What a line of a session, or an errand of job 1, comes to: the file that a copy leaves, the text that a file is
-- printed as, the file that is put.
use Rattle.std.specs.Prelude.{◌≡◌, ◌⊎◌, ◌≤◌, ◌<◌, ℕ, ◌^◌, Bool, true, false, List, length, unwrap_or, Option, Some}
use Rattle.std.specs.Prelude.{None, codes}
use Rattle.words36.specs.Common.{AreOctets}
use Rattle.words36.specs.declared.moment.Moment.{Moment}
use Rattle.blockdisk.specs.Common.{Contents}
use Rattle.spec_image.specs.Common.{File, Files, Place, SpecVersion, file_at, with_file, Pack, Stands}
use Rattle.spec_machine.specs.Common.{SpecOutput, SpecJob, State, job_at, own_if_zero, longest, Service, Serving}
use Rattle.spec_machine.specs.Common.{Broken}
use Rattle.spec_machine.specs.Common.{Steps, Answers, AnswersAll, IsStart, writes_at, dump_mode}
use Rattle.spec_language.specs.Texts.{Spoken, prints, file_said, complains, refuses}
use Rattle.spec_language.specs.Plans.{Plan, Act, RunsPlan, ok, copy_plan, read_plan}
use Rattle.spec_language.specs.Transcripts.{Went, core_words}
use Rattle.spec_machine.specs.declared.call.Event.{Event}
use Rattle.spec_machine.specs.declared.call.Event.TheVariants.{Login, Deposit, Examine, Call as Calls}
use Rattle.spec_machine.specs.declared.call.Reply.{Reply}
use Rattle.spec_machine.specs.declared.call.Reply.TheVariants.{Done}
use Rattle.spec_language.specs.declared.command.Spec.{Spec}
use Rattle.spec_language.specs.Errands.{put_plan, get_plan}
use Rattle.spec_language.specs.declared.encoding.Encoding.{Encoding}
use Rattle.spec_language.specs.declared.encoding.Encoding.TheVariants.{Characters, Words, Octets}

-- The service does what a plan asks, and this is printed in the end.
abbrev pub Comes : Pack → Service → Plan → Spoken → Service → Type 0
Comes pack old plan said new = (acts : List Act) × RunsPlan plan acts said × Went pack old acts new

-- Job 1 is logged in, with the core that a session gives it.
pub record IsJobReady (s : State) (me : ℕ) : Type 0 where
  pub job : SpecJob
  pub logged_in : job_at s 1 ≡ Some job
  pub owner : job.ppn ≡ me
  pub core : length job.core ≡ core_words
  pub channels : length job.channels ≡ 16

-- the place of a file that is named by the one who is logged in
abbrev pub place_of : ℕ → Spec → Place
place_of me spec = record { ppn = own_if_zero (unwrap_or spec.owner 0) me; name = spec.name }

-- an extension is half a word
abbrev pub HasHalfwordExtension : Spec → Type 0
HasHalfwordExtension spec = spec.name.ext < 2 ^ 18

-- no body is longer than a file may be
abbrev pub AreShort : Files SpecVersion → Type 0
AreShort files = (place : Place) (v : SpecVersion) → file_at files place ≡ Some v → length v.file.body ≤ longest

-- In a state that a run comes to, nothing is longer: no file, and nothing that is being written.
pub record IsShort (s : State) : Type 0 where
  pub files : AreShort s.files
  pub pending : (n ch : ℕ) (o : SpecOutput) → writes_at s n ch ≡ Some o → length o.pending.body ≤ longest

-- a service that serves has these files; of one that has failed, nothing is required
abbrev pub HasFiles : Files SpecVersion → Service → Type 0
HasFiles files Broken = Unit {0}
HasFiles files (Serving after) = after.files ≡ files

-- the line is refused for a reply, and the files are those from before
abbrev pub IsLineRefused : Files SpecVersion → Spoken → Service → Type 0
IsLineRefused files said new = ((reply : Reply) × (said ≡ refuses reply)) × HasFiles files new

-- a superseding file keeps the protection of the one that was there
abbrev pub kept_protection : Option SpecVersion → ℕ
kept_protection None = 0o057
kept_protection (Some v) = v.file.protection

-- a file of this moment at a place
abbrev pub made : Files SpecVersion → Place → ℕ → Moment → List ℕ → File
made files place mode moment body = record {
  protection = kept_protection (file_at files place);
  mode = mode;
  time = moment.minute;
  date = moment.date;
  body = body;
}

-- This file is the only change of the files.
pub record IsOneChange (files : Files SpecVersion) (place : Place) (file : File) (new : Service) : Type 0 where
  pub serial : ℕ
  pub after : State
  pub serves : new ≡ Serving after
  pub files_after : after.files ≡ with_file files place (record { file = file; serial = serial })
  pub there : file_at after.files place ≡ Some (record { file = file; serial = serial })

-- COPY prints OK, and the new file has the body that was found.
abbrev pub IsCopied : Moment → ℕ → State → Spec → Spec → Spoken → Service → Type 0
IsCopied moment me s to from said new =
    (said ≡ ok)
    × ((v : SpecVersion) × (file_at s.files (place_of me from) ≡ Some v)
    × IsOneChange s.files (place_of me to) (made s.files (place_of me to) dump_mode moment v.file.body) new)

-- Either that, or COPY is refused and the files are those from before.
abbrev pub CopiesAreExact : Type 0
CopiesAreExact =
    (pack : Pack) (moment : Moment) (me : ℕ) (s : State) (to from : Spec) (said : Spoken) (new : Service)
    → IsJobReady s me → HasHalfwordExtension to → HasHalfwordExtension from → AreShort s.files
    → Comes pack (Serving s) (copy_plan moment to from) said new
    → IsCopied moment me s to from said new ⊎ IsLineRefused s.files said new

-- A file that is read is printed, or its words are refused; the files stay.
abbrev pub IsPrinted : ℕ → State → Encoding → Spec → Spoken → Service → Type 0
IsPrinted me s encoding spec said new =
    ((v : SpecVersion) × (file_at s.files (place_of me spec) ≡ Some v) × (said ≡ file_said encoding v.file.body))
    × HasFiles s.files new

-- As bytes of eight bits, those bytes are printed whose words these are. If there are none, the file is refused.
abbrev pub OctetsAreTold : Type 0
OctetsAreTold = (words bytes : List ℕ) → AreOctets words bytes → file_said Octets words ≡ prints bytes

abbrev pub NoOctetsAreTold : Type 0
NoOctetsAreTold =
    (words : List ℕ) → ((bytes : List ℕ) → AreOctets words bytes → ⊥)
    → file_said Octets words ≡ complains (codes "?Not bytes")

-- Either that, or the line is refused and the files stay.
abbrev pub ReadsAreExact : Type 0
ReadsAreExact =
    (pack : Pack) (moment : Moment) (me : ℕ) (s : State) (encoding : Encoding) (spec : Spec) (said : Spoken)
    (new : Service) → IsJobReady s me → HasHalfwordExtension spec → AreShort s.files
    → Comes pack (Serving s) (read_plan moment encoding spec) said new
    → IsPrinted me s encoding spec said new ⊎ IsLineRefused s.files said new

-- Errands, for which job 1 logs in.

-- the mode in which a file is put
abbrev pub put_mode : Encoding → ℕ
put_mode Characters = 0
put_mode Words = dump_mode
put_mode Octets = dump_mode

-- A file that is put has these words.
abbrev pub IsPut : Moment → ℕ → State → Encoding → Spec → List ℕ → Spoken → Service → Type 0
IsPut moment me s encoding spec words said new =
    (said ≡ ok)
    × IsOneChange s.files (place_of me spec) (made s.files (place_of me spec) (put_mode encoding) moment words) new

abbrev pub PutsAreExact : Type 0
PutsAreExact =
    (pack : Pack) (moment : Moment) (me : ℕ) (s : State) (encoding : Encoding) (spec : Spec) (words : List ℕ)
    (said : Spoken) (new : Service) → 1 < length s.jobs → HasHalfwordExtension spec
    → Comes pack (Serving s) (put_plan moment me encoding spec (Some words)) said new
    → IsPut moment me s encoding spec words said new ⊎ IsLineRefused s.files said new

abbrev pub GetsAreExact : Type 0
GetsAreExact =
    (pack : Pack) (moment : Moment) (me : ℕ) (s : State) (encoding : Encoding) (spec : Spec) (said : Spoken)
    (new : Service) → 1 < length s.jobs → HasHalfwordExtension spec → AreShort s.files
    → Comes pack (Serving s) (get_plan moment me encoding spec) said new
    → IsPrinted me s encoding spec said new ⊎ IsLineRefused s.files said new

-- What these laws require of a state holds for each state of a run that began with the files of a disk.
abbrev pub BodiesStayShort : Type 0
BodiesStayShort =
    (pack : Pack) (size : ℕ) (contents : Contents) (found : Files File) (s t : State) (events : List Event)
    (replies : List Reply) → Stands size contents found → IsStart found s
    → AnswersAll pack (Serving s) events replies (Serving t) → IsShort t

-- Job 1 is ready after its LOGIN is done, and stays ready in every event that isn't a login.

abbrev pub asks_for_login : Event → Bool
asks_for_login (Login n ppn words) = true
asks_for_login (Deposit n address word) = false
asks_for_login (Examine n address) = false
asks_for_login (Calls n call moment) = false

abbrev pub LoginsMakeReady : Type 0
LoginsMakeReady =
    (pack : Pack) (s t : State) (me : ℕ) → 1 < length s.jobs → Steps pack s (Login 1 me core_words) Done t
    → IsJobReady t me

abbrev pub ReadyStays : Type 0
ReadyStays =
    (pack : Pack) (s t : State) (event : Event) (reply : Reply) (me : ℕ) → asks_for_login event ≡ false
    → IsJobReady s me
    → Answers pack (Serving s) event reply (Serving t) → IsJobReady t me
