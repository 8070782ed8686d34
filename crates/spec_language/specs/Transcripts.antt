-- The text of an input: what its lines ask of the service, and what is printed for the answers.
use Rattle.std.specs.Prelude.{◌≡◌, ℕ, Bool, true, false, List, [], ◌∷◌, ◌++◌, Option, Some, None, codes}
use Rattle.words36.specs.declared.moment.Moment.{Moment}
use Rattle.spec_image.specs.Common.{Pack}
use Rattle.spec_machine.specs.Common.{State, list, Service, Answers, Lists, Steps}
use Rattle.spec_language.specs.Lines.{Line, lines}
use Rattle.spec_language.specs.Commands.{Means}
use Rattle.spec_language.specs.Scripts.{MeansEvent, words_given, wrong}
use Rattle.spec_language.specs.Texts.{Spoken, both_said, silent, prints, complains, refuses, greeting, is_broken}
use Rattle.spec_language.specs.Texts.{line}
use Rattle.spec_language.specs.Plans.{Act, Asks, Looks, RunsPlan, line_plan}
use Rattle.spec_language.specs.declared.command.Command.{Command}
use Rattle.spec_language.specs.declared.command.Command.TheVariants.{Login as LoginLine}
use Rattle.spec_machine.specs.declared.call.Event.{Event}
use Rattle.spec_machine.specs.declared.call.Event.TheVariants.{Login}
use Rattle.spec_machine.specs.declared.call.Reply.{Reply}
use Rattle.spec_machine.specs.declared.call.Reply.TheVariants.{Done, Value, Refused, Stopped, NoChannel, AddressCheck}
use Rattle.spec_machine.specs.declared.call.Reply.TheVariants.{NoJob, NoMemory, Device, Failed, DateRange}

-- Lines of a session, in which job 1 may be logged in.

abbrev pub login_said : ℕ → Reply → Spoken
login_said owner Done = prints (greeting owner)
login_said owner reply = refuses reply

abbrev pub login_who : Option ℕ → ℕ → Reply → Option ℕ
login_who user owner Done = Some owner
login_who user owner reply = user

-- the number of words of job 1's core
abbrev pub core_words : ℕ
core_words = 0o10000

-- job 1 logs in, or logs in again
abbrev pub LogsIn : Option ℕ → ℕ → List Act → Spoken → Option ℕ → Type 0
LogsIn user owner acts said then_who = (reply : Reply) × (acts ≡ Asks (Login 1 owner core_words) reply ∷ [])
    × (said ≡ login_said owner reply) × (then_who ≡ login_who user owner reply)

-- any other line, which needs a job
abbrev pub Acts : Moment → Option ℕ → Command → List Act → Spoken → Option ℕ → Type 0
Acts moment None command acts said then_who = (acts ≡ []) × (said ≡ complains (codes "?Not logged in"))
    × (then_who ≡ None)
Acts moment (Some me) command acts said then_who = RunsPlan (line_plan moment me command) acts said
    × (then_who ≡ Some me)

-- What a line of this meaning asks and prints, and who is logged in after it.
abbrev pub Speaks : Moment → Option ℕ → Option Command → List Act → Spoken → Option ℕ → Type 0
Speaks moment user None acts said then_who = (acts ≡ []) × (said ≡ complains (codes "?Command error"))
    × (then_who ≡ user)
Speaks moment user (Some (LoginLine owner)) acts said then_who = LogsIn user owner acts said then_who
Speaks moment user (Some command) acts said then_who = Acts moment user command acts said then_who

abbrev pub IsTranscript : Moment → Option ℕ → List Line → List Act → Spoken → Option ℕ → Type 0
IsTranscript moment user [] acts said then_who = (acts ≡ []) × (said ≡ silent) × (then_who ≡ user)
IsTranscript moment user (line ∷ lines) acts said then_who =
    (meant : Option Command) × Means line meant × (first : List Act) × (more : List Act) × (here : Spoken)
    × (there : Spoken) × (mid : Option ℕ)
    × Speaks moment user meant first here mid × IsTranscript moment mid lines more there then_who
    × (acts ≡ first ++ more) × (said ≡ both_said here there)

-- Lines of a call script.

abbrev pub is_success : Reply → Bool
is_success Done = true
is_success (Value word) = true
is_success (Refused code) = false
is_success (Stopped status) = false
is_success NoChannel = false
is_success AddressCheck = false
is_success NoJob = false
is_success NoMemory = false
is_success Device = false
is_success Failed = false
is_success DateRange = false

abbrev pub refused_unless : Bool → Bool
refused_unless true = false
refused_unless false = true

abbrev pub reports_reply : Reply → Spoken
reports_reply reply = record {
  text = line (words_given reply);
  refused = refused_unless (is_success reply);
  broke = is_broken reply;
}

abbrev pub Orders : Option Event → List Act → Spoken → Type 0
Orders None acts said = (acts ≡ []) × (said ≡ complains wrong)
Orders (Some event) acts said = (reply : Reply) × (acts ≡ Asks event reply ∷ []) × (said ≡ reports_reply reply)

abbrev pub Scripts : Moment → List Line → List Act → Spoken → Type 0
Scripts moment [] acts said = (acts ≡ []) × (said ≡ silent)
Scripts moment (line ∷ lines) acts said =
    (meant : Option Event) × MeansEvent line moment meant × (first : List Act) × (more : List Act) × (here : Spoken)
    × (there : Spoken)
    × Orders meant first here × Scripts moment lines more there × (acts ≡ first ++ more) × (said ≡ both_said here there)

-- What becomes of the service meanwhile.

abbrev pub Does : Pack → Service → Act → Service → Type 0
Does pack old (Asks event reply) new = Answers pack old event reply new
Does pack old (Looks owner answer) new = Lists old 1 owner answer new

abbrev pub Went : Pack → Service → List Act → Service → Type 0
Went pack old [] new = new ≡ old
Went pack old (act ∷ acts) new = (mid : Service) × Does pack old act mid × Went pack mid acts new

-- The same, if memory sufficed and the disk had no fault in each act.
abbrev pub Served : Pack → State → List Act → State → Type 0
Served pack s [] after = after ≡ s
Served pack s (Asks event reply ∷ acts) after = (mid : State) × Steps pack s event reply mid
    × Served pack mid acts after
Served pack s (Looks owner answer ∷ acts) after = (answer ≡ list s 1 owner) × Served pack s acts after
