-- A whole session, a whole call script, and the parts that they are made of.
use Rattle.std.specs.Prelude.{◌≡◌, ◌≢◌, ◌<◌, ◌||◌, ◌+◌, ℕ, List, [], ◌∷◌, ◌++◌, length, Option, None, Result, Ok, Err}
use Rattle.std.specs.Prelude.{IfOk, IfErr, OnOk}
use Rattle.std.specs.Io.KnownBytes.{Consumes, Appends, IsAtEnd}
use Rattle.words36.specs.declared.moment.Moment.{Moment}
use Rattle.spec_language.specs.Common.{Means, Line, lines, Spoken, silent, Act, Speaks, Orders, MeansEvent}
use Rattle.spec_machine.specs.Common.{Service}
use Rattle.spec_language.specs.declared.command.Command.{Command}
use Rattle.commands.specs.PartialLines.{IsPartialLine}
use Rattle.commands.specs.ParsedCommands.{Fits}
use Rattle.commands.specs.Languages.{ClosesSession}
use Rattle.commands.specs.Machines.{Machine, GoesBy}
use Rattle.commands.specs.Reasons.{capped, counts, feeds, numbered, reason_of}
use Rattle.commands.specs.Streams.{IsServedTranscript, IsNumberedTranscript, IsServedSession, IsServedScript, spoken}
use Rattle.commands.specs.Streams.{HasNoFeed, AreWholeLines, Finished, CutShort, CutOff, Unfinished}
use Rattle.commands.specs.declared.error.SessionError.{SessionError}
use Rattle.commands.specs.declared.error.SessionError.TheVariants.{Read, Write, NoMemory}
use Rattle.commands.specs.declared.answer.Tally.{Tally}
use Rattle.commands.specs.declared.language.Language.{Language}
use Rattle.commands.specs.declared.language.Language.TheVariants.{Commands, Events}
use Rattle.commands.specs.declared.run.ParsedLine.{ParsedLine}
use Rattle.commands.specs.declared.run.ParsedLine.TheVariants.{NoLine, CommandLine, EventLine}
use Rattle.commands.specs.declared.run.SessionState.{SessionState}

-- One line.

-- The calls of a line were made, and its text is that of its outcome.
pub record CommandDone {V E S : Type 0} (bytes : V → List ℕ) (result : Result V E) (machine : S
    → Machine) (old new : S) (moment : Moment) (user after : Option ℕ) (tally counted : Tally)
    (meant : Option Command) : Type 0 where
  pub acts : List Act
  pub said : Spoken
  pub speaks : Speaks moment user meant acts said after
  pub goes : GoesBy machine old new acts
  pub refused : counted.refused ≡ tally.refused || said.refused
  pub broke : counted.broke ≡ tally.broke || said.broke
  pub text : IfOk result (λ v. bytes v ≡ said.text)

-- the parsed line, if there is one
abbrev pub IsParsedLine : Language → Moment → List Line → ParsedLine → Type 0
IsParsedLine language moment [] parsed = parsed ≡ NoLine
IsParsedLine language moment (line ∷ lines) NoLine = ⊥
IsParsedLine language moment (line ∷ lines) (CommandLine meant) = (language ≡ Commands) × Means line meant
    × (lines ≡ [])
IsParsedLine language moment (line ∷ lines) (EventLine order) = (language ≡ Events) × MeansEvent line moment order
    × (lines ≡ [])

-- the command of a parsed line, if it has one, has numbers within their limits
abbrev pub FitsIn : ParsedLine → Type 0
FitsIn NoLine = Unit {0}
FitsIn (CommandLine meant) = Fits meant
FitsIn (EventLine order) = Unit {0}

abbrev pub LineActs : Moment → Option ℕ → ParsedLine → List Act → Spoken → Option ℕ → Type 0
LineActs moment user NoLine acts said after = (acts ≡ []) × (said ≡ silent) × (after ≡ user)
LineActs moment user (CommandLine meant) acts said after = Speaks moment user meant acts said after
LineActs moment user (EventLine order) acts said after = Orders order acts said × (after ≡ user)

-- The calls of a parsed line were made, and its text is that of its outcome.
pub record LineDone {V E S : Type 0} (bytes : V → List ℕ) (result : Result V E) (machine : S
    → Machine) (old new : S) (moment : Moment) (user after : Option ℕ) (tally counted : Tally)
    (parsed : ParsedLine) : Type 0 where
  pub acts : List Act
  pub said : Spoken
  pub line_acts : LineActs moment user parsed acts said after
  pub goes : GoesBy machine old new acts
  pub refused : counted.refused ≡ tally.refused || said.refused
  pub broke : counted.broke ≡ tally.broke || said.broke
  pub text : IfOk result (λ v. bytes v ≡ said.text)

-- If there is a text, it was written, or a beginning of it; otherwise nothing was.
abbrev pub WritesText : {V E : Type 0} → (V → List ℕ) → Result (Unit {0}) SessionError → Option (List ℕ)
    → Option (List ℕ)
    → Result V E → Type 0
WritesText bytes result sink full (Ok v) =
    OnOk result (Appends sink full (bytes v))
    × IfErr result (λ error. (error ≡ Write) × ((written : List ℕ) × (unwritten : List ℕ) × Appends sink full written
    × (bytes v ≡ written ++ unwritten) × (0 < length unwritten)))
WritesText bytes result sink full (Err error) = (result ≡ Err NoMemory) × (full ≡ sink)

-- Texts that wait to be written.

-- Of the waiting text this was written, and the rest still waits; or the writer refused the rest.
abbrev pub IsFlushed : Option (List ℕ) → Option (List ℕ) → List ℕ → List ℕ → Result (Unit {0}) SessionError → Type 0
IsFlushed sink full waiting after (Ok unit) =
    (written : List ℕ) × Appends sink full written × (waiting ≡ written ++ after)
IsFlushed sink full waiting after (Err error) =
    (error ≡ Write) × (written : List ℕ) × (unwritten : List ℕ) × Appends sink full written
    × (waiting ≡ written ++ unwritten) × (0 < length unwritten)

-- The waiting text was written, and there is no memory for a further one; or the writer refused the rest of it.
abbrev pub IsGivenUp : Option (List ℕ) → Option (List ℕ) → List ℕ → SessionError → Type 0
IsGivenUp sink full waiting Read = ⊥
IsGivenUp sink full waiting Write =
    (written : List ℕ) × (unwritten : List ℕ) × Appends sink full written × (waiting ≡ written ++ unwritten)
    × (0 < length unwritten)
IsGivenUp sink full waiting NoMemory = Appends sink full waiting

-- A text was added to the waiting one, and some of all this was written; or the writer refused the rest of it; or there
-- was no memory for the text, and the waiting one was written.
abbrev pub AddsText : Option (List ℕ) → Option (List ℕ) → List ℕ → List ℕ → List ℕ → Result (Unit {0}) SessionError
    → Type 0
AddsText sink full waiting after text (Ok unit) =
    (written : List ℕ) × Appends sink full written × (waiting ++ text ≡ written ++ after)
AddsText sink full waiting after text (Err Read) = ⊥
AddsText sink full waiting after text (Err Write) =
    (written : List ℕ) × (unwritten : List ℕ) × Appends sink full written × (waiting ++ text ≡ written ++ unwritten)
    × (0 < length unwritten)
AddsText sink full waiting after text (Err NoMemory) = Appends sink full waiting

-- The parsed line of this number was answered and counted, and its text was added to the waiting one.
pub record ReplyWritten {S : Type 0} (result : Result (Unit {0}) SessionError) (machine : S
    → Machine) (old new : S) (sink full : Option (List ℕ)) (moment : Moment) (user after : Option ℕ)
    (tally counted : Tally) (number : ℕ) (parsed : ParsedLine) (waiting waits : List ℕ) : Type 0 where
  pub acts : List Act
  pub said : Spoken
  pub line_acts : LineActs moment user parsed acts said after
  pub goes : GoesBy machine old new acts
  pub refused : counted.refused ≡ tally.refused || said.refused
  pub broke : counted.broke ≡ tally.broke || said.broke
  pub reason : counted.reason ≡ counts tally.reason number said.refused
  pub adds : AddsText sink full waiting waits said.text result
  pub line : IfErr result (λ error. error ≡ NoMemory → parsed ≢ NoLine)

-- The acts at the end of an input were done.
pub record Closed {S : Type 0} (language : Language) (machine : S
    → Machine) (old new : S) (moment : Moment) : Type 0 where
  pub acts : List Act
  pub closes : ClosesSession language moment acts
  pub goes : GoesBy machine old new acts

-- Bytes of the input.

-- In mid-stream: what was read, and what was written for its lines that have ended, before the text that waits.
pub record SoFar (language : Language) (moment : Moment) (session : SessionState) (read written : List ℕ)
    (acts : List Act) : Type 0 where
  pub front : List ℕ
  pub seen : List ℕ
  pub parted : read ≡ front ++ seen
  pub ended : AreWholeLines front
  pub unended : HasNoFeed seen
  pub held : IsPartialLine session.held seen
  pub line : session.line ≡ capped (feeds front + 1)
  pub transcript : IsServedTranscript language moment None (lines front) acts
      (spoken (written ++ session.waiting.items) session.tally) session.user
  pub refused : List ℕ
  pub refuses : IsNumberedTranscript language moment None (numbered front) acts
      (spoken (written ++ session.waiting.items) session.tally) session.user refused
  pub reason : session.tally.reason ≡ reason_of refused

-- How it breaks off, by the error: the writer refused some text, or there was no memory for one.
abbrev pub IsBreak : Language → Type 0 → Moment → List ℕ → List ℕ → List Act → SessionError → Type 0
IsBreak language at_end moment read written acts Read = ⊥
IsBreak language at_end moment read written acts Write = CutOff language at_end moment read written acts
IsBreak language at_end moment read written acts NoMemory = Unfinished language at_end moment read written acts

-- Whatever was read so far, it continues by these bytes,
pub record StepsOn {S : Type 0} (language : Language) (machine : S → Machine) (old new : S)
    (sink full : Option (List ℕ)) (moment : Moment) (session after : SessionState) (bytes : List ℕ) : Type 0 where
  pub acts : List Act
  pub goes : GoesBy machine old new acts
  pub written : List ℕ
  pub appended : Appends sink full written
  pub steps : (read past : List ℕ) (done : List Act) → SoFar language moment session read past done
      → SoFar language moment after (read ++ bytes) (past ++ written) (done ++ acts)

-- or breaks off in them,
pub record BreaksOff {S : Type 0} (language : Language) (at_end : Type 0) (machine : S
    → Machine) (old new : S) (sink full : Option (List ℕ)) (moment : Moment) (session : SessionState)
    (error : SessionError)
    (bytes : List ℕ) : Type 0 where
  pub acts : List Act
  pub goes : GoesBy machine old new acts
  pub written : List ℕ
  pub appended : Appends sink full written
  pub breaks : (read past : List ℕ) (done : List Act) → SoFar language moment session read past done
      → IsBreak language at_end moment (read ++ bytes) (past ++ written) (done ++ acts) error

-- or ends.
pub record EndsWell {S : Type 0} (language : Language) (machine : S → Machine) (old new : S)
    (sink full : Option (List ℕ)) (moment : Moment) (session : SessionState) (tally : Tally) : Type 0 where
  pub acts : List Act
  pub goes : GoesBy machine old new acts
  pub written : List ℕ
  pub appended : Appends sink full written
  pub ends : (read past : List ℕ) (done : List Act) → SoFar language moment session read past done
      → Finished language moment read (past ++ written) (done ++ acts) tally

-- The whole of it.

abbrev pub Ends : Language → Type 0 → Moment → List ℕ → List ℕ → List Act → Result Tally SessionError → Type 0
Ends language at_end moment read written acts (Ok tally) = at_end × Finished language moment read written acts tally
Ends language at_end moment read written acts (Err Read) = CutShort language moment read written acts
Ends language at_end moment read written acts (Err Write) = CutOff language at_end moment read written acts
Ends language at_end moment read written acts (Err NoMemory) = Unfinished language at_end moment read written acts

-- What was taken from the reader and put into the writer, and what became of the service.
pub record LinesServed {S : Type 0} (language : Language) (source left sink full : Option (List ℕ)) (machine : S
    → Machine) (old new : S) (moment : Moment) (result : Result Tally SessionError) : Type 0 where
  pub read : List ℕ
  pub written : List ℕ
  pub acts : List Act
  pub consumed : Consumes source left read
  pub appended : Appends sink full written
  pub goes : GoesBy machine old new acts
  pub ends : Ends language (IsAtEnd left) moment read written acts result

-- The same for a session: at Ok it is a session of all that the reader had.
pub record Session {S : Type 0} (source left sink full : Option (List ℕ)) (machine : S
    → Machine) (old new : S) (moment : Moment) (result : Result Tally SessionError) : Type 0 where
  pub read : List ℕ
  pub written : List ℕ
  pub acts : List Act
  pub consumed : Consumes source left read
  pub appended : Appends sink full written
  pub goes : GoesBy machine old new acts
  pub ends : Ends Commands (IsAtEnd left) moment read written acts result
  pub served : (machine new).honest → (first : Service) → (machine old).serves first
      → IfOk result (λ tally. (last : Service) × (machine new).serves last
      × IsServedSession (machine old).pack moment read first last (spoken written tally))

-- The same for a call script.
pub record Script {S : Type 0} (source left sink full : Option (List ℕ)) (machine : S
    → Machine) (old new : S) (moment : Moment) (result : Result Tally SessionError) : Type 0 where
  pub read : List ℕ
  pub written : List ℕ
  pub acts : List Act
  pub consumed : Consumes source left read
  pub appended : Appends sink full written
  pub goes : GoesBy machine old new acts
  pub ends : Ends Events (IsAtEnd left) moment read written acts result
  pub served : (machine new).honest → (first : Service) → (machine old).serves first
      → IfOk result (λ tally. (last : Service) × (machine new).serves last
      × IsServedScript (machine old).pack moment read first last (spoken written tally))
