-- How far an input has been answered, in bytes that were read and bytes that were written.
use Rattle.std.specs.Prelude.{◌≡◌, ◌<◌, ℕ, List, [], ◌∷◌, ◌++◌, length, Option, None, ◌⊎◌}
use Rattle.words36.specs.declared.moment.Moment.{Moment}
use Rattle.spec_language.specs.Common.{Line, feed, lines, Are, Spoken, silent, both_said, Act, call_event, Went}
use Rattle.spec_image.specs.Common.{Pack}
use Rattle.spec_machine.specs.Common.{Service, Answers}
use Rattle.spec_machine.specs.declared.call.Call.TheVariants.{Reset}
use Rattle.spec_machine.specs.declared.call.Reply.{Reply}
use Rattle.commands.specs.Characters.{is_other_than}
use Rattle.commands.specs.Languages.{LineSays, ClosesSession}
use Rattle.commands.specs.Reasons.{mark, numbered, reason_of}
use Rattle.commands.specs.declared.error.SessionError.{SessionError}
use Rattle.commands.specs.declared.error.SessionError.TheVariants.{Read, Write, NoMemory}
use Rattle.commands.specs.declared.answer.Tally.{Tally}
use Rattle.commands.specs.declared.language.Language.{Language}
use Rattle.commands.specs.declared.language.Language.TheVariants.{Commands, Events}

-- The acts of lines, one after the other, and their outcome.
abbrev pub IsServedTranscript : Language → Moment → Option ℕ → List Line → List Act → Spoken → Option ℕ → Type 0
IsServedTranscript language moment user [] acts said then_who = (acts ≡ []) × (said ≡ silent) × (then_who ≡ user)
IsServedTranscript language moment user (line ∷ lines) acts said then_who =
    (first : List Act) × (more : List Act) × (here : Spoken) × (there : Spoken) × (mid : Option ℕ)
    × LineSays language moment user line first here mid
    × IsServedTranscript language moment mid lines more there then_who
    × (acts ≡ first ++ more) × (said ≡ both_said here there)

-- The same for lines with their numbers, and with the numbers of those that are refused.
abbrev pub IsNumberedTranscript : Language → Moment → Option ℕ → List (ℕ × Line) → List Act → Spoken → Option ℕ
    → List ℕ → Type 0
IsNumberedTranscript language moment user [] acts said then_who refused =
    (acts ≡ []) × (said ≡ silent) × (then_who ≡ user) × (refused ≡ [])
IsNumberedTranscript language moment user (line ∷ lines) acts said then_who refused =
    (first : List Act) × (more : List Act) × (here : Spoken) × (there : Spoken) × (mid : Option ℕ)
    × (later : List ℕ) × LineSays language moment user line.1 first here mid
    × IsNumberedTranscript language moment mid lines more there then_who later
    × (acts ≡ first ++ more) × (said ≡ both_said here there) × (refused ≡ mark here.refused line.0 ++ later)

-- A whole input, answered at a moment by a service that was `old` before it and is `new` after it.

pub record IsServedSession (pack : Pack) (moment : Moment) (input : List ℕ) (old new : Service)
    (said : Spoken) : Type 0 where
  pub acts : List Act
  pub mid : Service
  pub user : Option ℕ
  pub transcript : IsServedTranscript Commands moment None (lines input) acts said user
  pub went : Went pack old acts mid
  pub answer : Reply
  pub reset : Answers pack mid (call_event moment Reset) answer new

pub record IsServedScript (pack : Pack) (moment : Moment) (input : List ℕ) (old new : Service)
    (said : Spoken) : Type 0 where
  pub acts : List Act
  pub ordered : IsServedTranscript Events moment None (lines input) acts said None
  pub went : Went pack old acts new

-- a text with the tally of its lines, as an outcome
abbrev pub spoken : List ℕ → Tally → Spoken
spoken text tally = record { text = text; refused = tally.refused; broke = tally.broke }

abbrev pub HasNoFeed : List ℕ → Type 0
HasNoFeed bytes = Are (is_other_than feed) bytes

-- nothing, or what a line feed ends
abbrev pub AreWholeLines : List ℕ → Type 0
AreWholeLines bytes = (bytes ≡ []) ⊎ ((before : List ℕ) × (bytes ≡ before ++ feed ∷ []))

-- All was answered and written, and then the acts at the end were done, for which nothing is written. The tally's
-- reason is that of the refused lines.
pub record Finished (language : Language) (moment : Moment) (read written : List ℕ) (acts : List Act)
    (tally : Tally) : Type 0 where
  pub talked : List Act
  pub user : Option ℕ
  pub transcript : IsServedTranscript language moment None (lines read) talked (spoken written tally) user
  pub refused : List ℕ
  pub refuses : IsNumberedTranscript language moment None (numbered read) talked (spoken written tally) user refused
  pub reason : tally.reason ≡ reason_of refused
  pub closing : List Act
  pub closes : ClosesSession language moment closing
  pub acts_are : acts ≡ talked ++ closing

-- All lines were answered and written except one that had not ended.
pub record CutShort (language : Language) (moment : Moment) (read written : List ℕ) (acts : List Act) : Type 0 where
  pub front : List ℕ
  pub seen : List ℕ
  pub parted : read ≡ front ++ seen
  pub ended : AreWholeLines front
  pub unended : HasNoFeed seen
  pub said : Spoken
  pub user : Option ℕ
  pub transcript : IsServedTranscript language moment None (lines front) acts said user
  pub whole : written ≡ said.text

-- The written and the unwritten part of a text: the writer refused some of it, or there was no memory for it.
abbrev pub IsCut : SessionError → List ℕ → List ℕ → Type 0
IsCut Read written unwritten = ⊥
IsCut Write written unwritten = 0 < length unwritten
IsCut NoMemory written unwritten = written ≡ []

-- Lines were answered, and the writer has a beginning of their text: it refused the rest.
pub record CutOff (language : Language) (at_end : Type 0) (moment : Moment) (read written : List ℕ)
    (acts : List Act) : Type 0 where
  pub front : List ℕ
  pub behind : List ℕ
  pub parted : read ≡ front ++ behind
  pub ended : AreWholeLines front ⊎ ((behind ≡ []) × at_end)
  pub said : Spoken
  pub user : Option ℕ
  pub transcript : IsServedTranscript language moment None (lines front) acts said user
  pub unwritten : List ℕ
  pub parts : said.text ≡ written ++ unwritten
  pub some : 0 < length unwritten

-- Lines were answered, and there was no memory for the text of the last one: nothing of it is written, and all of the
-- text before it is. These lines had ended, or the input had.
pub record Unfinished (language : Language) (at_end : Type 0) (moment : Moment) (read written : List ℕ)
    (acts : List Act) : Type 0 where
  pub front : List ℕ
  pub behind : List ℕ
  pub parted : read ≡ front ++ behind
  pub ended : AreWholeLines front ⊎ ((behind ≡ []) × at_end)
  pub before : List Line
  pub line : Line
  pub answered : lines front ≡ before ++ line ∷ []
  pub first : List Act
  pub earlier : Spoken
  pub mid : Option ℕ
  pub transcript : IsServedTranscript language moment None before first earlier mid
  pub more : List Act
  pub here : Spoken
  pub user : Option ℕ
  pub says : LineSays language moment mid line more here user
  pub acts_are : acts ≡ first ++ more
  pub written_is : written ≡ earlier.text
