-- What becomes of the service, and of a reader and a writer, when job 1 logs in for one errand.
use Rattle.std.specs.Prelude.{◌≡◌, ◌⊎◌, ◌<◌, ℕ, false, List, [], ◌∷◌, ◌++◌, length, MatchResult, IfOk, IfErr, Option}
use Rattle.std.specs.Prelude.{Some, None, Result, Ok, Err, codes, ◌≤◌, ◌==◌, if◌then◌else◌}
use Rattle.words36.specs.declared.moment.Moment.{Moment}
use Rattle.std.specs.Io.KnownBytes.{Appends, Consumes, IsAtEnd}
use Rattle.spec_language.specs.Common.{AreWords, create_events, login_events, fill_all_plan, put_plan, list_plan_of}
use Rattle.spec_language.specs.Common.{unfit}
use Rattle.spec_language.specs.Common.{volume_line}
use Rattle.spec_language.specs.Common.{Act, Plan, Ask, Say, Leads, RunsPlan, open_events, line_plan, call_event, each}
use Rattle.spec_language.specs.Common.{ends}
use Rattle.spec_language.specs.Common.{fails, file_words, name_events, ok, Spoken, complains}
use Rattle.spec_machine.specs.Common.{State, room, Serving, Broken}
use Rattle.spec_image.specs.Common.{keys}
use Rattle.spec_machine.specs.declared.call.Call.TheVariants.{Lookup, Close}
use Rattle.spec_machine.specs.declared.call.Event.{Event}
use Rattle.spec_machine.specs.declared.call.Reply.{Reply}
use Rattle.spec_machine.specs.declared.call.Reply.TheVariants.{Done, Refused, NoMemory as NoMemoryReply, Failed}
use Rattle.spec_language.specs.declared.command.Command.TheVariants.{Delete as DeleteLine}
use Rattle.spec_language.specs.declared.command.Spec.{Spec}
use Rattle.spec_language.specs.declared.encoding.Encoding.{Encoding}
use Rattle.spec_language.specs.declared.style.Style.{Style}
use Rattle.commands.specs.PlanSteps.{FollowsPlan}
use Rattle.commands.specs.Machines.{Machine, GoesBy}
use Rattle.commands.specs.Reasons.{IsInputReason, BeginsNoFile, IsTooLong, most_bytes}
use Rattle.commands.specs.Streams.{IsCut, spoken}
use Rattle.commands.specs.declared.answer.Tally.{Tally}
use Rattle.commands.specs.declared.error.SessionError.{SessionError}
use Rattle.commands.specs.declared.error.SessionError.TheVariants.{Read, Write, NoMemory}
use Rattle.commands.specs.declared.existing.Existing.{Existing}
use Rattle.commands.specs.declared.existing.Existing.TheVariants.{Replace, Refuse}
use Rattle.commands.specs.declared.reason.Misfit.TheVariants.{Excess}
use Rattle.commands.specs.declared.reason.Reason.TheVariants.{Input}

-- A file is deleted, as by DELETE.
abbrev pub delete_plan : Moment → ℕ → Spec → Plan
delete_plan moment owner spec = each moment (login_events owner) (line_plan moment owner (DeleteLine spec))

-- The events that name a file before it is looked up, on channel 1.
abbrev pub looks_for : Moment → Spec → List Event
looks_for moment spec = open_events moment 1 ++ name_events file_words spec 0

-- What follows the LOOKUP of a file that must not exist: if it exists, its name is refused as that of an existing file,
-- and a refusal other than "no such file" ends the plan with its own text.
abbrev pub if_absent : Moment → Plan → Reply → Plan
if_absent moment next Done = fails moment (Refused 4)
if_absent moment next (Refused code) = if code == 0 then next else fails moment (Refused code)
if_absent moment next reply = fails moment reply

abbrev pub absent : Moment → Spec → Plan → Plan
absent moment spec next = each moment (looks_for moment spec)
    (Ask (call_event moment (Lookup 1 file_words)) (if_absent moment next))

-- What precedes the entry of a file, by what happens to one that has its name.
abbrev pub makes_way : Existing → Moment → Spec → Plan → Plan
makes_way Replace moment spec next = next
makes_way Refuse moment spec next = absent moment spec next

-- A file is put if there is none of its name.
abbrev pub put_plan_new : Moment → ℕ → Encoding → Spec → Option (List ℕ) → Plan
put_plan_new moment owner encoding spec None = Say (complains (unfit encoding))
put_plan_new moment owner encoding spec (Some words) =
    each moment (login_events owner) (absent moment spec (each moment (create_events moment encoding spec)
    (fill_all_plan moment encoding words (each moment (call_event moment (Close 2 0) ∷ []) (ends moment ok)))))

abbrev pub put_plan_as : Existing → Moment → ℕ → Encoding → Spec → Option (List ℕ) → Plan
put_plan_as Replace = put_plan
put_plan_as Refuse = put_plan_new

-- nothing was counted yet
abbrev pub fresh : Tally
fresh = record { refused = false; broke = false; reason = None }

-- A plan was done to its end, and the text of its outcome is returned, with the tally, which has no reason; or there
-- was no memory, and it was begun.
abbrev pub Carries : {V E S : Type 0} → (V → List ℕ) → Result V E → (S → Machine) → S → S → Plan → Tally → Type 0
Carries bytes result machine old new plan counted =
    MatchResult result (λ v. FollowsPlan machine old new plan (Say (spoken (bytes v) counted))
    × (counted.reason ≡ None))
    (λ error. (rest : Plan) × FollowsPlan machine old new plan rest)

-- By these acts a plan was done to its end, and these bytes are its text; or the writer refused the end of the text; or
-- there was no memory for it, and nothing is written.
abbrev pub Performs : Plan → List Act → List ℕ → Result Tally SessionError → Type 0
Performs plan acts written (Ok tally) = RunsPlan plan acts (spoken written tally)
Performs plan acts written (Err Read) = ⊥
Performs plan acts written (Err Write) =
    (said : Spoken) × RunsPlan plan acts said × (unwritten : List ℕ) × (said.text ≡ written ++ unwritten)
    × (0 < length unwritten)
Performs plan acts written (Err NoMemory) = (rest : Plan) × Leads plan acts rest × (written ≡ [])

-- What became of the service, and what was put into the writer. The tally has no reason.
pub record Errand {S : Type 0} (sink full : Option (List ℕ)) (machine : S → Machine) (old new : S) (plan : Plan)
    (result : Result Tally SessionError) : Type 0 where
  pub written : List ℕ
  pub acts : List Act
  pub appended : Appends sink full written
  pub goes : GoesBy machine old new acts
  pub performs : Performs plan acts written result
  pub reason : IfOk result (λ tally. tally.reason ≡ None)

-- An input wasn't read to its end, or there was no memory for it.
abbrev pub IsUnread : Result Tally SessionError → Type 0
IsUnread (Ok tally) = ⊥
IsUnread (Err Read) = Unit {0}
IsUnread (Err Write) = ⊥
IsUnread (Err NoMemory) = Unit {0}

-- the refusal of an input that is too long, which makes no call
abbrev pub no_room : Plan
no_room = Say (complains (codes "?No room"))

-- The input was read to its end, or to bytes with which no file begins, and then a plan for the words that it spells
-- was done; or it is too long, and that was written; or it wasn't read, and nothing was done and written.
abbrev pub Delivers : Encoding → Type 0 → (Option (List ℕ) → Plan) → List ℕ → List Act → List ℕ
    → Result Tally SessionError → Type 0
Delivers encoding at_end plan read acts written result =
    ((at_end ⊎ BeginsNoFile encoding read) × (length read ≤ most_bytes encoding) × (words : Option (List ℕ))
    × AreWords encoding read words × Performs (plan words) acts written result)
    ⊎ (IsTooLong encoding read × Performs no_room acts written result)
    ⊎ (IsUnread result × (acts ≡ []) × (written ≡ []))

-- If an input that was answered can't be a file, the tally has the reason; if it is too long, this is the reason.
abbrev pub TellsMisfit : Encoding → List ℕ → Result Tally SessionError → Type 0
TellsMisfit encoding read (Ok tally) =
    IsInputReason encoding read tally.reason
    × (IsTooLong encoding read → tally.reason ≡ Some (Input (Excess (most_bytes encoding))))
TellsMisfit encoding read (Err error) = Unit {0}

-- What was taken from the reader and put into the writer, and what became of the service.
pub record Delivery {S : Type 0} (source left sink full : Option (List ℕ)) (machine : S → Machine) (old new : S)
    (encoding : Encoding) (plan : Option (List ℕ) → Plan) (result : Result Tally SessionError) : Type 0 where
  pub read : List ℕ
  pub written : List ℕ
  pub acts : List Act
  pub consumed : Consumes source left read
  pub appended : Appends sink full written
  pub goes : GoesBy machine old new acts
  pub delivers : Delivers encoding (IsAtEnd left) plan read acts written result
  pub tells : TellsMisfit encoding read result

-- The directories that will be listed: one, or all that exist. The reply is an error if they find no memory, or if the
-- service has failed.
abbrev pub AreAsked : Machine → Option ℕ → Result (List ℕ) Reply → Type 0
AreAsked machine (Some owner) owners = owners ≡ Ok (owner ∷ [])
AreAsked machine None (Ok owners) = machine.honest → (s : State) → machine.serves (Serving s) → owners ≡ keys s.files
AreAsked machine None (Err reply) = (reply ≡ NoMemoryReply) ⊎ ((reply ≡ Failed) × machine.serves Broken)

-- The directories were determined, and their lists written.
pub record Survey {S : Type 0} (sink full : Option (List ℕ)) (machine : S → Machine) (old new : S) (moment : Moment)
    (style : Style) (place : Option ℕ) (result : Result Tally SessionError) : Type 0 where
  pub owners : Result (List ℕ) Reply
  pub asked : AreAsked (machine old) place owners
  pub errand : Errand sink full machine old new (list_plan_of moment style owners) result

-- The line about a volume was written, or a beginning of it.
pub record Checked (sink full : Option (List ℕ)) (machine : Machine) (result : Result Tally SessionError) : Type 0 where
  pub written : List ℕ
  pub unwritten : List ℕ
  pub appended : Appends sink full written
  pub says : machine.honest → (s : State) → machine.serves (Serving s)
      → volume_line machine.pack.blocks (room machine.pack s) ≡ written ++ unwritten
  pub whole : IfOk result (λ tally. (unwritten ≡ []) × (tally ≡ fresh))
  pub cut : IfErr result (λ error. IsCut error written unwritten)
