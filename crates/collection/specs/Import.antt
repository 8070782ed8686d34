-- Files of the host that are put, one after the other.
use Rattle.std.specs.Prelude.{◌≡◌, ◌⊎◌, ◌∷◌, ℕ, true, false, List, Option, Some, None, Result, Ok, Err, codes}
use Rattle.words36.specs.declared.moment.Moment.{Moment}
use Rattle.words36.specs.declared.names.FileName.{FileName}
use Rattle.spec_language.specs.Common.{login_events, is_character, own_file, Plan, make_dir_events, each, Are}
use Rattle.spec_language.specs.Common.{is_broken}
use Rattle.spec_language.specs.Common.{refusal}
use Rattle.spec_machine.specs.declared.call.Reply.{Reply}
use Rattle.spec_machine.specs.declared.call.Reply.TheVariants.{Refused}
use Rattle.spec_language.specs.declared.encoding.Encoding.{Encoding}
use Rattle.spec_language.specs.declared.encoding.Encoding.TheVariants.{Characters, Octets}
use Rattle.commands.specs.Common.{FollowsPlan, followed, put_plan_as, Imported, Machine, most_bytes}
use Rattle.commands.specs.declared.answer.Tally.{Tally}
use Rattle.commands.specs.declared.error.SessionError.{SessionError}
use Rattle.commands.specs.declared.existing.Existing.TheVariants.{Refuse}
use Rattle.collection.specs.Clock.{at_first}
use Rattle.collection.specs.Each.{EachDone, none_counted}
use Rattle.collection.specs.HostActs.{Acted, ReadFile, day_of, unread}
use Rattle.collection.specs.Lines.{IsRefusedLine, IsUnnamed, label_of}
use Rattle.collection.specs.HostNames.{IsNameFor}
use Rattle.collection.specs.declared.source.Source.{Source}
use Rattle.collection.specs.declared.task.ImportTask.{ImportTask}

-- the encoding of the bytes: the given one, or else characters if all of them are characters, and otherwise octets
abbrev pub IsEncodingFor : Option Encoding → List ℕ → Encoding → Type 0
IsEncodingFor (Some asked) bytes encoding = encoding ≡ asked
IsEncodingFor None bytes Characters = Are is_character bytes
IsEncodingFor None bytes Octets = Are is_character bytes → ⊥
IsEncodingFor None bytes encoding = ⊥

-- the most bytes that a file may have
abbrev pub most_read : Option Encoding → ℕ
most_read (Some asked) = most_bytes asked
most_read None = most_bytes Characters

-- the moment that the file gets: that of its last change, or the given one
abbrev pub IsMomentFor : ImportTask → Source → Moment → Type 0
IsMomentFor task source at =
    ((task.dated ≡ true) × (source.changed ≡ Some at)) ⊎ ((task.dated ≡ false) × (at ≡ task.moment))

-- No call was made for a file, as its line states; it counts as refused.
abbrev pub IsTurnedDown : {S : Type 0} → List ℕ → Option (List ℕ) → Option (List ℕ) → S → S → List ℕ
    → Result Tally SessionError → Type 0
IsTurnedDown path sink full old new answer result = (new ≡ old) × IsRefusedLine path answer false sink full result

-- A file that was read was put by this name, which a text spells, if no file had it.
pub record IsImported {S : Type 0} (machine : S → Machine) (task : ImportTask) (path text : List ℕ) (name : FileName)
    (source : Source) (sink full : Option (List ℕ)) (old new : S) (result : Result Tally SessionError) : Type 0 where
  pub at : Moment
  pub moment : IsMomentFor task source at
  pub encoding : Encoding
  pub says : IsEncodingFor task.encoding source.bytes.items encoding
  pub imported : Imported sink full machine old new encoding (label_of path text) source.bytes.items
      (put_plan_as Refuse at task.owner encoding (own_file name)) result

-- The job of an owner made its directory, and this is the result.
pub record HasMade {S : Type 0} (machine : S → Machine) (old new : S) (owner : ℕ) (made : Result (Unit {0}) Reply)
    : Type 0 where
  pub at : Moment
  pub first : at_first at
  pub led : (next : Plan)
      → FollowsPlan machine old new (each at (login_events owner) (each at (make_dir_events at owner 0) next))
      (followed at made (λ unit. next))

-- A directory was made, or exists, and this was done; or it does neither, as the line of a file for it states.
abbrev pub GoesOn : {S : Type 0} → List ℕ → Option (List ℕ) → Option (List ℕ) → S → S → Result Tally SessionError
    → Type 0 → Result (Unit {0}) Reply → Type 0
GoesOn path sink full mid new result IsDone (Ok unit) = IsDone
GoesOn path sink full mid new result IsDone (Err reply) = ((reply ≡ Refused 4) × IsDone)
    ⊎ ((reply ≡ Refused 4 → ⊥) × (new ≡ mid)
    × IsRefusedLine path (refusal reply) (is_broken reply) sink full result)

-- The directory of an owner was made, unless it was there, and then a file for it was put as stated.
pub record IsPutInto {S : Type 0} (machine : S → Machine) (owner : ℕ) (path : List ℕ) (sink full : Option (List ℕ))
    (old new : S) (result : Result Tally SessionError) (IsPut : S → Type 0) : Type 0 where
  pub mid : S
  pub made : Result (Unit {0}) Reply
  pub makes : HasMade machine old mid owner made
  pub done : GoesOn path sink full mid new result (IsPut mid) made

-- What became of a file that was read: it was put, or its last change was at a time that no file can have.
abbrev pub IsSourcePut : {S : Type 0} → (S → Machine) → ImportTask → List ℕ → List ℕ → FileName → Source
    → Option (List ℕ) → Option (List ℕ) → S → S → Result Tally SessionError → Type 0
IsSourcePut machine task path text name source sink full old new result =
    IsPutInto machine task.owner path sink full old new result
    (λ mid. IsImported machine task path text name source sink full mid new result)
    ⊎ ((task.dated ≡ true) × (source.changed ≡ None) × IsTurnedDown path sink full old new (codes "?Date out of range")
    result)
    ⊎ IsUnnamed sink full old new result

-- What the host returned for a file that gets this name, which a text spells, and what became of it.
abbrev pub IsReadAndPut : {S : Type 0} → (S → Machine) → ImportTask → List ℕ → List ℕ → FileName → Option (List ℕ)
    → Option (List ℕ) → Acted S → Acted S → Result Tally SessionError → Type 0
IsReadAndPut machine task path text name sink full old new result =
    ((source : Source) × (new.0 ≡ ReadFile path (most_read task.encoding)
    (Some (source.bytes.items, day_of source.changed)) ∷ old.0)
    × IsSourcePut machine task path text name source sink full old.1 new.1 result)
    ⊎ ((new ≡ unread path (most_read task.encoding) old)
    × IsRefusedLine path (codes "?Can't read") false sink full result)

-- What became of one file: it gets a name and is read, or there is no name that it can have.
abbrev pub IsDoneWith : {S : Type 0} → (S → Machine) → ImportTask → List ℕ → Option (List ℕ) → Option (List ℕ)
    → Acted S → Acted S → Result Tally SessionError → Type 0
IsDoneWith machine task path sink full old new result =
    ((text : List ℕ) × (name : FileName) × IsNameFor task.shortens path text name
    × IsReadAndPut machine task path text name sink full old new result)
    ⊎ (((text : List ℕ) (name : FileName) → IsNameFor task.shortens path text name → ⊥)
    × IsTurnedDown path sink full old new (codes "?Bad name") result)
    ⊎ IsUnnamed sink full old new result

-- What became of all of them, in their order. A fault of the writer and a lack of memory end the run.
abbrev pub IsImportRun : {S : Type 0} → (S → Machine) → ImportTask → List (List ℕ) → Option (List ℕ)
    → Option (List ℕ) → Acted S → Acted S → Result Tally SessionError → Type 0
IsImportRun machine task paths sink full old new result =
    EachDone (IsDoneWith machine task) paths none_counted sink full old new result
