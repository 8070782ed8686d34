-- Files of a volume that become files of the host, directory after directory.
use Rattle.std.specs.Prelude.{◌≡◌, ◌⊎◌, ◌≤◌, ◌++◌, ◌∷◌, ℕ, Bool, true, false, List, Option, Some, None, Result, Ok}
use Rattle.std.specs.Prelude.{Err, codes}
use Rattle.std.specs.declared.alloc.AllocError.{AllocError}
use Rattle.words36.specs.declared.moment.Moment.{Moment}
use Rattle.spec_language.specs.Common.{is_broken, line, refusal}
use Rattle.spec_machine.specs.declared.call.Reply.{Reply}
use Rattle.spec_language.specs.declared.encoding.Encoding.{Encoding}
use Rattle.spec_language.specs.declared.encoding.Encoding.TheVariants.{Characters, Octets, Words}
use Rattle.spec_image.specs.declared.entry.Entry.{Entry}
use Rattle.commands.specs.Common.{AreAsked, HasEntries, HasExported, export_plan, Machine}
use Rattle.commands.specs.declared.answer.Tally.{Tally}
use Rattle.commands.specs.declared.error.SessionError.{SessionError}
use Rattle.commands.specs.declared.error.SessionError.TheVariants.{NoMemory}
use Rattle.commands.specs.declared.export_file.Exported.{Exported}
use Rattle.commands.specs.declared.export_file.Exported.TheVariants.{File, Refused, NotBytes}
use Rattle.collection.specs.Clock.{at_first}
use Rattle.collection.specs.Each.{EachDone, none_counted}
use Rattle.collection.specs.HostActs.{Acted, FileAct, MadeFile, day_of, folder_made}
use Rattle.collection.specs.Lines.{IsCounted, IsLineWritten, IsRefusedLine, IsUnnamed, label_of}
use Rattle.collection.specs.HostNames.{folder_of, path_of, shown}
use Rattle.collection.specs.declared.task.ExportTask.{ExportTask}

-- the word for the encoding of a file that was made
abbrev pub encoding_text : Encoding → List ℕ
encoding_text Characters = codes "text"
encoding_text Octets = codes "bytes"
encoding_text Words = codes "words"

-- The moment of the last change that a file gets: the one that the volume has for it.
abbrev pub IsChangeOf : Entry → Option Moment → Type 0
IsChangeOf entry None = (entry.date ≤ 32767) → (entry.time ≤ 1439) → ⊥
IsChangeOf entry (Some at) = (at.date ≡ entry.date) × (at.minute ≡ entry.time)

-- the line of a file, by whether the host made it
abbrev pub IsStoredLine : List ℕ → Encoding → Bool → Option (List ℕ) → Option (List ℕ) → Result Tally SessionError
    → Type 0
IsStoredLine path encoding true sink full result =
    IsLineWritten sink full (label_of path (encoding_text encoding) ++ line (codes "OK")) result
    × IsCounted none_counted result
IsStoredLine path encoding false sink full result =
    IsRefusedLine path (codes "?Can't write") false sink full result

-- A file that was read: its bytes were to be stored at a path where there is no file, last changed at this moment, and
-- nothing else was done; or it was refused, and nothing was. Its line was written. If there was no memory for its bytes
-- the run ends.
abbrev pub IsStored : {E : Type 0} → List ℕ → Option Moment → Result Exported E → List FileAct → List FileAct
    → Option (List ℕ) → Option (List ℕ) → Result Tally SessionError → Type 0
IsStored path changed (Ok (File encoding bytes)) before after sink full result =
    (made : Bool) × (after ≡ MadeFile path bytes.items (day_of changed) made ∷ before)
    × IsStoredLine path encoding made sink full result
IsStored path changed (Ok (Refused reply)) before after sink full result =
    (after ≡ before) × IsRefusedLine path (refusal reply) (is_broken reply) sink full result
IsStored path changed (Ok NotBytes) before after sink full result =
    (after ≡ before) × IsRefusedLine path (codes "?Not bytes") false sink full result
IsStored path changed (Err error) before after sink full result =
    (after ≡ before) × (full ≡ sink) × (result ≡ Err NoMemory)

-- A file was read by [1,2], who may read all directories, and stored.
pub record IsTakenOut {S : Type 0} (machine : S → Machine) (asked : Option Encoding) (path : List ℕ) (owner : ℕ)
    (entry : Entry) (sink full : Option (List ℕ)) (old new : Acted S) (result : Result Tally SessionError)
    : Type 0 where
  pub at : Moment
  pub first : at_first at
  pub exported : Result Exported AllocError
  pub read : HasExported machine old.1 new.1 asked entry.mode
      (export_plan at (record { name = entry.name; owner = Some owner })) exported
  pub changed : Option Moment
  pub change : IsChangeOf entry changed
  pub stored : IsStored path changed exported old.0 new.0 sink full result

-- a path is only listed
pub record IsListed {S : Type 0} (path : List ℕ) (sink full : Option (List ℕ)) (old new : S)
    (result : Result Tally SessionError) : Type 0 where
  pub same : new ≡ old
  pub written : IsLineWritten sink full (line (shown path)) result
  pub counted : IsCounted none_counted result

-- What became of one file.
abbrev pub IsEntryDone : {S : Type 0} → (S → Machine) → ExportTask → ℕ → Entry → Option (List ℕ) → Option (List ℕ)
    → Acted S → Acted S → Result Tally SessionError → Type 0
IsEntryDone machine task owner entry sink full old new result =
    ((task.lists ≡ false)
    × IsTakenOut machine task.encoding (path_of task.folder.now owner entry.name) owner entry sink full old new
    result)
    ⊎ ((task.lists ≡ true) × IsListed (path_of task.folder.now owner entry.name) sink full old new result)
    ⊎ IsUnnamed sink full old new result

-- A folder couldn't be made, and nothing was done with what belongs there.
pub record HasNoFolder {S : Type 0} (folder : List ℕ) (sink full : Option (List ℕ)) (old new : Acted S)
    (result : Result Tally SessionError) : Type 0 where
  pub asked : new ≡ folder_made folder false old
  pub written : IsRefusedLine folder (codes "?Can't make folder") false sink full result

-- What became of the files of a directory: unless paths are only listed, its folder is made first.
abbrev pub AreEntriesDone : {S : Type 0} → (S → Machine) → ExportTask → ℕ → List Entry → Option (List ℕ)
    → Option (List ℕ) → Acted S → Acted S → Result Tally SessionError → Type 0
AreEntriesDone machine task owner entries sink full old new result =
    ((task.lists ≡ true) × EachDone (IsEntryDone machine task owner) entries none_counted sink full old new result)
    ⊎ ((task.lists ≡ false) × EachDone (IsEntryDone machine task owner) entries none_counted sink full
    (folder_made (folder_of task.folder.now owner) true old) new result)
    ⊎ ((task.lists ≡ false) × HasNoFolder (folder_of task.folder.now owner) sink full old new result)

-- the same, by the answer to the list of the directory
abbrev pub IsAnsweredDirectory : {S : Type 0} → (S → Machine) → ExportTask → ℕ → Result (List Entry) Reply
    → Option (List ℕ) → Option (List ℕ) → Acted S → Acted S → Result Tally SessionError → Type 0
IsAnsweredDirectory machine task owner (Ok entries) sink full old new result =
    AreEntriesDone machine task owner entries sink full old new result
IsAnsweredDirectory machine task owner (Err reply) sink full old new result =
    (new ≡ old) × IsRefusedLine (folder_of task.folder.now owner) (refusal reply) (is_broken reply) sink full result

-- A directory was listed, and this became of its files.
pub record IsDirectoryDone {S : Type 0} (machine : S → Machine) (task : ExportTask) (owner : ℕ)
    (sink full : Option (List ℕ)) (old new : Acted S) (result : Result Tally SessionError) : Type 0 where
  pub at : Moment
  pub first : at_first at
  pub mid : S
  pub entries : Result (List Entry) Reply
  pub asked : HasEntries (λ es. es) machine old.1 mid at owner entries
  pub done : IsAnsweredDirectory machine task owner entries sink full (old.0, mid) new result

-- What became of one directory.
abbrev pub IsOwnerDone : {S : Type 0} → (S → Machine) → ExportTask → ℕ → Option (List ℕ) → Option (List ℕ)
    → Acted S → Acted S → Result Tally SessionError → Type 0
IsOwnerDone machine task owner sink full old new result =
    IsDirectoryDone machine task owner sink full old new result ⊎ IsUnnamed sink full old new result

-- What became of all of these directories: unless paths are only listed, the folder for all of them is made first.
abbrev pub AreOwnersDone : {S : Type 0} → (S → Machine) → ExportTask → List ℕ → Option (List ℕ) → Option (List ℕ)
    → Acted S → Acted S → Result Tally SessionError → Type 0
AreOwnersDone machine task owners sink full old new result =
    ((task.lists ≡ true) × EachDone (IsOwnerDone machine task) owners none_counted sink full old new result)
    ⊎ ((task.lists ≡ false) × EachDone (IsOwnerDone machine task) owners none_counted sink full
    (folder_made task.folder.now true old) new result)
    ⊎ ((task.lists ≡ false) × HasNoFolder task.folder.now sink full old new result)

-- the same, by the answer to the list of all directories
abbrev pub AreAnsweredOwners : {S : Type 0} → (S → Machine) → ExportTask → Result (List ℕ) Reply → Option (List ℕ)
    → Option (List ℕ) → Acted S → Acted S → Result Tally SessionError → Type 0
AreAnsweredOwners machine task (Ok owners) sink full old new result =
    AreOwnersDone machine task owners sink full old new result
AreAnsweredOwners machine task (Err reply) sink full old new result =
    (new ≡ old) × IsRefusedLine task.folder.now (refusal reply) (is_broken reply) sink full result

-- The directories that are exported, and what became of them.
pub record IsExportRun {S : Type 0} (machine : S → Machine) (task : ExportTask) (sink full : Option (List ℕ))
    (old new : Acted S) (result : Result Tally SessionError) : Type 0 where
  pub owners : Result (List ℕ) Reply
  pub asked : AreAsked (machine old.1) task.owner owners
  pub done : AreAnsweredOwners machine task owners sink full old new result
