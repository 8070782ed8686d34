-- The files that a survey of a disk found, which become files of the host, and then its faults.
use Rattle.std.specs.Prelude.{◌≡◌, ◌⊎◌, ℕ, true, false, List, Option, Some, None, Result, Ok, Err, IfOk, IsSomeAnd}
use Rattle.std.specs.Prelude.{Bool, IsErrOf, [], ◌∷◌, codes, length}
use Rattle.std.specs.List.{AllByRecursion}
use Rattle.std.specs.declared.alloc.AllocError.{AllocError}
use Rattle.blockdisk.specs.Common.{DiskState, IsWholeBlock, SameDisk, one_more}
use Rattle.changeset.specs.Common.{OnlyReads}
use Rattle.spec_image.specs.Common.{HasBody}
use Rattle.retrieval.specs.Common.{mode_number}
use Rattle.commands.specs.Common.{IsExport}
use Rattle.commands.specs.declared.answer.Tally.{Tally}
use Rattle.commands.specs.declared.error.SessionError.{SessionError}
use Rattle.commands.specs.declared.export_file.Exported.{Exported}
use Rattle.salvage.specs.declared.finding.Finding.{Finding}
use Rattle.salvage.specs.declared.error.SalvageError.{SalvageError}
use Rattle.salvage.specs.declared.saved.SavedFile.{SavedFile}
use Rattle.collection.specs.Each.{EachDone, IsPassedOver, Then, none_counted}
use Rattle.collection.specs.Export.{HasNoFolder, IsListed, IsStored}
use Rattle.collection.specs.Faults.{AreFindingsDone}
use Rattle.collection.specs.HostActs.{Acted, FileAct, folder_made}
use Rattle.collection.specs.Lines.{IsRefusedLine, IsUnnamed}
use Rattle.collection.specs.HostNames.{folder_of, path_of, numbered_path, doubtful_folder, unnamed_folder}
use Rattle.collection.specs.declared.task.ExportTask.{ExportTask}
use Rattle.salvage.specs.declared.error.SalvageError.TheVariants as salvage

-- Files.

-- the words that were read, as a list
abbrev pub words_read : {V E : Type 0} → (V → List ℕ) → Result (Option V) E → Result (Option (List ℕ)) E
words_read items (Ok (Some words)) = Ok (Some (items words))
words_read items (Ok None) = Ok None
words_read items (Err error) = Err error

-- These are the words of a file on the disk, none if a block of it is damaged. Nothing was written.
pub record IsReadFrom {D : Type 0} (state : D → DiskState) (file : SavedFile) (old new : D)
    (read : Result (Option (List ℕ)) SalvageError) : Type 0 where
  pub words : (state new).honest → AllByRecursion (IsWholeBlock (state old).contents) file.stored.version.blocks
      → IfOk read (λ found. IsSomeAnd found (λ words. HasBody (state old).contents file.stored.version.blocks words
      × (length words ≡ file.stored.version.words)))
  pub reads : (state new).honest → OnlyReads (state old) (state new)
  pub same : SameDisk (state old) (state new)
  pub failed : IsErrOf read salvage.Device → (state new).failures ≡ one_more (state old).failures
  pub served : (IsErrOf read salvage.Device → ⊥) → (state new).failures ≡ (state old).failures

-- What became of a file whose words were read, by whether there was memory for the bytes that spell them.
abbrev pub AreWordsStored : List ℕ → SavedFile → Result Exported AllocError → List FileAct → List FileAct
    → Option (List ℕ) → Option (List ℕ) → Result Tally SessionError → Type 0
AreWordsStored path file (Ok exported) before after sink full result =
    IsStored {E = AllocError} path (Some file.stored.prime.moment) (Ok exported) before after sink full result
AreWordsStored path file (Err error) before after sink full result =
    (after ≡ before) × IsRefusedLine path (codes "?No memory") true sink full result

-- What became of a file that was read: a file of the host with the bytes that spell its words, last changed when it was
-- written; or it was refused, as also one for which there is no memory.
abbrev pub IsReadStored : ExportTask → List ℕ → SavedFile → Result (Option (List ℕ)) SalvageError → List FileAct
    → List FileAct → Option (List ℕ) → Option (List ℕ) → Result Tally SessionError → Type 0
IsReadStored task path file (Ok (Some words)) before after sink full result =
    (exported : Result Exported AllocError)
    × IfOk exported (IsExport task.encoding (mode_number file.stored.prime.mode) words)
    × AreWordsStored path file exported before after sink full result
IsReadStored task path file (Ok None) before after sink full result =
    (after ≡ before) × IsRefusedLine path (codes "?Damaged") false sink full result
IsReadStored task path file (Err salvage.Device) before after sink full result =
    (after ≡ before) × IsRefusedLine path (codes "?Device fault") true sink full result
IsReadStored task path file (Err salvage.NoMemory) before after sink full result =
    (after ≡ before) × IsRefusedLine path (codes "?No memory") true sink full result
IsReadStored task path file (Err salvage.NotVolume) before after sink full result = ⊥

-- A file was read, and stored at a path.
pub record IsSavedAt {D : Type 0} (state : D → DiskState) (task : ExportTask) (path : List ℕ) (file : SavedFile)
    (sink full : Option (List ℕ)) (old new : Acted D) (result : Result Tally SessionError) : Type 0 where
  pub read : Result (Option (List ℕ)) SalvageError
  pub is : IsReadFrom state file old.1 new.1 read
  pub stored : IsReadStored task path file read old.0 new.0 sink full result

-- the path of a file in this folder: under its name, or with the number of its prime block
abbrev pub saved_path : List ℕ → Bool → SavedFile → List ℕ
saved_path folder false file = path_of folder file.stored.prime.ppn file.stored.prime.file
saved_path folder true file = numbered_path folder file.stored.prime.ppn file.stored.prime.file file.at

-- What became of a file of a directory that is wanted, by the folder for files of its kind, and by whether their names
-- have the numbers of prime blocks.
abbrev pub IsWantedDone : {D : Type 0} → (D → DiskState) → ExportTask → List ℕ → Bool → SavedFile → Option (List ℕ)
    → Option (List ℕ) → Acted D → Acted D → Result Tally SessionError → Type 0
IsWantedDone state task folder numbered file sink full old new result =
    ((task.lists ≡ false) × IsSavedAt state task (saved_path folder numbered file) file sink full
    (folder_made (folder_of folder file.stored.prime.ppn) true old) new result)
    ⊎ ((task.lists ≡ false) × HasNoFolder (folder_of folder file.stored.prime.ppn) sink full old new result)
    ⊎ ((task.lists ≡ true) × IsListed (saved_path folder numbered file) sink full old new result)
    ⊎ IsUnnamed sink full old new result

-- a file of this directory is wanted
abbrev pub IsWanted : Option ℕ → ℕ → Type 0
IsWanted None ppn = Unit {0}
IsWanted (Some owner) ppn = owner ≡ ppn

-- What became of one file.
abbrev pub IsFileDone : {D : Type 0} → (D → DiskState) → ExportTask → List ℕ → Bool → SavedFile → Option (List ℕ)
    → Option (List ℕ) → Acted D → Acted D → Result Tally SessionError → Type 0
IsFileDone state task folder numbered file sink full old new result =
    (IsWanted task.owner file.stored.prime.ppn
    × IsWantedDone state task folder numbered file sink full old new result)
    ⊎ ((IsWanted task.owner file.stored.prime.ppn → ⊥) × IsPassedOver sink full old new result)

-- What became of files of one kind: unless paths are only listed, the folder for all directories is made first.
abbrev pub AreFilesSaved : {D : Type 0} → (D → DiskState) → ExportTask → List ℕ → Bool → List SavedFile
    → Option (List ℕ) → Option (List ℕ) → Acted D → Acted D → Result Tally SessionError → Type 0
AreFilesSaved state task folder numbered files sink full old new result =
    ((task.lists ≡ true)
    × EachDone (IsFileDone state task folder numbered) files none_counted sink full old new result)
    ⊎ ((task.lists ≡ false) × EachDone (IsFileDone state task folder numbered) files none_counted sink full
    (folder_made folder true old) new result)
    ⊎ ((task.lists ≡ false) × HasNoFolder folder sink full old new result)

-- The same of files that are kept apart, whose folder isn't made if there are none.
abbrev pub AreApartSaved : {D : Type 0} → (D → DiskState) → ExportTask → List ℕ → Bool → List SavedFile
    → Option (List ℕ) → Option (List ℕ) → Acted D → Acted D → Result Tally SessionError → Type 0
AreApartSaved state task folder numbered [] sink full old new result = IsPassedOver sink full old new result
AreApartSaved state task folder numbered (file ∷ files) sink full old new result =
    AreFilesSaved state task folder numbered (file ∷ files) sink full old new result
    ⊎ IsUnnamed sink full old new result

-- All of it.

-- The whole run: the findings of the copy, the files in their place, the doubtful ones, those that no directory names,
-- and the faults. What ends the run ends it at once.
abbrev pub IsSalvageRun : {D : Type 0} → (D → DiskState) → ExportTask → List Finding → List SavedFile
    → List SavedFile → List SavedFile → List Finding → Option (List ℕ) → Option (List ℕ) → Acted D → Acted D
    → Result Tally SessionError → Type 0
IsSalvageRun state task head files doubtful unnamed findings sink full old new result =
    Then (AreFindingsDone task head)
    (Then (AreFilesSaved state task task.folder.now false files)
    (Then (AreApartSaved state task (doubtful_folder task.folder.now) false doubtful)
    (Then (AreApartSaved state task (unnamed_folder task.folder.now) true unnamed)
    (AreFindingsDone task findings)))) sink full old new result
