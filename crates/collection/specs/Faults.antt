-- The faults that a survey of a disk found, which are told kind by kind. The first 1,000 of a kind have a line each; if
-- there are more, one line says how many.
use Rattle.std.specs.Prelude.{◌≡◌, ◌⊎◌, ◌<◌, ◌-◌, ◌++◌, ◌∷◌, ◌&&◌, ℕ, Bool, true, false, nat_eq, List, [], Option}
use Rattle.std.specs.Prelude.{Some, None, Result, codes, length, get_or, take, filter}
use Rattle.std.specs.List.{range_with_len}
use Rattle.std.specs.Fmt.{decimal}
use Rattle.commands.specs.declared.answer.Tally.{Tally}
use Rattle.commands.specs.declared.error.SessionError.{SessionError}
use Rattle.salvage.specs.declared.finding.Cost.{Cost}
use Rattle.salvage.specs.declared.finding.Defect.{Defect}
use Rattle.salvage.specs.declared.finding.Defect.TheVariants.{Start, FreeBlock, TwoOwners, Crowded, Missing, Surplus}
use Rattle.salvage.specs.declared.finding.Defect.TheVariants.{Tail}
use Rattle.salvage.specs.declared.finding.Finding.{Finding}
use Rattle.volume.specs.declared.error.VolumeError.{VolumeError}
use Rattle.volume.specs.declared.error.VolumeError.TheVariants.{NotVolume, BadHome, BadLog, BadDirectory}
use Rattle.volume.specs.declared.error.VolumeError.TheVariants.{BadRetrieval, BlockTwice, TableWrong, Device, Failed}
use Rattle.volume.specs.declared.error.VolumeError.TheVariants.{BadData}
use Rattle.collection.specs.Each.{EachDone, IsPassedOver, Then, none_counted}
use Rattle.collection.specs.Lines.{IsRefusedLine, IsUnnamed}
use Rattle.collection.specs.HostNames.{folder_of, path_of, numbered_path, unnamed_folder}
use Rattle.collection.specs.declared.task.ExportTask.{ExportTask}
use Rattle.salvage.specs.declared.finding.Cost.TheVariants as cost
use Rattle.volume.specs.declared.error.VolumeError.TheVariants as volume

-- The line of a fault.

-- the text of a fault, which is that of a start that it stops
abbrev pub fault_text : VolumeError → List ℕ
fault_text NotVolume = codes "?Not a volume"
fault_text BadHome = codes "?Bad home blocks"
fault_text BadLog = codes "?Bad log"
fault_text (BadDirectory block) = codes "?Bad directory block " ++ decimal block
fault_text (BadRetrieval block) = codes "?Bad retrieval block " ++ decimal block
fault_text (BlockTwice block) = codes "?Block " ++ decimal block ++ codes " reached twice"
fault_text (TableWrong block) = codes "?Bad table block " ++ decimal block
fault_text (BadData block) = codes "?Bad data block " ++ decimal block
fault_text volume.NoMemory = codes "?No memory"
fault_text Device = codes "?Device fault"
fault_text Failed = codes "?Device fault"

-- the text of what is wrong
abbrev pub defect_text : Defect → List ℕ
defect_text (Start fault) = fault_text fault
defect_text (FreeBlock block) = codes "?Block " ++ decimal block ++ codes " is free"
defect_text (TwoOwners block) = codes "?Block " ++ decimal block ++ codes " reached twice"
defect_text (Crowded block) = codes "?Block " ++ decimal block ++ codes " reached five times"
defect_text (Missing blocks) = codes "?Blocks missing at the end: " ++ decimal blocks
defect_text (Surplus blocks) = codes "?Blocks after the end: " ++ decimal blocks
defect_text (Tail bytes) = codes "?Bytes after the last block: " ++ decimal bytes

-- the path that what is lost would have had
abbrev pub path_of_cost : List ℕ → Cost → List ℕ
path_of_cost folder (cost.File ppn name) = path_of folder ppn name
path_of_cost folder (cost.Unnamed ppn name prime) = numbered_path (unnamed_folder folder) ppn name prime
path_of_cost folder (cost.Directory ppn) = folder_of folder ppn
path_of_cost folder cost.Directories = folder
path_of_cost folder cost.Nothing = folder

-- the device failed, which counts for more than other faults
abbrev pub is_device : Defect → Bool
is_device (Start Device) = true
is_device fault = false

-- The line of a fault was written, or there was no memory for it.
abbrev pub IsLineDone : ExportTask → Finding → Option (List ℕ) → Option (List ℕ) → Unit {0} → Unit {0}
    → Result Tally SessionError → Type 0
IsLineDone task finding sink full old new result =
    IsRefusedLine (path_of_cost task.folder.now finding.costs) (defect_text finding.fault) (is_device finding.fault)
    sink full result
    ⊎ IsUnnamed sink full old new result

-- Kinds of faults.

-- the kind of a fault
abbrev pub kind_of : Defect → ℕ
kind_of (Start NotVolume) = 0
kind_of (Start BadHome) = 1
kind_of (Start BadLog) = 2
kind_of (Start (BadDirectory block)) = 3
kind_of (Start (TableWrong block)) = 4
kind_of (Start (BadRetrieval block)) = 5
kind_of (Start (BlockTwice block)) = 6
kind_of (TwoOwners block) = 6
kind_of (FreeBlock block) = 7
kind_of (Start (BadData block)) = 8
kind_of (Start volume.NoMemory) = 9
kind_of (Start Device) = 10
kind_of (Start Failed) = 10
kind_of (Missing blocks) = 11
kind_of (Surplus blocks) = 12
kind_of (Tail bytes) = 13
kind_of (Crowded block) = 14

-- the text of each kind: what the texts of its faults share
abbrev pub kind_texts : List (List ℕ)
kind_texts =
    codes "?Not a volume"
    ∷ codes "?Bad home blocks"
    ∷ codes "?Bad log"
    ∷ codes "?Bad directory block"
    ∷ codes "?Bad table block"
    ∷ codes "?Bad retrieval block"
    ∷ codes "?Block reached twice"
    ∷ codes "?Block is free"
    ∷ codes "?Bad data block"
    ∷ codes "?No memory"
    ∷ codes "?Device fault"
    ∷ codes "?Blocks missing at the end"
    ∷ codes "?Blocks after the end"
    ∷ codes "?Bytes after the last block"
    ∷ codes "?Block reached five times"
    ∷ []

-- all kinds, in the order in which they are told
unfoldable pub kinds : List ℕ
kinds = range_with_len 0 (length kind_texts)

-- files of this owner are wanted
abbrev pub is_wanted : Option ℕ → ℕ → Bool
is_wanted None ppn = true
is_wanted (Some owner) ppn = nat_eq owner ppn

-- what is lost is of a directory that is wanted, or of none
abbrev pub is_wanted_cost : Option ℕ → Cost → Bool
is_wanted_cost owner (cost.File ppn name) = is_wanted owner ppn
is_wanted_cost owner (cost.Unnamed ppn name prime) = is_wanted owner ppn
is_wanted_cost owner (cost.Directory ppn) = is_wanted owner ppn
is_wanted_cost owner cost.Directories = true
is_wanted_cost owner cost.Nothing = true

-- a fault is of this kind, and what it costs is wanted
abbrev pub is_of_kind : Option ℕ → ℕ → Finding → Bool
is_of_kind owner kind finding = nat_eq (kind_of finding.fault) kind && is_wanted_cost owner finding.costs

-- those of these faults, in their order
abbrev pub of_kind : Option ℕ → ℕ → List Finding → List Finding
of_kind owner kind findings = filter (is_of_kind owner kind) findings

-- The lines of all faults.

-- how many faults of one kind have a line at most
abbrev pub most_told : ℕ
most_told = 1000

-- the text of the others' line
abbrev pub rest_text : ℕ → ℕ → List ℕ
rest_text kind more = get_or kind_texts kind [] ++ codes ": " ++ decimal more ++ codes " more"

-- These are faults of a device that failed.
abbrev pub is_device_kind : ℕ → Bool
is_device_kind kind = nat_eq kind (kind_of (Start Device))

-- The line of the others of a kind was written, if there are any, or there was no memory for it.
abbrev pub IsRestDone : ExportTask → ℕ → ℕ → Option (List ℕ) → Option (List ℕ) → Unit {0} → Unit {0}
    → Result Tally SessionError → Type 0
IsRestDone task kind more sink full old new result =
    ((more ≡ 0) × IsPassedOver sink full old new result)
    ⊎ ((0 < more) × IsRefusedLine task.folder.now (rest_text kind more) (is_device_kind kind) sink full result)
    ⊎ ((0 < more) × IsUnnamed sink full old new result)

-- The faults of a kind were told: the first ones, and how many there are besides.
abbrev pub IsKindDone : ExportTask → List Finding → ℕ → Option (List ℕ) → Option (List ℕ) → Unit {0} → Unit {0}
    → Result Tally SessionError → Type 0
IsKindDone task findings kind sink full old new result =
    Then (EachDone (IsLineDone task) (take most_told (of_kind task.owner kind findings)) none_counted)
    (IsRestDone task kind (length (of_kind task.owner kind findings) - most_told)) sink full old new result

-- These faults were told, and nothing else was done.
abbrev pub AreFindingsDone : {D : Type 0} → ExportTask → List Finding → Option (List ℕ) → Option (List ℕ) → D → D
    → Result Tally SessionError → Type 0
AreFindingsDone task findings sink full old new result =
    (new ≡ old) × EachDone (IsKindDone task findings) kinds none_counted sink full tt tt result
