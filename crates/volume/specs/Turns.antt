-- The turns in which the files of a directory are read, and what was read in them.
use Rattle.std.specs.Prelude.{ℕ}
use Rattle.spec_image.specs.Common.{SpecFileEntry}
use Rattle.directory.specs.declared.file.FileEntry.{FileEntry as EntryValue}
use Rattle.volume.specs.declared.read_file.LoadedVersion.{LoadedVersion}
use Rattle.volume.specs.declared.turns.Turn.{Turn}
use Rattle.volume.specs.declared.turns.PlacedVersion.{PlacedVersion}
use Rattle.volume.specs.CurrentMap.{CurrentVersion}
use Rattle.volume.specs.MemoryValues.{file_view, known_version}

-- an entry in its turn, as a directory on the disk has it
abbrev pub turn_view : Turn → SpecFileEntry
turn_view t = file_view t.entry

-- a version that was read, as it is known in memory
abbrev pub placed_known : PlacedVersion → CurrentVersion
placed_known p = known_version p.stored

-- With its place in the directory.

abbrev pub numbered_entry : Turn → ℕ × EntryValue
numbered_entry t = (t.place, t.entry)

abbrev pub numbered_version : PlacedVersion → ℕ × LoadedVersion
numbered_version p = (p.place, p.stored)
