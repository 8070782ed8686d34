-- What is in memory, as values.
use Rattle.std.specs.Prelude.{map}
use Rattle.spec_image.specs.Common.{master_word}
use Rattle.directory.specs.declared.file.FileEntry.{FileEntry}
use Rattle.directory.specs.declared.master.MasterEntry.{MasterEntry}
use Rattle.directory.specs.Common.{viewed}
use Rattle.volume.specs.CurrentMap.{CurrentVersion, CurrentDirectory, CurrentMap}
use Rattle.volume.specs.declared.read_file.LoadedVersion.{LoadedVersion}
use Rattle.volume.specs.declared.volume.LoadedDirectory.{LoadedDirectory}
use Rattle.volume.specs.declared.volume.LoadedMap.{LoadedMap}
use Rattle.spec_image.specs.Directories as words

-- an entry as a key and what it names
abbrev pub file_view : FileEntry → words.SpecFileEntry
file_view e = (e.name, e.prime)

abbrev pub master_view : MasterEntry → words.SpecMasterEntry
master_view e = (e.ppn, (master_word e.protection e.quota, e.first))

abbrev pub known_version : LoadedVersion → CurrentVersion
known_version v = record { prime = v.prime; version = v.version }

abbrev pub known_directory : LoadedDirectory → CurrentDirectory
known_directory d = record { chain = viewed file_view d.chain; versions = map known_version d.versions.items }

abbrev pub known_of : LoadedMap → CurrentMap
known_of m = record {
  master = viewed master_view m.master;
  directories = map known_directory m.directories.items;
  table = m.table;
}
