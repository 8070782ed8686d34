-- Versions: files as they were published, each with a serial that distinguishes it from all others. A serial is not
-- shown: it stays with a version that a rename moves, and is chosen anew at each start.
use Rattle.std.specs.Prelude.{ℕ, ◌+◌, ◌*◌, ◌^◌, ◌%◌, ◌==◌, ◌&&◌, Bool, Option, Some, None}
use Rattle.words36.specs.declared.names.FileName.{FileName}
use Rattle.spec_image.specs.Maps.{get, insert, remove}
use Rattle.spec_image.specs.Files.{File, Directory, Files, Place, map_files}

pub record SpecVersion : Type 0 where
  pub file : File
  -- a number that no other version has that is current or pinned by a reader
  pub serial : ℕ

-- the files alone
abbrev pub without_serials : Files SpecVersion → Files File
without_serials files = map_files (λ v. v.file) files

abbrev pub same_place : Place → Place → Bool
same_place a b = (a.ppn == b.ppn) && (a.name.name == b.name.name) && (a.name.ext == b.name.ext)

abbrev pub file_in : Option (Directory SpecVersion) → FileName → Option SpecVersion
file_in None name = None
file_in (Some d) name = get d.files name

-- the version that is current at a place
abbrev pub file_at : Files SpecVersion → Place → Option SpecVersion
file_at files place = file_in (get files place.ppn) place.name

abbrev pub with_file_in : Option (Directory SpecVersion) → Files SpecVersion → Place → SpecVersion → Files SpecVersion
with_file_in None files place v = files
with_file_in (Some d) files place v = insert files place.ppn (record d { files = insert d.files place.name v })

-- the files with this version at a place, if its directory exists
abbrev pub with_file : Files SpecVersion → Place → SpecVersion → Files SpecVersion
with_file files place v = with_file_in (get files place.ppn) files place v

abbrev pub without_file_in : Option (Directory SpecVersion) → Files SpecVersion → Place → Files SpecVersion
without_file_in None files place = files
without_file_in (Some d) files place = insert files place.ppn (record d { files = remove d.files place.name })

-- the files with no version at a place
abbrev pub without_file : Files SpecVersion → Place → Files SpecVersion
without_file files place = without_file_in (get files place.ppn) files place

abbrev pub with_protection : SpecVersion → ℕ → SpecVersion
with_protection v protection = record v { file = record v.file { protection = protection } }

-- protection, mode, time and the low twelve bits of the date in one word
abbrev pub attributes : File → ℕ
attributes f = f.protection * 2 ^ 27 + f.mode * 2 ^ 23 + f.time * 2 ^ 12 + f.date % 4096
