-- The answers of calls that only read the files.
use Rattle.std.specs.Prelude.{◌≡◌, ℕ, ◌+◌, ◌-◌, length, ℤ, pos, ◌-ℤ◌, slice_get, Option, None, Some, Result, Ok, Err}
use Rattle.words36.specs.declared.names.FileName.{FileName}
use Rattle.spec_image.specs.Common.{blocks_of, cost_of_files, File, Files, Directory, name_cmp, get, space_start}
use Rattle.spec_image.specs.declared.entry.Entry.{Entry}
use Rattle.spec_image.specs.declared.code.ErrorCode.TheVariants.{NoDirectory, NotFound}
use Rattle.retrieval.specs.Common.{mode_number}
use Rattle.directory.specs.Common.{StandsAt}
use Rattle.volume.specs.CurrentMap.{CurrentVersion, CurrentDirectory}
use Rattle.volume.specs.declared.error.CallError.{CallError}
use Rattle.volume.specs.declared.file_facts.FileFacts.{FileFacts}
use Rattle.volume.specs.declared.error.CallError.TheVariants.{Refused, Device, NoMemory, Failed}

-- the blocks of the free space less what the files cost, and what is booked beyond them: a whole number that may be
-- below 0
abbrev pub room_of : ℕ → Files File → ℕ → ℤ
room_of size files beyond = pos (size - space_start size) -ℤ pos (cost_of_files files + beyond)

-- the protection of the directory, if there is one
abbrev pub protection_answer : Option (Directory File) → Result ℕ CallError
protection_answer None = Err (Refused NoDirectory)
protection_answer (Some d) = Ok d.protection

-- neither the device nor memory is blamed
abbrev pub IsPlainRefusal : CallError → Type 0
IsPlainRefusal (Refused code) = Unit {0}
IsPlainRefusal Device = ⊥
IsPlainRefusal NoMemory = ⊥
IsPlainRefusal Failed = Unit {0}

-- These are the facts of the file.
pub record IsShown (file : File) (facts : FileFacts) : Type 0 where
  pub protection : facts.protection ≡ file.protection
  pub mode : mode_number facts.mode ≡ file.mode
  pub time : facts.moment.minute ≡ file.time
  pub date : facts.moment.date ≡ file.date
  pub words : facts.words ≡ length file.body
  pub blocks : facts.blocks ≡ blocks_of (length file.body)

-- The answer for a file, or for none.
abbrev pub IsFileAnswer : Result FileFacts CallError → Option File → Type 0
IsFileAnswer answer None = answer ≡ Err (Refused NotFound)
IsFileAnswer answer (Some file) = (facts : FileFacts) × (answer ≡ Ok facts) × IsShown file facts

-- The same for a name in a directory, or in none.
abbrev pub IsLookAnswer : FileName → Result FileFacts CallError → Option (Directory File) → Type 0
IsLookAnswer name answer None = answer ≡ Err (Refused NoDirectory)
IsLookAnswer name answer (Some d) = IsFileAnswer answer (get d.files name)

-- The version of the entry with this name in a directory in memory, and its facts.
pub record IsNamedVersion (d : CurrentDirectory) (name : FileName) (facts : FileFacts) : Type 0 where
  pub place : ℕ
  pub prime : ℕ
  pub at : StandsAt name_cmp d.chain.entries name prime place
  pub version : CurrentVersion
  pub version_at : slice_get d.versions place ≡ Some version
  pub protection : facts.protection ≡ version.prime.protection
  pub mode : facts.mode ≡ version.prime.mode
  pub moment : facts.moment ≡ version.prime.moment
  pub words : facts.words ≡ version.version.words
  pub blocks : facts.blocks ≡ blocks_of version.version.words

-- The line of a file in the list of its directory.
abbrev pub line : FileName × File → Entry
line e = record {
  name = e.0;
  protection = e.1.protection;
  mode = e.1.mode;
  date = e.1.date;
  time = e.1.time;
  length = length e.1.body;
  blocks = blocks_of (length e.1.body);
}

-- The line of the entry with this name in a directory in memory.
abbrev pub IsLine : CurrentDirectory → FileName → Entry → Type 0
IsLine d name l = (facts : FileFacts) × IsNamedVersion d name facts
    × (l ≡ record {
      name = name;
      protection = facts.protection;
      mode = mode_number facts.mode;
      date = facts.moment.date;
      time = facts.moment.minute;
      length = facts.words;
      blocks = facts.blocks;
    })

-- Why a list is refused.
abbrev pub IsListError : CallError → Type 0
IsListError (Refused code) = code ≡ NoDirectory
IsListError Device = ⊥
IsListError NoMemory = Unit {0}
IsListError Failed = Unit {0}
