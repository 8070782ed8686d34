-- What a LOOKUP finds, and what it answers.
use Rattle.std.specs.Prelude.{◌≡◌, ◌⊎◌, ℕ, ◌<◌, ◌^◌, ◌==◌, ◌||◌, not, is_none, if◌then◌else◌, List, length, Option}
use Rattle.std.specs.Prelude.{None, Some, Result, Ok, Err}
use Rattle.words36.specs.declared.names.FileName.{FileName}
use Rattle.blockdisk.specs.Common.{Contents}
use Rattle.spec_image.specs.declared.code.ErrorCode.{ErrorCode}
use Rattle.spec_image.specs.declared.code.ErrorCode.TheVariants.{NotFound, NoDirectory, Protection}
use Rattle.spec_image.specs.Common.{number_of, blocks_of, File, Directory, get, SpecVersion, file_at}
use Rattle.spec_machine.specs.Common.{Channel, SpecJob, State, lookup_answer, place_at, directory_digit, file_digit}
use Rattle.spec_machine.specs.Common.{may_look, may_read}
use Rattle.spec_machine.specs.declared.call.Reply.{Reply}
use Rattle.spec_machine.specs.declared.call.Reply.TheVariants.{Done, Refused}
use Rattle.volume.specs.Common.{as_known, slot, IsVersionOf, IsShown}
use Rattle.volume.specs.declared.file_facts.FileFacts.{FileFacts}
use Rattle.volume.specs.declared.live.LiveVersion.{LiveVersion}
use Rattle.monitor.specs.declared.input.Input.{Input}

-- The protection has three digits, and the number of blocks fits into half a word: this holds for each file of a disk.
pub record HasShortFacts (file : File) : Type 0 where
  pub protection : file.protection < 512
  pub blocks : blocks_of (length file.body) < 2 ^ 18

-- The answer, by the directory, if there is one: `who` asks, in the directory of `owner`.

abbrev pub named_in : Option (Directory File) → FileName → Option File
named_in None name = None
named_in (Some d) name = get d.files name

abbrev pub digit_for : ℕ → ℕ → Option File → ℕ
digit_for who owner None = 7
digit_for who owner (Some file) = file_digit file.protection who owner

abbrev pub read_answer : ℕ → ℕ → FileName → Option (Directory File) → Reply
read_answer who owner name None = Refused 1
read_answer who owner name (Some d) =
    if not (may_look (directory_digit d.protection who owner)) then Refused 2
    else if (name.name == 0) || is_none (get d.files name) then Refused 0
    else if not (may_read (digit_for who owner (get d.files name))) then Refused 2
    else Done

-- the file that may be read has these facts, or the code is the answer's
abbrev pub IsReadAnswer : ℕ → ℕ → FileName → Option (Directory File) → Result FileFacts ErrorCode → Type 0
IsReadAnswer who owner name o (Ok facts) = (read_answer who owner name o ≡ Done)
    × ((file : File) × (named_in o name ≡ Some file) × IsShown file facts)
IsReadAnswer who owner name o (Err code) = read_answer who owner name o ≡ Refused (number_of code)

-- what a LOOKUP is refused with
abbrev pub IsLookupRefusal : ErrorCode → Type 0
IsLookupRefusal code = (code ≡ NoDirectory) ⊎ ((code ≡ Protection) ⊎ (code ≡ NotFound))

-- The version that is now pinned is the machine's at the place, and its file has these facts.
pub record IsInputOf (contents : Contents) (live : List (Option LiveVersion)) (s : State) (job : SpecJob)
    (e : ℕ) (input : Input) (facts : FileFacts) : Type 0 where
  pub version : SpecVersion
  pub there : file_at s.files (place_at job e) ≡ Some version
  pub shown : IsShown version.file facts
  pub protection : input.protection ≡ version.file.protection
  pub short : HasShortFacts version.file
  pub held : LiveVersion
  pub pinned_at : slot live input.pin.key ≡ Some held
  pub body : IsVersionOf contents (as_known held) version.file

-- the answer is the machine's
abbrev pub IsLookupAnswer : Contents → List (Option LiveVersion) → State → SpecJob → Channel → ℕ
    → Result (Input × FileFacts) ErrorCode → Type 0
IsLookupAnswer contents live s job c e (Ok found) = (lookup_answer s job c e (place_at job e) ≡ Done)
    × IsInputOf contents live s job e found.0 found.1
IsLookupAnswer contents live s job c e (Err code) = lookup_answer s job c e (place_at job e) ≡ Refused (number_of code)
