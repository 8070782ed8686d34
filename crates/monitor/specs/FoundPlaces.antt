-- What a volume has at a place, and what an ENTER may do there.
use Rattle.std.specs.Prelude.{◌≡◌, ℕ, ◌+◌, ◌%◌, ◌==◌, ◌&&◌, not, Bool, false, if◌then◌else◌, [], Option, None, Some}
use Rattle.std.specs.Prelude.{Result, Ok, Err, slice_index}
use Rattle.words36.specs.declared.names.FileName.{FileName}
use Rattle.words36.specs.declared.moment.Moment.{Moment}
use Rattle.words36.specs.Common.{left}
use Rattle.blockdisk.specs.Common.{DiskState}
use Rattle.spec_image.specs.declared.code.ErrorCode.{ErrorCode}
use Rattle.spec_image.specs.declared.code.ErrorCode.TheVariants.{NotFound, NoDirectory, Protection, BeingModified}
use Rattle.spec_machine.specs.Common.{pending_cost_in, begin_answer, State, own_if_zero, has_no_directory, file_digit}
use Rattle.spec_machine.specs.Common.{directory_digit, may_look, may_create, may_supersede, is_claimed}
use Rattle.spec_machine.specs.Common.{pending_creations, booked, is_plain}
use Rattle.spec_image.specs.Common.{number_of, File, Directory, Place, get, total, without_serials, Pack}
use Rattle.spec_machine.specs.declared.call.Reply.{Reply}
use Rattle.retrieval.specs.Common.{mode_number}
use Rattle.retrieval.specs.declared.mode.Mode.{Mode}
use Rattle.retrieval.specs.declared.prime.Prime.{Prime}
use Rattle.volume.specs.Common.{writes_in, claims, MemoryMap, creates, RestsAt}
use Rattle.volume.specs.declared.error.CallError.{CallError}
use Rattle.volume.specs.declared.pending.PendingKind.{PendingKind}
use Rattle.monitor.specs.declared.found.Found.{Found}
use Rattle.monitor.specs.declared.job.Job.{Job}
use Rattle.spec_machine.specs.Jobs as machine
use Rattle.spec_machine.specs.declared.call.Reply.TheVariants as replies
use Rattle.volume.specs.declared.error.CallError.TheVariants as errors
use Rattle.volume.specs.declared.pending.PendingKind.TheVariants as kinds
use Rattle.monitor.specs.declared.found.Found.TheVariants as found

-- What a volume knows of a state: its files, and what is booked, being created, being written and claimed.
pub record IsKnown (d : DiskState) (map : MemoryMap) (s : State) : Type 0 where
  pub files : RestsAt d (without_serials s.files)
  pub booked_is : booked s ≡ map.known.table.booked
  pub creations : (ppn : ℕ) → pending_creations s ppn ≡ total (creates ppn) map.pending
  pub written : (ppn : ℕ) → pending_cost_in s ppn ≡ total (writes_in ppn) map.pending
  pub claimed : (place : Place) → is_claimed s place ≡ claims map.pending place

-- What is under a name.

abbrev pub found_file : ℕ → Option File → Found
found_file protection None = found.Absent protection
found_file protection (Some f) = found.Present protection f.protection

abbrev pub found_in : Option (Directory File) → FileName → Found
found_in None name = found.NoDirectory
found_in (Some d) name = found_file d.protection (get d.files name)

-- How a job may begin to write there, or why not: `who` asks, in the directory of `owner`.

abbrev pub begun_as : PendingKind → Bool → Bool → Bool → Result PendingKind ErrorCode
begun_as kind may is_zero is_claimed = if is_zero then Err NotFound else if not may then Err Protection
    else if is_claimed then Err BeingModified else Ok kind

abbrev pub allowed : Found → ℕ → ℕ → Bool → Bool → Result PendingKind ErrorCode
allowed found.NoDirectory who owner is_zero is_claimed = Err NoDirectory
allowed (found.Absent p) who owner is_zero is_claimed = begun_as kinds.Create
    (may_create (directory_digit p who owner)) is_zero is_claimed
allowed (found.Present p q) who owner is_zero is_claimed = begun_as kinds.Supersede
    (may_look (directory_digit p who owner)
    && may_supersede (file_digit q who owner)) is_zero is_claimed

-- how a version begins: in the place of the file that is there, or as a new one
abbrev pub kind_for : Found → PendingKind
kind_for found.NoDirectory = kinds.Create
kind_for (found.Absent p) = kinds.Create
kind_for (found.Present p q) = kinds.Supersede

-- the protection of what is written: the old file's, which has three digits, if there is one, else the one that is
-- asked for
abbrev pub protection_for : Found → ℕ → ℕ
protection_for found.NoDirectory asked = asked
protection_for (found.Absent p) asked = asked
protection_for (found.Present p q) asked = q % 512

-- an empty file, by its prime block
abbrev pub file_begun : Prime → File
file_begun prime = record {
  protection = prime.protection;
  mode = mode_number prime.mode;
  time = prime.moment.minute;
  date = prime.moment.date;
  body = [];
}

-- the answer is the machine's; it is a lack of memory only if the machine's answer isn't a plain one
abbrev pub IsAnswer : {X : Type 0} → Result X CallError → Reply → Type 0
IsAnswer (Ok x) reply = reply ≡ replies.Done
IsAnswer (Err (errors.Refused code)) reply = reply ≡ replies.Refused (number_of code)
IsAnswer (Err errors.Device) reply = ⊥
IsAnswer (Err errors.NoMemory) reply = is_plain reply ≡ false
IsAnswer (Err errors.Failed) reply = ⊥

-- The prime block is that of the place which the words at an address name.
pub record IsPrimeAt (job : Job) (mode : Mode) (address : ℕ) (moment : Moment) (prime : Prime) : Type 0 where
  pub ppn : prime.ppn ≡ own_if_zero (slice_index job.core (address + 3)) job.ppn
  pub name : prime.file.name ≡ slice_index job.core address
  pub ext : prime.file.ext ≡ left (slice_index job.core (address + 1))
  pub mode_is : prime.mode ≡ mode
  pub moment_is : prime.moment ≡ moment

-- what the machine answers to an ENTER that may still begin, on a channel without sides
abbrev pub begin_answer_at : Pack → State → machine.SpecJob → Place → Reply
begin_answer_at pack s job place =
    if has_no_directory s place then replies.Refused 1
    else if place.name.name == 0 then replies.Refused 0
    else begin_answer pack s job None place
