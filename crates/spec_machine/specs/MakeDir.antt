-- MakeDir makes a directory, by two words at an address: its owner, and its protection in bits 0 to 8. DeleteDir
-- removes an empty directory: the first word is its owner, and the second takes a refusal's code. Quota gives a
-- directory another quota, by the left half of the second word; its right half, which takes a refusal's code, isn't
-- read.
use Rattle.std.specs.Prelude.{ℕ, ◌+◌, ◌==◌, ◌||◌, ◌&&◌, not, Bool, is_some, is_none, if◌then◌else◌, slice_index}
use Rattle.words36.specs.Common.{left, right}
use Rattle.spec_image.specs.Common.{files_limited, get, insert, remove, empty, size, Directory, Files, SpecVersion}
use Rattle.spec_image.specs.Common.{Pack}
use Rattle.spec_image.specs.Common.{growth}
use Rattle.spec_machine.specs.Rights.{system}
use Rattle.spec_machine.specs.Cores.{lies_outside}
use Rattle.spec_machine.specs.Jobs.{SpecJob, State}
use Rattle.spec_machine.specs.Room.{entry_count, exceeds_room}
use Rattle.spec_machine.specs.Charges.{is_limited}
use Rattle.spec_machine.specs.Enter.{protection_or}
use Rattle.spec_machine.specs.Outcomes.{settled, refused_at}
use Rattle.spec_machine.specs.declared.call.Reply.{Reply}
use Rattle.spec_machine.specs.declared.call.Reply.TheVariants.{Done, Refused, AddressCheck}

abbrev pub owner_at : SpecJob → ℕ → ℕ
owner_at job e = slice_index job.core e

-- neither [1,2] nor the owner of the directory
abbrev pub is_stranger : SpecJob → ℕ → Bool
is_stranger job owner = not ((job.ppn == system) || (job.ppn == owner))

abbrev pub make_answer : Pack → State → SpecJob → ℕ → ℕ → Reply
make_answer pack s job e owner =
    if lies_outside job.core e 2 then AddressCheck
    else if (left owner == 0) || (right owner == 0) then Refused 1
    else if is_stranger job owner then Refused 2
    else if is_some (get s.files owner) then Refused 4
    else if exceeds_room pack s (1 + growth (size s.files)) then Refused 0o14
    else Done

abbrev pub directory_made : SpecJob → ℕ → Directory SpecVersion
directory_made job e = record {
  protection = protection_or (slice_index job.core (e + 1)) 0o775;
  quota = 0;
  files = empty;
}

abbrev pub makes : Pack → State → SpecJob → ℕ → Reply × (SpecJob × Files SpecVersion)
makes pack s job e =
    settled (make_answer pack s job e (owner_at job e)) (job, insert s.files (owner_at job e) (directory_made job e))
    (λ reply. (refused_at job e reply, s.files))

-- only [1,2] removes a directory that has a quota
abbrev pub may_not_remove : State → SpecJob → ℕ → Bool
may_not_remove s job owner = is_stranger job owner || (is_limited s owner && not (job.ppn == system))

-- an entry prevents it, and so does a file that is being created
abbrev pub remove_answer : State → SpecJob → ℕ → ℕ → Reply
remove_answer s job e owner =
    if lies_outside job.core e 2 then AddressCheck
    else if is_none (get s.files owner) then Refused 1
    else if may_not_remove s job owner then Refused 2
    else if not (entry_count s owner == 0) then Refused 0o22
    else Done

abbrev pub removes : State → SpecJob → ℕ → Reply × (SpecJob × Files SpecVersion)
removes s job e =
    settled (remove_answer s job e (owner_at job e)) (job, remove s.files (owner_at job e))
    (λ reply. (refused_at job e reply, s.files))

abbrev pub quota_at : SpecJob → ℕ → ℕ
quota_at job e = left (slice_index job.core (e + 1))

-- layout 1 has no quotas
abbrev pub limit_answer : Pack → State → SpecJob → ℕ → ℕ → Reply
limit_answer pack s job e owner =
    if lies_outside job.core e 2 then AddressCheck
    else if pack.layout == 1 then Refused 5
    else if is_none (get s.files owner) then Refused 1
    else if not (job.ppn == system) then Refused 2
    else Done

abbrev pub limits : Pack → State → SpecJob → ℕ → Reply × (SpecJob × Files SpecVersion)
limits pack s job e =
    settled (limit_answer pack s job e (owner_at job e))
    (job, files_limited s.files (owner_at job e) (quota_at job e)) (λ reply. (refused_at job e reply, s.files))
