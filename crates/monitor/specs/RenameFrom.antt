-- What a RENAME requires of the file that it moves or deletes, and what becomes of the channel that had found it.
use Rattle.std.specs.Prelude.{◌≡◌, ℕ, ◌==◌, ◌&&◌, not, Bool, false, if◌then◌else◌, [], ◌∷◌, Option, None, Some}
use Rattle.std.specs.Prelude.{Result, Ok, Err, slice_set}
use Rattle.spec_image.specs.declared.code.ErrorCode.{ErrorCode}
use Rattle.spec_image.specs.declared.code.ErrorCode.TheVariants.{NotFound, NoDirectory, Protection, BeingModified}
use Rattle.spec_image.specs.Common.{number_of, Place}
use Rattle.spec_machine.specs.Common.{State, cleared, has_no_directory, is_absent, directory_digit_at, deletes_at}
use Rattle.spec_machine.specs.Common.{protection_at, is_forbidden, file_digit, directory_digit, may_look, may_rename}
use Rattle.spec_machine.specs.Common.{may_protect, is_claimed}
use Rattle.spec_machine.specs.declared.call.Reply.{Reply}
use Rattle.volume.specs.Common.{MemoryMap}
use Rattle.volume.specs.declared.error.CallError.{CallError}
use Rattle.monitor.specs.CloseSides.{Closes}
use Rattle.monitor.specs.Refusals.{with_code}
use Rattle.monitor.specs.declared.channel.OpenChannel.{OpenChannel}
use Rattle.monitor.specs.declared.found.Found.{Found}
use Rattle.monitor.specs.declared.input.Input.{Input}
use Rattle.monitor.specs.declared.job.Job.{Job}
use Rattle.spec_machine.specs.Jobs as machine
use Rattle.spec_machine.specs.declared.call.Reply.TheVariants as replies
use Rattle.volume.specs.declared.error.CallError.TheVariants as errors
use Rattle.monitor.specs.declared.found.Found.TheVariants as found

-- Whether a job may change a file of this protection: `who` asks, in the directory of `owner`.

-- its new protection is another one
abbrev pub is_other : Option ℕ → ℕ → Bool
is_other None own = false
is_other (Some protection) own = not (own == protection)

abbrev pub may_become : ℕ → Option ℕ → ℕ → ℕ → Bool
may_become own protection who owner = may_rename (file_digit own who owner)
    && not (is_other protection own && not (may_protect (file_digit own who owner)))

-- or why not, by what is found at its place

abbrev pub changes_file : ℕ → Option ℕ → ℕ → ℕ → Bool → Bool → Result (Unit {0}) ErrorCode
changes_file own protection who owner is_zero is_claimed =
    if is_zero then Err NotFound
    else if not (may_become own protection who owner) then Err Protection
    else if is_claimed then Err BeingModified
    else Ok tt

abbrev pub allowed_change : Found → ℕ → ℕ → Bool → Option ℕ → Bool → Result (Unit {0}) ErrorCode
allowed_change found.NoDirectory who owner is_zero protection is_claimed = Err NoDirectory
allowed_change (found.Absent p) who owner is_zero protection is_claimed =
    if not (may_look (directory_digit p who owner)) then Err Protection else Err NotFound
allowed_change (found.Present p own) who owner is_zero protection is_claimed =
    if not (may_look (directory_digit p who owner)) then Err Protection
    else changes_file own protection who owner is_zero is_claimed

-- The protection that the words at an address ask for: none if they delete the file.
abbrev pub asked_protection : machine.SpecJob → ℕ → Option ℕ
asked_protection job e = if deletes_at job e then None else Some (protection_at job e)

-- what the machine checks at the old place of a RENAME, before it checks the new one
abbrev pub change_answer : State → machine.SpecJob → ℕ → Place → Reply
change_answer s job e old =
    if has_no_directory s old then replies.Refused 1
    else if not (may_look (directory_digit_at s job old)) then replies.Refused 2
    else if is_absent s old then replies.Refused 0
    else if is_forbidden s job e old then replies.Refused 2
    else if is_claimed s old then replies.Refused 3
    else replies.Done

-- The answer is Done if the job may change the file, or else the refusal with the code.
abbrev pub IsChangeAnswer : Result (Unit {0}) ErrorCode → Reply → Type 0
IsChangeAnswer (Ok x) reply = reply ≡ replies.Done
IsChangeAnswer (Err code) reply = reply ≡ replies.Refused (number_of code)

-- The channel, whose input side is closed.
abbrev pub input_closed : OpenChannel → OpenChannel
input_closed c = record c { status = cleared c.status; input = None }

abbrev pub with_input_closed : Job → ℕ → OpenChannel → Job
with_input_closed job number c =
    record job { channels = slice_set job.channels number (Some (input_closed c)) }

-- If the volume made the change, the input side's version is unpinned once; otherwise memory is as it was.
abbrev pub CloseAfter : Result (Unit {0}) CallError → (c c' : MemoryMap) → Input → Type 0
CloseAfter (Ok x) c c' input = Closes c c' [] (input.pin.key ∷ []) × (c'.pending ≡ c.pending)
CloseAfter (Err error) c c' input = c' ≡ c

-- the answer to it
abbrev pub changed_reply : Result (Unit {0}) CallError → Reply
changed_reply (Ok x) = replies.Done
changed_reply (Err (errors.Refused code)) = replies.Refused (number_of code)
changed_reply (Err errors.NoMemory) = replies.NoMemory
changed_reply (Err errors.Device) = replies.Device
changed_reply (Err errors.Failed) = replies.Failed

-- and what it leaves of the job
abbrev pub changed_job : Result (Unit {0}) CallError → Job → ℕ → ℕ → OpenChannel → Job
changed_job (Ok x) job number address c = with_input_closed job number c
changed_job (Err (errors.Refused code)) job number address c = with_code job address (number_of code)
changed_job (Err errors.NoMemory) job number address c = job
changed_job (Err errors.Device) job number address c = job
changed_job (Err errors.Failed) job number address c = job
