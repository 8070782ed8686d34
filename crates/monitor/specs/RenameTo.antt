-- What a RENAME requires of the place to which it moves a file.
use Rattle.std.specs.Prelude.{ℕ, ◌==◌, ◌&&◌, not, Bool, if◌then◌else◌, Result, Ok, Err}
use Rattle.spec_image.specs.declared.code.ErrorCode.{ErrorCode}
use Rattle.spec_image.specs.declared.code.ErrorCode.TheVariants.{NoDirectory, Protection, NameExists, BeingModified}
use Rattle.spec_image.specs.Common.{Place, same_place}
use Rattle.spec_machine.specs.Common.{State, has_no_directory, is_absent, directory_digit_at, directory_digit}
use Rattle.spec_machine.specs.Common.{may_create, is_claimed}
use Rattle.spec_machine.specs.declared.call.Reply.{Reply}
use Rattle.monitor.specs.declared.found.Found.{Found}
use Rattle.spec_machine.specs.Jobs as machine
use Rattle.spec_machine.specs.declared.call.Reply.TheVariants as replies
use Rattle.monitor.specs.declared.found.Found.TheVariants as found

-- Whether a job may give a file a place, by what is found there: `who` asks, in the directory of `owner`, which may be
-- another one than that of the file; and the place may be the file's own.

-- a job that may not create files there may not bring one there
abbrev pub is_kept_out : ℕ → ℕ → ℕ → Bool → Bool
is_kept_out protection who owner is_other = is_other && not (may_create (directory_digit protection who owner))

abbrev pub allowed_arrival : Found → ℕ → ℕ → Bool → Bool → Bool → Result (Unit {0}) ErrorCode
allowed_arrival found.NoDirectory who owner is_other is_same is_claimed = Err NoDirectory
allowed_arrival (found.Absent p) who owner is_other is_same is_claimed =
    if is_kept_out p who owner is_other then Err Protection
    else if is_same then Ok tt
    else if is_claimed then Err BeingModified
    else Ok tt
allowed_arrival (found.Present p own) who owner is_other is_same is_claimed =
    if is_kept_out p who owner is_other then Err Protection
    else if is_same then Ok tt
    else Err NameExists

-- what the machine checks at the new place of a RENAME, before it checks the room
abbrev pub arrival_answer : State → machine.SpecJob → Place → Place → Reply
arrival_answer s job old new =
    if has_no_directory s new then replies.Refused 1
    else if not (new.ppn == old.ppn) && not (may_create (directory_digit_at s job new)) then replies.Refused 2
    else if not (same_place new old) && not (is_absent s new) then replies.Refused 4
    else if not (same_place new old) && is_claimed s new then replies.Refused 3
    else replies.Done
