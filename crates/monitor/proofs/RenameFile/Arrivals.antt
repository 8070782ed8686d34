-- The place to which a file comes: the volume allows what the machine does.
use Rattle.std.proofs.Common.{◌≡◌, ℕ, Bool, true, false, Option, None, Some, Result, Ok, Err, refl, sym, subst, ◌∙◌}
use Rattle.std.specs.Prelude.{◌==◌, ◌&&◌, not, if◌then◌else◌, is_none, option_map}
use Rattle.words36.specs.declared.names.FileName.{FileName}
use Rattle.blockdisk.specs.Common.{DiskState}
use Rattle.spec_image.specs.declared.code.ErrorCode.{ErrorCode}
use Rattle.spec_image.specs.declared.code.ErrorCode.TheVariants.{Protection, NameExists, BeingModified}
use Rattle.spec_image.specs.Common.{Directory, Place, map_directory, get, SpecVersion, without_serials, file_in}
use Rattle.spec_image.specs.Common.{same_place}
use Rattle.spec_machine.specs.Common.{State, digit_for_directory, may_create, is_claimed}
use Rattle.spec_machine.specs.declared.call.Reply.{Reply}
use Rattle.spec_image.proofs.Common.{get-map_values, name_total}
use Rattle.volume.specs.Common.{claims, MemoryMap}
use Rattle.monitor.specs.Common.{is_kept_out, allowed_arrival, arrival_answer, IsChangeAnswer, found_file, found_in}
use Rattle.monitor.specs.Common.{IsKnown}
use Rattle.monitor.specs.declared.found.Found.{Found}
use Rattle.monitor.proofs.common.Growths.{shown_at}
use Rattle.spec_machine.specs.Jobs as machine
use Rattle.spec_machine.specs.declared.call.Reply.TheVariants as replies

-- what the machine answers, by what is there
abbrev answer_by : machine.SpecJob → ℕ → FileName → Option (Directory SpecVersion) → Bool → Bool → Bool → Reply
answer_by job owner name o is_other is_same is_claimed =
    if is_none o then replies.Refused 1
    else if is_other && not (may_create (digit_for_directory job owner o)) then replies.Refused 2
    else if not is_same && not (is_none (file_in o name)) then replies.Refused 4
    else if not is_same && is_claimed then replies.Refused 3
    else replies.Done

absent_by : (kept_out is_same is_claimed : Bool)
    → IsChangeAnswer (if kept_out then Err Protection else if is_same then Ok tt
    else if is_claimed then Err BeingModified else Ok tt)
    (if kept_out then replies.Refused 2 else if not is_same && not true then replies.Refused 4
    else if not is_same && is_claimed then replies.Refused 3 else replies.Done)
absent_by true is_same is_claimed = refl
absent_by false true is_claimed = refl
absent_by false false true = refl
absent_by false false false = refl

present_by : (kept_out is_same is_claimed : Bool)
    → IsChangeAnswer (if kept_out then Err Protection else if is_same then Ok tt else Err NameExists)
    (if kept_out then replies.Refused 2 else if not is_same && not false then replies.Refused 4
    else if not is_same && is_claimed then replies.Refused 3 else replies.Done)
present_by true is_same is_claimed = refl
present_by false true is_claimed = refl
present_by false false is_claimed = refl

arrival_by : (name : FileName) (owner : ℕ) (job : machine.SpecJob) (o : Option (Directory SpecVersion))
    (is_other is_same is_claimed : Bool)
    → IsChangeAnswer (allowed_arrival (found_in (option_map (map_directory (λ (v : SpecVersion). v.file)) o) name)
    job.ppn
    owner is_other is_same is_claimed) (answer_by job owner name o is_other is_same is_claimed)
arrival_by name owner job None is_other is_same is_claimed = refl
arrival_by name owner job (Some d) is_other is_same is_claimed =
    subst (λ f. IsChangeAnswer (allowed_arrival (found_file d.protection f) job.ppn owner is_other is_same is_claimed)
    (answer_by job owner name (Some d) is_other is_same is_claimed))
    (sym (get-map_values name_total (λ (v : SpecVersion). v.file) d.files name)) (by (get d.files name))
  where
    kept_out : Bool
    kept_out = is_kept_out d.protection job.ppn owner is_other

    by : (was : Option SpecVersion)
        → IsChangeAnswer (allowed_arrival (found_file d.protection (option_map (λ (v : SpecVersion). v.file) was))
        job.ppn
        owner is_other is_same is_claimed)
        (if kept_out then replies.Refused 2
        else if not is_same && not (is_none was) then replies.Refused 4
        else if not is_same && is_claimed then replies.Refused 3
        else replies.Done)
    by None = absent_by kept_out is_same is_claimed
    by (Some v) = present_by kept_out is_same is_claimed

arrival_is : (d : DiskState) (map : MemoryMap) (s : State) → IsKnown d map s → (job : machine.SpecJob) (old new : Place)
    → IsChangeAnswer (allowed_arrival (found_in (get (without_serials s.files) new.ppn) new.name) job.ppn new.ppn
    (not (new.ppn == old.ppn)) (same_place new old) (claims map.pending new)) (arrival_answer s job old new)
arrival_is d map s known job old new =
    subst (λ o. IsChangeAnswer (allowed_arrival (found_in o new.name) job.ppn new.ppn (not (new.ppn == old.ppn))
    (same_place new old) (claims map.pending new)) (arrival_answer s job old new)) (sym (shown_at s.files new.ppn))
    (subst (λ b. IsChangeAnswer (allowed_arrival
    (found_in (option_map (map_directory (λ (v : SpecVersion). v.file)) (get s.files new.ppn)) new.name) job.ppn new.ppn
    (not (new.ppn == old.ppn)) (same_place new old) b) (arrival_answer s job old new)) (known.claimed new)
    (arrival_by new.name new.ppn job (get s.files new.ppn) (not (new.ppn == old.ppn)) (same_place new old)
    (is_claimed s new)))

-- and answers what it does
pub arrival_answered : (d : DiskState) (map : MemoryMap) (s : State) → IsKnown d map s → (job : machine.SpecJob)
    (who : ℕ) (old new : Place) (there : Found) (is_other is_same claimed : Bool) (answer : Result (Unit {0}) ErrorCode)
    → job.ppn ≡ who → there ≡ found_in (get (without_serials s.files) new.ppn) new.name
    → is_other ≡ not (new.ppn == old.ppn) → is_same ≡ same_place new old → claimed ≡ claims map.pending new
    → answer ≡ allowed_arrival there who new.ppn is_other is_same claimed
    → IsChangeAnswer answer (arrival_answer s job old new)
arrival_answered d map s known job who old new there is_other is_same claimed answer caller found other same claim is =
    subst (λ r. IsChangeAnswer r (arrival_answer s job old new))
    (sym (is ∙ (λ i. allowed_arrival (found i) (sym caller i) new.ppn (other i) (same i) (claim i))))
    (arrival_is d map s known job old new)
