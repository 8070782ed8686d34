-- What a volume knows of the state that it stands for.
use Rattle.std.proofs.Common.{◌≡◌, List, Option, refl, sym, ap, ◌∙◌, false}
use Rattle.blockdisk.specs.Common.{DiskState}
use Rattle.spec_image.specs.Common.{Place, without_serials, same_place}
use Rattle.spec_machine.specs.Common.{State, outputs, is_claimed}
use Rattle.volume.specs.Common.{MemoryMap, IsSoundMemory, claims_at, claims}
use Rattle.monitor.specs.Common.{IsKnown, IsState}
use Rattle.monitor.specs.declared.job.Job.{Job}
use Rattle.monitor.proofs.common.ClaimSums.{one_if, same_any}
use Rattle.monitor.proofs.common.Rooms.{sum_is, creations_are, written_are, booked_is}
use Rattle.volume.proofs.common.Answers as volume

module _ (d : DiskState) (map : MemoryMap) (jobs : List (Option Job)) (s : State) (state : IsState d map jobs s) where
  claimed_is : (place : Place) → is_claimed s place ≡ claims map.pending place
  claimed_is place =
      same_any (λ o. same_place o.place place) (claims_at place) (outputs s) map.pending
      (sum_is d map jobs s state (λ o. one_if (same_place o.place place)) (λ v. one_if (claims_at place v)) refl
      (λ o p at side. ap (λ l. one_if (same_place l place)) (state.versions o.pending.key p at).place))

  pub known : IsSoundMemory d map false → d.honest → IsKnown d map s
  known sound honest =
      let holds = volume.rest_holds d map false sound honest refl (without_serials s.files) state.files in
      record {
        files = state.files;
        booked_is = booked_is d map jobs s state sound.whole holds
            ∙ sym (volume.booked_is d map (without_serials s.files) sound.whole holds);
        creations = creations_are d map jobs s state;
        written = written_are d map jobs s state sound.whole;
        claimed = claimed_is;
      }
