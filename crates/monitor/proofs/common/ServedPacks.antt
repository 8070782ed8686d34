-- The layout of a disk that is served.
use Rattle.std.proofs.Common.{◌≡◌, inl, inr, ⊎_elim, List, Option}
use Rattle.blockdisk.specs.Common.{DiskState, LeavesOnly, leaves_weaker}
use Rattle.spec_machine.specs.Common.{StandsForEither, State, step}
use Rattle.spec_image.specs.Common.{pack_of, without_serials}
use Rattle.spec_machine.specs.declared.call.Event.{Event}
use Rattle.spec_machine.specs.declared.call.Reply.{Reply}
use Rattle.volume.specs.Common.{MemoryMap, StandsForOneOf}
use Rattle.volume.proofs.common.Packs.{pack_kept}
use Rattle.monitor.specs.Common.{IsState}
use Rattle.monitor.specs.declared.job.Job.{Job}

-- No event changes the layout.
pub event_keeps_pack : (d d' : DiskState) (map : MemoryMap) (jobs : List (Option Job)) (s after : State)
    (event : Event) (reply : Reply) → d'.size ≡ d.size → LeavesOnly d d' (StandsForEither (pack_of d) s event reply)
    → IsState d' map jobs after → pack_of d' ≡ pack_of d
event_keeps_pack d d' map jobs s after event reply size leaves is =
    let f = without_serials s.files in
    let g = without_serials (step (pack_of d) 0 s event).1.files in
    pack_kept d d' f g (without_serials after.files) size
    (leaves_weaker d d' (StandsForEither (pack_of d) s event reply) (StandsForOneOf (pack_of d) f g) leaves
    (λ c. ⊎_elim (λ before. inl before) (λ later. inr later.1))) is.files
