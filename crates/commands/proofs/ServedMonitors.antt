-- A monitor that continues to serve keeps the pack of its disk.
use Rattle.std.proofs.Common.{◌≡◌, Bool, List, Option}
use Rattle.blockdisk.specs.Common.{DiskState, LeavesOnly}
use Rattle.spec_machine.specs.Common.{StandsForEither, State, Service, Serving, Broken, Answers}
use Rattle.spec_image.specs.Common.{pack_of}
use Rattle.spec_machine.specs.declared.call.Event.{Event}
use Rattle.spec_machine.specs.declared.call.Reply.{Reply}
use Rattle.volume.specs.Common.{MemoryMap}
use Rattle.monitor.specs.Common.{Serves}
use Rattle.monitor.specs.declared.job.Job.{Job}
use Rattle.monitor.proofs.common.ServedPacks.{event_keeps_pack}
use Rattle.commands.specs.Common.{KeepsPack, machine_of}

pub event_kept : (d d' : DiskState) (map map' : MemoryMap) (failed failed' : Bool) (jobs jobs' : List (Option Job))
    (event : Event) (reply : Reply) (old new : Service) → d'.size ≡ d.size
    → ((s : State) → Serves d map failed jobs (Serving s) → LeavesOnly d d' (StandsForEither (pack_of d) s event reply))
    → Serves d map failed jobs old → Serves d' map' failed' jobs' new → Answers (pack_of d) old event reply new
    → KeepsPack (machine_of d map failed jobs) (machine_of d' map' failed' jobs') new
event_kept d d' map map' failed failed' jobs jobs' event reply old Broken size crash before after answers = tt
event_kept d d' map map' failed failed' jobs jobs' event reply Broken (Serving t) size crash before after answers =
    absurd answers
event_kept d d' map map' failed failed' jobs jobs' event reply (Serving s) (Serving t) size crash before after answers =
    event_keeps_pack d d' map' jobs' s t event reply size (crash s before) after.1
