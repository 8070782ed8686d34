-- A monitor as a service of files.
use Rattle.std.specs.Prelude.{Bool, List, Option}
use Rattle.blockdisk.specs.Common.{DiskState}
use Rattle.volume.specs.Common.{MemoryMap}
use Rattle.spec_image.specs.Common.{pack_of}
use Rattle.monitor.specs.Common.{Serves}
use Rattle.monitor.specs.declared.job.Job.{Job}
use Rattle.commands.specs.Machines.{Machine}

abbrev pub machine_of : DiskState → MemoryMap → Bool → List (Option Job) → Machine
machine_of d map failed jobs = record {
  pack = pack_of d;
  honest = d.honest;
  disk = d;
  serves = Serves d map failed jobs;
}
