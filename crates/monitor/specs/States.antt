-- A monitor as a value: its disk, what it knows of it, whether it has failed, the jobs, and the layout of the disk.
use Rattle.std.specs.Prelude.{Bool, List, Option}
use Rattle.spec_image.specs.declared.layout.Layout.{Layout}
use Rattle.monitor.specs.declared.job.Job.{Job}
use Rattle.volume.specs.Common.{MemoryMap}

pub record MonitorState (D : Type 0) : Type 0 where
  pub disk : D
  pub map : MemoryMap
  pub failed : Bool
  pub jobs : List (Option Job)
  pub layout : Layout
