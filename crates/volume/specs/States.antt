-- A volume as a value: its disk, what it knows of it, whether it has failed, and the layout of the disk.
use Rattle.std.specs.Prelude.{Bool}
use Rattle.spec_image.specs.declared.layout.Layout.{Layout}
use Rattle.volume.specs.MemoryMap.{MemoryMap}

pub record VolumeState (D : Type 0) : Type 0 where
  pub disk : D
  pub map : MemoryMap
  -- a call met a fault of the disk: then nothing is known of the disk any more
  pub failed : Bool
  pub layout : Layout
