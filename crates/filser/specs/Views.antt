-- How the disks and files of a run are seen.
use Rattle.blockdisk.specs.Common.{DiskState}
use Rattle.imagefile.specs.Common.{FileState}

pub record Views (M F D I : Type 0) : Type 1 where
  pub memory : M → DiskState
  pub file : F → FileState
  pub disk : D → DiskState
  pub image : I → DiskState
