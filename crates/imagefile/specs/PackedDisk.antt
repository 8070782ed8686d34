-- What a `PackedDisk` is made of.
use Rattle.std.specs.Prelude.{ℕ}
use Rattle.imagefile.specs.declared.packed.PackedDisk.{PackedDisk}
use Rattle.imagefile.specs.declared.durable.Durable as durable

module _ {F : Type 0} {g : durable.Ghosts F} where
  abbrev pub file_of : PackedDisk F g → F
  file_of disk = disk.file

  abbrev pub blocks_of : PackedDisk F g → ℕ
  blocks_of disk = disk.blocks
