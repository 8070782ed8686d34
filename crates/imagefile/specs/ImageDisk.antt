-- What an `ImageDisk` is made of.
use Rattle.std.specs.Prelude.{ℕ}
use Rattle.imagefile.specs.declared.form.Form.{Form}
use Rattle.imagefile.specs.declared.image.ImageDisk.{ImageDisk}
use Rattle.imagefile.specs.declared.durable.Durable as durable

module _ {F : Type 0} {g : durable.Ghosts F} where
  abbrev pub file_of : ImageDisk F g → F
  file_of disk = disk.file.file

  abbrev pub form_of : ImageDisk F g → Form
  form_of disk = disk.form

  abbrev pub blocks_of : ImageDisk F g → ℕ
  blocks_of disk = disk.blocks
