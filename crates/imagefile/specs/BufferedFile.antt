-- What a `BufferedFile` is made of.
use Rattle.imagefile.specs.declared.buffered.BufferedFile.{BufferedFile}
use Rattle.imagefile.specs.declared.durable.Durable as durable

module _ {F : Type 0} {g : durable.Ghosts F} where
  abbrev pub buffered_file : BufferedFile F g → F
  buffered_file buffered = buffered.file
