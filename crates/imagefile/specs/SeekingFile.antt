-- What a `SeekingFile` is made of.
use Rattle.imagefile.specs.Unseen.{Unseen}
use Rattle.imagefile.specs.declared.seeking_file.SeekingFile.{SeekingFile}
use Rattle.imagefile.specs.declared.system.SystemCalls as system

module _ {S : Type 0} {g : system.Ghosts S} where
  abbrev pub system_of : SeekingFile S g → S
  system_of file = file.calls

  -- what is supposed of it that no call shows
  abbrev pub unseen_of : SeekingFile S g → Unseen
  unseen_of file = file.supposed.unseen
