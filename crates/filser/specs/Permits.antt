-- What was done with files of the host that aren't images, by the permit for them.
use Rattle.std.specs.Prelude.{◌≡◌, List}
use Rattle.collection.specs.Common.{FileAct, acts_in}
use Rattle.filser.specs.declared.disks.Disks.{Disks}
use Rattle.filser.specs.declared.disks.Disks.TheVariants.{Served}
use Rattle.filser.specs.declared.host.FilesPermit.{FilesPermit}

-- the acts so far, the newest first
abbrev pub acts_of : FilesPermit → List FileAct
acts_of permit = acts_in permit.record

-- Unless the disk of an image was served, nothing was done.
abbrev pub MovesIfServed : {L F D I : Type 0} → Disks L F D I → List FileAct → List FileAct → Type 0
MovesIfServed (Served image) before after = Unit {0}
MovesIfServed disks before after = after ≡ before
