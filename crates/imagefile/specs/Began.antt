-- The disk of an image whose file began in a given state.
use Rattle.std.specs.Prelude.{◌≡◌, ◌<◌, ◌+◌, ◌*◌, ℕ, []}
use Rattle.blockdisk.specs.Common.{DiskState, Still}
use Rattle.imagefile.specs.Image.{block_length, image_state}
use Rattle.imagefile.specs.declared.form.Form.{Form}
use Rattle.imagefile.specs.Unseen.{Unseen, size_of}
use Rattle.imagefile.specs.Recorded.{recorded}

-- the disk of n blocks over a file that began like this and has not been used yet
abbrev pub begun_image : Form → ℕ → Unseen → DiskState
begun_image form blocks u = image_state form blocks (recorded u [])

-- The file under this disk began like this and was only read since. While the disk is honest, it holds what it held
-- before the first call, and a crash leaves what it could leave then.
pub record BeganAs (form : Form) (u : Unseen) (d : DiskState) : Type 0 where
  pub size : d.honest → size_of u ≡ block_length form * d.size
  pub still : d.honest → Still (begun_image form d.size u) d

-- The same for a disk of the whole blocks of a file that `tail` bytes follow.
pub record BeganCut (form : Form) (u : Unseen) (tail : ℕ) (d : DiskState) : Type 0 where
  pub size : d.honest → size_of u ≡ block_length form * d.size + tail
  pub short : tail < block_length form
  pub still : d.honest → Still (begun_image form d.size u) d
