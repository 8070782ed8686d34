-- The states of a file that a disk is made of, or that is refused.
use Rattle.std.specs.Prelude.{◌≡◌, ◌<◌, ◌+◌, ◌*◌, ◌^◌, ℕ}
use Rattle.blockdisk.specs.Common.{one_more}
use Rattle.imagefile.specs.File.{FileState, FileKeeps, SameFile}
use Rattle.imagefile.specs.Image.{block_length, IsImageSize, HasTooManyBlocks}
use Rattle.imagefile.specs.declared.form.Form.{Form}
use Rattle.imagefile.specs.declared.size.ImageError.{ImageError}
use Rattle.imagefile.specs.declared.size.ImageError.TheVariants.{BadSize, Device}

-- The file, which was s and is s' now, is an image of `blocks` blocks.
pub record IsImageOf (form : Form) (blocks : ℕ) (s s' : FileState) : Type 0 where
  pub sized : s'.honest → s.size ≡ block_length form * blocks
  pub few : blocks < 2 ^ 32
  pub keeps : s'.honest → FileKeeps s s'
  pub same : SameFile s s'
  pub served : s'.failures ≡ s.failures

-- It is handed back with this error.
pub record IsNoImage (form : Form) (error : ImageError) (s s' : FileState) : Type 0 where
  pub kept : s'.honest → FileKeeps s s'
  pub stays : SameFile s s'
  pub bad : s'.honest → error ≡ BadSize → IsImageSize form s.size → ⊥
  pub failed : error ≡ Device → s'.failures ≡ one_more s.failures
  pub counted : error ≡ BadSize → s'.failures ≡ s.failures

-- The file, which was s and is s' now, has `blocks` whole blocks, and `tail` bytes follow them.
pub record IsCutImage (form : Form) (blocks tail : ℕ) (s s' : FileState) : Type 0 where
  pub sized : s'.honest → s.size ≡ block_length form * blocks + tail
  pub short : tail < block_length form
  pub few : blocks < 2 ^ 32
  pub keeps : s'.honest → FileKeeps s s'
  pub same : SameFile s s'
  pub served : s'.failures ≡ s.failures

-- It is handed back with this error, though a part of a block would have been left out.
pub record IsNoCutImage (form : Form) (error : ImageError) (s s' : FileState) : Type 0 where
  pub kept : s'.honest → FileKeeps s s'
  pub stays : SameFile s s'
  pub bad : s'.honest → error ≡ BadSize → HasTooManyBlocks form s.size
  pub failed : error ≡ Device → s'.failures ≡ one_more s.failures
  pub counted : error ≡ BadSize → s'.failures ≡ s.failures
