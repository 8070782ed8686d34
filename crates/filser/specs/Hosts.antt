-- What the host answered to calls on files. A body that is proved for every host can show one of these facts only by
-- the call that gives it.
use Rattle.std.specs.Prelude.{◌⊎◌, ℕ, ℤ, List, Option, Result, Ok, Err, pos, ◌<ℤ◌}
use Rattle.std.specs.declared.io.Error.{Error}
use Rattle.std.specs.declared.fs.TryLockError.{TryLockError}
use Rattle.imagefile.specs.Common.{Unseen}
use Rattle.imagefile.specs.declared.form.Form.{Form}
use Rattle.filser.specs.declared.host.Access.{Access}
use Rattle.filser.specs.declared.identity.FileId.{FileId}

-- over the open files of a host
pub record HostFacts (F : Type 0) : Type 1 where
  -- the file at a path was to be opened, for this
  pub opened : List ℕ → Access → Result F Error → Type 0
  -- a file was to be made at a path, if nothing is there
  pub created : List ℕ → Result F Error → Type 0
  -- a file was made to have the permission bits of the file at a path
  pub bits_of : F → List ℕ → Type 0
  -- a file was made to have those of any new file
  pub own_bits : F → Type 0
  -- a file was to be filled with this many blocks of zeros, in this form
  pub filled : F → Form → ℕ → Result (Unit {0}) Error → Type 0
  -- a file was to be locked for this process
  pub locked : F → Result (Unit {0}) TryLockError → Type 0
  -- the file that was made at a path was to be removed
  pub removed : List ℕ → Result (Unit {0}) Error → Type 0
  -- a path leads to this file, or to no file
  pub found : List ℕ → Option FileId → Type 0
  -- the number by which the system knows an open file
  pub number : F → ℤ
  -- what is supposed of an open file that the calls on it don't show
  pub supposed : F → Unseen → Type 0

-- A lock was requested, and the system gave it.
abbrev pub IsKept : {F : Type 0} → HostFacts F → F → Type 0
IsKept facts file = facts.locked file (Ok tt)

-- An open file that doesn't have the number of a standard stream, and is locked for this process.
pub record IsOwn {F : Type 0} (facts : HostFacts F) (file : F) : Type 0 where
  pub apart : pos 2 <ℤ facts.number file
  pub kept : IsKept facts file

-- The file at this path was opened for this and locked for this process, and this is supposed of it.
pub record IsOpened {F : Type 0} (facts : HostFacts F) (path : List ℕ) (access : Access) (u : Unseen) : Type 0 where
  pub file : F
  pub opened : facts.opened path access (Ok file)
  pub own : IsOwn facts file
  pub supposed : facts.supposed file u

-- A file was made at this path, to have the permission bits of the file at another one; or none could be made.
abbrev pub IsMadeLike : {F : Type 0} → HostFacts F → List ℕ → List ℕ → Type 0
IsMadeLike {F} facts path other = ((error : Error) × facts.created path (Err error))
    ⊎ ((file : F) × facts.created path (Ok file) × facts.bits_of file other)

-- A file was made at this path, to have the permission bits of any new file; or none could be made.
abbrev pub IsMadePlain : {F : Type 0} → HostFacts F → List ℕ → Type 0
IsMadePlain {F} facts path = ((error : Error) × facts.created path (Err error))
    ⊎ ((file : F) × facts.created path (Ok file) × facts.own_bits file)

-- A file was made at this path, where nothing was, and filled with this many blocks of zeros in this form; and this is
-- supposed of it.
pub record IsMade {F : Type 0} (facts : HostFacts F) (path : List ℕ) (form : Form) (blocks : ℕ) (u : Unseen)
    : Type 0 where
  pub file : F
  pub created : facts.created path (Ok file)
  pub own : IsOwn facts file
  pub filled : facts.filled file form blocks (Ok tt)
  pub supposed : facts.supposed file u
