-- The outcome of one call on a file, and why a file answers Device.
use Rattle.std.specs.Prelude.{◌≡◌, ◌≢◌, ◌<◌, ◌^◌, ℕ, zero, suc, Option, Some, None, Result, Ok, Err}
use Rattle.std.specs.declared.io.Error.{Error}
use Rattle.std.specs.declared.io.ErrorKind.{ErrorKind}
use Rattle.std.specs.declared.io.ErrorKind.TheVariants.{UnexpectedEof, InvalidInput}
use Rattle.std.specs.IoError.{error_kind}
use Rattle.imagefile.specs.Host.{the_first_of}

pub data Outcome : Type 0 where
  -- the call failed with this error
  Failed : Error → Outcome
  -- a read or a write of at least one byte moved none
  Stalled : Outcome
  -- a read or a write moved some bytes, or was to move none
  Moved : Outcome
  -- the file has this length
  Measured : ℕ → Outcome
  -- all written data is on the device
  Synced : Outcome

-- the outcome of a read or a write of n bytes
abbrev pub move_outcome : ℕ → Result ℕ Error → Outcome
move_outcome asked (Err error) = Failed error
move_outcome zero (Ok count) = Moved
move_outcome (suc asked) (Ok zero) = Stalled
move_outcome (suc asked) (Ok (suc count)) = Moved

-- the outcome of a call for the length
abbrev pub size_outcome : Result ℕ Error → Outcome
size_outcome (Err error) = Failed error
size_outcome (Ok size) = Measured size

abbrev pub sync_outcome : Result (Unit {0}) Error → Outcome
sync_outcome (Err error) = Failed error
sync_outcome (Ok done) = Synced

-- This outcome is a reason to answer Device, and `told` is the error that explains it: the call's own error if it
-- failed, one of this kind if it moved nothing, UnexpectedEof if the file has another length than expected.
abbrev pub IsWhy : ErrorKind → Option ℕ → Outcome → Error → Type 0
IsWhy kind wanted (Failed error) told = told ≡ error
IsWhy kind wanted Stalled told = error_kind told ≡ kind
IsWhy kind wanted Moved told = ⊥
IsWhy kind None (Measured size) told = ⊥
IsWhy kind (Some length) (Measured size) told = (size ≢ length) × (error_kind told ≡ UnexpectedEof)
IsWhy kind wanted Synced told = ⊥

-- The last call before `now` is the cause of a Device, and its error is stored if no earlier one was.
pub record HasCause {C : Type 0} (ended : C → C → Outcome → Type 0) (now : C) (kind : ErrorKind) (wanted : Option ℕ)
    (before after : Option Error) : Type 0 where
  pub from : C
  pub outcome : Outcome
  pub call : ended from now outcome
  pub error : Error
  pub why : IsWhy kind wanted outcome error
  pub told : after ≡ the_first_of before error

-- Some place before `end` exceeds the largest offset, so no call could be made for it.
pub record IsPastAll (end : ℕ) (before after : Option Error) : Type 0 where
  pub past : 2 ^ 64 < end
  pub error : Error
  pub why : error_kind error ≡ InvalidInput
  pub told : after ≡ the_first_of before error

-- If a length is expected, one call read the length and got that one.
abbrev pub Looked : {C : Type 0} → (C → C → Outcome → Type 0) → Option ℕ → C → C → Type 0
Looked ended None from now = now ≡ from
Looked ended (Some length) from now = ended from now (Measured length)

-- That, and then a sync.
pub record LookedAndSynced {C : Type 0} (ended : C → C → Outcome → Type 0) (wanted : Option ℕ) (from now : C)
    : Type 0 where
  pub between : C
  pub looked : Looked ended wanted from between
  pub synced : ended between now Synced
