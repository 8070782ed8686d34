-- Why an image isn't served or made, and what is then printed.
use Rattle.std.specs.Prelude.{◌≡◌, ◌≢◌, ◌⊎◌, ℕ, List, Bool, true, false, Option, Some, None, Result, Ok, Err}
use Rattle.std.specs.Prelude.{option_map, pos, ◌≤ℤ◌}
use Rattle.std.specs.IoError.{error_kind}
use Rattle.std.specs.declared.fs.TryLockError.TheVariants.{WouldBlock, Error as LockFailed}
use Rattle.std.specs.declared.io.Error.{Error}
use Rattle.std.specs.declared.io.ErrorKind.TheVariants.{AlreadyExists}
use Rattle.imagefile.specs.Common.{FileState, HasTooManyBlocks, IsImageSize, Unseen, size_of}
use Rattle.imagefile.specs.declared.form.Form.{Form}
use Rattle.volume.specs.declared.error.VolumeError.TheVariants.{Device, NotVolume}
use Rattle.filser.specs.HostFaults.{forbids_output}
use Rattle.filser.specs.Hosts.{HostFacts}
use Rattle.filser.specs.Lines.{IsLine}
use Rattle.filser.specs.Refusals.{refusal_text, refusal_code}
use Rattle.filser.specs.Statuses.{status_code}
use Rattle.filser.specs.Streams.{IsStreamOf}
use Rattle.filser.specs.declared.fault.HostFault.{HostFault}
use Rattle.filser.specs.declared.fault.HostFault.TheVariants.{System, InUse}
use Rattle.filser.specs.declared.fault.ImageFault.{ImageFault}
use Rattle.filser.specs.declared.host.Access.{Access}
use Rattle.filser.specs.declared.refusal.Refusal.{Refusal}
use Rattle.filser.specs.declared.refusal.Refusal.TheVariants.{Exists, Start}
use Rattle.filser.specs.declared.status.Status.{Status}

-- The host refused a call.
abbrev pub of_host : HostFault → ImageFault
of_host host = record { refusal = Start Device; host = Some host }

-- An open file couldn't be locked: another process has it, or the system has another reason.
abbrev pub IsUnlocked : {F : Type 0} → HostFacts F → F → ImageFault → Type 0
IsUnlocked facts file fault = (facts.locked file (Err WouldBlock) × (fault ≡ of_host InUse))
    ⊎ ((error : Error) × facts.locked file (Err (LockFailed error)) × (fault ≡ of_host (System error)))

-- An open file can't be used: it has the number of a standard stream, or couldn't be locked.
abbrev pub IsUnfit : {F : Type 0} → HostFacts F → F → ImageFault → Type 0
IsUnfit facts file fault =
    ((stream : HostFault) × (facts.number file ≤ℤ pos 2) × IsStreamOf (facts.number file) stream
    × (fault ≡ of_host stream))
    ⊎ IsUnlocked facts file fault

-- The file at a path wasn't opened for this, or can't be used.
abbrev pub IsUnopened : {F : Type 0} → HostFacts F → List ℕ → Access → ImageFault → Type 0
IsUnopened {F} facts path access fault =
    ((error : Error) × facts.opened path access (Err error) × (fault ≡ of_host (System error)))
    ⊎ ((file : F) × facts.opened path access (Ok file) × IsUnfit facts file fault)

-- No file was made at a path: something is there, or the host couldn't make one.
abbrev pub IsUnmade : {F : Type 0} → HostFacts F → List ℕ → ImageFault → Type 0
IsUnmade facts path fault = (error : Error) × facts.created path (Err error) × (fault.host ≡ Some (System error))
    × (((error_kind error ≡ AlreadyExists) × (fault.refusal ≡ Exists))
    ⊎ ((error_kind error ≢ AlreadyExists) × (fault.refusal ≡ Start Device)))

-- A file was made, and can't be used, or wasn't filled with this many blocks in this form.
abbrev pub IsUnfilled : {F : Type 0} → HostFacts F → List ℕ → Form → ℕ → ImageFault → Type 0
IsUnfilled {F} facts path form blocks fault = (file : F) × facts.created path (Ok file)
    × (IsUnfit facts file fault
    ⊎ ((error : Error) × facts.filled file form blocks (Err error) × (fault ≡ of_host (System error))))

-- No file was made at a path, or the one that was made was to be removed.
abbrev pub IsCleared : {F : Type 0} → HostFacts F → List ℕ → ImageFault → Type 0
IsCleared facts path fault = IsUnmade facts path fault
    ⊎ ((result : Result (Unit {0}) Error) × facts.removed path result)

-- A device failed, and the reason is reported, if the host has given one.
abbrev pub IsDeviceFault : ImageFault → Type 0
IsDeviceFault fault = (fault.refusal ≡ Start Device) × ((error : Option Error) × (fault.host ≡ option_map System error))

-- No disk is made of a file, as its length shows; or its length couldn't be read.
abbrev pub IsNoDisk : Type 0 → FileState → ImageFault → Type 0
IsNoDisk Shown file fault =
    ((fault ≡ record { refusal = Start NotVolume; host = None }) × (file.honest → Shown))
    ⊎ (IsDeviceFault fault × (file.failures ≡ 1))

-- A file is not an image in this form.
abbrev pub IsNoImage : Form → Unseen → FileState → ImageFault → Type 0
IsNoImage form u file fault = IsNoDisk (IsImageSize form (size_of u) → ⊥) file fault

-- A file isn't one, even if it may be cut in the middle of a block: it has too many blocks.
abbrev pub IsNoCutImage : Form → Unseen → FileState → ImageFault → Type 0
IsNoCutImage form u file fault = IsNoDisk (HasTooManyBlocks form (size_of u)) file fault

-- What is printed.

-- nothing, with the status of the refusal; or its line
abbrev pub IsShown : Bool → Option (List ℕ) → Option (List ℕ) → Status → Refusal → Type 0
IsShown true sink full status refusal = (full ≡ sink) × (status_code status ≡ refusal_code refusal)
IsShown false sink full status refusal = IsLine sink full status (refusal_code refusal) (refusal_text refusal)

-- whether nothing may be printed
abbrev pub is_mute : Option HostFault → Bool
is_mute None = false
is_mute (Some host) = forbids_output host

-- The line of the refusal is printed, unless it would land in the image or there is no memory.
abbrev pub IsExplained : Option (List ℕ) → Option (List ℕ) → Status → ImageFault → Type 0
IsExplained sink full status fault = IsShown (is_mute fault.host) sink full status fault.refusal
