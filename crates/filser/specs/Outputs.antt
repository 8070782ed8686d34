-- Why the output failed.
use Rattle.std.specs.Prelude.{ℕ, zero, suc, Option, Some, None, Result, Ok, Err}
use Rattle.std.specs.declared.io.Error.{Error}
use Rattle.filser.specs.declared.output.OutputFault.{OutputFault}
use Rattle.filser.specs.declared.output.OutputFault.TheVariants.{System, NoByte}

-- a write of some bytes that took none
abbrev pub fault_of_count : ℕ → ℕ → Option OutputFault
fault_of_count zero taken = None
fault_of_count (suc given) zero = Some NoByte
fault_of_count (suc given) (suc taken) = None

-- the fault that a write of this many bytes shows
abbrev pub fault_of_write : ℕ → Result ℕ Error → Option OutputFault
fault_of_write given (Ok taken) = fault_of_count given taken
fault_of_write given (Err error) = Some (System error)

-- the fault that a flush shows
abbrev pub fault_of_flush : {T : Type 0} → Result T Error → Option OutputFault
fault_of_flush (Ok value) = None
fault_of_flush (Err error) = Some (System error)
