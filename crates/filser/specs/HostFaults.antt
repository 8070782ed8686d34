-- Which standard streams must not be written to.
use Rattle.std.specs.Prelude.{◌≡◌, Bool, true, false}
use Rattle.filser.specs.declared.fault.HostFault.{HostFault}
use Rattle.filser.specs.declared.fault.HostFault.TheVariants.{System, InUse, Input, Output, Errors, Memory}
use Rattle.filser.specs.declared.fault.HostFault.TheVariants.{WrongLength}

-- nothing may be printed
abbrev pub forbids_output : HostFault → Bool
forbids_output (System error) = false
forbids_output InUse = false
forbids_output Input = false
forbids_output Output = true
forbids_output Errors = true
forbids_output Memory = true
forbids_output WrongLength = false

-- nothing may be reported
abbrev pub forbids_errors : HostFault → Bool
forbids_errors (System error) = false
forbids_errors InUse = false
forbids_errors Input = false
forbids_errors Output = false
forbids_errors Errors = true
forbids_errors Memory = false
forbids_errors WrongLength = false

-- one fault forbids each stream that another one forbids
abbrev pub Covers : HostFault → HostFault → Type 0
Covers fault other = (forbids_output other ≡ true → forbids_output fault ≡ true)
    × (forbids_errors other ≡ true → forbids_errors fault ≡ true)
