-- Streams that don't lead to a file of some words.
use Rattle.std.specs.Prelude.{◌≡◌, ◌⊎◌, ℕ, List, Bool, true, false, Option, Some, None, All}
use Rattle.filser.specs.Denials.{is_mute}
use Rattle.filser.specs.HostFaults.{forbids_errors, forbids_output}
use Rattle.filser.specs.Hosts.{HostFacts}
use Rattle.filser.specs.Streams.{IsStreamAt}
use Rattle.filser.specs.declared.fault.HostFault.{HostFault}

-- whether nothing may be reported
abbrev pub is_silent : Option HostFault → Bool
is_silent None = false
is_silent (Some stream) = forbids_errors stream

-- What is printed doesn't land in the file at this path, as the host answered.
pub record SparesOutput {F : Type 0} (facts : HostFacts F) (path : List ℕ) : Type 0 where
  pub stream : Option HostFault
  pub leads : IsStreamAt facts path stream
  pub free : is_mute stream ≡ false

-- What is reported doesn't.
pub record SparesErrors {F : Type 0} (facts : HostFacts F) (path : List ℕ) : Type 0 where
  pub stream : Option HostFault
  pub leads : IsStreamAt facts path stream
  pub free : is_silent stream ≡ false

-- What is printed would land in the file at this path, as the host answered.
pub record BarsOutput {F : Type 0} (facts : HostFacts F) (path : List ℕ) : Type 0 where
  pub stream : HostFault
  pub leads : IsStreamAt facts path (Some stream)
  pub barred : forbids_output stream ≡ true

-- What is reported would.
pub record BarsErrors {F : Type 0} (facts : HostFacts F) (path : List ℕ) : Type 0 where
  pub stream : HostFault
  pub leads : IsStreamAt facts path (Some stream)
  pub barred : forbids_errors stream ≡ true

-- Nothing was printed, or none of it lands in a file with one of these names.
abbrev pub SparesNamed : {F : Type 0} → HostFacts F → List (List ℕ) → Option (List ℕ) → Option (List ℕ) → Type 0
SparesNamed facts names sink full = (full ≡ sink) ⊎ All (SparesOutput facts) names
