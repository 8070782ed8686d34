-- The standard streams: which of them is missing, and which leads to a file.
use Rattle.std.specs.Prelude.{◌≡◌, ◌≢◌, ◌⊎◌, ℕ, ℤ, List, Option, Some, None, codes, pos}
use Rattle.std.specs.Fd.{file_raw_fd}
use Rattle.filser.specs.Hosts.{HostFacts}
use Rattle.filser.specs.declared.fault.HostFault.{HostFault}
use Rattle.filser.specs.declared.fault.HostFault.TheVariants.{Input, Output, Errors}
use Rattle.filser.specs.declared.identity.FileId.{FileId}
use Rattle.filser.specs.declared.streams.MissingStreams.{MissingStreams}

-- Missing streams.

-- the stream of this number is missing, since a file has it
abbrev pub IsMissing : MissingStreams → ℤ → Type 0
IsMissing missing number = (file_raw_fd missing.first ≡ number) ⊎ (file_raw_fd missing.second ≡ number)
    ⊎ (file_raw_fd missing.third ≡ number)

-- the input is missing, or the output
abbrev pub AreNeeded : MissingStreams → Type 0
AreNeeded missing = IsMissing missing (pos 0) ⊎ IsMissing missing (pos 1)

-- Streams that lead to a file.

-- the stream of a number up to 2, as a fault of a file that it leads to
abbrev pub IsStreamOf : ℤ → HostFault → Type 0
IsStreamOf number stream = ((number ≡ pos 0) × (stream ≡ Input)) ⊎ ((number ≡ pos 1) × (stream ≡ Output))
    ⊎ ((number ≢ pos 0) × (number ≢ pos 1) × (stream ≡ Errors))

-- one file is at both paths, as the host answered
pub record LeadToOne {F : Type 0} (facts : HostFacts F) (path other : List ℕ) : Type 0 where
  pub file : FileId
  pub here : facts.found path (Some file)
  pub there : facts.found other (Some file)

-- the host answered that it isn't
pub record LeadApart {F : Type 0} (facts : HostFacts F) (path other : List ℕ) : Type 0 where
  pub file : FileId
  pub another : Option FileId
  pub here : facts.found path (Some file)
  pub there : facts.found other another
  pub apart : another ≡ Some file → ⊥

-- A stream leads to the file at a path: of several the one that forbids most. Or none does, or there is no file.
abbrev pub IsStreamAt : {F : Type 0} → HostFacts F → List ℕ → Option HostFault → Type 0
IsStreamAt facts path (Some stream) = ((stream ≡ Errors) × LeadToOne facts path (codes "/dev/fd/2"))
    ⊎ ((stream ≡ Output) × LeadApart facts path (codes "/dev/fd/2") × LeadToOne facts path (codes "/dev/fd/1"))
    ⊎ ((stream ≡ Input) × LeadApart facts path (codes "/dev/fd/2") × LeadApart facts path (codes "/dev/fd/1")
    × LeadToOne facts path (codes "/dev/fd/0"))
IsStreamAt facts path None = facts.found path None
    ⊎ (LeadApart facts path (codes "/dev/fd/2") × LeadApart facts path (codes "/dev/fd/1")
    × LeadApart facts path (codes "/dev/fd/0"))
