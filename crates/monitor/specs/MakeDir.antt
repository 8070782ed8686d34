-- MakeDir: what it finds.
use Rattle.std.specs.Prelude.{◌≡◌, ◌⊎◌, ℕ, ◌+◌, ◌<◌, ◌==◌, ◌||◌, not, if◌then◌else◌, List, None, slice_index}
use Rattle.std.specs.Ordering.{nat_cmp}
use Rattle.std.specs.FinMap.Entries.{find}
use Rattle.words36.specs.Common.{left, right}
use Rattle.spec_machine.specs.Common.{lies_outside, protection_or, system}
use Rattle.spec_machine.specs.declared.call.Reply.{Reply}
use Rattle.spec_machine.specs.declared.call.Reply.TheVariants.{AddressCheck, Done, Refused}
use Rattle.alloctab.specs.Common.{space}
use Rattle.volume.specs.Common.{MemoryMap, chain_growth}

-- the owner of the directory that the words at an address ask for, and its protection
abbrev pub asked_owner : List ℕ → ℕ → ℕ
asked_owner core e = slice_index core e

abbrev pub directory_protection_asked : List ℕ → ℕ → ℕ
directory_protection_asked core e = protection_or (slice_index core (e + 1)) 0o775

-- the answer before any directory is checked; Done if the job may make it
abbrev pub early_answer : ℕ → List ℕ → ℕ → Reply
early_answer ppn core e =
    if lies_outside core e 2 then AddressCheck
    else if (left (asked_owner core e) == 0) || (right (asked_owner core e) == 0) then Refused 1
    else if not ((ppn == system) || (ppn == asked_owner core e)) then Refused 2
    else Done

-- the volume has no such directory
abbrev pub IsAbsent : MemoryMap → ℕ → Type 0
IsAbsent c owner = find nat_cmp owner c.known.master.entries ≡ None

-- a block for it, and what the master directory grows by, exceed the room
abbrev pub IsCrowded : ℕ → MemoryMap → Type 0
IsCrowded size c = space size < c.known.table.booked + 1 + chain_growth c.known.master

-- It is refused with this code, for what there is.
abbrev pub IsRefusedBy : ℕ → MemoryMap → ℕ → ℕ → Type 0
IsRefusedBy size c owner code = ((code ≡ 4) × (IsAbsent c owner → ⊥))
    ⊎ ((code ≡ 0o14) × IsAbsent c owner × IsCrowded size c)
