-- Claims, and what is booked of a disk.
use Rattle.std.specs.Prelude.{ℕ, ◌+◌, ◌-◌, ◌==◌, ◌&&◌, nat_lt, Bool, if◌then◌else◌, List, [], ◌∷◌, ◌++◌, length, ℤ}
use Rattle.std.specs.Prelude.{pos, ◌-ℤ◌, flat_map, filter_map, Option, Some, None, option_map}
use Rattle.std.specs.List.{list_any}
use Rattle.spec_image.specs.Common.{Pack, values, size, get, total, sum_entries, Directory, Place, version_cost}
use Rattle.spec_image.specs.Common.{directory_cost, space_start, SpecVersion, same_place}
use Rattle.spec_machine.specs.Jobs.{SpecOutput, Channel, SpecJob, State, is_create}

-- Output sides.

abbrev pub output_of : Option Channel → Option SpecOutput
output_of None = None
output_of (Some c) = c.output

abbrev pub outputs_of : Option SpecJob → List SpecOutput
outputs_of None = []
outputs_of (Some job) = filter_map output_of job.channels

-- all output sides, of all jobs
abbrev pub outputs : State → List SpecOutput
outputs s = flat_map outputs_of s.jobs

-- a place is claimed if some output side has it
abbrev pub is_claimed : State → Place → Bool
is_claimed s place = list_any (λ o. same_place o.place place) (outputs s)

-- Entries of a directory: its names, and the files that are being created in it.

abbrev pub pending_creations : State → ℕ → ℕ
pending_creations s ppn = total (λ o. if is_create o.kind && (o.place.ppn == ppn) then 1 else 0) (outputs s)

abbrev pub names_in : Option (Directory SpecVersion) → ℕ
names_in None = 0
names_in (Some d) = size d.files

abbrev pub entry_count : State → ℕ → ℕ
entry_count s ppn = names_in (get s.files ppn) + pending_creations s ppn

-- Versions: those that are current, and those that channels pin.

abbrev pub current_versions : State → List SpecVersion
current_versions s = flat_map (λ d. values d.files) (values s.files)

abbrev pub version_of : Option Channel → Option SpecVersion
version_of None = None
version_of (Some c) = option_map (λ i. i.version) c.input

abbrev pub pinned_by : Option SpecJob → List SpecVersion
pinned_by None = []
pinned_by (Some job) = filter_map version_of job.channels

abbrev pub pinned_versions : State → List SpecVersion
pinned_versions s = flat_map pinned_by s.jobs

abbrev pub has_serial : ℕ → List SpecVersion → Bool
has_serial serial versions = list_any (λ v. v.serial == serial) versions

-- Booked.

-- what versions cost, each serial once
abbrev pub distinct_cost : List SpecVersion → ℕ
distinct_cost [] = 0
distinct_cost (v ∷ vs) = (if has_serial v.serial vs then 0 else version_cost (length v.file.body)) + distinct_cost vs

-- the master directory and the directories, with what is being created in them
abbrev pub directories_cost : State → ℕ
directories_cost s = directory_cost (size s.files)
    + sum_entries (λ ppn d. directory_cost (size d.files + pending_creations s ppn)) s.files

-- what is being written, each in full
abbrev pub pending_cost : State → ℕ
pending_cost s = total (λ o. version_cost (length o.pending.body)) (outputs s)

abbrev pub booked : State → ℕ
booked s = directories_cost s + distinct_cost (current_versions s ++ pinned_versions s) + pending_cost s

-- the blocks beyond the fixed regions
abbrev pub space : Pack → ℕ
space pack = pack.blocks - space_start pack.blocks

-- A whole number that may be below 0.
abbrev pub room : Pack → State → ℤ
room pack s = pos (space pack) -ℤ pos (booked s)

-- this number of blocks more is more than the room
abbrev pub exceeds_room : Pack → State → ℕ → Bool
exceeds_room pack s more = nat_lt (space pack) (booked s + more)

-- the room is at most 0
abbrev pub has_no_room : Pack → State → Bool
has_no_room pack s = exceeds_room pack s 1
