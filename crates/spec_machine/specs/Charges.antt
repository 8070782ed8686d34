-- What a directory is charged for, and what its quota leaves: a second limit besides the room, only in layout 2.
use Rattle.std.specs.Prelude.{ℕ, ◌+◌, ◌==◌, ◌&&◌, ◌||◌, not, nat_lt, Bool, if◌then◌else◌, length, Option, Some, None}
use Rattle.spec_image.specs.Common.{version_cost, directory_cost, Directory, get, size, sum_over, total, SpecVersion}
use Rattle.spec_image.specs.Common.{Pack}
use Rattle.spec_machine.specs.Jobs.{State}
use Rattle.spec_machine.specs.Room.{outputs, pending_creations, exceeds_room}

-- what is being written at places of a directory, each version in full
abbrev pub pending_cost_in : State → ℕ → ℕ
pending_cost_in s ppn =
    total (λ o. if o.place.ppn == ppn then version_cost (length o.pending.body) else 0) (outputs s)

-- the directory's own cost, with what is being created in it, and its current files
abbrev pub charge_in : Option (Directory SpecVersion) → ℕ → ℕ
charge_in None creations = 0
charge_in (Some d) creations =
    directory_cost (size d.files + creations) + sum_over (λ v. version_cost (length v.file.body)) d.files

-- What a directory is charged for. A version that is current counts once, whoever reads it; one that is only pinned
-- doesn't count; one that is being written counts besides the current one.
abbrev pub charge : State → ℕ → ℕ
charge s ppn = charge_in (get s.files ppn) (pending_creations s ppn) + pending_cost_in s ppn

abbrev pub quota_in : Option (Directory SpecVersion) → ℕ
quota_in None = 0
quota_in (Some d) = d.quota

abbrev pub quota_of : State → ℕ → ℕ
quota_of s ppn = quota_in (get s.files ppn)

-- the directory has a quota
abbrev pub is_limited : State → ℕ → Bool
is_limited s ppn = not (quota_of s ppn == 0)

-- n blocks more are more than the directory has left, which may be below 0; a quota of 0 is no limit
abbrev pub exceeds_left : State → ℕ → ℕ → Bool
exceeds_left s ppn more = is_limited s ppn && nat_lt (quota_of s ppn) (charge s ppn + more)

-- n blocks more are more than the disk has room for, or than the directory has left
abbrev pub exceeds_limits : Pack → State → ℕ → ℕ → Bool
exceeds_limits pack s ppn more = exceeds_room pack s more || exceeds_left s ppn more
