-- What a crash may leave of a change of several blocks, and of recovery after it. Contents are
-- compared by what they settle to: with a closed gate themselves, with an open one what the log makes
-- of them. Gate and log aren't compared.
use Rattle.std.specs.Prelude.{◌≡◌, ◌⊎◌, ◌<◌, ◌≤◌, ℕ, List, Some, replicate}
use Rattle.blockdisk.specs.Common.{Contents, DiskState, MayLeave, SameOutside, Syncs, Fails, LeavesOnly}
use Rattle.spec_image.specs.declared.put.Put.{Put}
use Rattle.spec_image.specs.Common.{table_start, IsGateOpen, IsLog, IsSettled, with_puts}

-- the sets of blocks that are written

abbrev pub IsGate : ℕ → Type 0
IsGate n = n ≡ 3

-- the log's header or one of its images
abbrev pub IsInLog : ℕ → ℕ → Type 0
IsInLog size n = (4 ≤ n) × (n < table_start size)

abbrev pub IsGateOrLog : ℕ → ℕ → Type 0
IsGateOrLog size n = (3 ≤ n) × (n < table_start size)

-- whatever a crash may leave has its gate closed
abbrev pub IsShut : DiskState → Type 0
IsShut s = (c : Contents) → MayLeave s c → IsGateOpen s.size c → ⊥

-- Contents c settle, and, except for gate and log, to the wanted ones.
pub record SettlesAs (size : ℕ) (wanted c : Contents) : Type 0 where
  pub settled : Contents
  pub is_settled : IsSettled size c settled
  pub same : SameOutside (IsGateOrLog size) wanted settled

-- a crash during a commit: none of the puts is made, or all are
abbrev pub AllOrNone : List Put → DiskState → Contents → Type 0
AllOrNone puts s c = ((d : Contents) × MayLeave s d × SettlesAs s.size d c)
    ⊎ SettlesAs s.size (with_puts puts s.contents) c

-- if d settles, c settles to the same
abbrev pub SettlesLike : ℕ → Contents → Contents → Type 0
SettlesLike size d c = (settled : Contents) → IsSettled size d settled → SettlesAs size settled c

-- a crash during recovery: it settles like something that a crash could leave at s
abbrev pub SettlesLikeBefore : DiskState → Contents → Type 0
SettlesLikeBefore s c = (d : Contents) × MayLeave s d × SettlesLike s.size d c

-- The gate is open and the log good: these puts will be made.
pub record ArePending (size : ℕ) (c : Contents) (puts : List Put) : Type 0 where
  pub gate : IsGateOpen size c
  pub log : IsLog size c puts

-- nothing settles: the gate is open, and the log isn't good
abbrev pub IsLost : ℕ → Contents → Type 0
IsLost size c = (settled : Contents) → IsSettled size c settled → ⊥

-- The contents are now those that settled before, with the gate closed: it got zeros if it was open, and
-- is unchanged if it wasn't.
pub record IsRecovered (size : ℕ) (before now : Contents) : Type 0 where
  pub settled : Contents
  pub is_settled : IsSettled size before settled
  pub others : SameOutside IsGate settled now
  pub gate : IsGateOpen size now → ⊥
  pub emptied : IsGateOpen size before → now 3 ≡ Some (replicate 128 0)
  pub kept : (IsGateOpen size before → ⊥) → now 3 ≡ before 3

-- The first thing done was a sync. If it failed, nothing else was done. Otherwise `mid` is the disk after it, and
-- since then a crash left only what has P.
abbrev pub SyncsFirst : {D : Type 0} → (D → DiskState) → D → D → Type 0 → (Contents → Type 0) → Type 0
SyncsFirst {D} state old new fault P =
    (fault × Fails (state old) (state new))
    ⊎ ((mid : D) × Syncs (state old) (state mid) × LeavesOnly (state mid) (state new) P)
