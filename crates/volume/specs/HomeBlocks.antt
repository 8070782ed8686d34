-- Blocks 0 to 2, the one that is never read and the two home copies, which no call changes.
use Rattle.std.specs.Prelude.{◌≡◌, ℕ, ◌≤◌}
use Rattle.blockdisk.specs.Common.{Contents, DiskState, MayLeave}

-- they have the words that they had
abbrev pub KeepsHomes : Contents → Contents → Type 0
KeepsHomes old new = (n : ℕ) → n ≤ 2 → new n ≡ old n

-- they have the words that they have in something that a crash could leave before
abbrev pub HasHomesFrom : DiskState → Contents → Type 0
HasHomesFrom s c = (d : Contents) × MayLeave s d × KeepsHomes d c
