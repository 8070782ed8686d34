-- What a crash that is made on purpose leaves of a disk in memory: the open blocks as somebody picks, the closed ones
-- as they are.
use Rattle.std.specs.Prelude.{ℕ, ◌==◌, if◌then◌else◌, Bool, false, List, [], ◌∷◌, ◌++◌, Option, Some, None, get_or}
use Rattle.std.specs.Prelude.{take, drop, replicate}
use Rattle.blockdisk.specs.Memory.{Memory, held}
use Rattle.blockdisk.specs.declared.memory.DiskCall.{DiskCall}
use Rattle.blockdisk.specs.declared.memory.DiskCall.TheVariants.{Write, Sync}
use Rattle.blockdisk.specs.declared.pick.Pick.{Pick}
use Rattle.blockdisk.specs.declared.pick.Pick.TheVariants.{Old, New, Damaged, Half, Open}

-- What block n held at the last sync of these calls, if it held `old` at the sync before them, and `now` after that.
abbrev pub at_sync : ℕ → Option (List ℕ) → Option (List ℕ) → List DiskCall → Option (List ℕ)
at_sync n old now [] = old
at_sync n old now (Write m words ∷ calls) = at_sync n old (if m == n then Some words else now) calls
at_sync n old now (Sync ∷ calls) = at_sync n now now calls

-- the first half of the new words, and the second half of the old ones
abbrev pub halved : Option (List ℕ) → Option (List ℕ) → Option (List ℕ)
halved (Some old) (Some new) = Some (take 64 new ++ drop 64 old)
halved (Some old) None = None
halved None new = None

-- what is left of an open block that held `old` at the last sync, and `new` now
abbrev pub picked : Pick → Option (List ℕ) → Option (List ℕ) → Option (List ℕ)
picked Old old new = old
picked New old new = new
picked Damaged old new = None
picked Half old new = halved old new
picked Open old new = Some (replicate 128 0o252525252525)

-- what is left of block n, given these blocks
abbrev pub left_in : Pick → List (Option (List ℕ)) → List (Option (List ℕ)) → List DiskCall → List Bool → ℕ
    → Option (List ℕ)
left_in pick blocks first calls opened n = if get_or opened n false
    then picked pick (at_sync n (held first n) (held first n) calls) (held blocks n) else held blocks n

abbrev pub left_of : Pick → Memory → ℕ → Option (List ℕ)
left_of pick m = left_in pick m.blocks m.first m.calls m.opened
