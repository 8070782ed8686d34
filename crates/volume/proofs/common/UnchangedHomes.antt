-- Blocks 0 to 2 stay: no call writes them, and none puts them.
use Rattle.std.proofs.Common.{◌≡◌, ◌⊎◌, ⊎_elim, inl, ℕ, ◌≤◌, List, refl, ◌∙◌, arith}
use Rattle.words36.specs.declared.names.FileName.{FileName}
use Rattle.blockdisk.specs.Common.{Contents, DiskState, MayLeave, Near, Modifies, LeavesOnly, leaves_start, leaves_on}
use Rattle.blockdisk.specs.Common.{leaves_weaker, modifies_near}
use Rattle.changeset.specs.Common.{IsGateOrLog, IsPutIn}
use Rattle.spec_image.specs.declared.put.Put.{Put}
use Rattle.spec_image.specs.Common.{InSpace}
use Rattle.spec_image.proofs.Common.{fixed_below}
use Rattle.alloctab.specs.Common.{bit}
use Rattle.volume.specs.Common.{HasHomesFrom, KeepsHomes, CurrentMap, CurrentVersion, IsWholeMap}
use Rattle.volume.specs.Common.{IsMovedWithin}
use Rattle.volume.proofs.RenameWithin.Law.{out_of_chain, moved_elsewhere}

-- On the disk.

pub homes_start : (s : DiskState) → ((c : Contents) → s.left_since s.clock c → MayLeave s c)
    → LeavesOnly s s (HasHomesFrom s)
homes_start s only_now = leaves_start s (HasHomesFrom s) only_now (λ c left. (c, left, λ n low. refl))

pub homes_on : (s s' s'' : DiskState) → LeavesOnly s s' (HasHomesFrom s) → LeavesOnly s' s'' (HasHomesFrom s')
    → LeavesOnly s s'' (HasHomesFrom s)
homes_on s s' s'' first second = leaves_on s s' s'' (HasHomesFrom s) (HasHomesFrom s') first second
    (λ c from.
    let was = first.now from.0 from.1 in
    (was.0, was.1, λ n low. from.2 n low ∙ was.2 n low))

pub homes_near : (In : ℕ → Type 0) (s s' : DiskState) → ((n : ℕ) → n ≤ 2 → In n → ⊥) → LeavesOnly s s' (Near In s)
    → LeavesOnly s s' (HasHomesFrom s)
homes_near In s s' out leaves = leaves_weaker s s' (Near In s) (HasHomesFrom s) leaves
    (λ c near. (near.0, near.1, λ n low. near.2 n (out n low)))

pub homes_modified : (In : ℕ → Type 0) (s s' : DiskState) → ((n : ℕ) → n ≤ 2 → In n → ⊥)
    → ((c : Contents) → s.left_since s.clock c → MayLeave s c) → Modifies In s s' → LeavesOnly s s' (HasHomesFrom s)
homes_modified In s s' out only_now modified = homes_near In s s' out (modifies_near In s s' only_now modified)

-- a commit after other writes
pub homes_written : (In Out : ℕ → Type 0) (s mid s' : DiskState) → ((n : ℕ) → n ≤ 2 → In n → ⊥)
    → ((n : ℕ) → n ≤ 2 → Out n → ⊥) → ((c : Contents) → s.left_since s.clock c → MayLeave s c) → Modifies In s mid
    → LeavesOnly mid s' (Near Out mid) → LeavesOnly s s' (HasHomesFrom s)
homes_written In Out s mid s' out later only_now modified near =
    homes_on s mid s' (homes_modified In s mid out only_now modified) (homes_near Out mid s' later near)

pub homes_stay : (In : ℕ → Type 0) (s s' : DiskState) → ((n : ℕ) → n ≤ 2 → In n → ⊥) → Modifies In s s'
    → KeepsHomes s.contents s'.contents
homes_stay In s s' out modified n low = modified.contents n (out n low)

-- Gate and log come later.
pub past_homes : (size : ℕ) (puts : List Put) → ((n : ℕ) → n ≤ 2 → IsPutIn puts n → ⊥) → (n : ℕ) → n ≤ 2
    → IsGateOrLog size n ⊎ IsPutIn puts n → ⊥
past_homes size puts low n small = ⊎_elim (λ log. let from = log.0 in omega arith) (low n small)

-- and a clear bit is one of it.
pub clear_past : (size : ℕ) (k : CurrentMap) → IsWholeMap size k → (n : ℕ) → n ≤ 2 → bit k.table n ≡ 0 → ⊥
clear_past size k whole n low clear =
    let one = fixed_below size n (omega arith) in
    let bits = whole.bits n in
    omega arith

-- The puts of a rename within a directory.
pub moved_low : (size : ℕ) (k k' : CurrentMap) (ppn : ℕ) (name to : FileName) (old : ℕ × CurrentVersion)
    (v : CurrentVersion)
    (words : List ℕ) (puts : List Put) (whole : IsWholeMap size k)
    (is : IsMovedWithin size k k' ppn name to old v words puts) → InSpace size old.0 → (n : ℕ) → n ≤ 2
    → IsPutIn puts n → ⊥
moved_low size k k' ppn name to old v words puts whole is inside n low =
    moved_elsewhere size k k' ppn name to old v words puts whole is n
    (λ same. let from = inside.from in omega arith)
    (out_of_chain size k k' ppn name to old v words puts whole is n (inl (omega arith)))
