-- What the trait requires of the past moments of a disk in memory.
use Rattle.std.specs.Prelude.{◌<◌, ◌≤◌, ℕ, length}
use Rattle.std.proofs.Common.{arith, ⊎_elim, inl, inr}
use Rattle.blockdisk.specs.Disk.{Contents}
use Rattle.blockdisk.specs.Memory.{Memory, Leaves, moment_now, memory_state}

nothing_since : (n k : ℕ) → n ≤ k → k < n → ⊥
nothing_since n k low high = omega arith

pub only_now : (m : Memory) (c : Contents) → (memory_state m).left_since (length m.calls) c → Leaves (moment_now m) c
only_now m c left = ⊎_elim (λ had. absurd (nothing_since (length m.calls) had.0 had.1 had.2)) (λ now. now) left

further : (t u k : ℕ) → t ≤ u → u ≤ k → t ≤ k
further t u k le le' = omega arith

pub reaches_back : (m : Memory) (t u : ℕ) (c : Contents) → t ≤ u → (memory_state m).left_since u c
    → (memory_state m).left_since t c
reaches_back m t u c le left = ⊎_elim (λ had. inl (had.0, further t u had.0 le had.1, had.2, had.3))
    (λ now. inr now) left
