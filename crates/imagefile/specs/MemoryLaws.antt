-- What the trait requires of the past moments of a file in memory.
use Rattle.std.specs.Prelude.{◌<◌, ◌≤◌, ℕ, length}
use Rattle.std.proofs.Common.{arith, ⊎_elim, inl, inr}
use Rattle.imagefile.specs.File.{Remains}
use Rattle.imagefile.specs.Memory.{FileMemory, FileLeaves, moment_now, memory_state}

nothing_since : (n k : ℕ) → n ≤ k → k < n → ⊥
nothing_since n k low high = omega arith

pub only_now : (m : FileMemory) (r : Remains) → (memory_state m).left_since (length m.steps) r
    → FileLeaves (moment_now m) r
only_now m r left = ⊎_elim (λ had. absurd (nothing_since (length m.steps) had.0 had.1 had.2)) (λ now. now) left

further : (t u k : ℕ) → t ≤ u → u ≤ k → t ≤ k
further t u k le le' = omega arith

pub reaches_back : (m : FileMemory) (t u : ℕ) (r : Remains) → t ≤ u → (memory_state m).left_since u r
    → (memory_state m).left_since t r
reaches_back m t u r le left = ⊎_elim (λ had. inl (had.0, further t u had.0 le had.1, had.2, had.3))
    (λ now. inr now) left
