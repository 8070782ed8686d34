-- Two copies of a block, of which a crash spoils at most one.
use Rattle.std.specs.Prelude.{◌≡◌, ◌⊎◌, ℕ, List, Some}
use Rattle.blockdisk.specs.Disk.{Contents, SameOutside}

-- Nothing except the copies has changed since before, and the second copy is as it was or the first is new.
pub record OneIsWhole (first second : ℕ) (words : List ℕ) (before now : Contents) : Type 0 where
  pub others : SameOutside (λ n. (n ≡ first) ⊎ (n ≡ second)) before now
  pub one : (now second ≡ before second) ⊎ (now first ≡ Some words)

-- Both copies are new, and nothing else has changed.
pub record BothAreNew (first second : ℕ) (words : List ℕ) (before now : Contents) : Type 0 where
  pub others : SameOutside (λ n. (n ≡ first) ⊎ (n ≡ second)) before now
  pub first_is : now first ≡ Some words
  pub second_is : now second ≡ Some words
