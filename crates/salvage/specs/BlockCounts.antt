-- How often blocks occur in files, counted up to 2, or claimed up to four times.
use Rattle.std.specs.Prelude.{◌≡◌, ◌+◌, ◌<◌, ◌≤◌, ℕ, List, Option, Some, None, min, slice_index}
use Rattle.spec_image.specs.Common.{times}

-- These are the numbers of f, each of which ends at 2.
abbrev pub CountTo : List ℕ → (ℕ → ℕ) → Type 0
CountTo counts f = (n : ℕ) → slice_index counts n ≡ min 2 (f n)

-- Each of these blocks was claimed once more; or one of them, which is met, would have more than four claims, and only
-- some of them were claimed.
abbrev pub AreClaimed : List ℕ → List ℕ → List ℕ → Option ℕ → Type 0
AreClaimed old new blocks None = (m : ℕ) → slice_index new m ≡ slice_index old m + times m blocks
AreClaimed old new blocks (Some n) = (0 < times n blocks) × (4 < slice_index old n + times n blocks)
    × ((m : ℕ) → (slice_index old m ≤ slice_index new m) × (slice_index new m ≤ slice_index old m + times m blocks))
