-- A disk with a fuse: what it is, given the disk underneath and its own failures.
use Rattle.std.specs.Prelude.{◌≤◌, ◌+◌, ◌-◌, ◌==◌, ◌^◌, ℕ, Bool, false, Option, Some, None, if◌then◌else◌, min}
use Rattle.blockdisk.specs.Disk.{DiskState}
use Rattle.blockdisk.specs.declared.fuse.Fail.{Fail}
use Rattle.blockdisk.specs.declared.fuse.Fail.TheVariants.{One, All}

-- How many calls pass before the next one that fails; none if no call will fail any more.

-- the next call fails
abbrev pub is_blown : Option ℕ → Bool
is_blown None = false
is_blown (Some passing) = passing == 0

-- what is left after a call that failed
abbrev pub left_behind : Fail → Option ℕ
left_behind One = None
left_behind All = Some 0

-- what is left after a call
abbrev pub burnt : Fail → Option ℕ → Option ℕ
burnt fail None = None
burnt fail (Some passing) = if passing == 0 then left_behind fail else Some (passing - 1)

-- At least `count` calls pass.
abbrev pub Lets : Option ℕ → ℕ → Type 0
Lets None count = Unit {0}
Lets (Some passing) count = count ≤ passing

-- what is left after `count` calls that passed
abbrev pub left_after : Option ℕ → ℕ → Option ℕ
left_after None count = None
left_after (Some passing) count = Some (passing - count)

-- how many of `count` blocks from `first` are read: all, or those up to the damaged one
abbrev pub blocks_read : ℕ → ℕ → Option ℕ → ℕ
blocks_read first count None = count
blocks_read first count (Some bad) = bad - first + 1

-- the disk with a fuse, given the disk underneath and the number of the fuse's own failures
abbrev pub fused : DiskState → ℕ → DiskState
fused s failures = record {
  size = s.size;
  honest = s.honest;
  failures = min (s.failures + failures) (2 ^ 64 - 1);
  contents = s.contents;
  is_open = s.is_open;
  clock = s.clock;
  left_since = s.left_since;
}
