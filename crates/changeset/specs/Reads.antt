-- Reading the log, put by put.
use Rattle.std.specs.Prelude.{◌≡◌, ℕ, ◌+◌, List, get_or}
use Rattle.blockdisk.specs.Common.{DiskState, Still}
use Rattle.spec_image.specs.declared.put.Put.{Put}
use Rattle.spec_image.specs.Common.{times, IsTarget, targets}

-- The header names this block at place i of the log, a target of none of the puts before.
pub record IsNextTarget (size : ℕ) (header : List ℕ) (before : List Put) (i block : ℕ) : Type 0 where
  pub named : get_or header (i + 2) 0 ≡ block
  pub in_range : IsTarget size block
  pub fresh : times block (targets before) ≡ 0

-- Nothing was written, and the same blocks are open.
pub record OnlyReads (s s' : DiskState) : Type 0 where
  pub still : Still s s'
  pub is_open : (n : ℕ) → s'.is_open n ≡ s.is_open n
