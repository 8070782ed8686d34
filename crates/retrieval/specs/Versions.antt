-- A version in memory.
use Rattle.std.specs.Prelude.{ℕ, List, ◌++◌}

-- where a version lies
pub record VersionState : Type 0 where
  -- its length in words
  pub words : ℕ
  -- its data blocks, in order
  pub blocks : List ℕ
  -- the extensions of its prime block, in order
  pub ribs : List ℕ

-- with these blocks after the others
abbrev pub with_blocks : VersionState → List ℕ → VersionState
with_blocks v more = record v { blocks = v.blocks ++ more }
