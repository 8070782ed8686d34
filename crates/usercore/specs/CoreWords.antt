-- What a job's core is: 1000 to 400000 words (octal), each of 36 bits.
use Rattle.std.specs.Prelude.{ℕ, ◌≤◌, List, length}
use Rattle.std.specs.List.{All}
use Rattle.words36.specs.Common.{IsWord}

pub record IsCore (core : List ℕ) : Type 0 where
  pub least : 0o1000 ≤ length core
  pub most : length core ≤ 0o400000
  pub words : All IsWord core
