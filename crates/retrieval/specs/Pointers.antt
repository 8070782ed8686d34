-- Pointers, as words of a block.
use Rattle.std.specs.Prelude.{◌≡◌, ℕ, ◌-◌, List, map, length, take, drop, replicate}
use Rattle.std.specs.List.{AllByRecursion}
use Rattle.words36.specs.Common.{left, right}
use Rattle.spec_image.specs.Common.{SpecRun, IsRun}

-- the run of a pointer: the count left, the first block right
abbrev pub run_of : ℕ → SpecRun
run_of word = (left word, right word)

abbrev pub runs_of : List ℕ → List SpecRun
runs_of words = map run_of words

-- The first `count` words are pointers, and those after them are zero.
pub record ArePointers (words : List ℕ) (count : ℕ) : Type 0 where
  pub runs : AllByRecursion IsRun (runs_of (take count words))
  pub zeros : drop count words ≡ replicate (length words - count) 0
