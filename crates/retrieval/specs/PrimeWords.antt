-- The words of a prime block, compared with its version in memory.
use Rattle.std.specs.Prelude.{List, ℕ}
use Rattle.spec_image.specs.Common.{head_or_zero, SpecRun}
use Rattle.retrieval.specs.Primes.{with_length}
use Rattle.retrieval.specs.RibWords.{SpellsPrime}
use Rattle.retrieval.specs.Versions.{VersionState}
use Rattle.retrieval.specs.declared.prime.Prime.{Prime as PrimeValue}

-- These are the words of a prime block of this layout that says this of its file, with the length and the first
-- extension of the version.
pub record IsPrimeOf (layout : ℕ) (words : List ℕ) (prime : PrimeValue) (v : VersionState) : Type 0 where
  pub runs : List SpecRun
  pub spells : SpellsPrime layout words (with_length prime v.words) runs (head_or_zero v.ribs)
