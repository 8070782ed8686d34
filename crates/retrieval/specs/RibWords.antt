-- Retrieval blocks as a reader finds them: words that spell some runs, whatever the disk.
use Rattle.std.specs.Prelude.{◌≡◌, ℕ, ◌^◌, ◌<◌, ◌≤◌, List, length}
use Rattle.std.specs.List.{AllByRecursion}
use Rattle.words36.specs.Common.{IsPpn}
use Rattle.spec_image.specs.Common.{SpecPrime, SpecRun, IsRun, IsPrime, prime_block, extension_block}

-- The words are those of a prime block of this layout.
pub record SpellsPrime (layout : ℕ) (words : List ℕ) (p : SpecPrime) (runs : List SpecRun) (next : ℕ) : Type 0 where
  pub words_are : words ≡ prime_block p runs next
  pub ppn_fits : IsPpn p.place.ppn
  pub ext_fits : p.place.name.ext < 2 ^ 18
  pub fits : IsPrime layout p
  pub few : length runs ≤ 112
  pub are_runs : AllByRecursion IsRun runs

-- The words are those of an extension.
pub record SpellsExtension (words : List ℕ) (runs : List SpecRun) (next : ℕ) : Type 0 where
  pub words_are : words ≡ extension_block runs next
  pub some : 0 < length runs
  pub few : length runs ≤ 126
  pub are_runs : AllByRecursion IsRun runs
