-- What reading a version finds, block by block.
use Rattle.std.specs.Prelude.{◌≡◌, ◌^◌, ℕ, ◌+◌, ◌<◌, ◌≤◌, List, [], ◌∷◌, ◌++◌, length, flat_map, Some}
use Rattle.std.specs.List.{AllByRecursion}
use Rattle.words36.specs.Common.{IsPpn}
use Rattle.blockdisk.specs.Common.{Contents}
use Rattle.spec_image.specs.Common.{times, blocks_of, SpecPrime, SpecRun, IsRun, run_blocks, Extension, all_runs}
use Rattle.spec_image.specs.Common.{extension_numbers, extension_block, IsRetrieved, IsPrimeRead, InSpace}
use Rattle.spec_image.specs.Common.{RunsInSpace}
use Rattle.retrieval.specs.Primes.{with_length}
use Rattle.retrieval.specs.RibWords.{SpellsPrime, SpellsExtension}
use Rattle.retrieval.specs.Versions.{VersionState}
use Rattle.retrieval.specs.declared.prime.Prime.{Prime as PrimeValue}

-- The words of a prime block, with what is wrong with them in this layout.
pub data IsBadPrime (size layout : ℕ) (words : List ℕ) : Type 0 where
  malformed : ((p : SpecPrime) (runs : List SpecRun) (next : ℕ) → SpellsPrime layout words p runs next → ⊥)
      → IsBadPrime size layout words
  run_outside : (p : SpecPrime) (runs : List SpecRun) (next : ℕ) → SpellsPrime layout words p runs next
      → (RunsInSpace size runs → ⊥)
      → IsBadPrime size layout words
  next_outside : (p : SpecPrime) (runs : List SpecRun) (next : ℕ) → SpellsPrime layout words p runs next → 0 < next
      → (InSpace size next → ⊥) → IsBadPrime size layout words
  short : (p : SpecPrime) (runs : List SpecRun) (next : ℕ) → SpellsPrime layout words p runs next → 0 < next
      → (length runs ≡ 112 → ⊥)
      → IsBadPrime size layout words
  too_many : (p : SpecPrime) (runs : List SpecRun) (next : ℕ) → SpellsPrime layout words p runs next
      → blocks_of p.words < length (flat_map run_blocks runs) → IsBadPrime size layout words

-- The same of an extension.
pub data IsBadExtension (size : ℕ) (words : List ℕ) : Type 0 where
  malformed : ((runs : List SpecRun) (next : ℕ) → SpellsExtension words runs next → ⊥) → IsBadExtension size words
  run_outside : (runs : List SpecRun) (next : ℕ) → SpellsExtension words runs next → (RunsInSpace size runs → ⊥)
      → IsBadExtension size words
  next_outside : (runs : List SpecRun) (next : ℕ) → SpellsExtension words runs next → 0 < next → (InSpace size next → ⊥)
      → IsBadExtension size words
  short : (runs : List SpecRun) (next : ℕ) → SpellsExtension words runs next → 0 < next → (length runs ≡ 126 → ⊥)
      → IsBadExtension size words

-- With the blocks of these runs there are more than the length requires.
pub record Overfills (words : List ℕ) (v : VersionState) : Type 0 where
  pub runs : List SpecRun
  pub next : ℕ
  pub spells : SpellsExtension words runs next
  pub more : blocks_of v.words < length v.blocks + length (flat_map run_blocks runs)

-- The words of a prime block of this layout say this, and have these blocks and this extension, or 0.
pub record IsStarted (size layout : ℕ) (words : List ℕ) (prime : PrimeValue) (v : VersionState)
    (next : ℕ) : Type 0 where
  pub runs : List SpecRun
  pub spells : SpellsPrime layout words (with_length prime v.words) runs next
  pub inside : RunsInSpace size runs
  pub full : 0 < next → length runs ≡ 112
  pub next_inside : 0 < next → InSpace size next
  pub blocks_are : v.blocks ≡ flat_map run_blocks runs
  pub ribs_are : v.ribs ≡ []
  pub room : length v.blocks ≤ blocks_of v.words

-- The words of extension n add their blocks and n to a version, and name this extension, or 0.
pub record Extends (size : ℕ) (words : List ℕ) (n next : ℕ) (old new : VersionState) : Type 0 where
  pub runs : List SpecRun
  pub spells : SpellsExtension words runs next
  pub inside : RunsInSpace size runs
  pub full : 0 < next → length runs ≡ 126
  pub next_inside : 0 < next → InSpace size next
  pub version_is : new
      ≡ record { words = old.words; blocks = old.blocks ++ flat_map run_blocks runs; ribs = old.ribs ++ n ∷ [] }
  pub room : length new.blocks ≤ blocks_of new.words

-- The extensions from `first`, each good, the last naming `last`.
abbrev pub Follows : ℕ → Contents → ℕ → List Extension → ℕ → Type 0
Follows size contents first [] last = first ≡ last
Follows size contents first (extension ∷ extensions) last =
    (extension.0 ≡ first) × InSpace size first × (0 < length extension.1) × (length extension.1 ≤ 126)
    × AllByRecursion IsRun extension.1 × RunsInSpace size extension.1
    × (next : ℕ) × (contents first ≡ Some (extension_block extension.1 next)) × (0 < next → length extension.1 ≡ 126)
    × Follows size contents next extensions last

-- So far a version was read; the extension `next` follows, or it is 0.
pub record IsReadTo (size : ℕ) (contents : Contents) (layout at : ℕ) (prime : PrimeValue) (v : VersionState)
    (next : ℕ) : Type 0 where
  pub runs : List SpecRun
  pub first : ℕ
  pub extensions : List Extension
  pub read : IsPrimeRead contents layout at (with_length prime v.words) runs first
  pub few : length runs ≤ 112
  pub inside : RunsInSpace size runs
  pub full : 0 < first → length runs ≡ 112
  pub walk : Follows size contents first extensions next
  pub next_inside : 0 < next → InSpace size next
  pub blocks_are : v.blocks ≡ flat_map run_blocks (runs ++ all_runs extensions)
  pub ribs_are : v.ribs ≡ extension_numbers extensions

-- The version is at its prime block, and what it names lies in the free space.
pub record IsVersionAt (size : ℕ) (contents : Contents) (layout at : ℕ) (prime : PrimeValue)
    (v : VersionState) : Type 0 where
  pub retrieved : IsRetrieved layout contents (with_length prime v.words) at v.ribs v.blocks
  pub ribs_inside : AllByRecursion (InSpace size) v.ribs
  pub blocks_inside : AllByRecursion (InSpace size) v.blocks
  pub ppn_fits : IsPpn prime.ppn
  pub ext_fits : prime.file.ext < 262144

-- What was read is this prime block's text, with these ribs and these data blocks.
pub record IsReadAs (p : SpecPrime) (ribs blocks : List ℕ) (prime : PrimeValue) (v : VersionState) : Type 0 where
  pub prime_is : with_length prime v.words ≡ p
  pub ribs_are : v.ribs ≡ ribs
  pub blocks_are : v.blocks ≡ blocks

-- A valid version is at this prime block: its blocks lie in the free space, and its place fits.
pub record IsStandingVersion (size : ℕ) (contents : Contents) (layout at : ℕ) (p : SpecPrime)
    (ribs blocks : List ℕ) : Type 0 where
  pub retrieved : IsRetrieved layout contents p at ribs blocks
  pub inside : (n : ℕ) → 0 < times n (at ∷ (ribs ++ blocks)) → InSpace size n
  pub ppn_fits : IsPpn p.place.ppn
  pub ext_fits : p.place.name.ext < 2 ^ 18
