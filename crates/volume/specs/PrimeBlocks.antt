-- The prime block of a file that gets another place.
use Rattle.std.specs.Prelude.{ℕ, List}
use Rattle.words36.specs.declared.names.FileName.{FileName}
use Rattle.spec_image.specs.Common.{head_or_zero, SpecPrime, SpecRun, place_of}
use Rattle.retrieval.specs.Common.{with_length, SpellsPrime}
use Rattle.volume.specs.declared.live.LiveVersion.{LiveVersion}

-- what the prime block of a version says if a file of this place has it
abbrev pub file_prime : ℕ → FileName → LiveVersion → SpecPrime
file_prime ppn name v = record (with_length v.prime v.version.words) { place = place_of ppn name }

-- These are the words of the prime block of a version in memory, which a file of this place has: they name the place,
-- and say of the version what memory knows, with its first extension. Layout 2 has room for the dates of both layouts.
pub record IsFilePrime (words : List ℕ) (ppn : ℕ) (name : FileName) (v : LiveVersion) : Type 0 where
  pub runs : List SpecRun
  pub spells : SpellsPrime 2 words (file_prime ppn name v) runs (head_or_zero v.version.ribs)
