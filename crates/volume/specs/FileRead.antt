-- What the reading of one file finds that a name in a directory leads to.
use Rattle.std.specs.Prelude.{◌≡◌, ℕ, ◌+◌, ◌<◌, ◌≤◌, Bool, List, length, Some, None}
use Rattle.std.specs.List.{AllByRecursion}
use Rattle.blockdisk.specs.Common.{Contents}
use Rattle.spec_image.specs.Common.{times, Place, SpecPrime, SpecRun, IsRun, prime_of, prime_block, IsPrime}
use Rattle.spec_image.specs.Common.{IsRetrieved}
use Rattle.spec_image.specs.Common.{StoredFile, IsVersion, ReadFile, times_in_file}
use Rattle.alloctab.specs.Common.{digit_at}
use Rattle.retrieval.specs.Common.{with_length, VersionState}
use Rattle.retrieval.specs.declared.prime.Prime.{Prime as PrimeValue}
use Rattle.volume.specs.declared.error.VolumeError.{VolumeError}
use Rattle.volume.specs.declared.error.VolumeError.TheVariants.{BadRetrieval, BlockTwice, Device, NoMemory, BadData}

-- Refusals: those of reading a version and its place, those of reading data blocks, and all of a file.

abbrev pub IsVersionRefusal : VolumeError → Type 0
IsVersionRefusal (BadRetrieval n) = Unit {0}
IsVersionRefusal Device = Unit {0}
IsVersionRefusal NoMemory = Unit {0}
IsVersionRefusal error = ⊥

abbrev pub IsDataRefusal : VolumeError → Type 0
IsDataRefusal (BadData n) = Unit {0}
IsDataRefusal Device = Unit {0}
IsDataRefusal error = ⊥

abbrev pub IsFileRefusal : VolumeError → Type 0
IsFileRefusal (BadRetrieval n) = Unit {0}
IsFileRefusal (BlockTwice n) = Unit {0}
IsFileRefusal (BadData n) = Unit {0}
IsFileRefusal Device = Unit {0}
IsFileRefusal NoMemory = Unit {0}
IsFileRefusal error = ⊥

-- What is found, and what is wrong.

-- In this layout a file of this place has that prime block, and this is what is known of it: what the prime block says,
-- and where the version lies.
pub record IsFileFound (layout : ℕ) (contents : Contents) (place : Place) (at : ℕ) (prime : PrimeValue)
    (v : VersionState) : Type 0 where
  pub file : StoredFile
  pub stands : IsVersion layout contents place file
  pub prime_is : file.prime ≡ at
  pub ribs_are : file.extensions ≡ v.ribs
  pub blocks_are : file.blocks ≡ v.blocks
  pub facts_are : prime_of place file.file ≡ with_length prime v.words

-- The block isn't a prime block of this place.
abbrev pub IsOtherPlace : ℕ → Contents → Place → ℕ → Type 0
IsOtherPlace layout contents place n =
    (p : SpecPrime) (runs : List SpecRun) (next : ℕ) → contents n ≡ Some (prime_block p runs next) → p.place ≡ place
    → IsPrime layout p → length runs ≤ 112 → AllByRecursion IsRun runs → ⊥

-- The retrieval blocks of a file of this place were read, and with its blocks block n is reached twice.
pub record IsReachedTwice (layout : ℕ) (contents : Contents) (place : Place) (at : ℕ) (reached : List Bool)
    (n : ℕ) : Type 0 where
  pub file : ReadFile
  pub prime_is : file.prime ≡ at
  pub place_is : file.p.place ≡ place
  pub retrieved : IsRetrieved layout contents file.p file.prime file.extensions file.blocks
  pub twice : 2 ≤ digit_at reached n + times_in_file n file

-- Block n is damaged, and is a data block of a file of this place.
pub record IsDamagedData (layout : ℕ) (contents : Contents) (place : Place) (at n : ℕ) : Type 0 where
  pub p : SpecPrime
  pub extensions : List ℕ
  pub blocks : List ℕ
  pub place_is : p.place ≡ place
  pub retrieved : IsRetrieved layout contents p at extensions blocks
  pub inside : 0 < times n blocks
  pub damaged : contents n ≡ None
