-- Bodies: the words of a version, and the blocks that may be written when they change.
use Rattle.std.specs.Prelude.{◌≡◌, ◌⊎◌, ◌+◌, ◌<◌, ◌≤◌, ℕ, List, Some, length, IfSome, slice_index}
use Rattle.std.specs.List.{AllByRecursion}
use Rattle.blockdisk.specs.Common.{Contents}
use Rattle.spec_image.specs.Common.{times}
use Rattle.alloctab.specs.Common.{TableState, IsFree, bit, holds}

-- Each of these blocks that isn't damaged holds 128 words.
abbrev pub AreWhole : Contents → List ℕ → Type 0
AreWhole contents blocks = AllByRecursion (λ n. IfSome (contents n) (λ words. length words ≡ 128)) blocks

-- The words of block n are among these from place `at`, as far as the places are below `wanted`.
pub record StandsAt (contents : Contents) (n at wanted : ℕ) (words : List ℕ) : Type 0 where
  pub block : List ℕ
  pub is : contents n ≡ Some block
  pub whole : length block ≡ 128
  pub each : (k : ℕ) → k < 128 → at + k < wanted → slice_index words (at + k) ≡ slice_index block k

-- A block that no other version reaches: its bit is clear, and it is held as often as it occurs among these.
pub record IsOwn (t : TableState) (blocks : List ℕ) (n : ℕ) : Type 0 where
  pub clear : bit t n ≡ 0
  pub alone : holds t n ≡ times n blocks

-- The new list has no block more often than the old one, except blocks that were free, which it has at most once.
abbrev pub AddsFree : TableState → List ℕ → List ℕ → Type 0
AddsFree t old new = (n : ℕ) → (times n new ≤ times n old) ⊎ (IsFree t n × (times n new ≤ 1))

-- The blocks of a list that are held once, for it, are at the same places of another list.
abbrev pub KeepsOwn : TableState → List ℕ → List ℕ → Type 0
KeepsOwn t blocks others = (i : ℕ) → i < length blocks → bit t (slice_index blocks i) ≡ 0
    → holds t (slice_index blocks i) ≡ 1 → slice_index others i ≡ slice_index blocks i
