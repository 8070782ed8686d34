-- Writing words over a body, block by block: the new words of each block, and how far it has come.
use Rattle.std.specs.Prelude.{◌≡◌, ◌⊎◌, ℕ, ◌+◌, ◌-◌, ◌*◌, ◌/◌, ◌%◌, ◌<◌, ◌≤◌, ◌==◌, if◌then◌else◌, List, length}
use Rattle.std.specs.Prelude.{slice_index, Some}
use Rattle.blockdisk.specs.Common.{Contents}
use Rattle.spec_image.specs.Common.{blocks_of}

-- the word that stays at a place, counted in words: in one block from `kept`, and zero in all others
abbrev pub unchanged_word : ℕ → List ℕ → ℕ → ℕ
unchanged_word place kept p = if p / 128 == place then slice_index kept (p % 128) else 0

-- The last words of a body of `length` words, or the last of those that are put from block `at`, do not fill
-- their block, and the block at this place is written with words of the body after or before them.
abbrev pub IsEdge : ℕ → ℕ → ℕ → ℕ → Type 0
IsEdge length at count place =
    ((length < at * 128) × (0 < length % 128) × (place ≡ length / 128))
    ⊎ ((at * 128 + count < length) × (0 < (at * 128 + count) % 128) × (place ≡ (at * 128 + count) / 128))

-- Block n is the one at that place.
pub record IsEdgeBlock (blocks : List ℕ) (length at count n : ℕ) : Type 0 where
  pub place : ℕ
  pub edge : IsEdge length at count place
  pub is : slice_index blocks place ≡ n

-- If `count` words are put from block `at`, these are the words of the body that stay in the blocks that are written,
-- from block `first`.
abbrev pub Stays : List ℕ → ℕ → ℕ → ℕ → ℕ → List ℕ → Type 0
Stays body first at count place kept =
    (p : ℕ) → first * 128 ≤ p → p < (at + blocks_of count) * 128 → (p < at * 128) ⊎ (at * 128 + count ≤ p)
    → unchanged_word place kept p ≡ slice_index body p

-- The words of block i, with words put from block `at` over those that stay. Blocks are counted from 0.
pub record IsNewBlock (at : ℕ) (words : List ℕ) (place : ℕ) (kept : List ℕ) (i : ℕ) (new : List ℕ) : Type 0 where
  pub whole : length new ≡ 128
  pub put : (k : ℕ) → k < 128 → at * 128 ≤ i * 128 + k → i * 128 + k < at * 128 + length words
      → slice_index new k ≡ slice_index words (i * 128 + k - at * 128)
  pub kept_is : (k : ℕ) → k < 128 → (i * 128 + k < at * 128) ⊎ (at * 128 + length words ≤ i * 128 + k)
      → slice_index new k ≡ unchanged_word place kept (i * 128 + k)

-- Block n of the disk has the new words of block i.
pub record HoldsNew (contents : Contents) (at : ℕ) (words : List ℕ) (place : ℕ) (kept : List ℕ) (i n : ℕ) : Type 0 where
  pub new : List ℕ
  pub is : contents n ≡ Some new
  pub is_new : IsNewBlock at words place kept i new

-- It is the block at one of the places from `first` to before `end`.
pub record AtPlace (blocks : List ℕ) (first end n : ℕ) : Type 0 where
  pub at : ℕ
  pub from : first ≤ at
  pub below : at < end
  pub is : slice_index blocks at ≡ n

-- Each block at the places from `first` to before `end` is at no other place.
abbrev pub StandAlone : List ℕ → ℕ → ℕ → Type 0
StandAlone blocks first end = (j k : ℕ) → first ≤ j → j < end → k < length blocks → (k ≡ j → ⊥)
    → slice_index blocks k ≡ slice_index blocks j → ⊥

-- The blocks from `first` to before i have their new words; at the other places the same blocks are unchanged.
pub record IsPartlyPlaced (before now : Contents) (old new : List ℕ) (at : ℕ) (words : List ℕ) (place : ℕ)
    (kept : List ℕ)
    (first i : ℕ) : Type 0 where
  pub stays : (j : ℕ) → j < length old → (j < first) ⊎ (i ≤ j) → (slice_index new j ≡ slice_index old j)
      × (now (slice_index old j) ≡ before (slice_index old j))
  pub placed : (j : ℕ) → first ≤ j → j < i → HoldsNew now at words place kept j (slice_index new j)
