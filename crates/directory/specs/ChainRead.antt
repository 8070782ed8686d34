-- What reading a chain finds, block by block.
use Rattle.std.specs.Prelude.{◌≡◌, ◌⊎◌, ℕ, ◌+◌, ◌<◌, ◌≤◌, Bool, List, [], ◌++◌, length, flat_map, Some, None}
use Rattle.std.specs.List.{AllByRecursion}
use Rattle.std.specs.declared.cmp.Ordering.{Ordering}
use Rattle.blockdisk.specs.Common.{Contents}
use Rattle.spec_image.specs.Common.{EachOnce, times, Node, numbers, first_of, items, directory_block, IsChainRead}
use Rattle.spec_image.specs.Common.{LeadsAlong, InSpace, IsBadBlock, walked}
use Rattle.alloctab.specs.Common.{digit_at}

-- These words are those of a directory block.
pub record SpellsBlock {K V : Type 0} (words : K × V → List ℕ) (IsEntry : K × V
    → Type 0) (block : List ℕ) (next : ℕ) (entries : List (K × V)) : Type 0 where
  pub words_are : block ≡ directory_block words next entries
  pub few : length entries ≤ 42
  pub are_entries : AllByRecursion IsEntry entries

-- These words are those of valid entries.
pub record SpellsEntries {K V : Type 0} (words : K × V → List ℕ) (IsEntry : K × V
    → Type 0) (block : List ℕ) (entries : List (K × V)) : Type 0 where
  pub words_are : flat_map words entries ≡ block
  pub are_entries : AllByRecursion IsEntry entries

-- Entries of a chain are valid, and what they name lies in the free space.
pub record AreGood {K V : Type 0} (R : K → K → Ordering) (IsEntry : K × V → Type 0) (target : K × V
    → ℕ) (size : ℕ) (entries : List (K × V)) : Type 0 where
  pub are_entries : AllByRecursion IsEntry entries
  pub each_once : EachOnce R entries
  pub inside : AllByRecursion (λ e. InSpace size (target e)) entries

-- The words of a block after these entries of a chain, with what is wrong with them.
pub data IsBadWords {K V : Type 0} (R : K → K → Ordering) (words : K × V → List ℕ) (IsEntry : K × V
    → Type 0) (target : K × V → ℕ) (size : ℕ) (block : List ℕ) (before : List (K × V)) : Type 0 where
  malformed : ((next : ℕ) (entries : List (K × V)) → SpellsBlock words IsEntry block next entries → ⊥)
      → IsBadWords R words IsEntry target size block before
  next_outside : (next : ℕ) (entries : List (K × V)) → SpellsBlock words IsEntry block next entries → 0 < next
      → (InSpace size next → ⊥) → IsBadWords R words IsEntry target size block before
  entry_outside : (next : ℕ) (entries : List (K × V)) → SpellsBlock words IsEntry block next entries
      → (AllByRecursion (λ e. InSpace size (target e)) entries → ⊥)
      → IsBadWords R words IsEntry target size block before
  short : (next : ℕ) (entries : List (K × V)) → SpellsBlock words IsEntry block next entries → 0 < next
      → (length entries ≡ 42 → ⊥) → IsBadWords R words IsEntry target size block before
  empty_later : (next : ℕ) → SpellsBlock words IsEntry block next [] → 0 < length before
      → IsBadWords R words IsEntry target size block before
  key_again : (next : ℕ) (entries : List (K × V)) → SpellsBlock words IsEntry block next entries
      → EachOnce R before → (EachOnce R (before ++ entries) → ⊥) → IsBadWords R words IsEntry target size block before

-- The words of a block add its entries to those before, and name this block, or 0.
pub record Adds {K V : Type 0} (R : K → K → Ordering) (words : K × V → List ℕ) (IsEntry : K × V
    → Type 0) (target : K × V → ℕ) (size : ℕ) (block : List ℕ) (next : ℕ) (old new : List (K × V)) : Type 0 where
  pub entries : List (K × V)
  pub spells : SpellsBlock words IsEntry block next entries
  pub full : 0 < next → length entries ≡ 42
  pub later : 0 < length old → 0 < length entries
  pub next_inside : 0 < next → InSpace size next
  pub new_is : new ≡ old ++ entries
  pub good : AreGood R IsEntry target size new

-- A walk from `first` stops at block n, which is bad.
pub record IsBadChain {K V : Type 0} (R : K → K → Ordering) (words : K × V → List ℕ) (IsEntry : K × V
    → Type 0) (target : K × V → ℕ) (size : ℕ) (contents : Contents) (first n : ℕ) : Type 0 where
  pub before : List (Node (K × V))
  pub walk : LeadsAlong words contents first before n
  pub inside : InSpace size n
  pub bad : IsBadBlock R words IsEntry target size contents before n

-- A walk from `first` comes to block n, which is marked or was walked already.
pub record IsTwiceInChain {K V : Type 0} (words : K × V → List ℕ) (contents : Contents) (reached : List Bool)
    (first n : ℕ) : Type 0 where
  pub before : List (Node (K × V))
  pub walk : LeadsAlong words contents first before n
  pub somewhere : 0 < n
  pub twice : 2 ≤ digit_at reached n + times n (walked before n)

-- A valid chain begins at `first`, and none of its blocks is marked or occurs twice.
pub record IsWholeChain {K V : Type 0} (R : K → K → Ordering) (words : K × V → List ℕ) (IsEntry : K × V
    → Type 0) (target : K × V → ℕ) (size : ℕ) (contents : Contents) (reached : List Bool) (first : ℕ)
    (nodes : List (Node (K × V))) : Type 0 where
  pub read : IsChainRead R words IsEntry contents nodes
  pub begins : first_of nodes ≡ first
  pub blocks_inside : (n : ℕ) → 0 < times n (numbers nodes) → InSpace size n
  pub targets_inside : AllByRecursion (λ e. InSpace size (target e)) (items nodes)
  pub once : (n : ℕ) → digit_at reached n + times n (numbers nodes) ≤ 1

-- Block n is damaged, or its words are wrong after these entries.
abbrev pub IsBadAt : {K V : Type 0} → (K → K → Ordering) → (K × V → List ℕ) → (K × V → Type 0) → (K × V → ℕ)
    → ℕ → Contents → ℕ → List (K × V) → Type 0
IsBadAt R words IsEntry target size contents n before = (contents n ≡ None)
    ⊎ ((block : List ℕ) × (contents n ≡ Some block) × IsBadWords R words IsEntry target size block before)

-- The words of block n, as they were read, add its entries to those before, and name this block, or 0.
pub record ReadsOn {K V : Type 0} (R : K → K → Ordering) (words : K × V → List ℕ) (IsEntry : K × V → Type 0) (target : K
    × V → ℕ) (size : ℕ) (honest : Type 0) (contents : Contents) (n next : ℕ) (old new : List (K × V)) : Type 0 where
  pub block : List ℕ
  pub adds : Adds R words IsEntry target size block next old new
  pub words_are : honest → contents n ≡ Some block
