-- Statements about edits of a directory's chain: what the new contents must have for the blocks to be the directory
-- with the edit made. The entries of a block may come in any order; a hole is filled from the last block, and a last
-- block that becomes empty is freed.
use Rattle.std.specs.Prelude.{◌≡◌, ℕ, ◌<◌, ◌⊎◌, List, [], ◌∷◌, ◌++◌, length, Some, None}
use Rattle.std.specs.declared.cmp.Ordering.{Ordering}
use Rattle.blockdisk.specs.Common.{Contents}
use Rattle.spec_image.specs.Maps.{FinMap, get, insert, remove, size}
use Rattle.spec_image.specs.Blocks.{AgreeOn}
use Rattle.spec_image.specs.Costs.{directory_cost}
use Rattle.spec_image.specs.Directories.{Node, numbers, first_of, directory_block, IsDirectory}

module _ {K V : Type 0} (R : K → K → Ordering) (words : K × V → List ℕ) (IsEntry : K × V → Type 0) where
  -- the claim holds for each directory in old contents, and for all new contents
  abbrev Edit : (Contents → Contents → (blocks : List ℕ) → (m : FinMap R V) → List (Node (K × V)) → Type 0) → Type 0
  Edit claim = (old new : Contents) (blocks : List ℕ) (m : FinMap R V) (d : IsDirectory R words IsEntry old blocks m)
      → claim old new blocks m d.nodes

  -- an entry, anywhere, gets a new value
  abbrev pub EntryReplaced : Type 0
  EntryReplaced = Edit (λ old new blocks m nodes. (pre post : List (Node (K × V))) (n : ℕ) (xs ys : List (K × V))
      (k : K) (v w : V)
      → nodes ≡ pre ++ (n, xs ++ (k, v) ∷ ys) ∷ post → IsEntry (k, w)
      → new n ≡ Some (directory_block words (first_of post) (xs ++ (k, w) ∷ ys))
      → AgreeOn (numbers pre ++ numbers post) old new → IsDirectory R words IsEntry new blocks (insert m k w))

  -- a new key goes to the end of the last block, if that has room
  abbrev pub EntryAdded : Type 0
  EntryAdded = Edit (λ old new blocks m nodes. (pre : List (Node (K × V))) (n : ℕ) (es : List (K × V)) (k : K) (w : V)
      → nodes ≡ pre ++ (n, es) ∷ [] → length es < 42 → get m k ≡ None → IsEntry (k, w)
      → new n ≡ Some (directory_block words 0 (es ++ (k, w) ∷ []))
      → AgreeOn (numbers pre) old new → IsDirectory R words IsEntry new blocks (insert m k w))

  -- a full last block is followed by a new one
  abbrev pub ChainGrown : Type 0
  ChainGrown = Edit (λ old new blocks m nodes. (pre : List (Node (K × V))) (n : ℕ) (es : List (K × V))
      (fresh : ℕ) (k : K) (w : V)
      → nodes ≡ pre ++ (n, es) ∷ [] → length es ≡ 42 → get m k ≡ None → IsEntry (k, w)
      → new n ≡ Some (directory_block words fresh es) → new fresh ≡ Some (directory_block words 0 ((k, w) ∷ []))
      → AgreeOn (numbers pre) old new → IsDirectory R words IsEntry new (blocks ++ fresh ∷ []) (insert m k w))

  -- an entry of the last block goes, and the block still has another or is the first
  abbrev pub EntryRemoved : Type 0
  EntryRemoved = Edit (λ old new blocks m nodes. (pre : List (Node (K × V))) (n : ℕ) (xs ys : List (K × V)) (e : K × V)
      → nodes ≡ pre ++ (n, xs ++ e ∷ ys) ∷ [] → (pre ≡ []) ⊎ (0 < length (xs ++ ys))
      → new n ≡ Some (directory_block words 0 (xs ++ ys))
      → AgreeOn (numbers pre) old new → IsDirectory R words IsEntry new blocks (remove m e.0))

  -- the same, with the last entry moved into its place
  abbrev pub EntryRemovedMoved : Type 0
  EntryRemovedMoved = Edit (λ old new blocks m nodes. (pre : List (Node (K × V))) (n : ℕ) (xs zs : List (K × V))
      (e l : K × V)
      → nodes ≡ pre ++ (n, xs ++ e ∷ (zs ++ l ∷ [])) ∷ []
      → new n ≡ Some (directory_block words 0 (xs ++ l ∷ zs))
      → AgreeOn (numbers pre) old new → IsDirectory R words IsEntry new blocks (remove m e.0))

  -- the only entry of the last block goes, and the block with it
  abbrev pub LastDropped : Type 0
  LastDropped = Edit (λ old new blocks m nodes. (pre : List (Node (K × V))) (p : ℕ) (es : List (K × V)) (n : ℕ) (e : K
      × V) (front : List ℕ)
      → nodes ≡ pre ++ (p, es) ∷ (n, e ∷ []) ∷ [] → blocks ≡ front ++ n ∷ []
      → new p ≡ Some (directory_block words 0 es)
      → AgreeOn (numbers pre) old new → IsDirectory R words IsEntry new front (remove m e.0))

  -- an entry of an earlier block goes, and the last block's last entry fills the hole
  abbrev pub HoleFilled : Type 0
  HoleFilled = Edit (λ old new blocks m nodes. (pre mid : List (Node (K × V))) (q n : ℕ) (xs ys zs : List (K × V))
      (e l : K × V)
      → nodes ≡ pre ++ (q, xs ++ e ∷ ys) ∷ (mid ++ (n, zs ++ l ∷ []) ∷ []) → 0 < length zs
      → new q ≡ Some (directory_block words (first_of (mid ++ (n, zs ++ l ∷ []) ∷ [])) (xs ++ l ∷ ys))
      → new n ≡ Some (directory_block words 0 zs)
      → AgreeOn (numbers pre ++ numbers mid) old new → IsDirectory R words IsEntry new blocks (remove m e.0))

  -- the same, if that was the last block's only entry; the block before it is the one with the hole
  abbrev pub HoleFilledAdjacent : Type 0
  HoleFilledAdjacent = Edit (λ old new blocks m nodes. (pre : List (Node (K × V))) (q n : ℕ) (xs ys : List (K × V))
      (e l : K × V) (front : List ℕ)
      → nodes ≡ pre ++ (q, xs ++ e ∷ ys) ∷ (n, l ∷ []) ∷ [] → blocks ≡ front ++ n ∷ []
      → new q ≡ Some (directory_block words 0 (xs ++ l ∷ ys))
      → AgreeOn (numbers pre) old new → IsDirectory R words IsEntry new front (remove m e.0))

  -- the same, if another block comes before the last
  abbrev pub HoleFilledDropped : Type 0
  HoleFilledDropped = Edit (λ old new blocks m nodes. (pre mid : List (Node (K × V))) (q p n : ℕ)
      (xs ys es : List (K × V)) (e l : K × V) (front : List ℕ)
      → nodes ≡ pre ++ (q, xs ++ e ∷ ys) ∷ (mid ++ (p, es) ∷ (n, l ∷ []) ∷ []) → blocks ≡ front ++ n ∷ []
      → new q ≡ Some (directory_block words (first_of (mid ++ (p, es) ∷ (n, l ∷ []) ∷ [])) (xs ++ l ∷ ys))
      → new p ≡ Some (directory_block words 0 es)
      → AgreeOn (numbers pre ++ numbers mid) old new → IsDirectory R words IsEntry new front (remove m e.0))

  -- a chain has as many blocks as its directory costs
  abbrev pub ChainCosts : Type 0
  ChainCosts = (contents : Contents) (blocks : List ℕ) (m : FinMap R V) → IsDirectory R words IsEntry contents blocks m
      → length blocks ≡ directory_cost (size m)
