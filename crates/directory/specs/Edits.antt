-- What an edit makes of the entries of a chain, and which puts it takes.
use Rattle.std.specs.Prelude.{◌≡◌, ℕ, suc, ◌-◌, ◌*◌, ◌<◌, List, [], ◌∷◌, ◌++◌, length, get_or, take, drop, cond}
use Rattle.std.specs.Prelude.{slice_get, Some, None}
use Rattle.std.specs.List.{AllByRecursion}
use Rattle.std.specs.declared.cmp.Ordering.{Ordering}
use Rattle.std.specs.Ordering.{eq_by_cmp}
use Rattle.std.specs.FinMap.Entries.{find}
use Rattle.blockdisk.specs.Common.{Contents}
use Rattle.spec_image.specs.declared.put.Put.{Put}
use Rattle.spec_image.specs.Common.{times, targets, with_puts, IsTarget, InSpace, directory_block}
use Rattle.directory.specs.Chains.{ChainState, IsOn}
use Rattle.directory.specs.Spares.{IsSpareFor}

-- the list with its last element first
abbrev pub last_first : {X : Type 0} → List X → List X
last_first xs = drop (length xs - 1) xs ++ take (length xs - 1) xs

-- Memory for the lists of a chain to grow: how many places there are.
pub record Places : Type 0 where
  pub blocks : ℕ
  pub entries : ℕ
  -- for the places of the entries in ascending key order
  pub order : ℕ

module _ {K V : Type 0} (R : K → K → Ordering) where
  -- The first entry with this key is at place i, counted from 0.
  pub record StandsAt (items : List (K × V)) (k : K) (v : V) (i : ℕ) : Type 0 where
    pub within : i < length items
    pub is : slice_get items i ≡ Some (k, v)
    pub found : find R k items ≡ Some v
    pub before : find R k (take i items) ≡ None

  -- A new key takes one more block: the last block is full.
  abbrev pub TakesBlock : ChainState (K × V) → K → Type 0
  TakesBlock chain k = (find R k chain.entries ≡ None) × (length chain.entries ≡ 42 * length chain.blocks)

  -- Memory for one more entry, if the key has none yet, and for the block that the chain takes for it.
  pub record IsReserve (chain : ChainState (K × V)) (k : K) (reserve : Places) : Type 0 where
    pub entries : find R k chain.entries ≡ None → IsSpareFor (length chain.entries) reserve.entries
    pub order : find R k chain.entries ≡ None → IsSpareFor (length chain.entries) reserve.order
    pub blocks : TakesBlock chain k → IsSpareFor (length chain.blocks) reserve.blocks

  -- the entries with this one: in place of the one with its key, or at the end
  abbrev pub inserted : List (K × V) → K × V → List (K × V)
  inserted [] e = e ∷ []
  inserted (x ∷ xs) e = cond (eq_by_cmp R e.0 x.0) (e ∷ xs) (x ∷ inserted xs e)

  -- the entries with this one in place of the one with that key
  abbrev pub renamed : List (K × V) → K → K × V → List (K × V)
  renamed [] k e = []
  renamed (x ∷ xs) k e = cond (eq_by_cmp R k x.0) (e ∷ xs) (x ∷ renamed xs k e)

  -- the entries without the one with this key: the last one moves into the hole
  abbrev pub removed : List (K × V) → K → List (K × V)
  removed [] k = []
  removed (x ∷ xs) k = cond (eq_by_cmp R k x.0) (last_first xs) (x ∷ removed xs k)

-- the words of block k of a chain
abbrev pub block_words : {E : Type 0} → (E → List ℕ) → ChainState E → ℕ → List ℕ
block_words words chain k = directory_block words (get_or chain.blocks (suc k) 0)
    (take 42 (drop (42 * k) chain.entries))

-- the put of block k of a chain
abbrev pub block_put : {E : Type 0} → (E → List ℕ) → ChainState E → ℕ → Put
block_put words chain k = record { block = get_or chain.blocks k 0; words = block_words words chain k }

-- The puts `after` are those of `before` and those that make the new chain from the old one.
pub record PutsChain {K V : Type 0} (words : K × V
    → List ℕ) (old new : ChainState (K × V)) (before after : List Put) : Type 0 where
  -- if a disk with the puts before spells the old chain, with the puts after it spells the new one
  pub spells : (c : Contents) → IsOn words (with_puts before c) old → IsOn words (with_puts after c) new
  -- nothing else changes
  pub others : (c : Contents) (n : ℕ) → times n new.blocks ≡ 0 → with_puts after c n ≡ with_puts before c n
  pub in_range : (size : ℕ) → AllByRecursion (InSpace size) new.blocks → AllByRecursion (IsTarget size) (targets before)
      → AllByRecursion (IsTarget size) (targets after)
