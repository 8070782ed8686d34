-- A directory in memory: its blocks, and its entries in one list in the order of the disk.
-- Block i of the chain holds the entries from 42 * i, up to 42 of them.
use Rattle.std.specs.Prelude.{◌≡◌, ℕ, ◌≤◌, List, [], ◌∷◌, map, length, take, drop}
use Rattle.std.specs.List.{AllByRecursion}
use Rattle.std.specs.declared.cmp.Ordering.{Ordering}
use Rattle.std.specs.Coded.{Coded, code_by, coded×, coded_list, coded_ℕ}
use Rattle.std.proofs.Common.{refl}
use Rattle.blockdisk.specs.Common.{Contents}
use Rattle.spec_image.specs.Common.{EachOnce, times, directory_cost, Node, IsSpelled}

pub record ChainState (E : Type 0) : Type 0 where
  -- the numbers of the blocks
  pub blocks : List ℕ
  pub entries : List E

abbrev pub chain_code : {E : Type 0} → Coded E → Coded (ChainState E)
chain_code {E} code =
    code_by (List ℕ × List E) (coded× (coded_list coded_ℕ) (coded_list code)) (λ c. (c.blocks, c.entries))
    (λ p. record { blocks = p.0; entries = p.1 }) (λ _. refl)

-- the chain with each entry seen as a key and what is stored there
abbrev pub viewed : {E K V : Type 0} → (E → K × V) → ChainState E → ChainState (K × V)
viewed view chain = record { blocks = chain.blocks; entries = map view chain.entries }

-- the blocks with their entries
abbrev pub nodes_of : {E : Type 0} → List ℕ → List E → List (Node E)
nodes_of [] es = []
nodes_of (n ∷ ns) es = (n, take 42 es) ∷ nodes_of ns (drop 42 es)

-- What holds for a chain in memory, whatever the disk holds.
pub record IsChain {K V : Type 0} (R : K → K → Ordering) (IsEntry : K × V
    → Type 0) (chain : ChainState (K × V)) : Type 0 where
  pub counted : length chain.blocks ≡ directory_cost (length chain.entries)
  pub are_entries : AllByRecursion IsEntry chain.entries
  pub each_once : EachOnce R chain.entries
  -- no block occurs twice
  pub blocks_once : (n : ℕ) → times n chain.blocks ≤ 1

-- The contents spell the chain: each block with its entries and the block after it.
abbrev pub IsOn : {K V : Type 0} → (K × V → List ℕ) → Contents → ChainState (K × V) → Type 0
IsOn words contents chain = IsSpelled words contents (nodes_of chain.blocks chain.entries)
