-- What follows from a chain in memory, and from what it follows.
use Rattle.std.specs.Prelude.{◌≡◌, ℕ, ◌+◌, ◌*◌, ◌<◌, ◌≤◌, List, [], ◌∷◌, ◌++◌, length, take, drop, replicate, Some}
use Rattle.std.specs.List.{AllByRecursion}
use Rattle.std.specs.declared.cmp.Ordering.{Ordering}
use Rattle.std.specs.Ordering.{nat_cmp}
use Rattle.std.proofs.Common.{refl, sym, ap, subst, ◌∙◌, arith}
use Rattle.std.proofs.lemmas.List.{length-drop, length-take, length-take-le, take-append-drop}
use Rattle.blockdisk.specs.Common.{Contents}
use Rattle.spec_image.specs.Common.{AgreeOn, directory_cost, Node, numbers, items, IsSpelled, IsFilled, IsDirectory}
use Rattle.spec_image.specs.Common.{SpecMasterEntry, IsMasterEntry, IsMasterEntryOf, EachOnce, from_entries}
use Rattle.spec_image.specs.Common.{IsChainRead}
use Rattle.spec_image.proofs.Common.{times_here, times_later}
use Rattle.directory.specs.Chains.{ChainState, nodes_of, IsChain, IsOn}

-- From a list of entries to blocks with entries.

module _ {E : Type 0} where
  pub numbers_of : (ns : List ℕ) (es : List E) → numbers (nodes_of ns es) ≡ ns
  numbers_of [] es = refl
  numbers_of (n ∷ ns) es = ap (λ ms. n ∷ ms) (numbers_of ns (drop 42 es))

  pub items_of : (ns : List ℕ) (es : List E) → length es ≤ 42 * length ns → items (nodes_of ns es) ≡ es
  items_of [] [] few = refl
  items_of [] (e ∷ es) few = absurd (omega arith)
  items_of (n ∷ ns) es few = let rest = length-drop 42 es in
      ap (λ fs. take 42 es ++ fs) (items_of ns (drop 42 es) (omega arith)) ∙ take-append-drop 42 es

  filled_more : (n : ℕ) (ns : List ℕ) (es : List E) → 42 * length ns < length es → length es ≤ 42 * length ns + 42
      → (0 < length (take 42 es)) × IsFilled (nodes_of (n ∷ ns) es)
  filled_more n [] es low high = let first = length-take 42 es in (omega arith, omega arith)
  filled_more n (m ∷ ns) es low high =
      let first = length-take-le 42 es (omega arith) in
      let left = length-drop 42 es in
      let rest = filled_more m ns (drop 42 es) (omega arith) (omega arith) in
      (omega arith, (first, rest.0, rest.1))

  -- as many blocks as the entries cost are all full except the last, which is empty only if it is the first
  pub filled_of : (ns : List ℕ) (es : List E) → length ns ≡ directory_cost (length es) → IsFilled (nodes_of ns es)
  filled_of [] es counted = absurd (omega arith)
  filled_of (n ∷ []) es counted = let first = length-take 42 es in omega arith
  filled_of (n ∷ m ∷ ns) es counted = (filled_more n (m ∷ ns) es (omega arith) (omega arith)).1

-- What holds for each entry.

all_weaker : {E : Type 0} {P Q : E → Type 0} → ((e : E) → P e → Q e) → (es : List E) → AllByRecursion P es
    → AllByRecursion Q es
all_weaker weaker [] all = tt
all_weaker weaker (e ∷ es) all = (weaker e all.0, all_weaker weaker es all.1)

-- a chain for a stronger condition on entries is one for a weaker condition
pub chain_weaker : {K V : Type 0} {R : K → K → Ordering} {P Q : K × V → Type 0} → ((e : K × V) → P e → Q e)
    → (chain : ChainState (K × V)) → IsChain R P chain → IsChain R Q chain
chain_weaker weaker chain c = record {
  counted = c.counted;
  are_entries = all_weaker weaker chain.entries c.are_entries;
  each_once = c.each_once;
  blocks_once = c.blocks_once;
}

-- a chain of the master directory, in any layout, is one if its entries need only a project-programmer number
pub master_chain : (layout : ℕ) (chain : ChainState SpecMasterEntry) → IsChain nat_cmp (IsMasterEntryOf layout) chain
    → IsChain nat_cmp IsMasterEntry chain
master_chain layout = chain_weaker (λ e good. good.ppn)

-- What the contents spell.

module _ {K V : Type 0} {R : K → K → Ordering} (words : K × V → List ℕ) (IsEntry : K × V → Type 0) where
  -- the entries of the blocks are the chain's
  pub chain_items : (chain : ChainState (K × V)) → IsChain R IsEntry chain
      → items (nodes_of chain.blocks chain.entries) ≡ chain.entries
  chain_items chain c = let counted = c.counted in items_of chain.blocks chain.entries (omega arith)

  -- a chain that the contents spell was read from them
  pub chain_read : (contents : Contents) (chain : ChainState (K × V)) → IsChain R IsEntry chain
      → IsOn words contents chain → IsChainRead R words IsEntry contents (nodes_of chain.blocks chain.entries)
  chain_read contents chain c on =
      let all = chain_items chain c in
      record {
        spelled = on;
        filled = filled_of chain.blocks chain.entries c.counted;
        are_entries = subst (AllByRecursion IsEntry) (sym all) c.are_entries;
        each_once = subst (EachOnce R) (sym all) c.each_once;
      }

  -- a chain that the contents spell is a directory there, with the map of its entries
  pub chain_stands : (contents : Contents) (chain : ChainState (K × V)) → IsChain R IsEntry chain
      → IsOn words contents chain → IsDirectory R words IsEntry contents chain.blocks (from_entries chain.entries)
  chain_stands contents chain c on =
      let read = chain_read contents chain c on in
      record {
        nodes = nodes_of chain.blocks chain.entries;
        spelled = on;
        filled = read.filled;
        blocks_are = numbers_of chain.blocks chain.entries;
        are_entries = read.are_entries;
        each_once = read.each_once;
        map_is = ap from_entries (chain_items chain c);
      }

module _ {K V : Type 0} (words : K × V → List ℕ) where
  spelled_kept : (old new : Contents) (nodes : List (Node (K × V))) → IsSpelled words old nodes
      → AgreeOn (numbers nodes) old new → IsSpelled words new nodes
  spelled_kept old new [] s agree = tt
  spelled_kept old new (node ∷ nodes) s agree = (
    agree node.0 (times_here node.0 (numbers nodes)) ∙ s.0,
    spelled_kept old new nodes s.1 (λ n h. agree n (times_later n node.0 (numbers nodes) h)),
  )

  -- a chain is spelled as long as its blocks stay
  pub on_kept : (old new : Contents) (chain : ChainState (K × V)) → IsOn words old chain → AgreeOn chain.blocks old new
      → IsOn words new chain
  on_kept old new chain on agree = spelled_kept old new (nodes_of chain.blocks chain.entries) on
      (subst (λ ns. AgreeOn ns old new) (sym (numbers_of chain.blocks chain.entries)) agree)

  pub bare_on : (contents : Contents) (n : ℕ) → contents n ≡ Some (replicate 128 0)
      → IsOn words contents (record { blocks = n ∷ []; entries = [] })
  bare_on contents n zeros = (zeros, tt)
