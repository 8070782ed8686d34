-- A chain that was read whole: each walk from its first block goes over a front of it.
use Rattle.std.proofs.Common.{◌≡◌, ℕ, List, ◌++◌, Some, sym, ap, ◌∙◌, nat_cmp, Ordering}
use Rattle.std.specs.Cmp.{nat_cmp_total}
use Rattle.std.specs.FinMap.Entries.{find}
use Rattle.std.specs.List.{AllByRecursion}
use Rattle.words36.specs.declared.names.FileName.{FileName}
use Rattle.blockdisk.specs.Common.{Contents}
use Rattle.spec_image.specs.Common.{head_or_zero, Node, items, numbers, first_of, SpecMasterEntry, master_words}
use Rattle.spec_image.specs.Common.{SpecFileEntry, file_words, IsFileEntry, InSpace, IsMasterEntryOf, name_cmp, IsHome}
use Rattle.spec_image.specs.Common.{times, IsVolumeSize, place_of, LeadsAlong, IsDirectoryNamed, IsFileNamed}
use Rattle.spec_image.proofs.Common.{items-append, head-numbers, TellsApart, each_entry, name_total, walk_of_chain}
use Rattle.spec_image.proofs.Common.{find_front}
use Rattle.directory.specs.Common.{chain_items, numbers_of, ChainState, nodes_of, IsChain, IsOn}
use Rattle.volume.specs.Common.{home_in}
use Rattle.salvage.specs.Common.{IsNamedIn}
use Rattle.retrieval.proofs.Readings.{none_zero}

module _ {K V : Type 0} {R : K → K → Ordering} (words : K × V → List ℕ) (apart : TellsApart words)
    (IsEntry : K × V → Type 0) (size : ℕ) (contents : Contents) (first : ℕ) (chain : ChainState (K × V))
    (is : IsChain R IsEntry chain) (on : IsOn words contents chain) (begins : head_or_zero chain.blocks ≡ first)
    (inside : AllByRecursion (InSpace size) chain.blocks) where
  -- what is found at a key in the walked part, the chain has
  pub walked_entries : (nodes : List (Node (K × V))) (last : ℕ) → LeadsAlong words contents first nodes last
      → (k : K) (v : V) → find R k (items nodes) ≡ Some v → find R k chain.entries ≡ Some v
  walked_entries nodes last walk k v found =
      let whole = nodes_of chain.blocks chain.entries in
      let first_is : first_of whole ≡ first = sym (head-numbers whole)
      ∙ ap head_or_zero (numbers_of chain.blocks chain.entries) ∙ begins in
      let zero : times 0 (numbers whole) ≡ 0 = ap (times 0) (numbers_of chain.blocks chain.entries)
      ∙ none_zero size chain.blocks inside in
      let w = walk_of_chain words apart contents first nodes whole last on first_is zero walk in
      let all : chain.entries ≡ items nodes ++ items w.0 = sym (chain_items words IsEntry chain is) ∙ ap items w.1
      ∙ items-append nodes w.0 in
      ap (λ (es : List (K × V)). find R k es) all ∙ find_front R (items nodes) (items w.0) k v found

-- Each entry of a directory's chain names its file.
pub files_named : (size layout : ℕ) (contents : Contents) (ppn word first : ℕ) (chain : ChainState SpecFileEntry)
    → IsDirectoryNamed size contents layout ppn word first → IsChain name_cmp IsFileEntry chain
    → LeadsAlong file_words contents first (nodes_of chain.blocks chain.entries) 0
    → AllByRecursion (IsNamedIn size layout contents ppn) chain.entries
files_named size layout contents ppn word first chain named is walk = each_entry name_total
    (λ (name : FileName) (prime : ℕ). IsFileNamed size contents layout (place_of ppn name) prime)
    chain.entries is.each_once (λ name prime found. record {
      nodes = nodes_of chain.blocks chain.entries;
      last = 0;
      walk = record { word = word; first = first; named = named; walk = walk };
      entry = ap (λ (es : List SpecFileEntry). find name_cmp name es) (chain_items file_words IsFileEntry chain is)
          ∙ found;
    })

-- Each entry of the master directory's chain names its directory.
pub directories_named : (size layout : ℕ) (contents : Contents) (first : ℕ) (chain : ChainState SpecMasterEntry)
    → IsVolumeSize size → IsHome size contents (home_in layout first) → IsChain nat_cmp (IsMasterEntryOf 2) chain
    → LeadsAlong master_words contents first (nodes_of chain.blocks chain.entries) 0
    → AllByRecursion (λ (e : SpecMasterEntry). IsDirectoryNamed size contents layout e.0 e.1.0 e.1.1) chain.entries
directories_named size layout contents first chain volume home is walk = each_entry nat_cmp_total
    (λ (ppn : ℕ) (x : ℕ × ℕ). IsDirectoryNamed size contents layout ppn x.0 x.1) chain.entries is.each_once
    (λ ppn x found. record {
      nodes = nodes_of chain.blocks chain.entries;
      last = 0;
      walk = record { volume = volume; master = first; home = home; walk = walk };
      entry = ap (λ (es : List SpecMasterEntry). find nat_cmp ppn es)
          (chain_items master_words (IsMasterEntryOf 2) chain is) ∙ found;
    })
