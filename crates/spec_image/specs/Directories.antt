-- A directory as a chain of blocks, seen as a finite map. Word 0 of a block is the next block of the
-- chain or 0, word 1 the number of entries, 0 to 42; then come the entries, three words each, and zeros.
-- The order of the entries is free.
use Rattle.std.specs.Prelude.{◌≡◌, ℕ, ◌+◌, ◌*◌, ◌-◌, ◌^◌, ◌<◌, ◌≤◌, List, [], ◌∷◌, ◌++◌, map, length, replicate}
use Rattle.std.specs.Prelude.{flat_map, Some}
use Rattle.std.specs.List.{AllByRecursion}
use Rattle.std.specs.declared.cmp.Ordering.{Ordering}
use Rattle.words36.specs.Common.{join, IsWord, IsPpn}
use Rattle.words36.specs.declared.names.FileName.{FileName}
use Rattle.blockdisk.specs.Common.{Contents}
use Rattle.spec_image.specs.Maps.{FinMap, EachOnce, from_entries}

-- a block of a chain: its number, and its entries in their order
abbrev pub Node : Type 0 → Type 0
Node E = ℕ × List E

abbrev pub numbers : {E : Type 0} → List (Node E) → List ℕ
numbers nodes = map (λ node. node.0) nodes

-- the number of the first block, or 0 if there is none
abbrev pub first_of : {E : Type 0} → List (Node E) → ℕ
first_of [] = 0
first_of (node ∷ nodes) = node.0

abbrev pub items : {E : Type 0} → List (Node E) → List E
items [] = []
items (node ∷ nodes) = node.1 ++ items nodes

-- the words of a directory block
abbrev pub directory_block : {E : Type 0} → (E → List ℕ) → ℕ → List E → List ℕ
directory_block words next entries = next ∷ length entries
    ∷ (flat_map words entries ++ replicate (126 - 3 * length entries) 0)

-- Each block of the chain is on the disk, and names the one after it.
abbrev pub IsSpelled : {E : Type 0} → (E → List ℕ) → Contents → List (Node E) → Type 0
IsSpelled words contents [] = Unit {0}
IsSpelled words contents (node ∷ nodes) = (contents node.0 ≡ Some (directory_block words (first_of nodes) node.1))
    × IsSpelled words contents nodes

-- All blocks except the last are full, and the last is empty only if it is the first.
abbrev pub IsFilled : {E : Type 0} → List (Node E) → Type 0
IsFilled [] = ⊥
IsFilled (a ∷ []) = length a.1 ≤ 42
IsFilled (a ∷ b ∷ nodes) = (length a.1 ≡ 42) × (0 < length b.1) × IsFilled (b ∷ nodes)

-- The blocks are a chain on the disk, and the entries in them are the map.
pub record IsDirectory {K V : Type 0} (R : K → K → Ordering) (words : K × V → List ℕ) (IsEntry : K × V
    → Type 0) (contents : Contents) (blocks : List ℕ) (m : FinMap R V) : Type 0 where
  pub nodes : List (Node (K × V))
  pub spelled : IsSpelled words contents nodes
  pub filled : IsFilled nodes
  pub blocks_are : numbers nodes ≡ blocks
  pub are_entries : AllByRecursion IsEntry (items nodes)
  pub each_once : EachOnce R (items nodes)
  pub map_is : from_entries (items nodes) ≡ m

-- An entry of the master directory: the PPN; a word with the protection in bits 0 to 8 and, in layout 2,
-- a quota in bits 18 to 35; the first block of that directory.
abbrev pub SpecMasterEntry : Type 0
SpecMasterEntry = ℕ × (ℕ × ℕ)

abbrev pub master_words : SpecMasterEntry → List ℕ
master_words e = e.0 ∷ e.1.0 ∷ e.1.1 ∷ []

abbrev pub IsMasterEntry : SpecMasterEntry → Type 0
IsMasterEntry e = IsPpn e.0

-- the word of a protection and a quota
abbrev pub master_word : ℕ → ℕ → ℕ
master_word protection quota = protection * 2 ^ 27 + quota

-- An entry of a directory: the name; the extension in the left half and zero in the right one; the prime retrieval
-- block.
abbrev pub SpecFileEntry : Type 0
SpecFileEntry = FileName × ℕ

abbrev pub file_words : SpecFileEntry → List ℕ
file_words e = e.0.name ∷ join e.0.ext 0 ∷ e.1 ∷ []

-- any nonzero word is a name
pub record IsFileEntry (e : SpecFileEntry) : Type 0 where
  pub name : 0 < e.0.name
  pub name_fits : IsWord e.0.name
  pub ext_fits : e.0.ext < 2 ^ 18
