-- Directory chains: what keeps one unchanged, and that a first block has at most one.
use Rattle.std.proofs.Common.{◌≡◌, ℕ, ◌*◌, ◌-◌, List, [], ◌∷◌, ◌++◌, map, length, replicate, flat_map, refl, sym, ap}
use Rattle.std.proofs.Common.{subst, ◌∙◌, arith, Ordering}
use Rattle.blockdisk.specs.Common.{Contents}
use Rattle.spec_image.specs.Maps.{FinMap, from_entries, times}
use Rattle.spec_image.specs.Directories.{Node, numbers, first_of, items, directory_block, IsSpelled, IsDirectory}
use Rattle.spec_image.specs.Blocks.{head_or_zero, AgreeOn}
use Rattle.spec_image.proofs.Lists.{times_here, times_later, not_first, TellsApart, flat_same}
use Rattle.spec_image.proofs.MapLaws.{some_same}

spelled_kept : {E : Type 0} (words : E → List ℕ) (old new : Contents) (nodes : List (Node E))
    → IsSpelled words old nodes → AgreeOn (numbers nodes) old new → IsSpelled words new nodes
spelled_kept words old new [] s a = tt
spelled_kept words old new (node ∷ nodes) s a = (
  a node.0 (times_here node.0 (numbers nodes)) ∙ s.0,
  spelled_kept words old new nodes s.1 (λ n h. a n (times_later n node.0 (numbers nodes) h)),
)

-- Other contents that agree on the chain's blocks have the same directory.
pub directory_kept : {K V : Type 0} {R : K → K → Ordering} (words : K × V → List ℕ) (IsEntry : K × V
    → Type 0) (old new : Contents) (blocks : List ℕ) (m : FinMap R V)
    → IsDirectory R words IsEntry old blocks m → AgreeOn blocks old new → IsDirectory R words IsEntry new blocks m
directory_kept words IsEntry old new blocks m d a = record {
  nodes = d.nodes;
  spelled = spelled_kept words old new d.nodes d.spelled (subst (λ ns. AgreeOn ns old new) (sym d.blocks_are) a);
  filled = d.filled;
  blocks_are = d.blocks_are;
  are_entries = d.are_entries;
  each_once = d.each_once;
  map_is = d.map_is;
}

pub block_same : {E : Type 0} (words : E → List ℕ) → TellsApart words → (n m : ℕ) (es fs : List E)
    → directory_block words n es ≡ directory_block words m fs → (n ≡ m) × (es ≡ fs)
block_same words a n m es fs e =
    let next : n ≡ m = cc in
    let count : length es ≡ length fs = cc in
    let rest : flat_map words es ++ replicate (126 - 3 * length es) 0 ≡ flat_map words fs
    ++ replicate (126 - 3 * length fs) 0 = cc in
    (next, flat_same words a es fs _ _ count rest)

nodes_same : {E : Type 0} (words : E → List ℕ) → TellsApart words → (contents : Contents) (c d : List (Node E))
    → IsSpelled words contents c → IsSpelled words contents d
    → times 0 (numbers c) ≡ 0 → times 0 (numbers d) ≡ 0 → first_of c ≡ first_of d → c ≡ d
nodes_same words a contents [] [] s t y z e = refl
nodes_same words a contents [] (node ∷ d) s t y z e = absurd (not_first node.0 (numbers d) e z)
nodes_same words a contents (node ∷ c) [] s t y z e = absurd (not_first node.0 (numbers c) (sym e) y)
nodes_same words a contents (p ∷ c) (q ∷ d) s t y z e =
    let blocks = block_same words a (first_of c) (first_of d) p.1 q.1 (some_same (sym s.0 ∙ ap contents e ∙ t.0)) in
    let rest : c ≡ d = nodes_same words a contents c d s.1 t.1 (omega arith) (omega arith) blocks.0 in
    λ i. (e i, blocks.1 i) ∷ rest i

pub head-numbers : {E : Type 0} (nodes : List (Node E)) → head_or_zero (numbers nodes) ≡ first_of nodes
head-numbers [] = refl
head-numbers (node ∷ nodes) = refl

-- A first block has at most one directory.
pub directory_same : {K V : Type 0} {R : K → K → Ordering} (words : K × V → List ℕ) → TellsApart words
    → (IsEntry : K × V → Type 0) (contents : Contents) (b c : List ℕ) (m n : FinMap R V)
    → IsDirectory R words IsEntry contents b m → IsDirectory R words IsEntry contents c n → times 0 b ≡ 0
    → times 0 c ≡ 0 → head_or_zero b ≡ head_or_zero c → (b ≡ c) × (m ≡ n)
directory_same words a IsEntry contents b c m n d e y z h =
    let nodes = nodes_same words a contents d.nodes e.nodes d.spelled e.spelled (ap (times 0) d.blocks_are
    ∙ y) (ap (times 0) e.blocks_are ∙ z)
    (sym (head-numbers d.nodes) ∙ ap head_or_zero d.blocks_are ∙ h ∙ sym (ap head_or_zero e.blocks_are)
    ∙ head-numbers e.nodes) in (
      sym d.blocks_are ∙ ap (map (λ node. node.0)) nodes ∙ e.blocks_are,
      sym d.map_is ∙ ap (λ ns. from_entries (items ns)) nodes ∙ e.map_is,
    )
