-- A walk follows the chain on the disk: what was walked is a front of it.
use Rattle.std.proofs.Common.{◌≡◌, ℕ, zero, suc, ◌+◌, ◌<◌, ◌≤◌, ⊎_elim, List, [], ◌∷◌, ◌++◌, map, length, flat_map}
use Rattle.std.proofs.Common.{Some, None, refl, sym, ap, subst, ◌∙◌, arith, cond, true, false, append_assoc, Ordering}
use Rattle.std.proofs.Common.{◌*◌, ◌-◌, ◌^◌, replicate}
use Rattle.std.proofs.lemmas.Bool.{cases_eq}
use Rattle.std.proofs.lemmas.Bool.Decides.{nat_tests}
use Rattle.std.proofs.lemmas.List.{map-append}
use Rattle.std.specs.List.{AllByRecursion, AllZip}
use Rattle.std.specs.Ordering.{eq_by_cmp}
use Rattle.std.specs.FinMap.Entries.{find}
use Rattle.std.specs.Cmp.{IsTotalOrder}
use Rattle.blockdisk.specs.Common.{Contents}
use Rattle.spec_image.specs.Maps.{FinMap, get, EachOnce, times}
use Rattle.spec_image.specs.Blocks.{head_or_zero}
use Rattle.spec_image.specs.Directories.{Node, numbers, first_of, items, IsSpelled, IsFilled, IsDirectory}
use Rattle.spec_image.specs.Retrieval.{SpecRun, Extension, extension_numbers, first_extension, all_runs}
use Rattle.spec_image.specs.Retrieval.{extension_block}
use Rattle.spec_image.specs.Retrieval.{AreExtensions, IsRun, pointer, extension_half}
use Rattle.spec_image.specs.Walks.{LeadsAlong, LeadsOn}
use Rattle.spec_image.specs.Faults.{walked}
use Rattle.spec_image.proofs.MapLaws.{some_same, some_none}
use Rattle.spec_image.proofs.MapSums.{times-append}
use Rattle.spec_image.proofs.MapLists.{get-from_entries}
use Rattle.spec_image.proofs.Lists.{TellsApart, times_here, times_later}
use Rattle.spec_image.proofs.ChainEdits.{items-append}
use Rattle.spec_image.proofs.Chains.{block_same, head-numbers}
use Rattle.spec_image.proofs.Versions.{pointers_same}

-- Lists.

-- what has P at each number in a list
pub all_times : (P : ℕ → Type 0) (xs : List ℕ) → ((n : ℕ) → 0 < times n xs → P n) → AllByRecursion P xs
all_times P [] h = tt
all_times P (x ∷ xs) h = (h x (times_here x xs), all_times P xs (λ n i. h n (times_later n x xs i)))

pub flat-append : {A B : Type 0} (f : A → List B) (xs ys : List A)
    → flat_map f (xs ++ ys) ≡ flat_map f xs ++ flat_map f ys
flat-append f [] ys = refl
flat-append f (x ∷ xs) ys = ap (λ l. f x ++ l) (flat-append f xs ys)
    ∙ sym (append_assoc (f x) (flat_map f xs) (flat_map f ys))

-- what a list has at a key it has with more after it
pub find_front : {K V : Type 0} (R : K → K → Ordering) (es fs : List (K × V)) (k : K) (v : V) → find R k es ≡ Some v
    → find R k (es ++ fs) ≡ Some v
find_front R [] fs k v h = cc
find_front R (e ∷ es) fs k v h =
    elim (eq_by_cmp R k e.0) as (λ b. cond b (Some e.1) (find R k es) ≡ Some v
    → cond b (Some e.1) (find R k (es ++ fs)) ≡ Some v) [ true ↦ λ s. s | false ↦ λ s. find_front R es fs k v s ] h

pub none_front : {K V : Type 0} (R : K → K → Ordering) (es fs : List (K × V)) (k : K) → find R k (es ++ fs) ≡ None
    → find R k es ≡ None
none_front R [] fs k h = refl
none_front R (e ∷ es) fs k h =
    elim (eq_by_cmp R k e.0) as (λ b. cond b (Some e.1) (find R k (es ++ fs)) ≡ None
    → cond b (Some e.1) (find R k es) ≡ None) [ true ↦ λ n. n | false ↦ λ n. none_front R es fs k n ] h

pub once_front : {K V : Type 0} (R : K → K → Ordering) (es fs : List (K × V)) → EachOnce R (es ++ fs) → EachOnce R es
once_front R [] fs u = tt
once_front R (e ∷ es) fs u = (none_front R es fs e.0 u.0, once_front R es fs u.1)

-- words of a block in a list of undamaged ones
pub undamaged_at : (contents : Contents) (ns : List ℕ) (each : List (List ℕ)) (n : ℕ)
    → AllZip (λ k words. contents k ≡ Some words) ns each → 0 < times n ns → contents n ≡ None → ⊥
undamaged_at contents [] each n a h none = omega arith
undamaged_at contents (k ∷ ns) [] n a h none = absurd a
undamaged_at contents (k ∷ ns) (w ∷ each) n a h none =
    ⊎_elim
    (λ (here : n ≡ k). some_none (sym a.0 ∙ ap contents (sym here) ∙ none))
    (λ (other : n ≡ k → ⊥). undamaged_at contents ns each n a.1 (let e : times n (k ∷ ns)
    ≡ times n ns = grind (arith, nat_tests) in omega arith) none)
    (cases_eq n k)

-- Chains.

-- The whole chain is what was walked, and a rest that begins at the block named last.
pub walk_of_chain : {E : Type 0} (words : E → List ℕ) → TellsApart words
    → (contents : Contents) (first : ℕ) (nodes chain : List (Node E)) (last : ℕ) → IsSpelled words contents chain
    → first_of chain ≡ first
    → times 0 (numbers chain) ≡ 0 → LeadsAlong words contents first nodes last → (rest : List (Node E))
    × (chain ≡ nodes ++ rest) × (first_of rest ≡ last)
walk_of_chain words a contents first [] chain last s f z l = (chain, refl, f ∙ l)
walk_of_chain words a contents first (node ∷ nodes) [] last s f z l = absurd (let h = l.1 in omega arith)
walk_of_chain words a contents first (node ∷ nodes) (q ∷ chain) last s f z l =
    let same = block_same words a (first_of chain) l.2 q.1 node.1 (some_same (sym s.0 ∙ ap contents f ∙ l.3)) in
    let more = walk_of_chain words a contents l.2 nodes chain last s.1 same.0 (omega arith) l.4 in
    (more.0, (λ i. ((f ∙ sym l.0) i, same.1 i) ∷ more.1 i), more.2)

-- What the rule for full and empty blocks states for one block of a chain.
pub record IsFilledAt {E : Type 0} (pre : List (Node E)) (entries : List E) (post : List (Node E)) : Type 0 where
  pub few : length entries ≤ 42
  pub full : 0 < length post → length entries ≡ 42
  pub some : 0 < length pre → 0 < length entries

pub filled_at : {E : Type 0} (pre : List (Node E)) (n : ℕ) (entries : List E) (post : List (Node E))
    → IsFilled (pre ++ (n, entries) ∷ post) → IsFilledAt pre entries post
filled_at [] n es [] f = record { few = f; full = λ h. absurd (omega arith); some = λ h. absurd (omega arith) }
filled_at [] n es (q ∷ post) f = record { few = omega arith; full = λ h. f.0; some = λ h. absurd (omega arith) }
filled_at (p ∷ []) n es post f = let r = filled_at [] n es post f.2 in
    record { few = r.few; full = r.full; some = λ h. f.1 }
filled_at (p ∷ q ∷ pre) n es post f = let r = filled_at (q ∷ pre) n es post f.2 in
    record { few = r.few; full = r.full; some = λ h. r.some (omega arith) }

module _ {K V : Type 0} {R : K → K → Ordering} (words : K × V → List ℕ) (apart : TellsApart words) (IsEntry : K × V
    → Type 0) (contents : Contents) (blocks : List ℕ) (m : FinMap R V)
    (d : IsDirectory R words IsEntry contents blocks m) (nonzero : times 0 blocks ≡ 0) where
  first_is : first_of d.nodes ≡ head_or_zero blocks
  first_is = sym (head-numbers d.nodes) ∙ ap head_or_zero d.blocks_are

  -- a walk through a directory that the disk has
  pub walk_of_directory : (first last : ℕ) (nodes : List (Node (K × V))) → first ≡ head_or_zero blocks
      → LeadsAlong words contents first nodes last
      → (rest : List (Node (K × V))) × (d.nodes ≡ nodes ++ rest) × (first_of rest ≡ last)
  walk_of_directory first last nodes e l = walk_of_chain words apart contents first nodes d.nodes last d.spelled
      (first_is ∙ sym e) (ap (times 0) d.blocks_are ∙ nonzero) l

  pub walk_le : (first last : ℕ) (nodes : List (Node (K × V))) → first ≡ head_or_zero blocks
      → LeadsAlong words contents first nodes last → (n : ℕ) → times n (walked nodes last) ≤ times n blocks
  walk_le first zero nodes e l n =
      let w = walk_of_directory first 0 nodes e l in
      let f = ap (times n) (sym d.blocks_are) ∙ ap (λ c. times n (numbers c)) w.1
      ∙ ap (times n) (map-append (λ node. node.0) nodes w.0) ∙ times-append n (numbers nodes) (numbers w.0) in
      omega arith
  walk_le first (suc last) nodes e l n =
      let w = walk_of_directory first (suc last) nodes e l in
      let f = ap (times n) (sym d.blocks_are) ∙ ap (λ c. times n (numbers c)) w.1
      ∙ ap (times n) (map-append (λ node. node.0) nodes w.0) ∙ times-append n (numbers nodes) (numbers w.0) in
      let g : times n (suc last ∷ []) ≤ times n (numbers w.0) = begins w.0 w.2 in
      let h = times-append n (numbers nodes) (suc last ∷ []) in
      omega arith
    where
      begins : (rest : List (Node (K × V))) → first_of rest ≡ suc last
          → times n (suc last ∷ []) ≤ times n (numbers rest)
      begins [] e = absurd (omega arith)
      begins (node ∷ rest) e = subst (λ k. times n (k ∷ []) ≤ times n (node.0 ∷ numbers rest)) e (omega arith)

  -- what the walked part has at a key, the directory has
  pub entry_there : IsTotalOrder R → (first last : ℕ) (nodes : List (Node (K × V))) → first ≡ head_or_zero blocks
      → LeadsAlong words contents first nodes last → (k : K) (v : V)
      → find R k (items nodes) ≡ Some v → get m k ≡ Some v
  entry_there o first last nodes e l k v h =
      let w = walk_of_directory first last nodes e l in
      let all : items d.nodes ≡ items nodes ++ items w.0 = ap items w.1 ∙ items-append nodes w.0 in
      ap (λ z. get z k) (sym d.map_is) ∙ get-from_entries o (items d.nodes) k ∙ ap (find R k) all
      ∙ find_front R (items nodes) (items w.0) k v h

-- Extensions.

pub extension_same : (rs ss : List SpecRun) (next after : ℕ) → AllByRecursion IsRun rs → AllByRecursion IsRun ss
    → extension_block rs next ≡ extension_block ss after → (next ≡ after) × (rs ≡ ss)
extension_same rs ss next after a b words =
    let heads : extension_half * 2 ^ 18 + length rs ≡ extension_half * 2 ^ 18 + length ss = cc in
    let nexts : next ≡ after = cc in
    let tails : map pointer rs ++ replicate (126 - length rs) 0 ≡ map pointer ss
    ++ replicate (126 - length ss) 0 = cc in
    (nexts, pointers_same rs ss _ _ (omega arith) a b tails)

pub walk_of_extensions : (contents : Contents) (first : ℕ) (es all : List Extension) (last : ℕ)
    → AreExtensions contents all → first_extension all ≡ first
    → times 0 (extension_numbers all) ≡ 0 → LeadsOn contents first es last → (rest : List Extension)
    × (all ≡ es ++ rest) × (first_extension rest ≡ last)
walk_of_extensions contents first [] all last s f z l = (all, refl, f ∙ l)
walk_of_extensions contents first (e ∷ es) [] last s f z l = absurd (let h = l.1 in omega arith)
walk_of_extensions contents first (e ∷ es) (q ∷ all) last s f z l =
    let words : extension_block q.1 (first_extension all) ≡ extension_block e.1 l.3 = some_same (sym s.0
    ∙ ap contents f ∙ l.4) in
    let same = extension_same q.1 e.1 (first_extension all) l.3 s.4 l.2 words in
    let more = walk_of_extensions contents l.3 es all last s.5 same.0 (omega arith) l.5 in
    (more.0, (λ i. ((f ∙ sym l.0) i, same.1 i) ∷ more.1 i), more.2)

pub extensions_back : (contents : Contents) (pre rest : List Extension) → AreExtensions contents (pre ++ rest)
    → AreExtensions contents rest
extensions_back contents [] rest s = s
extensions_back contents (e ∷ pre) rest s = extensions_back contents pre rest s.5

pub all_runs-append : (xs ys : List Extension) → all_runs (xs ++ ys) ≡ all_runs xs ++ all_runs ys
all_runs-append [] ys = refl
all_runs-append (x ∷ xs) ys = ap (λ z. x.1 ++ z) (all_runs-append xs ys)
    ∙ sym (append_assoc x.1 (all_runs xs) (all_runs ys))
