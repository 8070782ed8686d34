-- A chain as it is read, block by block: what was read so far, and what a stop there says of the disk.
use Rattle.std.proofs.Common.{◌≡◌, ⊎_elim, ℕ, zero, suc, ◌+◌, ◌*◌, ◌<◌, ◌≤◌, Bool, true, false, List, [], ◌∷◌, ◌++◌}
use Rattle.std.proofs.Common.{length, take, drop, slice_set, Some, None, refl, sym, ap, subst, ◌∙◌, arith}
use Rattle.std.proofs.Common.{append_assoc, length-append, Ordering}
use Rattle.std.specs.List.{AllByRecursion}
use Rattle.std.proofs.lemmas.Bool.{cases_eq}
use Rattle.std.proofs.lemmas.Bool.Decides.{nat_tests}
use Rattle.std.proofs.lemmas.List.{get_or-set_same, get_or-set_other, length-map, take-append-drop, length-take-le}
use Rattle.std.proofs.lemmas.List.{length-drop, take_all}
use Rattle.std.proofs.Math.ListN.{length-set}
use Rattle.std.proofs.Math.Seq.{take-append_seam, drop-append_seam}
use Rattle.blockdisk.specs.Common.{Contents, DiskState, same_contents, still_start}
use Rattle.changeset.specs.Common.{OnlyReads}
use Rattle.spec_image.specs.Common.{head_or_zero, directory_cost, EachOnce, from_entries, times, Node, numbers}
use Rattle.spec_image.specs.Common.{first_of, items, directory_block, IsSpelled, IsDirectory, LeadsAlong, InSpace}
use Rattle.spec_image.specs.Common.{IsBadBlock, walked}
use Rattle.spec_image.proofs.Common.{some_same, some_none, times-append, TellsApart, all_append, walk_le}
use Rattle.spec_image.proofs.Common.{no_bad_block, head-numbers}
use Rattle.alloctab.specs.Common.{digit, digit_at, flag_at}
use Rattle.directory.specs.Common.{nodes_of, IsOn, numbers_of, items_of, AreGood, IsBadWords, IsBadAt, ReadsOn}
use Rattle.directory.specs.Common.{IsBadChain, IsTwiceInChain, IsWholeChain}
use Rattle.alloctab.proofs.SpaceLaws.{in_space_some}

-- The disk is read and not written.

pub reads_start : (s : DiskState) → OnlyReads s s
reads_start s = record { still = still_start s; is_open = λ n. refl }

-- Marks.

-- how many are not marked
abbrev lack : Bool → ℕ
lack true = 0
lack false = 1

abbrev pub unmarked : List Bool → ℕ
unmarked [] = 0
unmarked (b ∷ bs) = lack b + unmarked bs

pub fewer_unmarked : (marks : List Bool) (n : ℕ) → flag_at marks n ≡ false → n < length marks
    → unmarked (slice_set marks n true) < unmarked marks
fewer_unmarked [] n free inside = absurd (omega arith)
fewer_unmarked (b ∷ bs) zero free inside = let e : lack b ≡ 1 = ap lack free in omega arith
fewer_unmarked (b ∷ bs) (suc n) free inside = let r = fewer_unmarked bs n free (omega arith) in omega arith

marked_more : (old marks : List Bool) (blocks : List ℕ) (n : ℕ) → flag_at marks n ≡ false → n < length marks
    → ((m : ℕ) → digit_at marks m ≡ digit_at old m + times m blocks) → (m : ℕ)
    → digit_at (slice_set marks n true) m ≡ digit_at old m + times m (blocks ++ n ∷ [])
marked_more old marks blocks n free inside marked m = ⊎_elim here other (cases_eq m n)
  where
    both : times m (blocks ++ n ∷ []) ≡ times m blocks + times m (n ∷ [])
    both = times-append m blocks (n ∷ [])

    here : m ≡ n → digit_at (slice_set marks n true) m ≡ digit_at old m + times m (blocks ++ n ∷ [])
    here same =
        let now : digit_at (slice_set marks n true) m ≡ 1 = ap (digit_at (slice_set marks n true)) same
        ∙ ap digit (get_or-set_same marks n true false inside) in
        let was : digit_at marks m ≡ 0 = ap (digit_at marks) same ∙ ap digit free in
        let one : times m (n ∷ []) ≡ 1 = grind (arith, nat_tests) in
        let e = marked m in
        let b = both in
        omega arith

    other : (m ≡ n → ⊥) → digit_at (slice_set marks n true) m ≡ digit_at old m + times m (blocks ++ n ∷ [])
    other differs =
        let now : digit_at (slice_set marks n true) m
        ≡ digit_at marks m = ap digit (get_or-set_other marks n m true false differs) in
        let none : times m (n ∷ []) ≡ 0 = grind (arith, nat_tests) in
        let e = marked m in
        let b = both in
        omega arith

-- Walks.

leads_more : {E : Type 0} (words : E → List ℕ) (c : Contents) (first : ℕ) (nodes : List (Node E)) (n : ℕ)
    (entries : List E) (next : ℕ) → LeadsAlong words c first nodes n → 0 < n
    → c n ≡ Some (directory_block words next entries)
    → LeadsAlong words c first (nodes ++ (n, entries) ∷ []) next
leads_more words c first [] n entries next walk some is = (sym walk, omega arith, next, ap c walk ∙ is, refl)
leads_more words c first (node ∷ nodes) n entries next walk some is = (
  walk.0,
  walk.1,
  walk.2,
  walk.3,
  leads_more words c walk.2 nodes n entries next walk.4 some is,
)

leads_end : {E : Type 0} (words : E → List ℕ) (c : Contents) (first : ℕ) (nodes : List (Node E))
    → LeadsAlong words c first nodes 0 → (first_of nodes ≡ first) × IsSpelled words c nodes
leads_end words c first [] walk = (sym walk, tt)
leads_end words c first (node ∷ nodes) walk =
    let r = leads_end words c walk.2 nodes walk.4 in
    (walk.0, (ap c walk.0 ∙ walk.3 ∙ ap (λ m. Some (directory_block words m node.1)) (sym r.0), r.1))

-- full blocks, and one more after them
nodes_more : {E : Type 0} (blocks : List ℕ) (old es : List E) (n : ℕ) → length old ≡ 42 * length blocks
    → length es ≤ 42 → nodes_of (blocks ++ n ∷ []) (old ++ es) ≡ nodes_of blocks old ++ (n, es) ∷ []
nodes_more [] [] es n full few = λ i. (n, take_all 42 es few i) ∷ []
nodes_more [] (e ∷ old) es n full few = absurd (omega arith)
nodes_more (b ∷ blocks) old es n full few =
    let left = length-drop 42 old in
    let long = length-take-le 42 old (omega arith) in
    let split : old ++ es ≡ take 42 old ++ (drop 42 old ++ es) = ap (λ l. l ++ es) (sym (take-append-drop 42 old))
    ∙ append_assoc (take 42 old) (drop 42 old) es in
    let front : take 42 (old ++ es) ≡ take 42 old = (λ i. take (sym long i) (split i))
    ∙ take-append_seam (take 42 old) (drop 42 old ++ es) in
    let back : drop 42 (old ++ es) ≡ drop 42 old ++ es = (λ i. drop (sym long i) (split i))
    ∙ drop-append_seam (take 42 old) (drop 42 old ++ es) in
    (λ i. (b, front i) ∷ nodes_of (blocks ++ n ∷ []) (back i))
    ∙ ap (λ l. (b, take 42 old) ∷ l) (nodes_more blocks (drop 42 old) es n (omega arith) few)

head_more : (blocks : List ℕ) (n next : ℕ) → head_or_zero ((blocks ++ n ∷ []) ++ next ∷ [])
    ≡ head_or_zero (blocks ++ n ∷ [])
head_more [] n next = refl
head_more (b ∷ blocks) n next = refl

-- What was read so far; the block `next` follows, or it is 0.
pub record IsLoading {K V : Type 0} (R : K → K → Ordering) (words : K × V → List ℕ) (IsEntry : K × V
    → Type 0) (target : K × V → ℕ) (size : ℕ) (honest : Type 0) (contents : Contents) (old marks : List Bool)
    (first : ℕ)
    (blocks : List ℕ) (entries : List (K × V)) (next : ℕ) : Type 0 where
  pub good : AreGood R IsEntry target size entries
  pub full : 0 < next → length entries ≡ 42 * length blocks
  pub counted : next ≡ 0 → length blocks ≡ directory_cost (length entries)
  pub next_inside : 0 < next → InSpace size next
  pub blocks_inside : AllByRecursion (InSpace size) blocks
  pub begins : head_or_zero (blocks ++ next ∷ []) ≡ first
  pub marked : (n : ℕ) → digit_at marks n ≡ digit_at old n + times n blocks
  pub long : length marks ≡ size
  pub walk : honest → LeadsAlong words contents first (nodes_of blocks entries) next

-- what was walked while less was known to be honest
pub loading_less : {K V : Type 0} (R : K → K → Ordering) (words : K × V → List ℕ) (IsEntry : K × V
    → Type 0) (target : K × V → ℕ) (size : ℕ) (honest later : Type 0) → (later → honest)
    → (contents : Contents) (old marks : List Bool) (first : ℕ) (blocks : List ℕ) (entries : List (K × V)) (next : ℕ)
    → IsLoading R words IsEntry target size honest contents old marks first blocks entries next
    → IsLoading R words IsEntry target size later contents old marks first blocks entries next
loading_less R words IsEntry target size honest later was contents old marks first blocks entries next l = record {
  good = l.good;
  full = l.full;
  counted = l.counted;
  next_inside = l.next_inside;
  blocks_inside = l.blocks_inside;
  begins = l.begins;
  marked = l.marked;
  long = l.long;
  walk = λ h. l.walk (was h);
}

module _ {K V : Type 0} (R : K → K → Ordering) (words : K × V → List ℕ) (IsEntry : K × V → Type 0) (target : K × V
    → ℕ) (size : ℕ) (honest : Type 0) (contents : Contents) (old : List Bool) (first : ℕ) where
  pub loading_begins : InSpace size first → length old ≡ size
      → IsLoading R words IsEntry target size honest contents old old first [] [] first
  loading_begins inside long = record {
    good = record { are_entries = tt; each_once = tt; inside = tt };
    full = λ some. refl;
    counted = λ none. absurd (let e = in_space_some size first inside in omega arith);
    next_inside = λ some. inside;
    blocks_inside = tt;
    begins = refl;
    marked = λ n. omega arith;
    long = long;
    walk = λ h. refl;
  }

  -- with nothing read yet
  pub loading_starts : (blocks : List ℕ) (entries : List (K × V)) → blocks ≡ [] → entries ≡ [] → InSpace size first
      → length old ≡ size → IsLoading R words IsEntry target size honest contents old old first blocks entries first
  loading_starts blocks entries b e inside long =
      subst (λ (p : List ℕ × List (K × V)). IsLoading R words IsEntry target size honest contents old old
      first p.0 p.1 first) (λ i. (sym b i, sym e i)) (loading_begins inside long)

  module _ (marks : List Bool) (blocks : List ℕ) (entries : List (K × V)) (n : ℕ)
      (l : IsLoading R words IsEntry target size honest contents old marks first blocks entries n) (some : 0 < n) where
    pub loading_more : (next : ℕ) (new : List (K × V)) → flag_at marks n ≡ false
        → ReadsOn R words IsEntry target size honest contents n next entries new
        → IsLoading R words IsEntry target size honest contents old (slice_set marks n true) first
        (blocks ++ n ∷ []) new next
    loading_more next new free r =
        let a = r.adds in
        let es = a.entries in
        let full = l.full some in
        let few = a.spells.few in
        let long = l.long in
        let here = l.next_inside some in
        let below = here.below in
        let count = length-append blocks (n ∷ []) in
        let counted : length new ≡ length entries + length es = ap length a.new_is ∙ length-append entries es in
        record {
          good = a.good;
          full = λ more. let f = a.full more in omega arith;
          counted = λ none. counts none full few counted count (λ before. a.later before);
          next_inside = a.next_inside;
          blocks_inside = all_append (InSpace size) blocks (n ∷ []) l.blocks_inside (here, tt);
          begins = head_more blocks n next ∙ l.begins;
          marked = marked_more old marks blocks n free (omega arith) l.marked;
          long = length-set marks n true ∙ long;
          walk = λ h. subst (λ nodes. LeadsAlong words contents first nodes next)
              (sym (nodes_more blocks entries es n full few) ∙ ap (nodes_of (blocks ++ n ∷ [])) (sym a.new_is))
              (leads_more words contents first (nodes_of blocks entries) n es next (l.walk h) some (r.words_are h
              ∙ ap Some a.spells.words_are));
        }
      where
        counts : next ≡ 0 → length entries ≡ 42 * length blocks → length r.adds.entries ≤ 42
            → length new ≡ length entries + length r.adds.entries → length (blocks ++ n ∷ []) ≡ length blocks + 1
            → (0 < length entries → 0 < length r.adds.entries) → length (blocks ++ n ∷ []) ≡ directory_cost (length new)
        counts none full few counted count later = ⊎_elim
            (λ (zero_before : length entries ≡ 0). omega arith)
            (λ (some_before : length entries ≡ 0 → ⊥). let k = later (omega arith) in omega arith)
            (cases_eq (length entries) 0)

    pub loading_on : (marks' : List Bool) (blocks' : List ℕ) (next : ℕ) (new : List (K × V))
        → marks' ≡ slice_set marks n true → blocks' ≡ blocks ++ n ∷ [] → flag_at marks n ≡ false
        → ReadsOn R words IsEntry target size honest contents n next entries new
        → IsLoading R words IsEntry target size honest contents old marks' first blocks' new next
    loading_on marks' blocks' next new m b free r =
        subst (λ (p : List Bool × List ℕ). IsLoading R words IsEntry target size honest contents old p.0
        first p.1 new next) (λ i. (sym m i, sym b i)) (loading_more next new free r)

    pub fewer : (marks' : List Bool) → marks' ≡ slice_set marks n true → flag_at marks n ≡ false
        → unmarked marks' < unmarked marks
    fewer marks' m free =
        let here = l.next_inside some in
        let below = here.below in
        let long = l.long in
        let e = ap unmarked m in
        let f = fewer_unmarked marks n free (omega arith) in
        omega arith

    -- a stop at a bad block
    pub bad_chain : honest → IsBadAt R words IsEntry target size contents n entries
        → IsBadChain R words IsEntry target size contents first n
    bad_chain h bad = record {
      before = nodes;
      walk = l.walk h;
      inside = l.next_inside some;
      bad = ⊎_elim damaged wrong bad;
    }
      where
        nodes : List (Node (K × V))
        nodes = nodes_of blocks entries

        all : items nodes ≡ entries
        all = let f = l.full some in items_of blocks entries (omega arith)

        damaged : contents n ≡ None → IsBadBlock R words IsEntry target size contents nodes n
        damaged none = IsBadBlock.malformed (λ next es is few are. some_none (sym is ∙ none))

        as_bad : (block : List ℕ) → contents n ≡ Some block → IsBadWords R words IsEntry target size block entries
            → IsBadBlock R words IsEntry target size contents nodes n
        as_bad block is (IsBadWords.malformed none) = IsBadBlock.malformed (λ next es spelled few are.
            none next es (record { words_are = some_same (sym is ∙ spelled); few = few; are_entries = are }))
        as_bad block is (IsBadWords.next_outside next es s more out) = IsBadBlock.next_outside next es (is
            ∙ ap Some s.words_are) more out
        as_bad block is (IsBadWords.entry_outside next es s out) = IsBadBlock.entry_outside next es (is
            ∙ ap Some s.words_are) out
        as_bad block is (IsBadWords.short next es s more less) = IsBadBlock.short next es (is
            ∙ ap Some s.words_are) more less
        as_bad block is (IsBadWords.empty_later next s before) = IsBadBlock.empty_later next (is
            ∙ ap Some s.words_are) (let f = l.full some in let e = ap length (numbers_of blocks entries) in
            let g = length-map nodes (λ node. node.0) in omega arith)
        as_bad block is (IsBadWords.key_again next es s before twice) = IsBadBlock.key_again next es (is
            ∙ ap Some s.words_are) (subst (EachOnce R) (sym all) before)
            (λ once. twice (subst (λ us. EachOnce R (us ++ es)) all once))

        wrong : (block : List ℕ) × (contents n ≡ Some block) × IsBadWords R words IsEntry target size block entries
            → IsBadBlock R words IsEntry target size contents nodes n
        wrong (block, is, w) = as_bad block is w

    -- a stop at a block that is marked
    pub twice_in_chain : honest → flag_at marks n ≡ true → IsTwiceInChain words contents old first n
    twice_in_chain h on =
        let there : digit_at marks n ≡ 1 = ap digit on in
        record {
          before = nodes_of blocks entries;
          walk = l.walk h;
          somewhere = some;
          twice = twice n some there (l.marked n);
        }
      where
        twice : (k : ℕ) → 0 < k → digit_at marks k ≡ 1 → digit_at marks k ≡ digit_at old k + times k blocks
            → 2 ≤ digit_at old k + times k (walked (nodes_of blocks entries) k)
        twice zero some there marked = absurd (omega arith)
        twice (suc k) some there marked =
            let e = ap (λ ns. times (suc k) (ns ++ suc k ∷ [])) (numbers_of blocks entries)
            ∙ times-append (suc k) blocks (suc k ∷ []) in
            let one : times (suc k) (suc k ∷ []) ≡ 1 = grind (arith, nat_tests) in
            omega arith

  -- Read to the end.
  module _ (marks : List Bool) (blocks : List ℕ) (entries : List (K × V)) (next : ℕ)
      (l : IsLoading R words IsEntry target size honest contents old marks first blocks entries next) (end : next
      ≡ 0) where
    pub loaded_walk : honest → LeadsAlong words contents first (nodes_of blocks entries) 0
    loaded_walk h = subst (LeadsAlong words contents first (nodes_of blocks entries)) end (l.walk h)

    pub loaded_on : honest → IsOn words contents (record { blocks = blocks; entries = entries })
    loaded_on h = (leads_end words contents first (nodes_of blocks entries) (loaded_walk h)).1

-- the same of a disk that holds the same

pub reads_moved : {K V : Type 0} (R : K → K → Ordering) (words : K × V → List ℕ) (IsEntry : K × V → Type 0) (target : K
    × V → ℕ) (size : ℕ) (honest honest' : Type 0) (contents contents' : Contents) (n next : ℕ) (old new : List (K × V))
    → (honest → honest') → (honest → (m : ℕ) → contents' m ≡ contents m)
    → ReadsOn R words IsEntry target size honest' contents' n next old new
    → ReadsOn R words IsEntry target size honest contents n next old new
reads_moved R words IsEntry target size honest honest' contents contents' n next old new to same r =
    record { block = r.block; adds = r.adds; words_are = λ h. sym (same h n) ∙ r.words_are (to h) }

pub bad_moved : {K V : Type 0} (R : K → K → Ordering) (words : K × V → List ℕ) (IsEntry : K × V
    → Type 0) (target : K × V → ℕ) (size : ℕ) (contents contents' : Contents) (n : ℕ) (before : List (K × V))
    → ((m : ℕ) → contents' m ≡ contents m) → IsBadAt R words IsEntry target size contents' n before
    → IsBadAt R words IsEntry target size contents n before
bad_moved R words IsEntry target size contents contents' n before same = subst
    (λ c. IsBadAt R words IsEntry target size c n before) (same_contents contents contents' same)

pub bad_of : {K V : Type 0} (R : K → K → Ordering) (words : K × V → List ℕ) (IsEntry : K × V → Type 0) (target : K × V
    → ℕ) (size size' : ℕ) (contents : Contents) (first k n : ℕ) → size ≡ size' → k ≡ n
    → IsBadChain R words IsEntry target size contents first n → IsBadChain R words IsEntry target size' contents first k
bad_of R words IsEntry target size size' contents first k n same is bad =
    subst (λ s. IsBadChain R words IsEntry target s contents first k) same
    (subst (IsBadChain R words IsEntry target size contents first) (sym is) bad)

-- In a valid chain there is no stop.
module _ {K V : Type 0} (R : K → K → Ordering) (words : K × V → List ℕ) (apart : TellsApart words) (IsEntry : K × V
    → Type 0) (target : K × V → ℕ) (size : ℕ) (contents : Contents) (old : List Bool) (first : ℕ)
    (nodes : List (Node (K × V))) (w : IsWholeChain R words IsEntry target size contents old first nodes) where
  abbrev directory : IsDirectory R words IsEntry contents (numbers nodes) (from_entries (items nodes))
  directory = record {
    nodes = nodes;
    spelled = w.read.spelled;
    filled = w.read.filled;
    blocks_are = refl;
    are_entries = w.read.are_entries;
    each_once = w.read.each_once;
    map_is = refl;
  }

  none_zero : (k : ℕ) → times 0 (numbers nodes) ≡ k → times 0 (numbers nodes) ≡ 0
  none_zero zero e = e
  none_zero (suc k) e = absurd (let i = in_space_some size 0 (w.blocks_inside 0 (omega arith)) in omega arith)

  nonzero : times 0 (numbers nodes) ≡ 0
  nonzero = none_zero (times 0 (numbers nodes)) refl

  begin : first ≡ head_or_zero (numbers nodes)
  begin = sym w.begins ∙ sym (head-numbers nodes)

  pub whole_not_bad : (n : ℕ) → IsBadChain R words IsEntry target size contents first n → ⊥
  whole_not_bad n b =
      no_bad_block words apart IsEntry IsEntry target size contents (numbers nodes)
      (from_entries (items nodes)) directory nonzero w.blocks_inside w.read.are_entries w.targets_inside
      first b.before n begin b.walk (in_space_some size n b.inside) b.bad

  pub whole_not_twice : (n : ℕ) → IsTwiceInChain words contents old first n → ⊥
  whole_not_twice n t =
      let le = walk_le words apart IsEntry contents (numbers nodes) (from_entries (items nodes)) directory
      nonzero first n t.before begin t.walk n in
      let once = w.once n in
      let twice = t.twice in
      omega arith
