-- A directory's chain of blocks, and the directory after an entry gets another value or is put in. ChainRemoval takes
-- one out. Each edit takes the chain before it by its shape, and what the new contents have in the blocks that changed.
-- In each section `o` states that the order of the keys is total, and `exact` that only equal keys tie in it.
use Rattle.std.proofs.Common.{◌≡◌, ℕ, ◌+◌, ◌*◌, ◌<◌, ◌≤◌, List, [], ◌∷◌, ◌++◌, length, Some, None, ◌⊎◌, inl, inr, refl}
use Rattle.std.proofs.Common.{sym, ap, subst, ◌∙◌, arith, Ordering, append_assoc, append-nil, length-append, lit<, lit≤}
use Rattle.std.proofs.lemmas.List.{append_cancel_right, length-map}
use Rattle.std.specs.List.{AllByRecursion}
use Rattle.std.specs.Cmp.{IsTotalOrder}
use Rattle.std.specs.FinMap.{IsAntisymmetric}
use Rattle.std.specs.FinMap.Entries.{find}
use Rattle.blockdisk.specs.Common.{Contents}
use Rattle.spec_image.specs.Maps.{FinMap, get, insert, remove, size, from_entries, EachOnce}
use Rattle.spec_image.specs.Directories.{Node, numbers, first_of, items, directory_block, IsSpelled, IsFilled}
use Rattle.spec_image.specs.Directories.{IsDirectory}
use Rattle.spec_image.specs.Costs.{directory_cost}
use Rattle.spec_image.specs.Blocks.{AgreeOn}
use Rattle.spec_image.proofs.Lists.{times_here, times_later}
use Rattle.spec_image.proofs.MapLaws.{get-removed, insert-removed}
use Rattle.spec_image.proofs.MapLists.{get-from_entries}
use Rattle.spec_image.proofs.MapSums.{times-append, size-from_entries}
use Rattle.spec_image.proofs.MapEdits.{EachOnce-without, EachOnce-around, from_entries_around, from_entries_without}

-- Lists.

-- The list has a last element.
pub record HasLast {X : Type 0} (zs : List X) : Type 0 where
  pub front : List X
  pub last : X
  pub is : zs ≡ front ++ last ∷ []

-- a list that is not empty has a last element
pub has_last : {X : Type 0} (x : X) (xs : List X) → HasLast (x ∷ xs)
has_last x [] = record { front = []; last = x; is = refl }
has_last x (y ∷ ys) = let r = has_last y ys in
    record { front = x ∷ r.front; last = r.last; is = ap (λ zs. x ∷ zs) r.is }

-- what holds for each element holds for one of them and for the others
pub all_without : {X : Type 0} (P : X → Type 0) (us : List X) (e : X) (vs : List X) → AllByRecursion P (us ++ e ∷ vs)
    → P e × AllByRecursion P (us ++ vs)
all_without P [] e vs a = a
all_without P (u ∷ us) e vs a = let r = all_without P us e vs a.1 in (r.0, (a.0, r.1))

-- what holds for an element and for the others holds for each
pub all_around : {X : Type 0} (P : X → Type 0) (us : List X) (e : X) (vs : List X) → P e → AllByRecursion P (us ++ vs)
    → AllByRecursion P (us ++ e ∷ vs)
all_around P [] e vs p a = (p, a)
all_around P (u ∷ us) e vs p a = (a.0, all_around P us e vs p a.1)

-- contents that agree on a list agree on its two parts
pub agree_parts : (ns ms : List ℕ) (old new : Contents) → AgreeOn (ns ++ ms) old new
    → AgreeOn ns old new × AgreeOn ms old new
agree_parts ns ms old new a = (
  λ n h. a n (omega (arith, times-append n ns ms)),
  λ n h. a n (omega (arith, times-append n ns ms)),
)

-- a list with an element is not empty
pub has_one : {X : Type 0} (xs : List X) (x : X) (ys : List X) → 0 < length (xs ++ x ∷ ys)
has_one xs x ys = omega (arith, length-append xs (x ∷ ys))

-- a list taken apart at one of its elements
pub regroup : {X : Type 0} (us xs : List X) (e : X) (ys zs : List X)
    → us ++ ((xs ++ e ∷ ys) ++ zs) ≡ (us ++ xs) ++ e ∷ (ys ++ zs)
regroup us xs e ys zs = ap (λ ws. us ++ ws) (append_assoc xs (e ∷ ys) zs) ∙ sym (append_assoc us xs (e ∷ (ys ++ zs)))

-- Chains, in two parts.

module _ {E : Type 0} where
  -- the entries of two parts
  pub items-append : (xs ys : List (Node E)) → items (xs ++ ys) ≡ items xs ++ items ys
  items-append [] ys = refl
  items-append (x ∷ xs) ys = ap (λ z. x.1 ++ z) (items-append xs ys) ∙ sym (append_assoc x.1 (items xs) (items ys))

  -- two ends with the same blocks
  pub numbers_alike : (pre xs ys : List (Node E)) → numbers xs ≡ numbers ys → numbers (pre ++ xs) ≡ numbers (pre ++ ys)
  numbers_alike [] xs ys e = e
  numbers_alike (p ∷ pre) xs ys e = ap (λ ns. p.0 ∷ ns) (numbers_alike pre xs ys e)

  -- an end with one more block
  pub numbers_more : (pre xs ys : List (Node E)) (n : ℕ) → numbers ys ≡ numbers xs ++ n ∷ []
      → numbers (pre ++ ys) ≡ numbers (pre ++ xs) ++ n ∷ []
  numbers_more [] xs ys n e = e
  numbers_more (p ∷ pre) xs ys n e = ap (λ ns. p.0 ∷ ns) (numbers_more pre xs ys n e)

  -- two ends with the same first block
  pub first_alike : (pre xs ys : List (Node E)) → first_of xs ≡ first_of ys
      → first_of (pre ++ xs) ≡ first_of (pre ++ ys)
  first_alike [] xs ys e = e
  first_alike (p ∷ pre) xs ys e = refl

  -- the end of a chain is spelled as the chain is
  pub spelled_back : (words : E → List ℕ) (contents : Contents) (pre xs : List (Node E))
      → IsSpelled words contents (pre ++ xs) → IsSpelled words contents xs
  spelled_back words contents [] xs s = s
  spelled_back words contents (p ∷ pre) xs s = spelled_back words contents pre xs s.1

  -- another end of the chain, with the same first block, after blocks that stay
  pub spelled_front : (words : E → List ℕ) (old new : Contents) (pre xs ys : List (Node E))
      → IsSpelled words old (pre ++ xs) → AgreeOn (numbers pre) old new → first_of xs ≡ first_of ys
      → IsSpelled words new ys → IsSpelled words new (pre ++ ys)
  spelled_front words old new [] xs ys s a e t = t
  spelled_front words old new (p ∷ pre) xs ys s a e t = (
    a p.0 (times_here p.0 (numbers pre)) ∙ s.0 ∙ ap (λ f. Some (directory_block words f p.1)) (first_alike pre xs ys e),
    spelled_front words old new pre xs ys s.1 (λ n h. a n (times_later n p.0 (numbers pre) h)) e t,
  )

  -- a chain all of whose blocks stay
  spelled_still : (words : E → List ℕ) (old new : Contents) (nodes : List (Node E)) → IsSpelled words old nodes
      → AgreeOn (numbers nodes) old new → IsSpelled words new nodes
  spelled_still words old new nodes s a = subst (IsSpelled words new) (append-nil nodes)
      (spelled_front words old new nodes [] [] (subst (IsSpelled words old) (sym (append-nil nodes)) s) a refl tt)

  -- the end of a chain is filled as the chain is
  pub filled_back : (pre : List (Node E)) (a : Node E) (xs : List (Node E)) → IsFilled (pre ++ a ∷ xs)
      → IsFilled (a ∷ xs)
  filled_back [] a xs f = f
  filled_back (p ∷ []) a xs f = f.2
  filled_back (p ∷ q ∷ pre) a xs f = filled_back (q ∷ pre) a xs f.2

  -- another end of the chain, whose first block is the chain's first or has an entry
  pub filled_front : (pre : List (Node E)) (a b : Node E) (xs ys : List (Node E)) → IsFilled (pre ++ a ∷ xs)
      → (pre ≡ []) ⊎ (0 < length b.1) → IsFilled (b ∷ ys) → IsFilled (pre ++ b ∷ ys)
  filled_front [] a b xs ys f h g = g
  filled_front (p ∷ pre) a b xs ys f (inl e) g = cc
  filled_front (p ∷ []) a b xs ys f (inr h) g = (f.0, h, g)
  filled_front (p ∷ q ∷ pre) a b xs ys f (inr h) g = (f.0, f.1, filled_front (q ∷ pre) a b xs ys f.2 (inr h) g)

  -- as many entries in the first block
  pub filled_alike : (n : ℕ) (es fs : List E) (xs : List (Node E)) → length es ≡ length fs → IsFilled ((n, es) ∷ xs)
      → IsFilled ((n, fs) ∷ xs)
  filled_alike n es fs [] e f = omega arith
  filled_alike n es fs (b ∷ xs) e f = (sym e ∙ f.0, f.1, f.2)

  -- how many entries are in a chain whose first block has one
  filled_bounds : (a : Node E) (xs : List (Node E)) → 0 < length a.1 → IsFilled (a ∷ xs)
      → (42 * length xs < length (items (a ∷ xs))) × (length (items (a ∷ xs)) ≤ 42 * length xs + 42)
  filled_bounds a [] h f = let e = length-append a.1 [] in (omega arith, omega arith)
  filled_bounds a (b ∷ xs) h f =
      let r = filled_bounds b xs f.1 f.2 in
      let e = length-append a.1 (items (b ∷ xs)) in
      let g : length a.1 ≡ 42 = f.0 in
      (omega arith, omega arith)

  -- a chain has as many blocks as its entries cost
  length_filled : (nodes : List (Node E)) → IsFilled nodes → length nodes ≡ directory_cost (length (items nodes))
  length_filled [] f = absurd f
  length_filled (a ∷ []) f = let e = length-append a.1 [] in omega arith
  length_filled (a ∷ b ∷ xs) f =
      let r = filled_bounds a (b ∷ xs) (omega arith) f in
      let low = r.0 in
      let high = r.1 in
      omega arith

-- A list of entries that is a map.

pub record IsListing {K V : Type 0} (R : K → K → Ordering) (IsEntry : K × V
    → Type 0) (es : List (K × V)) (m : FinMap R V) : Type 0 where
  pub are_entries : AllByRecursion IsEntry es
  pub each_once : EachOnce R es
  pub map_is : from_entries es ≡ m

module _ {K V : Type 0} {R : K → K → Ordering} (o : IsTotalOrder R) (exact : IsAntisymmetric R) (IsEntry : K × V
    → Type 0) where
  -- an entry is put in
  listing_around : (us : List (K × V)) (e : K × V) (vs : List (K × V)) (m : FinMap R V)
      → IsListing R IsEntry (us ++ vs) m → get m e.0 ≡ None → IsEntry e
      → IsListing R IsEntry (us ++ e ∷ vs) (insert m e.0 e.1)
  listing_around us e vs m l none g =
      let absent : find R e.0 (us ++ vs) ≡ None = sym (get-from_entries o (us ++ vs) e.0) ∙ ap (λ n. get n e.0) l.map_is
      ∙ none in
      record {
        are_entries = all_around IsEntry us e vs g l.are_entries;
        each_once = EachOnce-around o us e vs absent l.each_once;
        map_is = from_entries_around o exact us e vs absent ∙ ap (λ n. insert n e.0 e.1) l.map_is;
      }

  -- an entry is taken out
  pub listing_without : (us : List (K × V)) (e : K × V) (vs : List (K × V)) (m : FinMap R V)
      → IsListing R IsEntry (us ++ e ∷ vs) m → IsListing R IsEntry (us ++ vs) (remove m e.0)
  listing_without us e vs m l = record {
    are_entries = (all_without IsEntry us e vs l.are_entries).1;
    each_once = (EachOnce-without o us e vs l.each_once).1;
    map_is = from_entries_without o exact us e vs l.each_once ∙ ap (λ n. remove n e.0) l.map_is;
  }

  -- an entry gets another value
  listing_replaced : (us : List (K × V)) (k : K) (v w : V) (vs : List (K × V)) (m : FinMap R V)
      → IsListing R IsEntry (us ++ (k, v) ∷ vs) m → IsEntry (k, w)
      → IsListing R IsEntry (us ++ (k, w) ∷ vs) (insert m k w)
  listing_replaced us k v w vs m l g =
      subst (IsListing R IsEntry (us ++ (k, w) ∷ vs)) (insert-removed o exact m k w)
      (listing_around us (k, w) vs (remove m k) (listing_without us (k, v) vs m l) (get-removed o m k) g)

  -- an entry comes last
  listing_pushed : (es : List (K × V)) (k : K) (w : V) (m : FinMap R V) → IsListing R IsEntry es m → get m k ≡ None
      → IsEntry (k, w) → IsListing R IsEntry (es ++ (k, w) ∷ []) (insert m k w)
  listing_pushed es k w m l none g = listing_around es (k, w) [] m
      (subst (λ fs. IsListing R IsEntry fs m) (sym (append-nil es)) l) none g

-- What a directory's chain is.

module _ {K V : Type 0} {R : K → K → Ordering} (o : IsTotalOrder R) (exact : IsAntisymmetric R) (words : K × V
    → List ℕ) (IsEntry : K × V → Type 0) (contents : Contents) (blocks : List ℕ) (m : FinMap R V)
    (d : IsDirectory R words IsEntry contents blocks m) where
  -- how the end of the chain is spelled
  pub end_spelled : (pre xs : List (Node (K × V))) → d.nodes ≡ pre ++ xs → IsSpelled words contents xs
  end_spelled pre xs is = spelled_back words contents pre xs (subst (IsSpelled words contents) is d.spelled)

  -- how the end of the chain is filled
  pub end_filled : (pre : List (Node (K × V))) (a : Node (K × V)) (xs : List (Node (K × V))) → d.nodes ≡ pre ++ a ∷ xs
      → IsFilled (a ∷ xs)
  end_filled pre a xs is = filled_back pre a xs (subst IsFilled is d.filled)

  -- a directory has as many blocks as its entries cost
  pub chain_length : length blocks ≡ directory_cost (size m)
  chain_length =
      let entries = size-from_entries o exact (items d.nodes) d.each_once in
      ap length (sym d.blocks_are) ∙ length-map d.nodes (λ node. node.0) ∙ length_filled d.nodes d.filled
      ∙ ap directory_cost (sym entries ∙ ap size d.map_is)

-- The edits. In them `us` are the entries of the blocks before the one that is named first.

module _ {K V : Type 0} {R : K → K → Ordering} (o : IsTotalOrder R) (exact : IsAntisymmetric R) (words : K × V
    → List ℕ) (IsEntry : K × V → Type 0) (old new : Contents) (blocks : List ℕ) (m : FinMap R V)
    (d : IsDirectory R words IsEntry old blocks m) where
  -- the same blocks
  pub blocks_still : (pre xs ys : List (Node (K × V))) → d.nodes ≡ pre ++ xs → numbers xs ≡ numbers ys
      → numbers (pre ++ ys) ≡ blocks
  blocks_still pre xs ys is e = sym (numbers_alike pre xs ys e) ∙ ap numbers (sym is) ∙ d.blocks_are

  -- one more block
  blocks_more : (pre xs ys : List (Node (K × V))) (n : ℕ) → d.nodes ≡ pre ++ xs → numbers ys ≡ numbers xs ++ n ∷ []
      → numbers (pre ++ ys) ≡ blocks ++ n ∷ []
  blocks_more pre xs ys n is e = numbers_more pre xs ys n e
      ∙ ap (λ ns. ns ++ n ∷ []) (ap numbers (sym is) ∙ d.blocks_are)

  -- all blocks except the last
  pub blocks_fewer : (pre xs ys : List (Node (K × V))) (n : ℕ) (front : List ℕ) → d.nodes ≡ pre ++ xs
      → numbers xs ≡ numbers ys ++ n ∷ [] → blocks ≡ front ++ n ∷ [] → numbers (pre ++ ys) ≡ front
  blocks_fewer pre xs ys n front is e b = append_cancel_right (numbers (pre ++ ys)) front (n ∷ [])
      (sym (numbers_more pre ys xs n e) ∙ ap numbers (sym is) ∙ d.blocks_are ∙ b)

  -- a block gets other entries, and other blocks come after it
  pub edited : (pre : List (Node (K × V))) (n : ℕ) (es fs : List (K × V)) (xs ys : List (Node (K × V)))
      (blocks' : List ℕ) (m' : FinMap R V) → d.nodes ≡ pre ++ (n, es) ∷ xs → (pre ≡ []) ⊎ (0 < length fs)
      → AgreeOn (numbers pre) old new → IsSpelled words new ((n, fs) ∷ ys) → IsFilled ((n, fs) ∷ ys)
      → numbers (pre ++ (n, fs) ∷ ys) ≡ blocks'
      → ((us : List (K × V)) → IsListing R IsEntry (us ++ (es ++ items xs)) m
      → IsListing R IsEntry (us ++ (fs ++ items ys)) m') → IsDirectory R words IsEntry new blocks' m'
  edited pre n es fs xs ys blocks' m' is h a s f b change =
      let before : IsListing R IsEntry (items d.nodes) m = record {
        are_entries = d.are_entries;
        each_once = d.each_once;
        map_is = d.map_is;
      } in
      let split = subst (λ zs. IsListing R IsEntry zs m) (ap items is ∙ items-append pre ((n, es) ∷ xs)) before in
      let after = subst (λ zs. IsListing R IsEntry zs m') (sym (items-append pre ((n, fs) ∷ ys)))
      (change (items pre) split) in
      record {
        nodes = pre ++ (n, fs) ∷ ys;
        spelled = spelled_front words old new pre ((n, es) ∷ xs) ((n, fs) ∷ ys)
            (subst (IsSpelled words old) is d.spelled) a refl s;
        filled = filled_front pre (n, es) (n, fs) xs ys (subst IsFilled is d.filled) h f;
        blocks_are = b;
        are_entries = after.are_entries;
        each_once = after.each_once;
        map_is = after.map_is;
      }

  -- An entry gets another value in its place.
  pub entry_replaced : (pre post : List (Node (K × V))) (n : ℕ) (xs ys : List (K × V)) (k : K) (v w : V)
      → d.nodes ≡ pre ++ (n, xs ++ (k, v) ∷ ys) ∷ post → IsEntry (k, w)
      → new n ≡ Some (directory_block words (first_of post) (xs ++ (k, w) ∷ ys))
      → AgreeOn (numbers pre ++ numbers post) old new → IsDirectory R words IsEntry new blocks (insert m k w)
  entry_replaced pre post n xs ys k v w is g h a =
      let es = xs ++ (k, v) ∷ ys in
      let fs = xs ++ (k, w) ∷ ys in
      let many : length es ≡ length fs = length-append xs ((k, v) ∷ ys) ∙ sym (length-append xs ((k, w) ∷ ys)) in
      let parts = agree_parts (numbers pre) (numbers post) old new a in
      edited pre n es fs post post blocks (insert m k w) is (inr (has_one xs (k, w) ys)) parts.0 (
        h,
        spelled_still words old new post (end_spelled o exact words IsEntry old blocks m d pre ((n, es) ∷ post) is).1
            parts.1,
      ) (filled_alike n es fs post many (end_filled o exact words IsEntry old blocks m d pre (n, es) post is))
      (blocks_still pre ((n, es) ∷ post) ((n, fs) ∷ post) is refl)
      (λ us l. subst (λ zs. IsListing R IsEntry zs (insert m k w)) (sym (regroup us xs (k, w) ys (items post)))
      (listing_replaced o exact IsEntry (us ++ xs) k v w (ys ++ items post) m
      (subst (λ zs. IsListing R IsEntry zs m) (regroup us xs (k, v) ys (items post)) l) g))

  -- An entry with a new key comes last in the last block, which has room.
  pub entry_added : (pre : List (Node (K × V))) (n : ℕ) (es : List (K × V)) (k : K) (w : V)
      → d.nodes ≡ pre ++ (n, es) ∷ [] → length es < 42 → get m k ≡ None → IsEntry (k, w)
      → new n ≡ Some (directory_block words 0 (es ++ (k, w) ∷ [])) → AgreeOn (numbers pre) old new
      → IsDirectory R words IsEntry new blocks (insert m k w)
  entry_added pre n es k w is room none g h a =
      let fs = es ++ (k, w) ∷ [] in
      let many = length-append es ((k, w) ∷ []) in
      edited pre n es fs [] [] blocks (insert m k w) is (inr (has_one es (k, w) [])) a (h, tt) (omega arith)
      (blocks_still pre ((n, es) ∷ []) ((n, fs) ∷ []) is refl)
      (λ us l. subst (λ zs. IsListing R IsEntry zs (insert m k w)) (append_assoc us es ((k, w) ∷ [])
      ∙ ap (λ zs. us ++ zs) (sym (append-nil fs)))
      (listing_pushed o exact IsEntry (us ++ es) k w m
      (subst (λ zs. IsListing R IsEntry (us ++ zs) m) (append-nil es) l) none g))

  -- An entry with a new key comes first in a new last block, after one that is full.
  pub entry_grown : (pre : List (Node (K × V))) (n : ℕ) (es : List (K × V)) (n' : ℕ) (k : K) (w : V)
      → d.nodes ≡ pre ++ (n, es) ∷ [] → length es ≡ 42 → get m k ≡ None → IsEntry (k, w)
      → new n ≡ Some (directory_block words n' es) → new n' ≡ Some (directory_block words 0 ((k, w) ∷ []))
      → AgreeOn (numbers pre) old new → IsDirectory R words IsEntry new (blocks ++ n' ∷ []) (insert m k w)
  entry_grown pre n es n' k w is full none g h h' a =
      edited pre n es es [] ((n', (k, w) ∷ []) ∷ []) (blocks ++ n' ∷ []) (insert m k w) is (inr (omega arith)) a
      (h, (h', tt)) (full, lit< tt, lit≤ tt)
      (blocks_more pre ((n, es) ∷ []) ((n, es) ∷ (n', (k, w) ∷ []) ∷ []) n' is refl)
      (λ us l. subst (λ zs. IsListing R IsEntry zs (insert m k w)) (append_assoc us es ((k, w) ∷ []))
      (listing_pushed o exact IsEntry (us ++ es) k w m
      (subst (λ zs. IsListing R IsEntry (us ++ zs) m) (append-nil es) l) none g))
