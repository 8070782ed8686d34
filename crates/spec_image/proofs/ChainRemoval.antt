-- A directory after an entry is taken out. The last entry of the chain may be moved into its place, and a last block
-- that is left without an entry is dropped, unless it is the first. Each edit takes the chain before it by its shape,
-- and what the new contents have in the blocks that changed. In each section `o` states that the order of the keys is
-- total, and `exact` that only equal keys tie in it.
use Rattle.std.proofs.Common.{◌≡◌, ℕ, ◌<◌, ◌≤◌, List, [], ◌∷◌, ◌++◌, length, Some, None, ◌⊎◌, inr, refl, sym, ap}
use Rattle.std.proofs.Common.{subst, ◌∙◌, arith, Ordering, append_assoc, append-nil, length-append}
use Rattle.std.specs.List.{AllByRecursion}
use Rattle.std.specs.Cmp.{IsTotalOrder}
use Rattle.std.specs.FinMap.{IsAntisymmetric}
use Rattle.std.specs.FinMap.Entries.{find}
use Rattle.blockdisk.specs.Common.{Contents}
use Rattle.spec_image.specs.Maps.{FinMap, remove, EachOnce}
use Rattle.spec_image.specs.Directories.{Node, numbers, first_of, items, directory_block, IsSpelled, IsFilled}
use Rattle.spec_image.specs.Directories.{IsDirectory}
use Rattle.spec_image.specs.Blocks.{AgreeOn}
use Rattle.spec_image.proofs.MapEdits.{EachOnce-without, EachOnce-around, from_entries_moved}
use Rattle.spec_image.proofs.ChainEdits.{all_around, all_without, agree_parts, has_one, regroup, items-append}
use Rattle.spec_image.proofs.ChainEdits.{numbers_more, numbers_alike, first_alike, spelled_front, filled_back}
use Rattle.spec_image.proofs.ChainEdits.{filled_front, filled_alike, IsListing, listing_without, end_spelled}
use Rattle.spec_image.proofs.ChainEdits.{end_filled, blocks_still, blocks_fewer, edited}

-- two lists with one element between them, of which only the elements differ
one_each : {X : Type 0} (xs : List X) (x y : X) (ys : List X) → length (xs ++ x ∷ ys) ≡ length (xs ++ y ∷ ys)
one_each xs x y ys = length-append xs (x ∷ ys) ∙ sym (length-append xs (y ∷ ys))

-- the last entry of a chain, if its block has others
items_pop : {E : Type 0} (mid : List (Node E)) (n : ℕ) (zs : List E) (l : E)
    → items (mid ++ (n, zs ++ l ∷ []) ∷ []) ≡ items (mid ++ (n, zs) ∷ []) ++ l ∷ []
items_pop mid n zs l =
    let front = items-append mid ((n, zs) ∷ []) ∙ ap (λ us. items mid ++ us) (append-nil zs) in
    items-append mid ((n, zs ++ l ∷ []) ∷ []) ∙ ap (λ us. items mid ++ us) (append-nil (zs ++ l ∷ []))
    ∙ sym (append_assoc (items mid) zs (l ∷ [])) ∙ ap (λ us. us ++ l ∷ []) (sym front)

-- the last entry of a chain, if it is alone in its block
items_drop : {E : Type 0} (mid : List (Node E)) (p : ℕ) (es : List E) (n : ℕ) (l : E)
    → items (mid ++ (p, es) ∷ (n, l ∷ []) ∷ []) ≡ items (mid ++ (p, es) ∷ []) ++ l ∷ []
items_drop mid p es n l =
    let front = items-append mid ((p, es) ∷ []) ∙ ap (λ us. items mid ++ us) (append-nil es) in
    items-append mid ((p, es) ∷ (n, l ∷ []) ∷ []) ∙ sym (append_assoc (items mid) es (l ∷ []))
    ∙ ap (λ us. us ++ l ∷ []) (sym front)

-- in a list of entries that is a map, an entry is taken out and the last one moved into its place
listing_moved : {K V : Type 0} {R : K → K → Ordering} (o : IsTotalOrder R) (exact : IsAntisymmetric R) (IsEntry : K × V
    → Type 0) (us : List (K × V)) (e l : K × V) (vs : List (K × V)) (m : FinMap R V)
    → IsListing R IsEntry (us ++ e ∷ (vs ++ l ∷ [])) m → IsListing R IsEntry (us ++ l ∷ vs) (remove m e.0)
listing_moved {R = R} o exact IsEntry us e l vs m h =
    let out = subst (λ fs. IsListing R IsEntry fs (remove m e.0)) (sym (append_assoc us vs (l ∷ [])))
    (listing_without o exact IsEntry us e (vs ++ l ∷ []) m h) in
    let there = all_without IsEntry (us ++ vs) l [] out.are_entries in
    let once = EachOnce-without o (us ++ vs) l [] out.each_once in
    let shorter = append-nil (us ++ vs) in
    let absent : find R l.0 (us ++ vs) ≡ None = ap (find R l.0) (sym shorter) ∙ once.0 in
    record {
      are_entries = all_around IsEntry us l vs there.0 (subst (AllByRecursion IsEntry) shorter there.1);
      each_once = EachOnce-around o us l vs absent (subst (EachOnce R) shorter once.1);
      map_is = from_entries_moved o exact us l vs absent ∙ out.map_is;
    }

module _ {K V : Type 0} {R : K → K → Ordering} (o : IsTotalOrder R) (exact : IsAntisymmetric R) (words : K × V
    → List ℕ) (IsEntry : K × V → Type 0) (old new : Contents) (blocks : List ℕ) (m : FinMap R V)
    (d : IsDirectory R words IsEntry old blocks m) where
  -- What lies after the entry loses its last entry, which is moved into the entry's place.
  moved : (pre : List (Node (K × V))) (q : ℕ) (xs ys zs : List (K × V)) (e l : K
      × V) (post rest : List (Node (K × V))) (blocks' : List ℕ) → d.nodes ≡ pre ++ (q, xs ++ e ∷ ys) ∷ post
      → ys ++ items post ≡ (zs ++ items rest) ++ l ∷ [] → AgreeOn (numbers pre) old new
      → IsSpelled words new ((q, xs ++ l ∷ zs) ∷ rest) → IsFilled ((q, xs ++ l ∷ zs) ∷ rest)
      → numbers (pre ++ (q, xs ++ l ∷ zs) ∷ rest) ≡ blocks' → IsDirectory R words IsEntry new blocks' (remove m e.0)
  moved pre q xs ys zs e l post rest blocks' is pops a s f b =
      edited o exact words IsEntry old new blocks m d pre q (xs ++ e ∷ ys) (xs ++ l ∷ zs) post rest blocks'
      (remove m e.0) is (inr (has_one xs l zs)) a s f b
      (λ us h. subst (λ ws. IsListing R IsEntry ws (remove m e.0)) (sym (regroup us xs l zs (items rest)))
      (listing_moved o exact IsEntry (us ++ xs) e l (zs ++ items rest) m
      (subst (λ ws. IsListing R IsEntry ws m) (regroup us xs e ys (items post)
      ∙ ap (λ ws. (us ++ xs) ++ e ∷ ws) pops) h)))

  -- An entry of the last block is taken out, and those after it close up.
  pub entry_removed_in_last : (pre : List (Node (K × V))) (n : ℕ) (xs ys : List (K × V)) (e : K × V)
      → d.nodes ≡ pre ++ (n, xs ++ e ∷ ys) ∷ [] → (pre ≡ []) ⊎ (0 < length (xs ++ ys))
      → new n ≡ Some (directory_block words 0 (xs ++ ys)) → AgreeOn (numbers pre) old new
      → IsDirectory R words IsEntry new blocks (remove m e.0)
  entry_removed_in_last pre n xs ys e is left h a =
      let f : length (xs ++ e ∷ ys)
      ≤ 42 = end_filled o exact words IsEntry old blocks m d pre (n, xs ++ e ∷ ys) [] is in
      let fewer : length (xs ++ ys) ≤ 42 = omega (arith, length-append xs (e ∷ ys), length-append xs ys) in
      edited o exact words IsEntry old new blocks m d pre n (xs ++ e ∷ ys) (xs ++ ys) [] [] blocks
      (remove m e.0) is left a (h, tt) fewer
      (blocks_still o exact words IsEntry old new blocks m d pre ((n, xs ++ e ∷ ys) ∷ []) ((n, xs ++ ys) ∷ []) is refl)
      (λ us l. subst (λ ws. IsListing R IsEntry ws (remove m e.0)) (append_assoc us xs (ys ++ [])
      ∙ ap (λ ws. us ++ ws) (sym (append_assoc xs ys [])))
      (listing_without o exact IsEntry (us ++ xs) e (ys ++ []) m
      (subst (λ ws. IsListing R IsEntry ws m) (regroup us xs e ys []) l)))

  -- An entry of the last block is taken out, and the last entry moved into its place.
  pub entry_removed_in_last_moved : (pre : List (Node (K × V))) (n : ℕ) (xs zs : List (K × V)) (e l : K × V)
      → d.nodes ≡ pre ++ (n, xs ++ e ∷ (zs ++ l ∷ [])) ∷ []
      → new n ≡ Some (directory_block words 0 (xs ++ l ∷ zs)) → AgreeOn (numbers pre) old new
      → IsDirectory R words IsEntry new blocks (remove m e.0)
  entry_removed_in_last_moved pre n xs zs e l is h a =
      let es = xs ++ e ∷ (zs ++ l ∷ []) in
      let f : length es ≤ 42 = end_filled o exact words IsEntry old blocks m d pre (n, es) [] is in
      let fewer : length (xs ++ l ∷ zs) ≤ 42 = omega (
        arith,
        length-append xs (e ∷ (zs ++ l ∷ [])),
        length-append zs (l ∷ []),
        length-append xs (l ∷ zs),
      ) in
      moved pre n xs (zs ++ l ∷ []) zs e l [] [] blocks is (append-nil (zs ++ l ∷ [])
      ∙ ap (λ ws. ws ++ l ∷ []) (sym (append-nil zs))) a (h, tt) fewer
      (blocks_still o exact words IsEntry old new blocks m d pre ((n, es) ∷ []) ((n, xs ++ l ∷ zs) ∷ []) is refl)

  -- The only entry of the last block is taken out, and the block dropped.
  pub last_dropped : (pre : List (Node (K × V))) (p : ℕ) (es : List (K × V)) (n : ℕ) (e : K × V) (front : List ℕ)
      → d.nodes ≡ pre ++ (p, es) ∷ (n, e ∷ []) ∷ [] → blocks ≡ front ++ n ∷ []
      → new p ≡ Some (directory_block words 0 es) → AgreeOn (numbers pre) old new
      → IsDirectory R words IsEntry new front (remove m e.0)
  last_dropped pre p es n e front is b h a =
      let full = (end_filled o exact words IsEntry old blocks m d pre (p, es) ((n, e ∷ []) ∷ []) is).0 in
      edited o exact words IsEntry old new blocks m d pre p es es ((n, e ∷ []) ∷ []) [] front (remove m e.0) is
      (inr (omega arith)) a (h, tt) (omega arith)
      (blocks_fewer o exact words IsEntry old new blocks m d pre ((p, es) ∷ (n, e ∷ []) ∷ [])
      ((p, es) ∷ []) n front is refl b)
      (λ us l. subst (λ ws. IsListing R IsEntry ws (remove m e.0)) (append_assoc us es [])
      (listing_without o exact IsEntry (us ++ es) e [] m
      (subst (λ ws. IsListing R IsEntry ws m) (sym (append_assoc us es (e ∷ []))) l)))

  -- An entry of an earlier block is taken out, and the last entry moved into its place from a block that has others.
  pub entry_removed_filled : (pre mid : List (Node (K × V))) (q n : ℕ) (xs ys zs : List (K × V)) (e l : K × V)
      → d.nodes ≡ pre ++ (q, xs ++ e ∷ ys) ∷ (mid ++ (n, zs ++ l ∷ []) ∷ []) → 0 < length zs
      → new q ≡ Some (directory_block words (first_of (mid ++ (n, zs ++ l ∷ []) ∷ [])) (xs ++ l ∷ ys))
      → new n ≡ Some (directory_block words 0 zs) → AgreeOn (numbers pre ++ numbers mid) old new
      → IsDirectory R words IsEntry new blocks (remove m e.0)
  entry_removed_filled pre mid q n xs ys zs e l is some hq hn a =
      let post = mid ++ (n, zs ++ l ∷ []) ∷ [] in
      let rest = mid ++ (n, zs) ∷ [] in
      let next = first_alike mid ((n, zs ++ l ∷ []) ∷ []) ((n, zs) ∷ []) refl in
      let s = (end_spelled o exact words IsEntry old blocks m d pre ((q, xs ++ e ∷ ys) ∷ post) is).1 in
      let f = end_filled o exact words IsEntry old blocks m d pre (q, xs ++ e ∷ ys) post is in
      let f' : length (zs ++ l ∷ []) ≤ 42 = filled_back ((q, xs ++ e ∷ ys) ∷ mid) (n, zs ++ l ∷ []) [] f in
      let fewer : length zs ≤ 42 = omega (arith, length-append zs (l ∷ [])) in
      let parts = agree_parts (numbers pre) (numbers mid) old new a in
      moved pre q xs ys ys e l post rest blocks is (ap (λ ws. ys ++ ws) (items_pop mid n zs l)
      ∙ sym (append_assoc ys (items rest) (l ∷ []))) parts.0 (
        hq ∙ ap (λ f. Some (directory_block words f (xs ++ l ∷ ys))) next,
        spelled_front words old new mid ((n, zs ++ l ∷ []) ∷ []) ((n, zs) ∷ []) s parts.1 refl (hn, tt),
      )
      (filled_alike q (xs ++ e ∷ ys) (xs ++ l ∷ ys) rest (one_each xs e l ys)
      (filled_front ((q, xs ++ e ∷ ys) ∷ mid) (n, zs ++ l ∷ []) (n, zs) [] [] f (inr some) fewer))
      (blocks_still o exact words IsEntry old new blocks m d pre ((q, xs ++ e ∷ ys) ∷ post) ((q, xs ++ l ∷ ys)
      ∷ rest) is (ap (λ ns. q ∷ ns) (numbers_alike mid ((n, zs ++ l ∷ []) ∷ []) ((n, zs) ∷ []) refl)))

  -- An entry of the block before the last is taken out, and the only entry of the last moved into its place; the last
  -- block is dropped.
  pub entry_removed_filled_dropped_adjacent : (pre : List (Node (K × V))) (q n : ℕ) (xs ys : List (K × V)) (e l : K
      × V) (front : List ℕ) → d.nodes ≡ pre ++ (q, xs ++ e ∷ ys) ∷ (n, l ∷ []) ∷ [] → blocks ≡ front ++ n ∷ []
      → new q ≡ Some (directory_block words 0 (xs ++ l ∷ ys)) → AgreeOn (numbers pre) old new
      → IsDirectory R words IsEntry new front (remove m e.0)
  entry_removed_filled_dropped_adjacent pre q n xs ys e l front is b h a =
      let full = (end_filled o exact words IsEntry old blocks m d pre (q, xs ++ e ∷ ys) ((n, l ∷ []) ∷ []) is).0 in
      let many = one_each xs e l ys in
      moved pre q xs ys ys e l ((n, l ∷ []) ∷ []) [] front is (ap (λ ws. ws ++ l ∷ []) (sym (append-nil ys))) a
      (h, tt) (omega arith)
      (blocks_fewer o exact words IsEntry old new blocks m d pre ((q, xs ++ e ∷ ys) ∷ (n, l ∷ []) ∷ [])
      ((q, xs ++ l ∷ ys) ∷ []) n front is refl b)

  -- An entry of an earlier block is taken out, and the only entry of the last moved into its place; the last block is
  -- dropped.
  pub entry_removed_filled_dropped : (pre mid : List (Node (K × V))) (q p n : ℕ) (xs ys es : List (K × V)) (e l : K
      × V) (front : List ℕ) → d.nodes ≡ pre ++ (q, xs ++ e ∷ ys) ∷ (mid ++ (p, es) ∷ (n, l ∷ []) ∷ [])
      → blocks ≡ front ++ n ∷ [] → new q
      ≡ Some (directory_block words (first_of (mid ++ (p, es) ∷ (n, l ∷ []) ∷ [])) (xs ++ l ∷ ys))
      → new p ≡ Some (directory_block words 0 es)
      → AgreeOn (numbers pre ++ numbers mid) old new → IsDirectory R words IsEntry new front (remove m e.0)
  entry_removed_filled_dropped pre mid q p n xs ys es e l front is b hq hp a =
      let post = mid ++ (p, es) ∷ (n, l ∷ []) ∷ [] in
      let rest = mid ++ (p, es) ∷ [] in
      let next = first_alike mid ((p, es) ∷ (n, l ∷ []) ∷ []) ((p, es) ∷ []) refl in
      let s = (end_spelled o exact words IsEntry old blocks m d pre ((q, xs ++ e ∷ ys) ∷ post) is).1 in
      let f = end_filled o exact words IsEntry old blocks m d pre (q, xs ++ e ∷ ys) post is in
      let full : length es ≡ 42 = (filled_back ((q, xs ++ e ∷ ys) ∷ mid) (p, es) ((n, l ∷ []) ∷ []) f).0 in
      let parts = agree_parts (numbers pre) (numbers mid) old new a in
      moved pre q xs ys ys e l post rest front is (ap (λ ws. ys ++ ws) (items_drop mid p es n l)
      ∙ sym (append_assoc ys (items rest) (l ∷ []))) parts.0 (
        hq ∙ ap (λ f. Some (directory_block words f (xs ++ l ∷ ys))) next,
        spelled_front words old new mid ((p, es) ∷ (n, l ∷ []) ∷ []) ((p, es) ∷ []) s parts.1 refl (hp, tt),
      )
      (filled_alike q (xs ++ e ∷ ys) (xs ++ l ∷ ys) rest (one_each xs e l ys)
      (filled_front ((q, xs ++ e ∷ ys) ∷ mid) (p, es) (p, es) ((n, l ∷ []) ∷ []) [] f (inr (omega arith))
      (omega arith)))
      (blocks_fewer o exact words IsEntry old new blocks m d pre ((q, xs ++ e ∷ ys) ∷ post) ((q, xs ++ l ∷ ys) ∷ rest)
      n front is (numbers_more ((q, xs ++ l ∷ ys) ∷ mid) ((p, es) ∷ []) ((p, es) ∷ (n, l ∷ []) ∷ []) n refl) b)
