-- Runs as they are stored: one more at the end, one found, one split, all joined.
use Rattle.std.proofs.Common.{◌≡◌, ℕ, zero, suc, Bool, ◌+◌, ◌-◌, ◌<◌, ◌≤◌, ◌==◌, if◌then◌else◌, List, [], ◌∷◌, ◌++◌}
use Rattle.std.proofs.Common.{length, get_or, take, drop, flat_map, slice_set, Some, Option, refl, sym, ⊎_elim, ◌∙◌}
use Rattle.std.proofs.Common.{ap, subst, arith, append_assoc, length-append, append-nil}
use Rattle.std.specs.Prelude.{slice_get, slice_index, IfSome}
use Rattle.std.proofs.lemmas.Bool.{eq-eqb, ne_eqb}
use Rattle.std.proofs.lemmas.List.{map_more, map_push, map-append, take-append-drop, take_more_set, set_split}
use Rattle.std.proofs.lemmas.List.{drop_more, take_at, drop_at, length-take-le, set-append_right, get_or-drop}
use Rattle.std.proofs.lemmas.List.{drop-drop, take_all, get_or_default}
use Rattle.std.proofs.lemmas.Option.{slice_get_read, get_or_from_slice_get}
use Rattle.std.proofs.lemmas.Grind.{flat_map-append}
use Rattle.spec_image.specs.Common.{SpecRun, run_blocks, count_up}
use Rattle.retrieval.specs.Common.{pair_of, pairs_of, blocks_of_runs, IsAtOffset, behind, longest_runs}
use Rattle.retrieval.specs.declared.run.Run.{Run as RunValue}
use Rattle.retrieval.proofs.RunLists.{length-count_up}
use Rattle.retrieval.proofs.LongestRuns.{longest_behind, behind_last, blocks_of_longest, NoneAdjoins, longest_apart}
use Rattle.spec_image.proofs.Common.{below_or_not}

-- A run after the first `count`.

module _ (runs : List RunValue) (count : ℕ) (last run : RunValue) (some : 0 < count) (below : count - 1 < length runs)
    (is : last ≡ get_or runs (count - 1) last) where
  one_more : pairs_of (take count runs) ≡ pairs_of (take (count - 1) runs) ++ pair_of last ∷ []
  one_more = ap (λ (k : ℕ). pairs_of (take k runs)) (let e : count ≡ count - 1 + 1 = omega arith in e)
      ∙ map_more pair_of runs (count - 1) last below
      ∙ ap (λ (r : RunValue). pairs_of (take (count - 1) runs) ++ pair_of r ∷ []) (sym is)

  abbrev choice : Bool → List SpecRun
  choice b = pairs_of (take (count - 1) runs)
      ++ (if b then (suc (last.last - last.first) + suc (run.last - run.first), last.first) ∷ []
      else pair_of last ∷ pair_of run ∷ [])

  chosen : behind (pairs_of (take count runs)) (pair_of run)
      ≡ choice (suc (last.last - last.first) + last.first == run.first)
  chosen = ap (λ (l : List SpecRun). behind l (pair_of run)) one_more
      ∙ behind_last (pairs_of (take (count - 1) runs)) (pair_of last) (pair_of run)

  pub joins_last : (joined : RunValue) → suc (last.last - last.first) + last.first ≡ run.first
      → pair_of joined ≡ (suc (last.last - last.first) + suc (run.last - run.first), last.first)
      → pairs_of (take (count - 1) runs) ++ pair_of joined ∷ [] ≡ behind (pairs_of (take count runs)) (pair_of run)
  joins_last joined adjoins joined_is =
      ap (λ (r : SpecRun). pairs_of (take (count - 1) runs) ++ r ∷ []) joined_is
      ∙ sym (chosen ∙ ap choice (eq-eqb (suc (last.last - last.first) + last.first) run.first adjoins))

  pub stands_apart : (suc (last.last - last.first) + last.first ≡ run.first → ⊥)
      → pairs_of (take count runs) ++ pair_of run ∷ [] ≡ behind (pairs_of (take count runs)) (pair_of run)
  stands_apart apart =
      ap (λ (l : List SpecRun). l ++ pair_of run ∷ []) one_more
      ∙ append_assoc (pairs_of (take (count - 1) runs)) (pair_of last ∷ []) (pair_of run ∷ [])
      ∙ sym (chosen ∙ ap choice (ne_eqb (suc (last.last - last.first) + last.first) run.first apart))

-- Another run at the last of the first `count` places.

pub set_before : (runs : List RunValue) (count : ℕ) (run : RunValue) → 0 < count → count ≤ length runs
    → pairs_of (take count (slice_set runs (count - 1) run)) ≡ pairs_of (take (count - 1) runs) ++ pair_of run ∷ []
set_before runs count run some few =
    ap (λ (k : ℕ). pairs_of (take k (slice_set runs (count - 1) run)))
    (let e : count ≡ count - 1 + 1 = omega arith in e)
    ∙ ap pairs_of (take_more_set runs (count - 1) run (omega arith))
    ∙ map_push pair_of (take (count - 1) runs) run

-- One more run after the first ones.

pub blocks_more : (runs : List RunValue) (i : ℕ) (run : RunValue) → i < length runs → run ≡ get_or runs i run
    → blocks_of_runs (take (i + 1) runs) ≡ blocks_of_runs (take i runs) ++ run_blocks (pair_of run)
blocks_more runs i run below is =
    ap (flat_map run_blocks) (map_more pair_of runs i run below)
    ∙ flat_map-append run_blocks (pairs_of (take i runs)) (pair_of (get_or runs i run) ∷ [])
    ∙ ap (λ (l : List ℕ). blocks_of_runs (take i runs) ++ l) (append-nil (run_blocks (pair_of (get_or runs i run))))
    ∙ ap (λ (r : RunValue). blocks_of_runs (take i runs) ++ run_blocks (pair_of r)) (sym is)

pub length_more : (runs : List RunValue) (i : ℕ) (run : RunValue) → i < length runs → run ≡ get_or runs i run
    → length (blocks_of_runs (take (i + 1) runs)) ≡ length (blocks_of_runs (take i runs)) + suc (run.last - run.first)
length_more runs i run below is =
    let a = ap length (blocks_more runs i run below is) in
    let b = length-append (blocks_of_runs (take i runs)) (run_blocks (pair_of run)) in
    let d = length-count_up (suc (run.last - run.first)) run.first in
    omega arith

blocks_append : (a b : List RunValue) → blocks_of_runs (a ++ b) ≡ blocks_of_runs a ++ blocks_of_runs b
blocks_append a b = ap (flat_map run_blocks) (map-append pair_of a b)
    ∙ flat_map-append run_blocks (pairs_of a) (pairs_of b)

-- before a run, it, and after it
parted : (runs : List RunValue) (i : ℕ) (run : RunValue) → i < length runs → run ≡ get_or runs i run
    → blocks_of_runs runs ≡ blocks_of_runs (take i runs)
    ++ (run_blocks (pair_of run) ++ blocks_of_runs (drop (i + 1) runs))
parted runs i run below is =
    ap blocks_of_runs (sym (take-append-drop i runs))
    ∙ blocks_append (take i runs) (drop i runs)
    ∙ ap (λ (l : List RunValue). blocks_of_runs (take i runs) ++ blocks_of_runs l)
    (drop_more runs i run below ∙ ap (λ (r : RunValue). r ∷ drop (i + 1) runs) (sym is))

-- A block that was found.

pub found : (runs : List RunValue) (i r left : ℕ) (run : RunValue) → r < length runs → run ≡ get_or runs r run
    → left + length (blocks_of_runs (take r runs)) ≡ i → left < suc (run.last - run.first) → IsAtOffset runs i r left
found runs i r left run below is at inside = record {
  below = below;
  inside = subst (λ (o : Option RunValue). IfSome o (λ run. left ≤ run.last - run.first))
      (sym (slice_get_read runs (length runs) r run refl below is)) (omega arith);
  is = omega arith;
}

pub offset_at : (runs : List RunValue) (r offset : ℕ) (run : RunValue) → r < length runs → run ≡ get_or runs r run
    → IfSome (slice_get runs r) (λ run. offset ≤ run.last - run.first) → offset ≤ run.last - run.first
offset_at runs r offset run below is inside =
    subst (λ (o : Option RunValue). IfSome o (λ run. offset ≤ run.last - run.first))
    (slice_get_read runs (length runs) r run refl below is) inside

pub offset_of : (runs : List RunValue) (i r offset : ℕ) (run : RunValue) → IsAtOffset runs i r offset
    → run ≡ get_or runs r run → offset ≤ run.last - run.first
offset_of runs i r offset run is_in is = offset_at runs r offset run is_in.below is is_in.inside

get_behind : (a b : List ℕ) (o : ℕ) → slice_get (a ++ b) (length a + o) ≡ slice_get b o
get_behind [] b o = let e : 0 + o ≡ o = omega arith in ap (slice_get b) e
get_behind (x ∷ a) b o = let e : suc (length a) + o ≡ suc (length a + o) = omega arith in
    ap (slice_get (x ∷ (a ++ b))) e ∙ get_behind a b o

get_up : (count first o : ℕ) (rest : List ℕ) → o < count → slice_get (count_up count first ++ rest) o ≡ Some (first + o)
get_up zero first o rest below = absurd (omega arith)
get_up (suc count) first zero rest below = let e : first ≡ first + zero = omega arith in ap Some e
get_up (suc count) first (suc o) rest below = get_up count (suc first) o rest (omega arith)
    ∙ (let e : suc first + o ≡ first + suc o = omega arith in ap Some e)

pub block_in : (runs : List RunValue) (i r offset : ℕ) (run : RunValue) → IsAtOffset runs i r offset → run
    ≡ get_or runs r run
    → slice_get (blocks_of_runs runs) i ≡ Some (run.first + offset)
block_in runs i r offset run is_in is =
    let before = blocks_of_runs (take r runs) in
    let rest = blocks_of_runs (drop (r + 1) runs) in
    ap (λ (l : List ℕ). slice_get l i) (parted runs r run is_in.below is)
    ∙ ap (slice_get (before ++ (run_blocks (pair_of run) ++ rest))) (sym is_in.is)
    ∙ get_behind before (run_blocks (pair_of run) ++ rest) offset
    ∙ get_up (suc (run.last - run.first)) run.first offset rest
    (let e = offset_of runs i r offset run is_in is in omega arith)

-- The blocks that follow one in its run.

module _ (runs : List RunValue) (i r offset : ℕ) (run : RunValue) (is_in : IsAtOffset runs i r offset)
    (is : run ≡ get_or runs r run) where
  block_behind : (j : ℕ) → offset + j ≤ run.last - run.first
      → slice_get (blocks_of_runs runs) (i + j) ≡ Some (run.first + offset + j)
  block_behind j within = block_in runs (i + j) r (offset + j) run there is
      ∙ (let e : run.first + (offset + j) ≡ run.first + offset + j = omega arith in ap Some e)
    where
      there : IsAtOffset runs (i + j) r (offset + j)
      there = record {
        below = is_in.below;
        inside = subst (λ o. IfSome o (λ run. offset + j ≤ run.last - run.first))
            (sym (slice_get_read runs (length runs) r run refl is_in.below is)) within;
        is = omega (arith, is_in.is);
      }

  pub index_behind : (j : ℕ) → offset + j ≤ run.last - run.first
      → slice_index (blocks_of_runs runs) (i + j) ≡ run.first + offset + j
  index_behind j within = get_or_from_slice_get (blocks_of_runs runs) (i + j) (run.first + offset + j) 0
      (block_behind j within)

  pub rest_below : (j : ℕ) → offset + j ≤ run.last - run.first → i + j < length (blocks_of_runs runs)
  rest_below j within = there_below (blocks_of_runs runs) (i + j) _ (block_behind j within)
    where
      there_below : (xs : List ℕ) (k n : ℕ) → slice_get xs k ≡ Some n → k < length xs
      there_below [] k n is = cc
      there_below (x ∷ xs) zero n is = omega arith
      there_below (x ∷ xs) (suc k) n is = let b = there_below xs k n is in omega (arith, b)

-- The run that is found is the longest.

next_apart : (runs : List RunValue) (r : ℕ) (run : RunValue) → NoneAdjoins (pairs_of runs) → run ≡ get_or runs r run
    → suc r < length runs → suc (run.last - run.first) + run.first ≡ (get_or runs (suc r) run).first → ⊥
next_apart [] r run apart is below adjoins = omega arith
next_apart (first ∷ []) r run apart is below adjoins = omega arith
next_apart (first ∷ second ∷ runs) zero run apart is below adjoins = apart.0
    (ap (λ (it : RunValue). suc (it.last - it.first) + it.first) (sym is) ∙ adjoins)
next_apart (first ∷ second ∷ runs) (suc r) run apart is below adjoins =
    next_apart (second ∷ runs) r run apart.1 is (omega arith) adjoins

module _ (runs : List RunValue) (i r offset : ℕ) (run : RunValue) (is_in : IsAtOffset runs i r offset)
    (is : run ≡ get_or runs r run) (kept : pairs_of runs ≡ longest_runs (blocks_of_runs runs)) where
  behind_run : i + (run.last - run.first - offset) + 1 ≡ length (blocks_of_runs (take (r + 1) runs))
  behind_run =
      let more = length_more runs r run is_in.below is in
      let few = offset_of runs i r offset run is_in is in
      let at = is_in.is in
      omega arith

  one_behind : i + (run.last - run.first - offset) + 1 < length (blocks_of_runs runs) → r + 1 < length runs
  one_behind below = ⊎_elim (λ (less : r + 1 < length runs). less)
      (λ (all : length runs ≤ r + 1). let whole = ap (λ (l : List RunValue). length (blocks_of_runs l))
      (take_all (r + 1) runs all) in
      let e = behind_run in absurd (omega arith))
      (below_or_not (r + 1) (length runs))

  pub none_behind : i + (run.last - run.first - offset) + 1 < length (blocks_of_runs runs)
      → slice_index (blocks_of_runs runs) (i + (run.last - run.first - offset) + 1) ≡ run.last + 1 → ⊥
  none_behind below neighbour =
      let less = one_behind below in
      let next = get_or runs (r + 1) run in
      let same : next ≡ get_or runs (r + 1) next = get_or_default runs (r + 1) run next less in
      let at : IsAtOffset runs (i + (run.last - run.first - offset) + 1) (r + 1) 0 = record {
        below = less;
        inside = subst (λ (o : Option RunValue). IfSome o (λ run. 0 ≤ run.last - run.first))
            (sym (slice_get_read runs (length runs) (r + 1) next refl less same)) (omega arith);
        is = let e = behind_run in omega arith;
      } in
      let first = get_or_from_slice_get (blocks_of_runs runs) (i + (run.last - run.first - offset) + 1)
      (next.first + 0) 0 (block_in runs (i + (run.last - run.first - offset) + 1) (r + 1) 0 next at same) in
      let ordered = run.ordered in
      let e : r + 1 ≡ suc r = omega arith in
      let same_first = ap (λ (k : ℕ). (get_or runs k run).first) e in
      next_apart runs r run (subst NoneAdjoins (sym kept) (longest_apart (blocks_of_runs runs))) is (omega arith)
      (omega arith)

-- One more block after the last.

pub pushed : (old new : List RunValue) (n : ℕ) → pairs_of old ≡ longest_runs (blocks_of_runs old)
    → pairs_of new ≡ behind (pairs_of old) (1, n)
    → (pairs_of new ≡ longest_runs (blocks_of_runs old ++ n ∷ [])) × (blocks_of_runs new ≡ blocks_of_runs old ++ n ∷ [])
pushed old new n is more =
    let whole : pairs_of new ≡ longest_runs (blocks_of_runs old ++ n ∷ []) = more
    ∙ ap (λ (l : List SpecRun). behind l (1, n)) is ∙ sym (longest_behind (blocks_of_runs old) 0 n) in
    (whole, ap (flat_map run_blocks) whole ∙ blocks_of_longest (blocks_of_runs old ++ n ∷ []))

-- Runs that are joined, from the first.

pub drop_later : (xs ys : List RunValue) (i j : ℕ) → i ≤ j → drop i xs ≡ drop i ys → drop j xs ≡ drop j ys
drop_later xs ys i j less is =
    let e : j ≡ i + (j - i) = omega arith in
    ap (λ (k : ℕ). drop k xs) e ∙ sym (drop-drop (j - i) i xs) ∙ ap (drop (j - i)) is ∙ drop-drop (j - i) i ys
    ∙ sym (ap (λ (k : ℕ). drop k ys) e)

pub same_at : (xs ys : List RunValue) (i : ℕ) (run : RunValue) → drop i xs ≡ drop i ys → run ≡ get_or xs i run
    → run ≡ get_or ys i run
same_at xs ys i run same is =
    let e : i + 0 ≡ i = omega arith in
    is ∙ sym (ap (λ (k : ℕ). get_or xs k run) e) ∙ sym (get_or-drop i xs 0 run)
    ∙ ap (λ (l : List RunValue). get_or l 0 run) same ∙ get_or-drop i ys 0 run ∙ ap (λ (k : ℕ). get_or ys k run) e

pub joined_more : (old : List RunValue) (before now : List SpecRun) (i : ℕ) (run : RunValue) → i < length old
    → run ≡ get_or old i run → before ≡ longest_runs (blocks_of_runs (take i old)) → now ≡ behind before (pair_of run)
    → now ≡ longest_runs (blocks_of_runs (take (i + 1) old))
joined_more old before now i run below is was more =
    more ∙ ap (λ (l : List SpecRun). behind l (pair_of run)) was
    ∙ sym (longest_behind (blocks_of_runs (take i old)) (run.last - run.first) run.first)
    ∙ ap longest_runs (sym (blocks_more old i run below is))

-- A run that is split.

set_up : (o count first n : ℕ) (rest : List ℕ) → o ≤ count → slice_set (count_up (suc count) first ++ rest) o n
    ≡ count_up o first ++ (n ∷ (count_up (count - o) (first + o + 1) ++ rest))
set_up zero count first n rest few =
    let e : count ≡ count - 0 = omega arith in
    let f : suc first ≡ first + 0 + 1 = omega arith in
    λ i. n ∷ (count_up (e i) (f i) ++ rest)
set_up (suc o) zero first n rest few = absurd (omega arith)
set_up (suc o) (suc count) first n rest few =
    let e : count - o ≡ suc count - suc o = omega arith in
    let f : suc first + o + 1 ≡ first + suc o + 1 = omega arith in
    ap (λ (l : List ℕ). first ∷ l) (set_up o count (suc first) n rest (omega arith))
    ∙ (λ i. first ∷ (count_up o (suc first) ++ (n ∷ (count_up (e i) (f i) ++ rest))))

module _ (old with_one with_tail new : List RunValue) (at n : ℕ) (one run : RunValue) (head tail : List ℕ) where
  pub parts_put : at < length old → with_one ≡ slice_set old at one → pair_of one ≡ (1, n)
      → take (at + 1) with_tail ≡ take (at + 1) with_one
      → blocks_of_runs (drop (at + 1) with_tail) ≡ tail ++ blocks_of_runs (drop (at + 1) with_one)
      → take at new ≡ take at with_tail → blocks_of_runs (drop at new) ≡ head ++ blocks_of_runs (drop at with_tail)
      → blocks_of_runs new ≡ blocks_of_runs (take at old)
      ++ (head ++ (n ∷ (tail ++ blocks_of_runs (drop (at + 1) old))))
  parts_put below first one_is front behind' front' behind'' =
      let early = take at old in
      let late = drop (at + 1) with_tail in
      let long : length early ≡ at = length-take-le at old (omega arith) in
      let whole : with_tail ≡ early ++ one ∷ late = sym (take-append-drop (at + 1) with_tail)
      ∙ ap (λ (l : List RunValue). l ++ late) (front ∙ ap (take (at + 1)) first ∙ take_more_set old at one below)
      ∙ append_assoc early (one ∷ []) late in
      let ends : drop (at + 1) with_one ≡ drop (at + 1) old = ap (drop (at + 1)) first
      ∙ (let e : at + 1 ≡ suc at = omega arith in
      ap (λ (l : List RunValue). drop (at + 1) l) (set_split old at one below)
      ∙ sym (drop-drop 1 at (early ++ one ∷ drop (suc at) old))
      ∙ ap (drop 1) (drop_at early (one ∷ drop (suc at) old) at long) ∙ ap (λ (k : ℕ). drop k old) (sym e)) in
      ap blocks_of_runs (sym (take-append-drop at new))
      ∙ blocks_append (take at new) (drop at new)
      ∙ ap (λ (l : List RunValue). blocks_of_runs l ++ blocks_of_runs (drop at new))
      (front' ∙ ap (take at) whole ∙ take_at early (one ∷ late) at long)
      ∙ ap (λ (l : List ℕ). blocks_of_runs early ++ l)
      (behind'' ∙ ap (λ (l : List RunValue). head ++ blocks_of_runs l)
      (ap (drop at) whole ∙ drop_at early (one ∷ late) at long)
      ∙ ap (λ (r : SpecRun). head ++ (run_blocks r ++ blocks_of_runs late)) one_is
      ∙ ap (λ (l : List ℕ). head ++ (n ∷ l)) (behind' ∙ ap (λ (l : List RunValue). tail ++ blocks_of_runs l) ends))

  pub put_in : (offset : ℕ) → at < length old → run ≡ get_or old at run → offset ≤ run.last - run.first
      → head ≡ count_up offset run.first → tail ≡ count_up (run.last - run.first - offset) (run.first + offset + 1)
      → blocks_of_runs new ≡ blocks_of_runs (take at old)
      ++ (head ++ (n ∷ (tail ++ blocks_of_runs (drop (at + 1) old))))
      → blocks_of_runs new ≡ slice_set (blocks_of_runs old) (length (blocks_of_runs (take at old)) + offset) n
  put_in offset below is few head_is tail_is whole =
      let before = blocks_of_runs (take at old) in
      let rest = blocks_of_runs (drop (at + 1) old) in
      let all = run_blocks (pair_of run) ++ rest in
      let back : length before + offset - length before ≡ offset = omega arith in
      whole ∙ (λ i. before ++ (head_is i ++ (n ∷ (tail_is i ++ rest))))
      ∙ ap (λ (l : List ℕ). before ++ l) (sym (set_up offset (run.last - run.first) run.first n rest few))
      ∙ ap (λ (k : ℕ). before ++ slice_set all k n) (sym back)
      ∙ sym (set-append_right before all (length before) (length before + offset) n refl (omega arith))
      ∙ ap (λ (l : List ℕ). slice_set l (length before + offset) n) (sym (parted old at run below is))
