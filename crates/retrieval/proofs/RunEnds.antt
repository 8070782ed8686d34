-- How many blocks there are up to the end of each run.
use Rattle.std.proofs.Common.{◌≡◌, ℕ, zero, suc, ◌+◌, ◌-◌, ◌<◌, ◌≤◌, ◌==◌, true, false, Bool, if◌then◌else◌, List, []}
use Rattle.std.proofs.Common.{Result, Ok, Err, OnOk, OnErr, ◌∷◌, ◌++◌, length, get_or, take, flat_map, slice_set}
use Rattle.std.proofs.Common.{refl, sym, ◌∙◌, ap, subst, arith, length-append}
use Rattle.std.proofs.lemmas.Bool.{leb-true, leb-false}
use Rattle.std.proofs.lemmas.List.{take_all, take_more_set, length-set, length-map, map_push, map_more, get_or-map}
use Rattle.std.proofs.lemmas.List.Folds.{length-flat_map-take}
use Rattle.std.specs.Prelude.{leb, slice_index}
use Rattle.std.specs.List.{take-map}
use Rattle.std.specs.List.Sorted.{IsNonDecreasing, IsPartitionPoint}
use Rattle.spec_image.specs.Common.{SpecRun, run_blocks}
use Rattle.retrieval.specs.Common.{pair_of, pairs_of, blocks_of_runs, IsAtOffset, AreKept, behind, longest_runs}
use Rattle.retrieval.specs.Common.{ends_of}
use Rattle.retrieval.specs.declared.run.Run.{Run as RunValue}
use Rattle.retrieval.proofs.RunLists.{length-count_up}
use Rattle.retrieval.proofs.RunListLaws.{found, length_more, pushed}

abbrev total : List SpecRun → ℕ
total runs = length (flat_map run_blocks runs)

total_cons : (run : SpecRun) (runs : List SpecRun) → total (run ∷ runs) ≡ run.0 + total runs
total_cons run runs =
    let a = length-append (run_blocks run) (flat_map run_blocks runs) in
    let b = length-count_up run.0 run.1 in
    omega arith

pub length-ends : (before : ℕ) (runs : List SpecRun) → length (ends_of before runs) ≡ length runs
length-ends before [] = refl
length-ends before (run ∷ runs) = let e = length-ends (before + run.0) runs in omega arith

end_at : (before : ℕ) (runs : List SpecRun) (r d : ℕ) → r ≤ length runs
    → get_or (before ∷ ends_of before runs) r d ≡ before + total (take r runs)
end_at before runs zero d few = omega arith
end_at before [] (suc r) d few = absurd (omega arith)
end_at before (run ∷ runs) (suc r) d few =
    end_at (before + run.0) runs r d (omega arith) ∙ (let e = total_cons run (take r runs) in omega arith)

-- The ends rise, so that a place can be found among them by binary search.

end_above : (before : ℕ) (runs : List SpecRun) (r d : ℕ) → r < length runs → before ≤ get_or (ends_of before runs) r d
end_above before [] r d below = absurd (omega arith)
end_above before (run ∷ runs) zero d below = omega arith
end_above before (run ∷ runs) (suc r) d below = let e = end_above (before + run.0) runs r d (omega arith) in omega arith

rising : (before : ℕ) (runs : List SpecRun) (i j d : ℕ) → i ≤ j → j < length runs
    → get_or (ends_of before runs) i d ≤ get_or (ends_of before runs) j d
rising before [] i j d few below = absurd (omega arith)
rising before (run ∷ runs) zero zero d few below = omega arith
rising before (run ∷ runs) zero (suc j) d few below = end_above (before + run.0) runs j d (omega arith)
rising before (run ∷ runs) (suc i) zero d few below = absurd (omega arith)
rising before (run ∷ runs) (suc i) (suc j) d few below = rising (before + run.0) runs i j d (omega arith) (omega arith)

pub ends_rise : (runs : List RunValue) (ends : List ℕ) → ends ≡ ends_of 0 (pairs_of runs) → IsNonDecreasing ends
ends_rise runs ends are = subst IsNonDecreasing (sym are) (λ i j d few below.
    rising 0 (pairs_of runs) i j d few (let e = length-ends 0 (pairs_of runs) in omega arith))

-- What the binary search returns.

pub point_above : (ends : List ℕ) (i at : ℕ)
    → IsPartitionPoint (λ end. leb end i ≡ true) (λ end. leb end i ≡ false) ends at
    → slice_index (0 ∷ ends) at ≤ i
point_above ends i zero point = omega arith
point_above ends i (suc at) point = leb-true (get_or ends at 0) i (point.0 at 0 (omega arith) (omega arith))

pub point_below : (ends : List ℕ) (i at : ℕ)
    → IsPartitionPoint (λ end. leb end i ≡ true) (λ end. leb end i ≡ false) ends at
    → at < length ends → i < slice_index ends at
point_below ends i at point below = leb-false (get_or ends at 0) i (point.1 at 0 (omega arith) below)

-- The run of a block.

module _ (runs : List RunValue) (ends : List ℕ) (are : ends ≡ ends_of 0 (pairs_of runs)) where
  pub count_ends : length ends ≡ length runs
  count_ends = ap length are ∙ length-ends 0 (pairs_of runs) ∙ length-map runs pair_of

  pub before_run : (r : ℕ) → r ≤ length runs → slice_index (0 ∷ ends) r ≡ length (blocks_of_runs (take r runs))
  before_run r few =
      let many = length-map runs pair_of in
      ap (λ (l : List ℕ). get_or (0 ∷ l) r 0) are ∙ end_at 0 (pairs_of runs) r 0 (omega arith)
      ∙ (let e = ap total (take-map pair_of r runs) in omega arith)

  pub before_end : slice_index (0 ∷ ends) (length ends) ≡ length (blocks_of_runs runs)
  before_end = ap (slice_index (0 ∷ ends)) count_ends ∙ before_run (length runs) (omega arith)
      ∙ ap (λ (l : List RunValue). length (blocks_of_runs l)) (take_all (length runs) runs (omega arith))

  pub end_of : (r : ℕ) (run : RunValue) → r < length runs → run ≡ get_or runs r run
      → slice_index ends r ≡ length (blocks_of_runs (take r runs)) + suc (run.last - run.first)
  end_of r run below is =
      let e : r + 1 ≡ suc r = omega arith in
      let a = before_run (suc r) (omega arith) in
      let b = ap (λ (k : ℕ). length (blocks_of_runs (take k runs))) e in
      let c = length_more runs r run below is in
      omega arith

  pub found_between : (i r offset : ℕ) (run : RunValue) → r < length runs → run ≡ get_or runs r run
      → slice_index (0 ∷ ends) r ≤ i → i < slice_index ends r → offset ≡ i - slice_index (0 ∷ ends) r
      → IsAtOffset runs i r offset
  found_between i r offset run below is from to offset_is =
      let a = before_run r (omega arith) in
      let b = end_of r run below is in
      found runs i r offset run below is (omega arith) (omega arith)

-- One more run, and a longer last one.

ends_push : (before : ℕ) (runs : List SpecRun) (run : SpecRun)
    → ends_of before (runs ++ run ∷ []) ≡ ends_of before runs ++ (before + total (runs ++ run ∷ [])) ∷ []
ends_push before [] run =
    let e = total_cons run [] in
    let f : before + run.0 ≡ before + total (run ∷ []) = omega arith in
    ap (λ (n : ℕ). n ∷ []) f
ends_push before (first ∷ runs) run =
    let e = total_cons first (runs ++ run ∷ []) in
    let f : before + first.0 + total (runs ++ run ∷ []) ≡ before + total (first ∷ (runs ++ run ∷ [])) = omega arith in
    ap (λ (l : List ℕ). (before + first.0) ∷ l) (ends_push (before + first.0) runs run)
    ∙ ap (λ (n : ℕ). (before + first.0) ∷ (ends_of (before + first.0) runs ++ n ∷ [])) f

take_ends : (before : ℕ) (runs : List SpecRun) (r : ℕ) → take r (ends_of before runs) ≡ ends_of before (take r runs)
take_ends before runs zero = refl
take_ends before [] (suc r) = refl
take_ends before (run ∷ runs) (suc r) = ap (λ (l : List ℕ). (before + run.0) ∷ l) (take_ends (before + run.0) runs r)

total_behind : (runs : List SpecRun) (run : SpecRun) → total (behind runs run) ≡ total runs + run.0
total_behind [] run = let e = total_cons run [] in omega arith
total_behind (last ∷ []) run = joined (last.0 + last.1 == run.1)
  where
    joined : (b : Bool) → total (if b then (last.0 + run.0, last.1) ∷ [] else last ∷ run ∷ [])
        ≡ total (last ∷ []) + run.0
    joined true = let a = total_cons (last.0 + run.0, last.1) [] in let b = total_cons last [] in omega arith
    joined false = let a = total_cons last (run ∷ []) in let b = total_cons run [] in let c = total_cons last [] in
        omega arith
total_behind (first ∷ second ∷ runs) run =
    let a = total_cons first (behind (second ∷ runs) run) in
    let b = total_cons first (second ∷ runs) in
    let c = total_behind (second ∷ runs) run in
    omega arith

pub ends_more : (runs : List RunValue) (ends : List ℕ) (i end : ℕ) (run : RunValue) → i < length runs
    → run ≡ get_or runs i run → ends ≡ ends_of 0 (pairs_of (take i runs))
    → end ≡ length (blocks_of_runs (take i runs)) + suc (run.last - run.first)
    → ends ++ end ∷ [] ≡ ends_of 0 (pairs_of (take (i + 1) runs))
ends_more runs ends i end run below is are end_is =
    let more : pairs_of (take (i + 1) runs) ≡ pairs_of (take i runs) ++ pair_of run ∷ [] =
    map_more pair_of runs i run below
    ∙ ap (λ (r : RunValue). pairs_of (take i runs) ++ pair_of r ∷ []) (sym is) in
    let a = length_more runs i run below is in
    let b = ap total more in
    let last : end ≡ 0 + total (pairs_of (take i runs) ++ pair_of run ∷ []) = omega arith in
    (λ k. are k ++ last k ∷ []) ∙ sym (ends_push 0 (pairs_of (take i runs)) (pair_of run)) ∙ ap (ends_of 0) (sym more)

pub few_more : (runs : List RunValue) (i : ℕ) (run : RunValue) → i < length runs → run ≡ get_or runs i run
    → length (blocks_of_runs (take i runs)) + suc (run.last - run.first) ≤ length (blocks_of_runs runs)
few_more runs i run below is =
    let many = length-map runs pair_of in
    let a = length-flat_map-take run_blocks (pairs_of runs) i (pair_of run) (omega arith) in
    let b = ap total (take-map pair_of i runs) in
    let c : get_or (pairs_of runs) i (pair_of run) ≡ pair_of run =
    get_or-map pair_of runs i run (pair_of run) below ∙ ap pair_of (sym is) in
    let d = ap (λ (r : SpecRun). length (run_blocks r)) c in
    let e = length-count_up (suc (run.last - run.first)) run.first in
    omega arith

module _ (runs : List RunValue) (ends : List ℕ) (are : ends ≡ ends_of 0 (pairs_of runs)) (end : ℕ) (run : RunValue)
    (end_is : end ≡ length (blocks_of_runs runs) + (pair_of run).0) where
  ends_behind : pairs_of runs ++ pair_of run ∷ [] ≡ behind (pairs_of runs) (pair_of run)
      → ends ++ end ∷ [] ≡ ends_of 0 (pairs_of (runs ++ run ∷ []))
  ends_behind apart =
      let a = ap total apart ∙ total_behind (pairs_of runs) (pair_of run) in
      let last : end ≡ 0 + total (pairs_of runs ++ pair_of run ∷ []) = omega arith in
      (λ k. are k ++ last k ∷ []) ∙ sym (ends_push 0 (pairs_of runs) (pair_of run))
      ∙ ap (ends_of 0) (sym (map_push pair_of runs run))

  pub ends_pushed : {T E : Type 0} (answer : Result T E) (runs' : List RunValue) (ends' : List ℕ)
      → pairs_of runs ++ pair_of run ∷ [] ≡ behind (pairs_of runs) (pair_of run)
      → OnOk answer (runs' ≡ runs ++ run ∷ []) → OnOk answer (ends' ≡ ends ++ end ∷ [])
      → OnOk answer (ends' ≡ ends_of 0 (pairs_of runs'))
  ends_pushed (Ok x) runs' ends' apart more more_ends =
      more_ends ∙ ends_behind apart ∙ ap (λ (l : List RunValue). ends_of 0 (pairs_of l)) (sym more)
  ends_pushed (Err e) runs' ends' apart more more_ends = tt

  pub ends_joined : (count : ℕ) (joined : RunValue) → 0 < count → count ≡ length runs
      → pairs_of (take (count - 1) runs) ++ pair_of joined ∷ [] ≡ behind (pairs_of runs) (pair_of run)
      → slice_set ends (count - 1) end ≡ ends_of 0 (pairs_of (slice_set runs (count - 1) joined))
  ends_joined count joined some all is =
      let a = ap total is ∙ total_behind (pairs_of runs) (pair_of run) in
      let last : end ≡ 0 + total (pairs_of (take (count - 1) runs) ++ pair_of joined ∷ []) = omega arith in
      let many = count_ends runs ends are in
      let front : take (count - 1) ends ≡ ends_of 0 (pairs_of (take (count - 1) runs)) = ap (take (count - 1)) are
      ∙ take_ends 0 (pairs_of runs) (count - 1) ∙ ap (ends_of 0) (take-map pair_of (count - 1) runs) in
      sym (take_all (count - 1 + 1) (slice_set ends (count - 1) end)
      (let e = length-set ends (count - 1) end in omega arith))
      ∙ take_more_set ends (count - 1) end (omega arith)
      ∙ (λ k. front k ++ last k ∷ [])
      ∙ sym (ends_push 0 (pairs_of (take (count - 1) runs)) (pair_of joined))
      ∙ ap (ends_of 0) (sym (map_push pair_of (take (count - 1) runs) joined)
      ∙ ap pairs_of (sym (take_more_set runs (count - 1) joined (omega arith))
      ∙ take_all (count - 1 + 1) (slice_set runs (count - 1) joined)
      (let e = length-set runs (count - 1) joined in omega arith)))

-- One more block after the last.
pub kept_more : {T E : Type 0} (answer : Result T E) (runs runs' : List RunValue) (ends ends' : List ℕ) (n : ℕ)
    → AreKept runs ends → OnOk answer (pairs_of runs' ≡ behind (pairs_of runs) (1, n))
    → OnOk answer (ends' ≡ ends_of 0 (pairs_of runs')) → OnErr answer (runs' ≡ runs) → OnErr answer (ends' ≡ ends)
    → AreKept runs' ends'
kept_more (Ok x) runs runs' ends ends' n kept more are same same_ends =
    let both = pushed runs runs' n kept.are_longest more in
    record { are_longest = both.0 ∙ ap longest_runs (sym both.1); are_ends = are }
kept_more (Err e) runs runs' ends ends' n kept more are same same_ends =
    subst (AreKept runs') (sym same_ends) (subst (λ (l : List RunValue). AreKept l ends) (sym same) kept)
