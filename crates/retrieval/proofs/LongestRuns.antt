-- The longest runs of a list of blocks, and how they grow at their ends.
use Rattle.std.proofs.Common.{◌≡◌, ℕ, zero, suc, Bool, true, false, ◌+◌, ◌≤◌, ◌==◌, if◌then◌else◌, List, [], ◌∷◌}
use Rattle.std.proofs.Common.{◌++◌, length, flat_map, refl, sym, ◌∙◌, ap, arith}
use Rattle.std.proofs.lemmas.Bool.{eqb-true, eqb-false, eq-eqb, ne_eqb}
use Rattle.spec_image.specs.Common.{SpecRun, run_blocks, count_up}
use Rattle.retrieval.specs.Common.{in_front, longest_runs, behind}

-- A block in front.

blocks_in_front : (n : ℕ) (runs : List SpecRun) → flat_map run_blocks (in_front n runs) ≡ n ∷ flat_map run_blocks runs
blocks_in_front n [] = refl
blocks_in_front n (run ∷ runs) = by_case (suc n == run.1) refl
  where
    by_case : (b : Bool) → (suc n == run.1) ≡ b
        → flat_map run_blocks (if b then (suc run.0, n) ∷ runs else (1, n) ∷ run ∷ runs)
        ≡ n ∷ (count_up run.0 run.1 ++ flat_map run_blocks runs)
    by_case true is = ap (λ (k : ℕ). n ∷ (count_up run.0 k ++ flat_map run_blocks runs)) (eqb-true (suc n) run.1 is)
    by_case false is = refl

-- their blocks are the list
pub blocks_of_longest : (ns : List ℕ) → flat_map run_blocks (longest_runs ns) ≡ ns
blocks_of_longest [] = refl
blocks_of_longest (n ∷ ns) = blocks_in_front n (longest_runs ns) ∙ ap (λ (l : List ℕ). n ∷ l) (blocks_of_longest ns)

few_in_front : (n : ℕ) (runs : List SpecRun) → length (in_front n runs) ≤ suc (length runs)
few_in_front n [] = omega arith
few_in_front n (run ∷ runs) = by_case (suc n == run.1)
  where
    by_case : (b : Bool) → length (if b then (suc run.0, n) ∷ runs else (1, n) ∷ run ∷ runs) ≤ suc (suc (length runs))
    by_case true = omega arith
    by_case false = omega arith

-- and are no more than its blocks
pub longest_few : (ns : List ℕ) → length (longest_runs ns) ≤ length ns
longest_few [] = omega arith
longest_few (n ∷ ns) = let a = few_in_front n (longest_runs ns) in let b = longest_few ns in omega arith

-- A run at the end.

front_behind : (n : ℕ) (runs : List SpecRun) (run : SpecRun)
    → in_front n (behind runs run) ≡ behind (in_front n runs) run
front_behind n [] run =
    let e : suc n ≡ 1 + n = omega arith in
    let f : suc run.0 ≡ 1 + run.0 = omega arith in
    λ i. if e i == run.1 then (f i, n) ∷ [] else (1, n) ∷ run ∷ []
front_behind n (last ∷ []) run =
    by_case (last.0 + last.1 == run.1) refl (suc n == last.1) refl
  where
    front : (b : Bool) → (suc n == last.1) ≡ b → (count : ℕ) (more : List SpecRun)
        → in_front n ((count, last.1) ∷ more)
        ≡ (if b then (suc count, n) ∷ more else (1, n) ∷ (count, last.1) ∷ more)
    front b is count more = ap (λ (c : Bool). if c then (suc count, n) ∷ more else (1, n) ∷ (count, last.1) ∷ more) is

    by_case : (b : Bool) → (last.0 + last.1 == run.1) ≡ b → (c : Bool) → (suc n == last.1) ≡ c
        → in_front n (if b then (last.0 + run.0, last.1) ∷ [] else last ∷ run ∷ [])
        ≡ behind (if c then (suc last.0, n) ∷ [] else (1, n) ∷ last ∷ []) run
    by_case true joins true fronts = front true fronts (last.0 + run.0) []
        ∙ (let e : suc (last.0 + run.0) ≡ suc last.0 + run.0 = omega arith in λ i. (e i, n) ∷ [])
        ∙ sym (ap (λ (d : Bool). if d then (suc last.0 + run.0, n) ∷ [] else (suc last.0, n) ∷ run ∷ [])
        (eq-eqb (suc last.0 + n) run.1 (let e = eqb-true (suc n) last.1 fronts in
        let f = eqb-true (last.0 + last.1) run.1 joins in omega arith)))
    by_case true joins false apart = front false apart (last.0 + run.0) []
        ∙ sym (ap (λ (d : Bool). (1, n) ∷ (if d then (last.0 + run.0, last.1) ∷ [] else last ∷ run ∷ [])) joins)
    by_case false stays true fronts = front true fronts last.0 (run ∷ [])
        ∙ sym (ap (λ (d : Bool). if d then (suc last.0 + run.0, n) ∷ [] else (suc last.0, n) ∷ run ∷ [])
        (ne_eqb (suc last.0 + n) run.1 (λ is. eqb-false (last.0 + last.1) run.1 stays
        (let e = eqb-true (suc n) last.1 fronts in omega arith))))
    by_case false stays false apart = front false apart last.0 (run ∷ [])
        ∙ sym (ap (λ (d : Bool). (1, n) ∷ (if d then (last.0 + run.0, last.1) ∷ [] else last ∷ run ∷ [])) stays)
front_behind n (first ∷ second ∷ runs) run = by_case (suc n == first.1)
  where
    by_case : (b : Bool)
        → (if b then (suc first.0, n) ∷ behind (second ∷ runs) run else (1, n) ∷ first ∷ behind (second ∷ runs) run)
        ≡ behind (if b then (suc first.0, n) ∷ second ∷ runs else (1, n) ∷ first ∷ second ∷ runs) run
    by_case true = refl
    by_case false = refl

longest_run : (count first : ℕ) → longest_runs (count_up (suc count) first) ≡ (suc count, first) ∷ []
longest_run zero first = refl
longest_run (suc count) first = ap (in_front first) (longest_run count (suc first))
    ∙ ap (λ (b : Bool). if b then (suc (suc count), first) ∷ [] else (1, first) ∷ (suc count, suc first) ∷ [])
    (eq-eqb (suc first) (suc first) refl)

pub longest_behind : (ns : List ℕ) (count first : ℕ)
    → longest_runs (ns ++ count_up (suc count) first) ≡ behind (longest_runs ns) (suc count, first)
longest_behind [] count first = longest_run count first
longest_behind (n ∷ ns) count first = ap (in_front n) (longest_behind ns count first)
    ∙ front_behind n (longest_runs ns) (suc count, first)

pub behind_last : (runs : List SpecRun) (last run : SpecRun) → behind (runs ++ last ∷ []) run
    ≡ runs ++ (if last.0 + last.1 == run.1 then (last.0 + run.0, last.1) ∷ [] else last ∷ run ∷ [])
behind_last [] last run = refl
behind_last (first ∷ []) last run = refl
behind_last (first ∷ second ∷ runs) last run = ap (λ (l : List SpecRun). first ∷ l)
    (behind_last (second ∷ runs) last run)

-- No run adjoins the one before it.

abbrev pub NoneAdjoins : List SpecRun → Type 0
NoneAdjoins [] = Unit {0}
NoneAdjoins (run ∷ []) = Unit {0}
NoneAdjoins (run ∷ next ∷ runs) = (run.0 + run.1 ≡ next.1 → ⊥) × NoneAdjoins (next ∷ runs)

longer_first : (n : ℕ) (run : SpecRun) (runs : List SpecRun) → suc n ≡ run.1 → NoneAdjoins (run ∷ runs)
    → NoneAdjoins ((suc run.0, n) ∷ runs)
longer_first n run [] is apart = tt
longer_first n run (next ∷ runs) is apart = (λ adjoins. apart.0 (omega arith), apart.1)

none_in_front : (n : ℕ) (runs : List SpecRun) → NoneAdjoins runs → NoneAdjoins (in_front n runs)
none_in_front n [] apart = tt
none_in_front n (run ∷ runs) apart = by_case (suc n == run.1) refl
  where
    by_case : (b : Bool) → (suc n == run.1) ≡ b
        → NoneAdjoins (if b then (suc run.0, n) ∷ runs else (1, n) ∷ run ∷ runs)
    by_case true is = longer_first n run runs (eqb-true (suc n) run.1 is) apart
    by_case false is = (λ adjoins. eqb-false (suc n) run.1 is (omega arith), apart)

pub longest_apart : (ns : List ℕ) → NoneAdjoins (longest_runs ns)
longest_apart [] = tt
longest_apart (n ∷ ns) = none_in_front n (longest_runs ns) (longest_apart ns)
