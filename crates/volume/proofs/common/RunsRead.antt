-- The blocks of runs, of which something holds run by run.
use Rattle.std.proofs.Common.{◌≡◌, ℕ, zero, suc, ◌+◌, ◌<◌, ◌≤◌, List, [], ◌∷◌, ◌++◌, length, get_or, take, flat_map}
use Rattle.std.proofs.Common.{sym, ◌∙◌, ap, subst, arith, ⊎_elim, append-nil}
use Rattle.std.specs.List.{AllByRecursion}
use Rattle.std.proofs.lemmas.Bool.{cases_eq}
use Rattle.std.proofs.lemmas.List.{take_more, map-append}
use Rattle.std.proofs.lemmas.Grind.{flat_map-append}
use Rattle.blockdisk.specs.Common.{Contents, IsWholeBlock}
use Rattle.spec_image.specs.Common.{times, count_up, run_blocks}
use Rattle.spec_image.proofs.Common.{all_append, all_left, all_right}
use Rattle.retrieval.specs.Common.{blocks_of_runs, pairs_of, pair_of}
use Rattle.retrieval.specs.declared.run.Run.{Run}
use Rattle.directory.proofs.ChainPuts.{times_get}

-- Neighbours

of_neighbours : (P : ℕ → Type 0) (count first : ℕ) → AllByRecursion P (count_up count first)
    → (n : ℕ) → first ≤ n → n < first + count → P n
of_neighbours P zero first all n low high = absurd (omega arith)
of_neighbours P (suc count) first all n low high = ⊎_elim (λ same. subst P (sym same) all.0)
    (λ other. of_neighbours P count (suc first) all.1 n (omega (arith, other)) (omega arith)) (cases_eq n first)

to_neighbours : (P : ℕ → Type 0) (count first : ℕ) → ((n : ℕ) → first ≤ n → n < first + count → P n)
    → AllByRecursion P (count_up count first)
to_neighbours P zero first each = tt
to_neighbours P (suc count) first each = (
  each first (omega arith) (omega arith),
  to_neighbours P count (suc first) (λ n low high. each n (omega arith) (omega arith)),
)

-- What holds of all blocks of some runs holds of those of one.
pub in_run : (P : ℕ → Type 0) (runs : List Run) (i : ℕ) (run : Run) → i < length runs → run ≡ get_or runs i run
    → AllByRecursion P (blocks_of_runs runs) → (n : ℕ) → run.first ≤ n → n ≤ run.last → P n
in_run P [] i run below is all n low high = absurd (omega arith)
in_run P (r ∷ runs) zero run below is all n low high =
    of_neighbours P (pair_of run).0 (pair_of run).1
    (subst (λ (r : Run). AllByRecursion P (run_blocks (pair_of r))) (sym is)
    (all_left P (run_blocks (pair_of r)) (blocks_of_runs runs) all)) n low (omega arith)
in_run P (r ∷ runs) (suc i) run below is all n low high =
    in_run P runs i run (omega arith) is (all_right P (run_blocks (pair_of r)) (blocks_of_runs runs) all) n low high

-- one run more
pub runs_more : (P : ℕ → Type 0) (runs : List Run) (i : ℕ) (run : Run) → i < length runs → run ≡ get_or runs i run
    → run.first ≤ run.last → AllByRecursion P (blocks_of_runs (take i runs))
    → ((n : ℕ) → run.first ≤ n → n ≤ run.last → P n) → AllByRecursion P (blocks_of_runs (take (i + 1) runs))
runs_more P runs i run below is ordered before here =
    subst (AllByRecursion P) (sym split) (all_append P (blocks_of_runs (take i runs)) (run_blocks (pair_of run)) before
    (to_neighbours P (pair_of run).0 (pair_of run).1 (λ n low high. here n low (omega arith))))
  where
    split : blocks_of_runs (take (i + 1) runs) ≡ blocks_of_runs (take i runs) ++ run_blocks (pair_of run)
    split = ap blocks_of_runs (take_more runs i run below ∙ ap (λ (r : Run). take i runs ++ r ∷ []) (sym is))
        ∙ ap (flat_map run_blocks) (map-append pair_of (take i runs) (run ∷ []))
        ∙ flat_map-append run_blocks (pairs_of (take i runs)) (pair_of run ∷ [])
        ∙ ap (λ (l : List ℕ). blocks_of_runs (take i runs) ++ l) (append-nil (run_blocks (pair_of run)))

-- Each block of a list occurs in it.

all_of_places : (P : ℕ → Type 0) (xs : List ℕ) → ((i : ℕ) → i < length xs → P (get_or xs i 0)) → AllByRecursion P xs
all_of_places P [] each = tt
all_of_places P (x ∷ xs) each = (each 0 (omega arith), all_of_places P xs (λ i below. each (suc i) (omega arith)))

pub each_stands : (blocks : List ℕ) → AllByRecursion (λ n. 0 < times n blocks) blocks
each_stands blocks = all_of_places (λ n. 0 < times n blocks) blocks (λ i below. times_get blocks i below)

-- a block that is whole after nothing changed was whole before
pub whole_before : (c d : Contents) (n : ℕ) → ((n : ℕ) → d n ≡ c n) → IsWholeBlock d n → IsWholeBlock c n
whole_before c d n same whole = record { words = whole.words; holds = sym (same n) ∙ whole.holds; all = whole.all }
