-- Runs of neighbouring blocks: the list of their blocks, and the longest runs of a list.
use Rattle.std.specs.Prelude.{◌≡◌, ℕ, suc, ◌+◌, ◌-◌, ◌<◌, ◌≤◌, ◌==◌, if◌then◌else◌, List, [], ◌∷◌, Option, Some, None}
use Rattle.std.specs.Prelude.{IfSome, slice_get, length, map, flat_map, take}
use Rattle.spec_image.specs.Common.{SpecRun, run_blocks}
use Rattle.retrieval.specs.VersionWrite.{rib_count}
use Rattle.retrieval.specs.declared.run.Run.{Run as RunValue}

-- a list of blocks, and for how many more runs it has memory
pub record BlocksState : Type 0 where
  pub blocks : List ℕ
  pub spare : ℕ

abbrev pub pair_of : RunValue → SpecRun
pair_of run = (suc (run.last - run.first), run.first)

abbrev pub pairs_of : List RunValue → List SpecRun
pairs_of runs = map pair_of runs

abbrev pub blocks_of_runs : List RunValue → List ℕ
blocks_of_runs runs = flat_map run_blocks (pairs_of runs)

-- the blocks of a run, if there is one
abbrev pub part_blocks : Option RunValue → List ℕ
part_blocks None = []
part_blocks (Some run) = run_blocks (pair_of run)

-- Block i, counted from 0, is the one at this offset of run r.
pub record IsAtOffset (runs : List RunValue) (i r offset : ℕ) : Type 0 where
  pub below : r < length runs
  pub inside : IfSome (slice_get runs r) (λ run. offset ≤ run.last - run.first)
  pub is : length (blocks_of_runs (take r runs)) + offset ≡ i

-- a block in front of runs, as part of the first if that begins just after it
abbrev pub in_front : ℕ → List SpecRun → List SpecRun
in_front n [] = (1, n) ∷ []
in_front n (run ∷ runs) = if suc n == run.1 then (suc run.0, n) ∷ runs else (1, n) ∷ run ∷ runs

-- the longest runs of a list of blocks: none begins just after the one before it
abbrev pub longest_runs : List ℕ → List SpecRun
longest_runs [] = []
longest_runs (n ∷ ns) = in_front n (longest_runs ns)

-- a run after others, as part of the last if that ends just before it
abbrev pub behind : List SpecRun → SpecRun → List SpecRun
behind [] run = run ∷ []
behind (last ∷ []) run =
    if last.0 + last.1 == run.1 then (last.0 + run.0, last.1) ∷ [] else last ∷ run ∷ []
behind (first ∷ second ∷ runs) run = first ∷ behind (second ∷ runs) run

-- how many extensions the longest runs of these blocks need
abbrev pub ribs_of : List ℕ → ℕ
ribs_of blocks = rib_count (length (longest_runs blocks))

-- how many blocks there are up to the end of each of these runs, if `before` blocks are before the first
abbrev pub ends_of : ℕ → List SpecRun → List ℕ
ends_of before [] = []
ends_of before (run ∷ runs) = (before + run.0) ∷ ends_of (before + run.0) runs

-- What is stored of a list: its longest runs, and how many blocks there are up to the end of each.
pub record AreKept (runs : List RunValue) (ends : List ℕ) : Type 0 where
  pub are_longest : pairs_of runs ≡ longest_runs (blocks_of_runs runs)
  pub are_ends : ends ≡ ends_of 0 (pairs_of runs)
