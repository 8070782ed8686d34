use Rattle.std.proofs.Common.{◌-◌, ◌<◌, ◌≤◌, ◌^◌, ℕ, List, ◌++◌, map, length, take, drop, replicate, min, sym, subst}
use Rattle.std.proofs.Common.{ap, ◌∙◌}
use Rattle.std.specs.List.{AllByRecursion}
use Rattle.std.proofs.lemmas.List.{length-map, take-map}
use Rattle.spec_image.specs.Common.{head_or_zero, SpecRun, IsRun, pointer}
use Rattle.retrieval.specs.Common.{with_length, pair_of, pairs_of, longest_runs}
use Rattle.retrieval.proofs.BuiltPointers.{block_written, all_first, runs_fit}
use Rattle.retrieval.proofs.build.prime_block.Goals as goal

pub put_pointers-requires-clause-fit : goal.put_pointers-requires-clause-fit
put_pointers-requires-clause-fit c =
    let runs = c.runs-runs.result.now in
    let blocks = c.runs-runs.ensures.blocks in
    subst (AllByRecursion IsRun) (take-map pair_of c.min-count.result runs)
    (all_first IsRun c.min-count.result (pairs_of runs)
    (runs_fit runs (subst (AllByRecursion (λ n. n < 2 ^ 18)) (sym blocks) c.requires.fit)
    (subst (λ (l : List ℕ). length l ≤ 16384) (sym blocks) c.requires.few)))

pub put_pointers-requires-clause-clear : goal.put_pointers-requires-clause-clear
put_pointers-requires-clause-clear c = ap (λ (l : List ℕ). drop 16 l) c.without_pointers-words.ensures

pub returns : goal.returns
returns c =
    let v = c.args.version.now in
    let count = c.min-count.result in
    let runs = c.runs-runs.result.now in
    let part = take count runs in
    let are = c.runs-runs.ensures.are_longest in
    block_written (with_length c.args.prime.now v.words) (longest_runs v.blocks) part c.put_pointers.new.words count
    (head_or_zero v.ribs)
    (c.min-count.ensures ∙ ap (λ (n : ℕ). min n 112) (sym (length-map runs pair_of) ∙ ap length are))
    (sym (take-map pair_of count runs) ∙ ap (λ (l : List SpecRun). take count l) are)
    (c.put_pointers.ensures ∙ ap (λ (l : List ℕ). take 16 l
    ++ (map pointer (pairs_of part) ++ replicate (112 - length part) 0)) c.without_pointers-words.ensures)
