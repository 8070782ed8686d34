use Rattle.std.proofs.Common.{◌≡◌, ◌+◌, ◌-◌, ◌<◌, ◌≤◌, ◌∙◌, ℕ, sym, subst, List, length, arith}
use Rattle.std.specs.Prelude.{slice_index}
use Rattle.retrieval.specs.Common.{IsAtOffset, blocks_of_runs}
use Rattle.retrieval.specs.declared.run.Run.{Run as RunValue}
use Rattle.retrieval.proofs.RunListLaws.{index_behind, rest_below, offset_of, none_behind}
use Rattle.retrieval.proofs.block_list.BlockList.run_at.Goals as goal

pub returns-clause-within : goal.returns-clause-within
returns-clause-within c =
    let runs = c.self.inside.runs.items in
    let place = c.in-Some.place in
    let run = c.index.result.now in
    let is_in = subst (λ (l : List RunValue). IsAtOffset l c.args.i place.run place.offset) c.deref.ensures.value
    c.in-Some.ensures.some in
    let first = c.rest.ensures.first in
    let last = c.rest.ensures.last in
    let offset = offset_of runs c.args.i place.run place.offset run is_in c.index.ensures in
    let within : place.offset + (c.rest.result.last - c.rest.result.first) ≤ run.last - run.first =
    omega (arith, first, last, offset) in
    rw (← c.self.view_is) (rest_below runs c.args.i place.run place.offset run is_in c.index.ensures
    (c.rest.result.last - c.rest.result.first) within)

pub returns-clause-side_by_side : goal.returns-clause-side_by_side
returns-clause-side_by_side c j few =
    let runs = c.self.inside.runs.items in
    let place = c.in-Some.place in
    let run = c.index.result.now in
    let is_in = subst (λ (l : List RunValue). IsAtOffset l c.args.i place.run place.offset) c.deref.ensures.value
    c.in-Some.ensures.some in
    let first = c.rest.ensures.first in
    let last = c.rest.ensures.last in
    let offset = offset_of runs c.args.i place.run place.offset run is_in c.index.ensures in
    let within : place.offset + j ≤ run.last - run.first = omega (arith, first, last, offset, few) in
    let sum : run.first + place.offset + j ≡ c.rest.result.first + j = omega (arith, first) in
    rw (← c.self.view_is) (index_behind runs c.args.i place.run place.offset run is_in c.index.ensures j within ∙ sum)

pub returns-clause-longest : goal.returns-clause-longest
returns-clause-longest c =
    let runs = c.self.inside.runs.items in
    let place = c.in-Some.place in
    let run = c.index.result.now in
    let is_in = subst (λ (l : List RunValue). IsAtOffset l c.args.i place.run place.offset) c.deref.ensures.value
    c.in-Some.ensures.some in
    let first = c.rest.ensures.first in
    let last = c.rest.ensures.last in
    let long : run.last - run.first - place.offset ≡ c.rest.result.last - c.rest.result.first =
    omega (arith, first, last) in
    rw (← c.self.view_is) (subst (λ (k : ℕ). c.args.i + k + 1 < length (blocks_of_runs runs)
    → slice_index (blocks_of_runs runs) (c.args.i + k + 1) ≡ c.rest.result.last + 1 → ⊥) long
    (subst (λ (k : ℕ). c.args.i + (run.last - run.first - place.offset) + 1 < length (blocks_of_runs runs)
    → slice_index (blocks_of_runs runs) (c.args.i + (run.last - run.first - place.offset) + 1) ≡ k + 1 → ⊥) (sym last)
    (none_behind runs c.args.i place.run place.offset run is_in c.index.ensures c.self.invariant.are_longest)))
