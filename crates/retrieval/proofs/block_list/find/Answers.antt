use Rattle.std.proofs.Common.{◌≡◌, ◌∷◌, length, ap, arith}
use Rattle.std.specs.Prelude.{slice_index}
use Rattle.retrieval.proofs.RunEnds.{ends_rise, count_ends, before_run, before_end, end_of, found_between}
use Rattle.retrieval.proofs.block_list.find.Goals as goal

pub runs_before-at-requires : goal.runs_before-at-requires
runs_before-at-requires c = ends_rise c.args.runs.now c.args.ends.now c.requires

pub returns-then-at-runs-clause-none : goal.returns-then-at-runs-clause-none
returns-then-at-runs-clause-none c =
    let ends = c.args.ends.now in
    let many = count_ends c.args.runs.now ends c.requires in
    let all = c.if-at-runs.true in
    let last : c.runs_before-at.result ≡ length ends = omega arith in
    let same = ap (slice_index (0 ∷ ends)) last in
    let whole = before_end c.args.runs.now ends c.requires in
    let before = c.runs_before-at.ensures.before in
    omega arith

pub bounds-runs-at : goal.bounds-runs-at
bounds-runs-at c =
    let many = count_ends c.args.runs.now c.args.ends.now c.requires in
    let few = c.runs_before-at.ensures.bound in
    let some = c.if-at-runs.false in
    omega arith

pub offset-requires : goal.offset-requires
offset-requires c =
    let runs = c.args.runs.now in
    let ends = c.args.ends.now in
    let at = c.runs_before-at.result in
    let many = count_ends runs ends c.requires in
    let few = c.runs_before-at.ensures.bound in
    let some = c.if-at-runs.false in
    let from = before_run runs ends c.requires at (omega arith) in
    let to = end_of runs ends c.requires at c.index-runs-at.result (omega arith) c.index-runs-at.is in
    let below = c.runs_before-at.ensures.behind (omega arith) in
    let is = c.blocks_before.ensures in
    omega arith

pub returns-clause-some : goal.returns-clause-some
returns-clause-some c =
    let runs = c.args.runs.now in
    let ends = c.args.ends.now in
    let many = count_ends runs ends c.requires in
    let few = c.runs_before-at.ensures.bound in
    let some = c.if-at-runs.false in
    let is = c.blocks_before.ensures in
    let offset = c.offset.ensures in
    found_between runs ends c.requires c.args.i c.runs_before-at.result c.offset.result c.index-runs-at.result
    (omega arith) c.index-runs-at.is c.runs_before-at.ensures.before (c.runs_before-at.ensures.behind (omega arith))
    (omega arith)
