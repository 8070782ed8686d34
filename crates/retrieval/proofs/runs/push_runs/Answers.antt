use Rattle.std.proofs.Common.{length, take, flat_map, ap, arith, length-append}
use Rattle.std.proofs.lemmas.Result.{err_from_is_err_and}
use Rattle.spec_image.specs.Common.{run_blocks}
use Rattle.retrieval.specs.Common.{runs_of, VersionState}
use Rattle.retrieval.specs.declared.runs.RunError.TheVariants.{Outside, TooMany}
use Rattle.retrieval.proofs.PointerLists.{run_at}
use Rattle.retrieval.proofs.RunLists.{inside_at, counted_at}
use Rattle.changeset.proofs.LogRead.{passed_on}
use Rattle.retrieval.proofs.runs.push_runs.Goals as goal

pub push_pointer-requires-clause-run : goal.push_pointer-requires-clause-run
push_pointer-requires-clause-run c = run_at c.args.pointers.now c.loop-word.word-index c.word-item.result
    c.loop-word-test.true c.word-item.is c.requires.runs

pub returns-in_err-push_pointer-clause-outside : goal.returns-in_err-push_pointer-clause-outside
returns-in_err-push_pointer-clause-outside c is all =
    let p = err_from_is_err_and c.from_residual.result c.from_residual.ensures.1 in
    c.push_pointer.ensures.outside (passed_on c.from_residual.result c.push_pointer.result p.0
    c.in_err-push_pointer.field-0.0 Outside is p.1 p.2 c.in_err-push_pointer.was)
    (inside_at c.args.size c.args.pointers.now c.loop-word.word-index c.word-item.result c.loop-word-test.true
    c.word-item.is all)

pub returns-in_err-push_pointer-clause-many : goal.returns-in_err-push_pointer-clause-many
returns-in_err-push_pointer-clause-many c is =
    let p = err_from_is_err_and c.from_residual.result c.from_residual.ensures.1 in
    let many = c.push_pointer.ensures.many
    (passed_on c.from_residual.result c.push_pointer.result p.0 c.in_err-push_pointer.field-0.0 TooMany
    is p.1 p.2 c.in_err-push_pointer.was) in
    let some = counted_at c.args.size c.args.pointers.now c.loop-word.word-index c.word-item.result
    c.loop-word-test.true c.word-item.is in
    let long = ap (λ (v : VersionState). length v.blocks) c.loop-word.invariant.version_is in
    let e = length-append c.args.version.now.blocks
    (flat_map run_blocks (runs_of (take c.loop-word.word-index c.args.pointers.now))) in
    omega arith
