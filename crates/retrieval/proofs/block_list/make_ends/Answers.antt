use Rattle.std.proofs.Common.{◌+◌, ◌∙◌, take, arith}
use Rattle.std.proofs.lemmas.List.{length-take-le}
use Rattle.retrieval.proofs.RunListLaws.{length_more}
use Rattle.retrieval.proofs.RunEnds.{count_ends, few_more, ends_more}
use Rattle.retrieval.proofs.block_list.make_ends.Goals as goal

pub overflow_add-end : goal.overflow_add-end
overflow_add-end c =
    let few = few_more c.args.runs.now c.loop-run.run-index c.run-item.result c.loop-run-test.true c.run-item.is in
    let all = c.requires.few in
    let end = c.loop-run.invariant.end in
    let count = c.count-end.ensures.value in
    omega arith

pub push_end-requires : goal.push_end-requires
push_end-requires c =
    let runs = c.args.runs.now in
    let i = c.loop-run.run-index in
    let below = c.loop-run-test.true in
    let many = count_ends (take i runs) c.loop-run.ends.items c.loop-run.invariant.ends in
    let front = length-take-le i runs (omega arith) in
    let capacity = c.loop-run.invariant.capacity in
    let room = c.requires.room in
    omega (arith, c.loop-run.ends.ok)

pub loop-run-preserved : goal.loop-run-preserved
loop-run-preserved c =
    let runs = c.args.runs.now in
    let i = c.loop-run.run-index in
    let run = c.run-item.result in
    let kept = c.loop-run.invariant in
    let end = kept.end in
    let count = c.count-end.ensures.value in
    let more = length_more runs i run c.loop-run-test.true c.run-item.is in
    record {
      ends = c.push_end.ensures.items ∙ ends_more runs c.loop-run.ends.items i (c.loop-run.end + c.count-end.result) run
          c.loop-run-test.true c.run-item.is kept.ends (omega arith);
      end = omega arith;
      capacity = let a = kept.capacity in let b = c.push_end.ensures.capacity in omega arith;
    }
