use Rattle.std.proofs.Common.{rules, ◌+◌, ◌<◌, ◌∙◌, length, take, arith}
use Rattle.retrieval.proofs.RunListLaws.{drop_later, same_at, joined_more}
use Rattle.retrieval.specs.Common.{pairs_of}
use Rattle.retrieval.proofs.block_list.join_all.Goals as goal

pub loop-i-preserved : goal.loop-i-preserved
loop-i-preserved c =
    let old = c.args.runs.now.items in
    let now = c.loop-i.runs.items in
    let i = c.loop-i.i in
    let kept = c.loop-i.invariant in
    let few = kept.few in
    let below : i < length old = search rules in
    record {
      joined = joined_more old (pairs_of (take c.loop-i.kept now)) _ i c.index-run.result.now below
          (same_at now old i c.index-run.result.now kept.rest c.index-run.ensures) kept.joined
          c.join_next-kept.ensures.joined;
      rest = drop_later c.join_next-kept.new.runs.items now (c.loop-i.kept + 1) (i + 1) (omega arith)
          c.join_next-kept.ensures.rest ∙ drop_later now old i (i + 1) (omega arith) kept.rest;
      few = let a = c.join_next-kept.ensures.few in omega arith;
      long = c.join_next-kept.ensures.long ∙ kept.long;
      capacity = c.join_next-kept.ensures.capacity ∙ kept.capacity;
    }
