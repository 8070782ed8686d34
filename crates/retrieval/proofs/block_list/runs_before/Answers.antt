use Rattle.std.proofs.Common.{rules, of_calls}
use Rattle.std.proofs.lemmas.Fn.{always_returns_same}
use Rattle.std.proofs.lemmas.List.Sorted.{IsPartitionedBy-leb}
use Rattle.std.specs.Prelude.{nat_le}
use Rattle.retrieval.proofs.RunEnds.{point_above, point_below}
use Rattle.retrieval.proofs.block_list.runs_before.Goals as goal

pub returns-clause-before : goal.returns-clause-before
returns-clause-before c =
    let ends = c.args.ends.now in
    point_above ends c.args.i c.partition_point.result
    (c.partition_point.ensures.partitioned (λ end. nat_le end c.args.i)
    (always_returns_same _ _ _ (λ a r f k. search (rules, of_calls)))
    (IsPartitionedBy-leb (λ end. end) ends c.args.i c.requires))

pub returns-clause-behind : goal.returns-clause-behind
returns-clause-behind c =
    let ends = c.args.ends.now in
    point_below ends c.args.i c.partition_point.result
    (c.partition_point.ensures.partitioned (λ end. nat_le end c.args.i)
    (always_returns_same _ _ _ (λ a r f k. search (rules, of_calls)))
    (IsPartitionedBy-leb (λ end. end) ends c.args.i c.requires))
