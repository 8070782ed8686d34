use Rattle.std.proofs.Common.{arith}
use Rattle.retrieval.proofs.RunListLaws.{joins_last, stands_apart}
use Rattle.retrieval.proofs.block_list.joined_last.Goals as goal

pub returns-then-not-adjoins-clause-none : goal.returns-then-not-adjoins-clause-none
returns-then-not-adjoins-clause-none c =
    let some = c.if-count-eq0.false in
    let few = c.requires in
    stands_apart c.args.runs.now c.args.count c.index-runs-count.result c.args.run (omega arith) (omega arith)
    c.index-runs-count.is (λ is. let yes = c.adjoins.ensures.1 is in let no = c.if-not-adjoins.true in cc)

pub returns-clause-joins : goal.returns-clause-joins
returns-clause-joins c =
    let some = c.if-count-eq0.false in
    let few = c.requires in
    joins_last c.args.runs.now c.args.count c.index-runs-count.result c.args.run (omega arith) (omega arith)
    c.index-runs-count.is c.joined.result (c.adjoins.ensures.0 c.if-not-adjoins.false) c.joined.ensures
