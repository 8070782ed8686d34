use Rattle.std.proofs.Common.{arith}
use Rattle.retrieval.proofs.RunEnds.{count_ends}
use Rattle.retrieval.proofs.block_list.put_block.Goals as goal

pub make_ends-requires-clause-room : goal.make_ends-requires-clause-room
make_ends-requires-clause-room c =
    let many = count_ends c.args.runs.now.items c.args.ends.now.items c.requires.ends in
    let few = c.put_at.ensures.few in
    let room = c.requires.spare_ends in
    let long = c.deref.ensures.len in
    omega (arith, c.args.runs.now.ok, c.args.ends.now.ok)

pub returns-clause-spare_ends : goal.returns-clause-spare_ends
returns-clause-spare_ends c =
    let many = count_ends c.args.runs.now.items c.args.ends.now.items c.requires.ends in
    let now = count_ends c.deref.result.now c.make_ends.new.ends.items c.make_ends.ensures.ends in
    let few = c.put_at.ensures.few in
    let room = c.requires.spare_ends in
    let capacity = c.make_ends.ensures.capacity in
    let long = c.deref.ensures.len in
    omega (arith, c.args.runs.now.ok, c.args.ends.now.ok, c.make_ends.new.ends.ok)
