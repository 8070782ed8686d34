use Rattle.std.proofs.Common.{subst}
use Rattle.changeset.specs.Common.{IsPutIn}
use Rattle.changeset.proofs.PutLists.{none_more, put_in}
use Rattle.changeset.proofs.change_set.place_of.Goals as goal

pub loop-i-preserved : goal.loop-i-preserved
loop-i-preserved c = none_more c.args.puts.now c.loop-i.i c.index-puts-i.result c.loop-i-test.true c.index-puts-i.is
    c.args.block c.if-put-block.false c.loop-i.invariant

pub returns-then-put-block-clause-there : goal.returns-then-put-block-clause-there
returns-then-put-block-clause-there c some = subst (IsPutIn c.args.puts.now) c.if-put-block.true
    (put_in c.args.puts.now c.loop-i.i c.index-puts-i.result c.loop-i-test.true c.index-puts-i.is)
