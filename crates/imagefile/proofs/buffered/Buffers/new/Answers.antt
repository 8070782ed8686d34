use Rattle.imagefile.proofs.Buffers.{none_held}
use Rattle.imagefile.proofs.buffered.Buffers.new.Goals as goal

pub returns : goal.returns
returns c b = record {
  last = none_held b c.new.result c.new.ensures;
  earlier = none_held b c.new-2.result c.new-2.ensures;
}
