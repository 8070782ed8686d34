use Rattle.imagefile.proofs.Buffers.{none_held}
use Rattle.imagefile.proofs.buffered.Buffers.clear.Goals as goal

pub returns : goal.returns
returns c b = record {
  last = none_held b c.clear.new.self c.clear.ensures;
  earlier = none_held b c.clear-2.new.self c.clear-2.ensures;
}
