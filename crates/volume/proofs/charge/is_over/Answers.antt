use Rattle.volume.specs.Common.{memory_of}
use Rattle.volume.proofs.Charges.Charges.{over_charge}
use Rattle.volume.proofs.charge.is_over.Goals as goal

pub returns : goal.returns
returns c = over_charge (memory_of c.args.memory.now) c.args.ppn c.args.more c.in-Some.charge c.in-Some.ensures.charged
    c.exceeds.result c.exceeds.ensures
