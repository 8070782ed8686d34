use Rattle.volume.proofs.VolumeStart.HomeCopies.{no_layout}
use Rattle.volume.proofs.home.layout_at.Goals as goal

pub returns-clause-none : goal.returns-clause-none
returns-clause-none c = no_layout c.args.word c.bits.result c.from_number.result c.bits.ensures.value
    c.from_number.ensures.none
