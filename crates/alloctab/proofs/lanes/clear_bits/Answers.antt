use Rattle.alloctab.proofs.LaneLaws.{clear_word_fits}
use Rattle.alloctab.proofs.lanes.clear_bits.Goals as goal

pub returns-clause-fits : goal.returns-clause-fits
returns-clause-fits c = clear_word_fits c.bits.result c.bits-2.result c.bits.ensures.fits c.bits-2.ensures.fits
