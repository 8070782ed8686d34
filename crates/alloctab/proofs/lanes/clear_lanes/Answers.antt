use Rattle.std.proofs.Common.{ℕ, ◌<◌, ◌^◌, get_or, refl, sym, subst}
use Rattle.alloctab.proofs.LaneLaws.{clear_word_fits, lanes_long, clear_lane}
use Rattle.alloctab.proofs.lanes.clear_lanes.Goals as goal

pub returns-clause-eight : goal.returns-clause-eight
returns-clause-eight c = lanes_long 68719476735 c.lanes.result c.lanes-2.result c.lanes.ensures.eight
    c.lanes-2.ensures.eight

pub returns-clause-each : goal.returns-clause-each
returns-clause-each c k below = clear_lane c.lanes.result c.lanes-2.result k _ _ c.lanes.ensures.eight
    c.lanes-2.ensures.eight below (c.lanes.ensures.each k below) (c.lanes-2.ensures.each k below)

pub returns-clause-fits : goal.returns-clause-fits
returns-clause-fits c k below =
    subst (λ (n : ℕ). n < 2 ^ 36) (sym (clear_lane c.lanes.result c.lanes-2.result k _ _ c.lanes.ensures.eight
    c.lanes-2.ensures.eight below refl refl))
    (clear_word_fits (get_or c.lanes.result k 0) (get_or c.lanes-2.result k 0) (c.lanes.ensures.fits k below)
    (c.lanes-2.ensures.fits k below))
