use Rattle.std.proofs.Common.{arith}
use Rattle.alloctab.proofs.LaneLaws.{count_more}
use Rattle.alloctab.proofs.lanes.count_in_rest.Goals as goal

pub overflow_add-count : goal.overflow_add-count
overflow_add-count c =
    let more = count_more c.args.set.now c.args.held.now c.args.from c.loop-place.place c.loop-place.count
    c.index-set-place.result c.index-held-place.result c.clear_bits.result c.requires.same (omega arith)
    c.index-set-place.is c.index-held-place.is c.clear_bits.ensures.value c.clear_bits.ensures.fits
    c.loop-place.invariant.few c.loop-place.invariant.counted in
    omega arith

pub loop-place-preserved : goal.loop-place-preserved
loop-place-preserved c =
    let more = count_more c.args.set.now c.args.held.now c.args.from c.loop-place.place c.loop-place.count
    c.index-set-place.result c.index-held-place.result c.clear_bits.result c.requires.same (omega arith)
    c.index-set-place.is c.index-held-place.is c.clear_bits.ensures.value c.clear_bits.ensures.fits
    c.loop-place.invariant.few c.loop-place.invariant.counted in
    record { few = more.0; counted = more.1 }
