use Rattle.std.proofs.Common.{◌≡◌, ◌<◌, List, length, ap, arith}
use Rattle.spec_image.specs.declared.put.Put.{Put}
use Rattle.alloctab.specs.Common.{flag_at, word_bit, with_changed}
use Rattle.alloctab.proofs.ChangeLaws.{room_left}
use Rattle.alloctab.proofs.blocks.put_changed.Goals as goal

pub unreachable-requires : goal.unreachable-requires
unreachable-requires c =
    let left : length (with_changed c.args.start (word_bit c.args.words.now)
    (flag_at c.args.changed.now) c.loop-i.i c.args.set.now)
    < 37 = room_left c.args.start (word_bit c.args.words.now) c.args.changed.now c.loop-i.i 37 c.args.set.now
    (omega arith) c.if-is_changed.true c.requires.room in
    let same = ap (λ (l : List Put). length l) c.loop-i.invariant in
    let full : length c.loop-i.set ≡ 37 = c.in-Err.ensures.full.1 in
    omega arith
