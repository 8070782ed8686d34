use Rattle.std.proofs.Common.{◌≡◌, ◌/◌, length, arith, subst}
use Rattle.words36.proofs.LaneLaws.{AreJoined, joined_none, joined_more, joined_word}
use Rattle.words36.proofs.block.joined_words.Goals as goal

pub loop-group-init : goal.loop-group-init
loop-group-init c = joined_none c.args.bytes.now

pub loop-group-preserved : goal.loop-group-preserved
loop-group-preserved c = joined_more c.args.bytes.now c.loop-group.joined c.loop-group.group (omega arith)
    c.loop-group.invariant

pub returns : goal.returns
returns c place inside =
    let ended : c.loop-group.group ≡ length c.args.bytes.now / 64 = omega arith in
    joined_word c.args.bytes.now c.loop-group.joined (length c.args.bytes.now / 64)
    (subst (AreJoined c.args.bytes.now c.loop-group.joined) ended c.loop-group.invariant) place inside
    (λ j. (c.type_inv.bytes j).fits)
