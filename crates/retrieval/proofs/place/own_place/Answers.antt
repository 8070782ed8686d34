use Rattle.std.proofs.Common.{◌≡◌, ◌+◌, ℕ, List, sym, ap, ◌∙◌, subst, arith}
use Rattle.spec_image.specs.Common.{times}
use Rattle.alloctab.specs.Common.{bit, holds}
use Rattle.retrieval.specs.Common.{IsOwn}
use Rattle.retrieval.proofs.HeldBlocks.{used_le_uses, held_once, still_held, swapped}
use Rattle.retrieval.proofs.place.own_place.Goals as goal

pub returns-then-is_held_alone-clause-alone : goal.returns-then-is_held_alone-clause-alone
returns-then-is_held_alone-clause-alone c =
    let alone : (bit c.args.table.now c.at-shared.result ≡ 0)
    × (holds c.args.table.now c.at-shared.result
    ≡ 1) = c.is_held_alone.ensures.0 c.if-is_held_alone.true in
    held_once c.args.table.now c.args.blocks.now.blocks c.args.i c.at-shared.result
    c.requires.below c.at-shared.ensures c.requires.held alone.1

pub returns-then-is_held_alone-clause-own : goal.returns-then-is_held_alone-clause-own
returns-then-is_held_alone-clause-own c =
    let alone : (bit c.args.table.now c.at-shared.result ≡ 0)
    × (holds c.args.table.now c.at-shared.result
    ≡ 1) = c.is_held_alone.ensures.0 c.if-is_held_alone.true in
    record { clear = alone.0; alone = alone.1 ∙ sym (returns-then-is_held_alone-clause-alone c) }

pub take_block-n-requires-clause-used : goal.take_block-n-requires-clause-used
take_block-n-requires-clause-used c = let e = used_le_uses c.args.table.now in let f = c.requires.used in omega arith

pub unhold-requires-clause-held : goal.unhold-requires-clause-held
unhold-requires-clause-held c =
    still_held c.args.table.now c.take_block-n.new.self c.take_block-n.new.self c.args.blocks.now.blocks
    c.args.i c.take_block-n.result c.at-shared.result c.booked-booked.ensures.sound
    c.requires.fixed c.requires.below c.requires.inside c.requires.held
    c.at-shared.ensures c.take_block-n.ensures.free.0
    c.take_block-n.ensures.free.1 c.take_block-n.ensures.held

pub returns-clause-alone : goal.returns-clause-alone
returns-clause-alone c =
    let s = swapped c.args.table.now c.take_block-n.new.self c.unhold.new.self c.args.blocks.now.blocks
    c.args.i c.take_block-n.result c.at-shared.result c.booked-booked.ensures.sound
    c.requires.fixed c.requires.below c.requires.inside c.requires.held
    c.at-shared.ensures c.take_block-n.ensures.free.0
    c.take_block-n.ensures.free.1 c.take_block-n.ensures.held c.unhold.ensures in
    subst (λ (l : List ℕ). times c.take_block-n.result l ≡ 1) (sym c.set.ensures.blocks) s.alone

pub returns-clause-own : goal.returns-clause-own
returns-clause-own c =
    let s = swapped c.args.table.now c.take_block-n.new.self c.unhold.new.self c.args.blocks.now.blocks
    c.args.i c.take_block-n.result c.at-shared.result c.booked-booked.ensures.sound
    c.requires.fixed c.requires.below c.requires.inside c.requires.held
    c.at-shared.ensures c.take_block-n.ensures.free.0
    c.take_block-n.ensures.free.1 c.take_block-n.ensures.held c.unhold.ensures in
    subst (λ (l : List ℕ). IsOwn c.unhold.new.self l c.take_block-n.result) (sym c.set.ensures.blocks) s.own

pub returns-clause-held : goal.returns-clause-held
returns-clause-held c m =
    let s = swapped c.args.table.now c.take_block-n.new.self c.unhold.new.self c.args.blocks.now.blocks
    c.args.i c.take_block-n.result c.at-shared.result c.booked-booked.ensures.sound
    c.requires.fixed c.requires.below c.requires.inside c.requires.held
    c.at-shared.ensures c.take_block-n.ensures.free.0
    c.take_block-n.ensures.free.1 c.take_block-n.ensures.held c.unhold.ensures in
    s.held m ∙ sym (ap (λ (l : List ℕ). holds c.args.table.now m + times m l) c.set.ensures.blocks)

pub returns-clause-used : goal.returns-clause-used
returns-clause-used c =
    let s = swapped c.args.table.now c.take_block-n.new.self c.unhold.new.self c.args.blocks.now.blocks
    c.args.i c.take_block-n.result c.at-shared.result c.booked-booked.ensures.sound
    c.requires.fixed c.requires.below c.requires.inside c.requires.held
    c.at-shared.ensures c.take_block-n.ensures.free.0
    c.take_block-n.ensures.free.1 c.take_block-n.ensures.held c.unhold.ensures in
    s.used
