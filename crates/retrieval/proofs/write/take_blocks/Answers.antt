use Rattle.std.proofs.Common.{◌++◌, ◌∷◌, [], ℕ, List, take, subst, sym, ◌∙◌, arith}
use Rattle.std.proofs.lemmas.List.{take_more_set, length-take-le, length-set}
use Rattle.alloctab.specs.Common.{TableState}
use Rattle.retrieval.specs.Common.{Takes}
use Rattle.retrieval.proofs.TakenBlocks.{room, takes_stays, takes_more}
use Rattle.retrieval.proofs.write.take_blocks.Goals as goal

pub take_block-requires-clause-used : goal.take_block-requires-clause-used
take_block-requires-clause-used c =
    let first = take c.loop-i.i c.loop-i.blocks in
    let stays = takes_stays c.args.table.now first c.loop-i.table c.requires.sound c.requires.fixed
    c.loop-i.invariant.taken in
    let counted = stays.counted in
    let booked = stays.booked in
    let few = length-take-le c.loop-i.i c.loop-i.blocks (let a = c.loop-i.invariant.long in
    let b = c.loop-i-test.true in omega arith) in
    let long = c.loop-i.invariant.long in
    let below = c.loop-i-test.true in
    let all = c.requires.used in
    omega arith

pub take_block-requires-clause-room : goal.take_block-requires-clause-room
take_block-requires-clause-room c =
    let stays = takes_stays c.args.table.now (take c.loop-i.i c.loop-i.blocks) c.loop-i.table c.requires.sound
    c.requires.fixed c.loop-i.invariant.taken in
    room c.args.table.now c.loop-i.table stays.booked stays.size c.requires.room

pub loop-i-preserved : goal.loop-i-preserved
loop-i-preserved c =
    let now = c.loop-i.table in
    let first = take c.loop-i.i c.loop-i.blocks in
    let n = c.take_block.result in
    let taken = takes_more c.args.table.now (take c.loop-i.i c.loop-i.blocks) now n c.loop-i.invariant.taken
    c.take_block.ensures.free.0 c.take_block.ensures.free.1 in
    record {
      taken = subst (λ (l : List ℕ). Takes c.args.table.now l c.take_block.new.self)
          (sym (take_more_set c.loop-i.blocks c.loop-i.i n (let a = c.loop-i.invariant.long in
          let b = c.loop-i-test.true in omega arith)))
          (subst (λ (t : TableState). Takes c.args.table.now (first ++ c.take_block.result ∷ []) t)
          (sym c.take_block.ensures.held) taken);
      long = length-set c.loop-i.blocks c.loop-i.i n ∙ c.loop-i.invariant.long;
    }
