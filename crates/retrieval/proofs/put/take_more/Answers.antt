use Rattle.std.proofs.Common.{◌≡◌, ◌++◌, ◌∷◌, [], ℕ, List, length, refl, sym, ap, subst, ◌∙◌, arith, append-nil}
use Rattle.std.proofs.Common.{append_assoc, length-append}
use Rattle.retrieval.specs.Common.{Takes, GrowsBy}
use Rattle.retrieval.proofs.TakenBlocks.{room, takes_stays, takes_more}
use Rattle.retrieval.proofs.put.take_more.Goals as goal

pub loop-init : goal.loop-init
loop-init c = record {
  grown = record { taken = []; takes = refl; is = sym (append-nil c.args.blocks.now.blocks); many = refl };
  spare = omega arith;
}

pub take_block-n-requires-clause-used : goal.take_block-n-requires-clause-used
take_block-n-requires-clause-used c =
    let grown = c.loop.invariant.grown in
    let stays = takes_stays c.args.table.now grown.taken c.loop.table c.requires.sound c.requires.fixed grown.takes in
    let counted = stays.counted in
    let booked = stays.booked in
    let many = grown.many in
    let below = c.loop-test.true in
    let all = c.requires.used in
    omega arith

pub take_block-n-requires-clause-room : goal.take_block-n-requires-clause-room
take_block-n-requires-clause-room c =
    let grown = c.loop.invariant.grown in
    let stays = takes_stays c.args.table.now grown.taken c.loop.table c.requires.sound c.requires.fixed grown.takes in
    room c.args.table.now c.loop.table stays.booked stays.size c.requires.room

pub unreachable-requires : goal.unreachable-requires
unreachable-requires c =
    let grown = c.loop.invariant.grown in
    let spare = c.loop.invariant.spare in
    let asked = c.requires.spare in
    let few = c.requires.few in
    let below = c.loop-test.true in
    let long = ap length grown.is in
    let parts = length-append c.args.blocks.now.blocks grown.taken in
    let many = grown.many in
    let ok = c.in-Err.ensures.room (omega arith) (omega arith) in
    cc

pub loop-preserved : goal.loop-preserved
loop-preserved c =
    let grown = c.loop.invariant.grown in
    let n = c.take_block-n.result in
    let taken = takes_more c.args.table.now grown.taken c.loop.table n grown.takes c.take_block-n.ensures.free.0
    c.take_block-n.ensures.free.1 in
    record {
      grown = record {
        taken = grown.taken ++ n ∷ [];
        takes = subst (Takes c.args.table.now (grown.taken ++ n ∷ [])) (sym c.take_block-n.ensures.held) taken;
        is = c.in-Ok.ensures.ok ∙ ap (λ (l : List ℕ). l ++ n ∷ []) grown.is
            ∙ append_assoc c.args.blocks.now.blocks grown.taken (n ∷ []);
        many = let a = length-append grown.taken (n ∷ []) in let b = grown.many in omega arith;
      };
      spare = let a = c.push.ensures.spare in let b = c.loop.invariant.spare in omega arith;
    }

pub returns-clause-grown : goal.returns-clause-grown
returns-clause-grown c =
    let end : c.loop.counter ≡ c.args.more = let a = c.loop-test.false in let b = c.loop.auto in omega arith in
    subst (GrowsBy c.args.table.now c.loop.table c.args.blocks.now.blocks c.loop.blocks.blocks) end
    c.loop.invariant.grown

pub returns-clause-spare : goal.returns-clause-spare
returns-clause-spare c = let a = c.loop.auto in let b = c.loop.invariant.spare in omega arith
