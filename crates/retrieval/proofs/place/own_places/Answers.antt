use Rattle.std.proofs.Common.{◌≡◌, ◌+◌, ◌<◌, ◌≤◌, ℕ, List, length, sym, ap, ◌∙◌, subst, arith}
use Rattle.std.specs.Prelude.{slice_index}
use Rattle.std.specs.List.{AllByRecursion}
use Rattle.std.proofs.lemmas.List.{length-set}
use Rattle.spec_image.specs.Common.{InSpace, times}
use Rattle.retrieval.specs.Common.{IsOwn, AddsFree, KeepsOwn, StandAlone}
use Rattle.retrieval.proofs.Placed.{same_on, size_same, own_before, held_again, inside_set, adds_set, few_more}
use Rattle.retrieval.proofs.Placed.{stays_more}
use Rattle.retrieval.proofs.PlaceWrites.{apart_more, own_more, others_more}
use Rattle.retrieval.proofs.place.own_places.Goals as goal

pub loop-i-preserved : goal.loop-i-preserved
loop-i-preserved c =
    let t = c.args.table.now in
    let xs = c.args.blocks.now.blocks in
    let ys = c.loop-i.blocks.blocks in
    let n = c.own_place-n.result in
    let i = c.loop-i.i in
    let inv = c.loop-i.invariant in
    let same = same_on t c.loop-i.table inv.table c.own_place-n.new.table c.own_place-n.ensures.table in
    let held = held_again t c.loop-i.table inv.table xs ys inv.held
    c.own_place-n.new.table c.own_place-n.new.blocks.blocks c.own_place-n.ensures.held in
    let blocks_are = c.own_place-n.ensures.blocks in
    let size : c.loop-i.table.size ≡ t.size = size_same t c.loop-i.table inv.table in
    let below : i < length ys = let a = inv.long in let b = c.requires.fits in
    let d = c.loop-i-test.true in omega arith in
    let first : c.args.first ≤ i = let a = c.loop-i.auto in omega arith in
    let alone = subst (λ (l : List ℕ). times n l ≡ 1) blocks_are c.own_place-n.ensures.alone in
    let own = own_before t c.own_place-n.new.table same xs c.own_place-n.new.blocks.blocks held n
    c.own_place-n.ensures.own in
    record {
      own = λ j from upto. subst (λ (l : List ℕ). IsOwn t xs (slice_index l j)) (sym blocks_are)
          (own_more ys c.args.first i n below (IsOwn t xs) inv.own own j from upto);
      apart = subst (λ (l : List ℕ). StandAlone l c.args.first (i + 1)) (sym blocks_are)
          (apart_more ys c.args.first i n below inv.apart alone);
      others = λ j out. ap (λ (l : List ℕ). slice_index l j) blocks_are
          ∙ others_more ys c.args.first i n below xs first inv.others j out;
      spare = let a = c.own_place-n.ensures.spare in let b = inv.spare in let d = c.loop-i-test.true in omega arith;
      long = ap length blocks_are ∙ length-set ys i n ∙ inv.long;
      inside = subst (AllByRecursion (InSpace t.size)) (sym blocks_are)
          (inside_set t.size ys i n inv.inside (subst (λ (z : ℕ). InSpace z n) size c.own_place-n.ensures.inside));
      adds = subst (AddsFree t xs) (sym blocks_are) (adds_set t xs ys i n inv.adds below alone own);
      table = same;
      held = held;
      used = c.own_place-n.ensures.used ∙ inv.used;
      few = subst (λ (l : List ℕ). (m : ℕ) → times m xs ≤ 1 → times m l ≤ 1) (sym blocks_are)
          (few_more xs ys i n below alone inv.few);
      stays = subst (KeepsOwn t xs) (sym blocks_are)
          (stays_more t c.loop-i.table xs ys i n inv.table inv.held c.requires.held inv.few inv.long inv.stays
          c.own_place-n.ensures.stays);
    }
