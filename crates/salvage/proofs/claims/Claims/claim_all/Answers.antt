use Rattle.std.proofs.Common.{◌<◌, ℕ, slice_index_or, length, refl, sym, subst, ◌∙◌}
use Rattle.volume.proofs.common.MarkedBlocks.{all_at}
use Rattle.salvage.proofs.ClaimLaws.{claimed_all, claimed_more, claimed_none, claimed_to}
use Rattle.salvage.proofs.claims.Claims.claim_all.Goals as goal

pub claim-requires : goal.claim-requires
claim-requires c = subst (λ (n : ℕ). slice_index_or c.args.blocks.now c.loop-block.block-index 0 < n)
    (sym c.loop-block.invariant.long)
    (all_at (λ n. n < length c.args.self.now) c.args.blocks.now c.loop-block.block-index c.requires
    c.loop-block-test.true)

pub loop-block-init : goal.loop-block-init
loop-block-init c = record { long = refl; claimed = claimed_none c.args.self.now; few = λ few. few }

pub loop-block-preserved : goal.loop-block-preserved
loop-block-preserved c = record {
  long = c.claim.ensures.length ∙ c.loop-block.invariant.long;
  claimed = claimed_more c.args.self.now c.loop-block.self c.claim.new.self c.args.blocks.now c.loop-block.block-index
      (slice_index_or c.args.blocks.now c.loop-block.block-index 0) c.loop-block-test.true refl
      c.loop-block.invariant.claimed (c.claim.ensures.claimed c.if-not-claim.false);
  few = λ few. c.claim.ensures.few;
}

pub returns-then-not-claim-clause-claimed : goal.returns-then-not-claim-clause-claimed
returns-then-not-claim-clause-claimed c =
    let full = c.claim.ensures.full c.if-not-claim.true in
    claimed_to c.args.self.now c.loop-block.self c.claim.new.self c.args.blocks.now c.loop-block.block-index
    (slice_index_or c.args.blocks.now c.loop-block.block-index 0) c.loop-block-test.true refl
    c.loop-block.invariant.claimed full.0 full.1

pub returns-clause-claimed : goal.returns-clause-claimed
returns-clause-claimed c = claimed_all c.args.self.now c.loop-block.self c.args.blocks.now c.loop-block.block-index
    c.loop-block-test.false c.loop-block.invariant.claimed
