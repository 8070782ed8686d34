use Rattle.std.proofs.Common.{◌<◌, ℕ, length, refl, sym, subst, ◌∙◌, arith}
use Rattle.volume.proofs.common.MarkedBlocks.{all_at}
use Rattle.salvage.proofs.ClaimLaws.{claimed_all, claimed_more, claimed_none, claimed_to}
use Rattle.salvage.proofs.claims.Claims.claim_data.Goals as goal

pub claim-requires : goal.claim-requires
claim-requires c =
    let blocks = c.args.version.now.blocks in
    let below : c.loop-i.i < length blocks = omega (arith, c.loop-i-test.true, c.count-i-end.ensures) in
    subst (λ (n : ℕ). c.block_at-block.result < n) (sym c.loop-i.invariant.long)
    (subst (λ (n : ℕ). n < length c.args.self.now) (sym c.block_at-block.ensures)
    (all_at (λ n. n < length c.args.self.now) blocks c.loop-i.i c.requires below))

pub loop-i-init : goal.loop-i-init
loop-i-init c = record { long = refl; claimed = claimed_none c.args.self.now; few = λ few. few }

pub loop-i-preserved : goal.loop-i-preserved
loop-i-preserved c =
    let blocks = c.args.version.now.blocks in
    let below : c.loop-i.i < length blocks = omega (arith, c.loop-i-test.true, c.count-i-end.ensures) in
    record {
      long = c.claim.ensures.length ∙ c.loop-i.invariant.long;
      claimed = claimed_more c.args.self.now c.loop-i.self c.claim.new.self blocks c.loop-i.i c.block_at-block.result
          below c.block_at-block.ensures c.loop-i.invariant.claimed
          (c.claim.ensures.claimed c.if-not-claim.false);
      few = λ few. c.claim.ensures.few;
    }

pub returns-then-not-claim-clause-claimed : goal.returns-then-not-claim-clause-claimed
returns-then-not-claim-clause-claimed c =
    let blocks = c.args.version.now.blocks in
    let below : c.loop-i.i < length blocks = omega (arith, c.loop-i-test.true, c.count-i-end.ensures) in
    let full = c.claim.ensures.full c.if-not-claim.true in
    claimed_to c.args.self.now c.loop-i.self c.claim.new.self blocks c.loop-i.i c.block_at-block.result below
    c.block_at-block.ensures c.loop-i.invariant.claimed full.0 full.1

pub returns-clause-claimed : goal.returns-clause-claimed
returns-clause-claimed c = claimed_all c.args.self.now c.loop-i.self c.args.version.now.blocks c.loop-i.i
    (omega (arith, c.loop-i-test.false, c.count-i-end.ensures)) c.loop-i.invariant.claimed
