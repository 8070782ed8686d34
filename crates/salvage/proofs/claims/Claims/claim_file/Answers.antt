use Rattle.std.proofs.Common.{◌<◌, ◌∷◌, [], ◌++◌, List, ℕ, None, Some, length, sym, subst, ◌∙◌}
use Rattle.std.specs.List.{AllByRecursion}
use Rattle.spec_image.specs.Common.{InSpace}
use Rattle.volume.proofs.common.MarkedBlocks.{all_weaker}
use Rattle.salvage.specs.Common.{AreClaimed}
use Rattle.salvage.proofs.ClaimLaws.{claimed_full, claimed_then, claimed_until}
use Rattle.salvage.proofs.claims.Claims.claim_file.Goals as goal

pub returns-then-not-claim-clause-claimed : goal.returns-then-not-claim-clause-claimed
returns-then-not-claim-clause-claimed c =
    let at = c.args.file.now.at in
    let v = c.args.file.now.stored.version in
    let full = c.claim.ensures.full c.if-not-claim.true in
    claimed_until c.args.self.now c.claim.new.self (at ∷ []) (v.ribs ++ v.blocks) at
    (claimed_full c.args.self.now c.claim.new.self at full.0 full.1)

pub claim_all-requires : goal.claim_all-requires
claim_all-requires c =
    let size = length c.args.self.now in
    subst (λ (ns : List ℕ). AllByRecursion (λ n. n < length c.claim.new.self) ns) (sym c.ribs.ensures)
    (subst (λ (k : ℕ). AllByRecursion (λ n. n < k) c.args.file.now.stored.version.ribs) (sym c.claim.ensures.length)
    (all_weaker (InSpace size) (λ n. n < size) c.args.file.now.stored.version.ribs (λ n is. is.below)
    c.requires.ribs_inside))

pub returns-in-Some-clause-claimed : goal.returns-in-Some-clause-claimed
returns-in-Some-clause-claimed c =
    let at = c.args.file.now.at in
    let v = c.args.file.now.stored.version in
    claimed_then c.args.self.now c.claim.new.self c.claim_all.new.self (at ∷ []) (v.ribs ++ v.blocks)
    (Some c.in-Some.block) (c.claim.ensures.claimed c.if-not-claim.false)
    (claimed_until c.claim.new.self c.claim_all.new.self v.ribs v.blocks c.in-Some.block
    (subst (λ (ns : List ℕ). AreClaimed c.claim.new.self c.claim_all.new.self ns (Some c.in-Some.block))
    c.ribs.ensures c.in-Some.ensures.claimed))

pub claim_data-requires : goal.claim_data-requires
claim_data-requires c =
    let size = length c.args.self.now in
    subst (λ (k : ℕ). AllByRecursion (λ n. n < k) c.args.file.now.stored.version.blocks)
    (sym (c.claim_all.ensures.length ∙ c.claim.ensures.length))
    (all_weaker (InSpace size) (λ n. n < size) c.args.file.now.stored.version.blocks (λ n is. is.below)
    c.requires.blocks_inside)

pub returns-clause-claimed : goal.returns-clause-claimed
returns-clause-claimed c =
    let at = c.args.file.now.at in
    let v = c.args.file.now.stored.version in
    claimed_then c.args.self.now c.claim.new.self c.claim_data.new.self (at ∷ []) (v.ribs ++ v.blocks)
    c.claim_data.result (c.claim.ensures.claimed c.if-not-claim.false)
    (claimed_then c.claim.new.self c.claim_all.new.self c.claim_data.new.self v.ribs v.blocks c.claim_data.result
    (subst (λ (ns : List ℕ). AreClaimed c.claim.new.self c.claim_all.new.self ns None)
    c.ribs.ensures c.in_default.ensures.claimed) c.claim_data.ensures.claimed)
