use Rattle.std.proofs.Common.{◌+◌, ◌≤◌, [], ◌∷◌, ◌++◌, sym, ap, subst, ◌∙◌}
use Rattle.spec_image.specs.Common.{times}
use Rattle.alloctab.specs.Common.{holds}
use Rattle.volume.proofs.common.ReleasedBlocks.{ribs_held, blocks_held, prime_held, prime_less, less_parts}
use Rattle.volume.proofs.live.release_version.Goals as goal

pub unhold-requires-clause-inside : goal.unhold-requires-clause-inside
unhold-requires-clause-inside c =
    let v = c.args.version.now in
    c.requires.inside v.at (prime_held v.at (v.version.ribs ++ v.version.blocks) c.args.table.now.held c.requires.held)

pub unhold_all-requires-clause-held : goal.unhold_all-requires-clause-held
unhold_all-requires-clause-held c =
    let v = c.args.version.now in
    let first = prime_less v.at (v.version.ribs ++ v.version.blocks) c.args.table.now.held c.requires.held in
    λ n. subst (λ ribs. times n ribs ≤ holds c.unhold.new.self n) (sym c.ribs.ensures)
    (ribs_held v.at v.version.ribs v.version.blocks (holds c.args.table.now) (holds c.unhold.new.self) c.requires.held
    (λ m. ap (λ t. holds t m + times m (v.at ∷ [])) c.unhold.ensures ∙ first m) n)

pub unhold_blocks-requires-clause-held : goal.unhold_blocks-requires-clause-held
unhold_blocks-requires-clause-held c =
    let v = c.args.version.now in
    let first = prime_less v.at (v.version.ribs ++ v.version.blocks) c.args.table.now.held c.requires.held in
    λ n. (blocks_held v.at v.version.ribs v.version.blocks (holds c.args.table.now) (holds c.unhold.new.self)
    (holds c.unhold_all.new.table) c.requires.held (λ m. ap (λ t. holds t m + times m (v.at ∷ [])) c.unhold.ensures
    ∙ first m)
    (λ m. ap (λ ribs. holds c.unhold_all.new.table m + times m ribs) (sym c.ribs.ensures)
    ∙ c.unhold_all.ensures.held m) n)

pub returns-clause-held : goal.returns-clause-held
returns-clause-held c =
    let v = c.args.version.now in
    let first = prime_less v.at (v.version.ribs ++ v.version.blocks) c.args.table.now.held c.requires.held in
    less_parts v.at v.version.ribs v.version.blocks (holds c.args.table.now) (holds c.unhold.new.self)
    (holds c.unhold_all.new.table) (holds c.unbook.new.self)
    (λ n. ap (λ t. holds t n + times n (v.at ∷ [])) c.unhold.ensures ∙ first n)
    (λ n. ap (λ ribs. holds c.unhold_all.new.table n + times n ribs) (sym c.ribs.ensures) ∙ c.unhold_all.ensures.held n)
    (λ n. ap (λ t. holds t n + times n v.version.blocks) c.unbook.ensures
    ∙ c.unhold_blocks.ensures.held n)
