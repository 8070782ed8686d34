use Rattle.std.proofs.Common.{◌≡◌, ◌+◌, ◌<◌, ◌^◌, ℕ, sym, ap, subst, ◌∙◌}
use Rattle.spec_image.specs.Common.{times}
use Rattle.alloctab.specs.Common.{holds}
use Rattle.volume.proofs.common.RetiredVersions.{prime_below, ribs_below, blocks_below, prime_holds, ribs_fit}
use Rattle.volume.proofs.common.RetiredVersions.{blocks_fit}
use Rattle.volume.proofs.common.RetiredVersions.{version_holds}
use Rattle.volume.proofs.publish_in_memory.hold_version.Goals as goal

pub hold-requires-clause-inside : goal.hold-requires-clause-inside
hold-requires-clause-inside c =
    let v = c.args.version.now in
    prime_below c.args.table.now v.at v.version.ribs v.version.blocks c.requires.inside

pub hold_all-requires-clause-inside : goal.hold_all-requires-clause-inside
hold_all-requires-clause-inside c =
    let v = c.args.version.now in
    subst (λ ribs. (n : ℕ) → 0 < times n ribs → n < c.hold.new.self.size) (sym c.ribs.ensures)
    (ribs_below c.args.table.now v.at v.version.ribs v.version.blocks c.requires.inside c.hold.new.self
    (ap (λ t. t.size) c.hold.ensures))

pub hold_all-requires-clause-fits : goal.hold_all-requires-clause-fits
hold_all-requires-clause-fits c =
    let v = c.args.version.now in
    let t = c.args.table.now in
    let u = c.hold.new.self in
    let first = prime_holds t u v.at c.requires.sound
    (prime_below t v.at v.version.ribs v.version.blocks c.requires.inside) c.hold.ensures in
    subst (λ ribs. (n : ℕ) → holds u n + times n ribs < 2 ^ 32) (sym c.ribs.ensures)
    (ribs_fit v.at v.version.ribs v.version.blocks (holds t) (holds u) c.requires.fits first)

pub hold_blocks-requires-clause-inside : goal.hold_blocks-requires-clause-inside
hold_blocks-requires-clause-inside c =
    let v = c.args.version.now in
    let w = c.hold_all.new.table in
    (blocks_below c.args.table.now v.at v.version.ribs v.version.blocks c.requires.inside w
    (ap (λ t. t.size) c.hold_all.ensures.rest ∙ ap (λ t. t.size) c.hold.ensures))

pub hold_blocks-requires-clause-fits : goal.hold_blocks-requires-clause-fits
hold_blocks-requires-clause-fits c =
    let v = c.args.version.now in
    let t = c.args.table.now in
    let u = c.hold.new.self in
    let w = c.hold_all.new.table in
    let first = prime_holds t u v.at c.requires.sound
    (prime_below t v.at v.version.ribs v.version.blocks c.requires.inside) c.hold.ensures in
    let second = subst (λ ribs. (n : ℕ)
    → holds w n ≡ holds u n + times n ribs) c.ribs.ensures c.hold_all.ensures.held in
    (blocks_fit v.at v.version.ribs v.version.blocks (holds t) (holds u) (holds w) c.requires.fits first second)

pub returns-clause-held : goal.returns-clause-held
returns-clause-held c =
    let v = c.args.version.now in
    let t = c.args.table.now in
    let u = c.hold.new.self in
    let w = c.hold_all.new.table in
    let new = c.hold_blocks.new.table in
    let first = prime_holds t u v.at c.requires.sound
    (prime_below t v.at v.version.ribs v.version.blocks c.requires.inside) c.hold.ensures in
    let second = subst (λ ribs. (n : ℕ)
    → holds w n ≡ holds u n + times n ribs) c.ribs.ensures c.hold_all.ensures.held in
    let third = c.hold_blocks.ensures.held in
    version_holds v.at v.version.ribs v.version.blocks (holds t) (holds u) (holds w) (holds new) first second third
