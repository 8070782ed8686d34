use Rattle.std.proofs.Common.{◌<◌, ◌≤◌, ℕ, sym, subst}
use Rattle.spec_image.specs.Common.{times}
use Rattle.alloctab.specs.Common.{bit}
use Rattle.volume.specs.Common.{ClearsBits}
use Rattle.volume.proofs.common.RetiredVersions.{prime_inside, prime_clears, ribs_inside, ribs_set, blocks_inside}
use Rattle.volume.proofs.common.RetiredVersions.{blocks_set, version_clears}
use Rattle.volume.proofs.publish_in_memory.clear_version.Goals as goal

pub clear-requires : goal.clear-requires
clear-requires c =
    let v = c.args.version.now in
    prime_inside c.args.table.now v.at v.version.ribs v.version.blocks c.requires.sound c.requires.set

pub clear_all-requires-clause-inside : goal.clear_all-requires-clause-inside
clear_all-requires-clause-inside c =
    let v = c.args.version.now in
    let t = c.args.table.now in
    let u = c.clear.new.self in
    let first = prime_clears t v.at v.version.ribs v.version.blocks c.requires.sound c.requires.set u
    c.clear.ensures.bits in
    subst (λ ribs. (n : ℕ) → 0 < times n ribs → n < u.size) (sym c.ribs.ensures)
    (ribs_inside t v.at v.version.ribs v.version.blocks c.requires.sound c.requires.set u first)

pub clear_all-requires-clause-set : goal.clear_all-requires-clause-set
clear_all-requires-clause-set c =
    let v = c.args.version.now in
    let t = c.args.table.now in
    let u = c.clear.new.self in
    let first = prime_clears t v.at v.version.ribs v.version.blocks c.requires.sound c.requires.set u
    c.clear.ensures.bits in
    subst (λ ribs. (n : ℕ) → times n ribs ≤ bit u n) (sym c.ribs.ensures)
    (ribs_set t v.at v.version.ribs v.version.blocks c.requires.sound c.requires.set u first)

pub clear_blocks-requires-clause-inside : goal.clear_blocks-requires-clause-inside
clear_blocks-requires-clause-inside c =
    let v = c.args.version.now in
    let t = c.args.table.now in
    let u = c.clear.new.self in
    let w = c.clear_all.new.table in
    let first = prime_clears t v.at v.version.ribs v.version.blocks c.requires.sound c.requires.set u
    c.clear.ensures.bits in
    let second = subst (ClearsBits u w) c.ribs.ensures c.clear_all.ensures in
    (blocks_inside t v.at v.version.ribs v.version.blocks c.requires.sound c.requires.set u w first second)

pub clear_blocks-requires-clause-set : goal.clear_blocks-requires-clause-set
clear_blocks-requires-clause-set c =
    let v = c.args.version.now in
    let t = c.args.table.now in
    let u = c.clear.new.self in
    let w = c.clear_all.new.table in
    let first = prime_clears t v.at v.version.ribs v.version.blocks c.requires.sound c.requires.set u
    c.clear.ensures.bits in
    let second = subst (ClearsBits u w) c.ribs.ensures c.clear_all.ensures in
    (blocks_set t v.at v.version.ribs v.version.blocks c.requires.sound c.requires.set u w first second)

pub returns : goal.returns
returns c =
    let v = c.args.version.now in
    let t = c.args.table.now in
    let u = c.clear.new.self in
    let w = c.clear_all.new.table in
    let first = prime_clears t v.at v.version.ribs v.version.blocks c.requires.sound c.requires.set u
    c.clear.ensures.bits in
    let second = subst (ClearsBits u w) c.ribs.ensures c.clear_all.ensures in
    let third = c.clear_blocks.ensures in
    version_clears t v.at v.version.ribs v.version.blocks c.requires.sound c.requires.set u w c.clear_blocks.new.table
    first second third
