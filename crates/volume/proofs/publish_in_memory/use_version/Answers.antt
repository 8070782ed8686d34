use Rattle.std.proofs.Common.{option_to_list, ap, refl}
use Rattle.volume.proofs.PublishVersion.UsedVersions.{at_held, at_inside, puts_in_use_at, ribs_held, ribs_clear}
use Rattle.volume.proofs.PublishVersion.UsedVersions.{blocks_held, blocks_clear, more_held, more_inside, used_alone}
use Rattle.volume.proofs.PublishVersion.UsedVersions.{used_grown}
use Rattle.volume.proofs.publish_in_memory.use_version.Goals as goal

pub use_block-requires-clause-inside : goal.use_block-requires-clause-inside
use_block-requires-clause-inside c =
    let v = c.args.live.now in
    at_inside c.args.table.now v.at v.version.ribs v.version.blocks (option_to_list c.args.grown)
    c.requires.sound c.requires.held c.requires.clear

pub use_block-requires-clause-held : goal.use_block-requires-clause-held
use_block-requires-clause-held c =
    let v = c.args.live.now in
    at_held c.args.table.now v.at v.version.ribs v.version.blocks (option_to_list c.args.grown)
    c.requires.sound c.requires.held c.requires.clear

pub bring_all-requires-clause-sound : goal.bring_all-requires-clause-sound
bring_all-requires-clause-sound c =
    let v = c.args.live.now in
    (puts_in_use_at c.args.table.now v.at v.version.ribs v.version.blocks (option_to_list c.args.grown)
    c.requires.sound c.requires.held c.requires.clear c.use_block.new.table
    c.use_block.ensures).marks.sound

pub bring_all-requires-clause-held : goal.bring_all-requires-clause-held
bring_all-requires-clause-held c =
    let v = c.args.live.now in
    ribs_held c.args.table.now v.at v.version.ribs v.version.blocks (option_to_list c.args.grown)
    c.requires.sound c.requires.held c.requires.clear c.use_block.new.table
    c.use_block.ensures _ c.ribs.ensures

pub bring_all-requires-clause-clear : goal.bring_all-requires-clause-clear
bring_all-requires-clause-clear c =
    let v = c.args.live.now in
    ribs_clear c.args.table.now v.at v.version.ribs v.version.blocks (option_to_list c.args.grown)
    c.requires.sound c.requires.held c.requires.clear c.use_block.new.table
    c.use_block.ensures _ c.ribs.ensures

pub bring_blocks-requires-clause-held : goal.bring_blocks-requires-clause-held
bring_blocks-requires-clause-held c =
    let v = c.args.live.now in
    blocks_held c.args.table.now v.at v.version.ribs v.version.blocks (option_to_list c.args.grown)
    c.requires.sound c.requires.held c.requires.clear c.use_block.new.table
    c.use_block.ensures _ c.ribs.ensures c.bring_all.new.table c.bring_all.ensures _ refl

pub bring_blocks-requires-clause-clear : goal.bring_blocks-requires-clause-clear
bring_blocks-requires-clause-clear c =
    let v = c.args.live.now in
    blocks_clear c.args.table.now v.at v.version.ribs v.version.blocks (option_to_list c.args.grown)
    c.requires.sound c.requires.held c.requires.clear c.use_block.new.table
    c.use_block.ensures _ c.ribs.ensures c.bring_all.new.table c.bring_all.ensures _ refl

pub use_block-requires-in-Some-clause-inside : goal.use_block-requires-in-Some-clause-inside
use_block-requires-in-Some-clause-inside c =
    let v = c.args.live.now in
    more_inside c.args.table.now v.at v.version.ribs v.version.blocks (option_to_list c.args.grown)
    c.requires.sound c.requires.held c.requires.clear c.use_block.new.table
    c.use_block.ensures _ c.ribs.ensures c.bring_all.new.table c.bring_all.ensures
    _ refl c.bring_blocks.new.table c.bring_blocks.ensures _ (ap option_to_list c.in-Some.is)

pub use_block-requires-in-Some-clause-held : goal.use_block-requires-in-Some-clause-held
use_block-requires-in-Some-clause-held c =
    let v = c.args.live.now in
    more_held c.args.table.now v.at v.version.ribs v.version.blocks (option_to_list c.args.grown)
    c.requires.sound c.requires.held c.requires.clear c.use_block.new.table
    c.use_block.ensures _ c.ribs.ensures c.bring_all.new.table c.bring_all.ensures
    _ refl c.bring_blocks.new.table c.bring_blocks.ensures _ (ap option_to_list c.in-Some.is)

pub returns-in-Some : goal.returns-in-Some
returns-in-Some c =
    let v = c.args.live.now in
    used_grown c.args.table.now v.at v.version.ribs v.version.blocks (option_to_list c.args.grown)
    c.requires.sound c.requires.held c.requires.clear c.use_block.new.table
    c.use_block.ensures _ c.ribs.ensures c.bring_all.new.table c.bring_all.ensures
    _ refl c.bring_blocks.new.table c.bring_blocks.ensures _ (ap option_to_list c.in-Some.is)
    c.use_block-in-Some.new.table c.use_block-in-Some.ensures

pub returns-in_default : goal.returns-in_default
returns-in_default c =
    let v = c.args.live.now in
    used_alone c.args.table.now v.at v.version.ribs v.version.blocks (option_to_list c.args.grown)
    c.requires.sound c.requires.held c.requires.clear c.use_block.new.table
    c.use_block.ensures _ c.ribs.ensures c.bring_all.new.table c.bring_all.ensures
    _ refl c.bring_blocks.new.table c.bring_blocks.ensures (ap option_to_list c.in_default.is)
