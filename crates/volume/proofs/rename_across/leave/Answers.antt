use Rattle.std.proofs.Common.{option_to_list, refl}
use Rattle.std.specs.Vec.{with_item}
use Rattle.volume.specs.declared.live.LiveMap.{LiveMap}
use Rattle.volume.proofs.RenameAcross.Departures.{place_inside, leaves_few, leaves_set, leaves}
use Rattle.volume.proofs.PublishVersion.StepPremises.{index_is}
use Rattle.volume.proofs.DeleteFile.Removals.{grown_at}
use Rattle.volume.proofs.rename_across.leave.Goals as goal

pub remove_entry-block-requires-clause-there : goal.remove_entry-block-requires-clause-there
remove_entry-block-requires-clause-there c =
    let m = c.args.memory.now in
    let place = c.place_of-place.result in
    let stands = c.place_of-place.ensures in
    let d = c.index_mut.result.now in
    let at = index_is m.directories.items place d _
    (place_inside m c.args.ppn place stands.0 stands.1 c.requires.aligned) c.index_mut.ensures.value in
    (c.requires.may_leave d place stands.0 stands.1 at).named

pub remove_entry-block-requires-clause-aligned : goal.remove_entry-block-requires-clause-aligned
remove_entry-block-requires-clause-aligned c =
    let m = c.args.memory.now in
    let place = c.place_of-place.result in
    let stands = c.place_of-place.ensures in
    let d = c.index_mut.result.now in
    let at = index_is m.directories.items place d _
    (place_inside m c.args.ppn place stands.0 stands.1 c.requires.aligned) c.index_mut.ensures.value in
    (c.requires.may_leave d place stands.0 stands.1 at).aligned

pub growth_at-less-requires-clause-few : goal.growth_at-less-requires-clause-few
growth_at-less-requires-clause-few c =
    let m = c.args.memory.now in
    let place = c.place_of-place.result in
    let stands = c.place_of-place.ensures in
    let d = c.index_mut.result.now in
    let at = index_is m.directories.items place d _
    (place_inside m c.args.ppn place stands.0 stands.1 c.requires.aligned) c.index_mut.ensures.value in
    let out = c.remove_entry-block.ensures in
    leaves_few m c.args.ppn c.args.name.now place stands.0 stands.1 d at
    (c.requires.may_leave d place stands.0 stands.1 at) out.keys.0 out.keys.1 out.keys.2
    c.remove_entry-block.new.directory (option_to_list c.remove_entry-block.result.block) out.blocks out.items

pub clear_left-requires-clause-set : goal.clear_left-requires-clause-set
clear_left-requires-clause-set c =
    let m = c.args.memory.now in
    let place = c.place_of-place.result in
    let stands = c.place_of-place.ensures in
    let d = c.index_mut.result.now in
    let at = index_is m.directories.items place d _
    (place_inside m c.args.ppn place stands.0 stands.1 c.requires.aligned) c.index_mut.ensures.value in
    let out = c.remove_entry-block.ensures in
    leaves_set m c.args.ppn c.args.name.now place stands.0 stands.1 d at
    (c.requires.may_leave d place stands.0 stands.1 at) out.keys.0 out.keys.1 out.keys.2
    c.remove_entry-block.new.directory (option_to_list c.remove_entry-block.result.block) out.blocks out.items

pub returns : goal.returns
returns c =
    let m = c.args.memory.now in
    let ppn = c.args.ppn in
    let place = c.place_of-place.result in
    let stands = c.place_of-place.ensures in
    let d = c.index_mut.result.now in
    let d' = c.remove_entry-block.new.directory in
    let at = index_is m.directories.items place d _
    (place_inside m ppn place stands.0 stands.1 c.requires.aligned) c.index_mut.ensures.value in
    let out = c.remove_entry-block.ensures in
    let m' : LiveMap = record {
      master = m.master;
      directories = with_item m.directories place d';
      versions = m.versions;
      pending = m.pending;
      table = c.unbook.new.self;
    } in
    leaves m ppn c.args.name.now place stands.0 stands.1 d at
    (c.requires.may_leave d place stands.0 stands.1 at) out.keys.0 out.keys.1 out.keys.2
    d' (option_to_list c.remove_entry-block.result.block) out.blocks out.items
    c.growth_at-less.result (grown_at m place d d' at ppn c.growth_at-less.result c.growth_at-less.ensures.value)
    c.growth_at-less.ensures.few c.requires.booked c.clear_left.new.table c.unbook.new.self c.clear_left.ensures
    c.unbook.ensures c.remove_entry-block.result.key out.keys.3 out.keys.4 out.map out.chain c.args.set.now
    c.remove_entry-block.new.set out.put out.few m' refl refl refl refl refl
