use Rattle.std.proofs.Common.{option_to_list, refl}
use Rattle.std.specs.Vec.{with_item}
use Rattle.directory.specs.Common.{viewed}
use Rattle.volume.specs.Common.{file_view}
use Rattle.volume.specs.declared.live.LiveMap.{LiveMap}
use Rattle.volume.proofs.PublishVersion.StepPremises.{directory_read}
use Rattle.volume.proofs.DeleteFile.Removals.{removes_aligned, removes_there, may_retire, grows_few, left_sound}
use Rattle.volume.proofs.DeleteFile.Removals.{left_set, less_booked, changes_many, removes_file, had, grown_at}
use Rattle.volume.proofs.DeleteFile.Removals.{put_first, few_first}
use Rattle.volume.proofs.delete.remove_in_memory.Goals as goal

pub remove_entry-key-requires-clause-there : goal.remove_entry-key-requires-clause-there
remove_entry-key-requires-clause-there c =
    let m = c.args.memory.now in
    let ppn = c.args.ppn in
    let place = c.place_of-place.result in
    let stands = c.place_of-place.ensures in
    let d = c.index_mut.result.now in
    let at = directory_read m c.requires.whole stands.1 _ c.index_mut.ensures.value in
    removes_there m c.requires.whole ppn c.args.name.now place stands.0 stands.1 d at c.requires.there

pub remove_entry-key-requires-clause-aligned : goal.remove_entry-key-requires-clause-aligned
remove_entry-key-requires-clause-aligned c =
    let m = c.args.memory.now in
    let ppn = c.args.ppn in
    let name = c.args.name.now in
    let place = c.place_of-place.result in
    let stands = c.place_of-place.ensures in
    let d = c.index_mut.result.now in
    let at = directory_read m c.requires.whole stands.1 _ c.index_mut.ensures.value in
    removes_aligned m c.requires.whole ppn name place stands.0 stands.1 d at

pub growth_at-less-requires-clause-few : goal.growth_at-less-requires-clause-few
growth_at-less-requires-clause-few c x is =
    let m = c.args.memory.now in
    let ppn = c.args.ppn in
    let name = c.args.name.now in
    let place = c.place_of-place.result in
    let stands = c.place_of-place.ensures in
    let d = c.index_mut.result.now in
    let d' = c.remove_entry-key.new.directory in
    let key = c.remove_entry-key.result.key in
    let block = option_to_list c.remove_entry-key.result.block in
    let at = directory_read m c.requires.whole stands.1 _ c.index_mut.ensures.value in
    let out = c.remove_entry-key.ensures in
    grows_few m c.requires.whole ppn name place stands.0 stands.1 d at out.keys.0 out.keys.1 key out.keys.2
    out.keys.3
    d' block out.blocks out.items out.map out.chain
    m.versions.slots x is

pub retire-requires-clause-may : goal.retire-requires-clause-may
retire-requires-clause-may c =
    let m = c.args.memory.now in
    let ppn = c.args.ppn in
    let name = c.args.name.now in
    let place = c.place_of-place.result in
    let stands = c.place_of-place.ensures in
    let d = c.index_mut.result.now in
    let key = c.remove_entry-key.result.key in
    let at = directory_read m c.requires.whole stands.1 _ c.index_mut.ensures.value in
    let out = c.remove_entry-key.ensures in
    may_retire m c.requires.whole ppn name place stands.0 stands.1 d at out.keys.0 out.keys.1 key out.keys.2
    out.keys.3

pub clear_left-requires-clause-sound : goal.clear_left-requires-clause-sound
clear_left-requires-clause-sound c =
    let m = c.args.memory.now in
    let ppn = c.args.ppn in
    let name = c.args.name.now in
    let place = c.place_of-place.result in
    let stands = c.place_of-place.ensures in
    let d = c.index_mut.result.now in
    let d' = c.remove_entry-key.new.directory in
    let key = c.remove_entry-key.result.key in
    let block = option_to_list c.remove_entry-key.result.block in
    let at = directory_read m c.requires.whole stands.1 _ c.index_mut.ensures.value in
    let out = c.remove_entry-key.ensures in
    left_sound m c.requires.whole ppn name place stands.0 stands.1 d at out.keys.0 out.keys.1 key out.keys.2
    out.keys.3
    d' block out.blocks out.items out.map out.chain
    c.growth_at-less.result (grown_at m place d d' at ppn c.growth_at-less.result c.growth_at-less.ensures.value)
    c.retire.new.table c.retire.ensures.retired

pub clear_left-requires-clause-set : goal.clear_left-requires-clause-set
clear_left-requires-clause-set c =
    let m = c.args.memory.now in
    let ppn = c.args.ppn in
    let name = c.args.name.now in
    let place = c.place_of-place.result in
    let stands = c.place_of-place.ensures in
    let d = c.index_mut.result.now in
    let d' = c.remove_entry-key.new.directory in
    let key = c.remove_entry-key.result.key in
    let block = option_to_list c.remove_entry-key.result.block in
    let at = directory_read m c.requires.whole stands.1 _ c.index_mut.ensures.value in
    let out = c.remove_entry-key.ensures in
    left_set m c.requires.whole ppn name place stands.0 stands.1 d at out.keys.0 out.keys.1 key out.keys.2
    out.keys.3
    d' block out.blocks out.items out.map out.chain
    c.growth_at-less.result (grown_at m place d d' at ppn c.growth_at-less.result c.growth_at-less.ensures.value)
    c.retire.new.table c.retire.ensures.retired

pub unbook-requires : goal.unbook-requires
unbook-requires c =
    let m = c.args.memory.now in
    let ppn = c.args.ppn in
    let name = c.args.name.now in
    let place = c.place_of-place.result in
    let stands = c.place_of-place.ensures in
    let d = c.index_mut.result.now in
    let d' = c.remove_entry-key.new.directory in
    let key = c.remove_entry-key.result.key in
    let block = option_to_list c.remove_entry-key.result.block in
    let at = directory_read m c.requires.whole stands.1 _ c.index_mut.ensures.value in
    let out = c.remove_entry-key.ensures in
    less_booked m c.requires.whole ppn name place stands.0 stands.1 d at out.keys.0 out.keys.1 key out.keys.2
    out.keys.3
    d' block out.blocks out.items out.map out.chain
    c.growth_at-less.result (grown_at m place d d' at ppn c.growth_at-less.result c.growth_at-less.ensures.value)
    c.retire.new.table c.retire.ensures.retired c.clear_left.new.table c.clear_left.ensures

pub changes-requires : goal.changes-requires
changes-requires c =
    let m = c.args.memory.now in
    let ppn = c.args.ppn in
    let name = c.args.name.now in
    let place = c.place_of-place.result in
    let stands = c.place_of-place.ensures in
    let d = c.index_mut.result.now in
    let d' = c.remove_entry-key.new.directory in
    let key = c.remove_entry-key.result.key in
    let block = option_to_list c.remove_entry-key.result.block in
    let at = directory_read m c.requires.whole stands.1 _ c.index_mut.ensures.value in
    let out = c.remove_entry-key.ensures in
    let set = c.remove_entry-key.new.set in
    let put = put_first (viewed file_view d.chain) (viewed file_view d'.chain) c.args.set.now set c.requires.empty
    out.put in
    let few = few_first c.args.set.now set c.requires.empty out.few in
    changes_many m c.requires.whole ppn name place stands.0 stands.1 d at out.keys.0 out.keys.1 key out.keys.2
    out.keys.3
    d' block out.blocks out.items out.map out.chain
    c.growth_at-less.result (grown_at m place d d' at ppn c.growth_at-less.result c.growth_at-less.ensures.value)
    c.retire.new.table c.retire.ensures.retired c.clear_left.new.table c.clear_left.ensures
    c.unbook.new.self c.unbook.ensures set put few

pub returns-clause-removed : goal.returns-clause-removed
returns-clause-removed c =
    let m = c.args.memory.now in
    let ppn = c.args.ppn in
    let name = c.args.name.now in
    let place = c.place_of-place.result in
    let stands = c.place_of-place.ensures in
    let d = c.index_mut.result.now in
    let d' = c.remove_entry-key.new.directory in
    let key = c.remove_entry-key.result.key in
    let block = option_to_list c.remove_entry-key.result.block in
    let at = directory_read m c.requires.whole stands.1 _ c.index_mut.ensures.value in
    let out = c.remove_entry-key.ensures in
    let set = c.remove_entry-key.new.set in
    let put = put_first (viewed file_view d.chain) (viewed file_view d'.chain) c.args.set.now set c.requires.empty
    out.put in
    let few = few_first c.args.set.now set c.requires.empty out.few in
    let m' : LiveMap = record {
      master = m.master;
      directories = with_item m.directories place d';
      versions = c.retire.new.versions;
      pending = m.pending;
      table = c.changes.new.self;
    } in (
      key,
      (had m c.requires.whole ppn name place stands.0 stands.1 d at out.keys.0 out.keys.1 key out.keys.2 out.keys.3).0,
      removes_file m c.requires.whole ppn name place stands.0 stands.1 d at out.keys.0 out.keys.1 key out.keys.2
          out.keys.3
          d' block out.blocks out.items out.map out.chain
          c.growth_at-less.result (grown_at m place d d' at ppn c.growth_at-less.result c.growth_at-less.ensures.value)
          c.retire.new.table c.retire.ensures.retired c.clear_left.new.table c.clear_left.ensures
          c.unbook.new.self c.unbook.ensures set put few
          m' c.changes.new.set refl refl refl c.changes.ensures.done c.changes.ensures.others c.changes.ensures.spells
          c.changes.ensures.in_range c.changes.ensures.few c.retire.ensures.left c.retire.ensures.others out.keys.4,
    )
