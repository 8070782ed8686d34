use Rattle.std.proofs.Common.{◌≡◌, slice_set, refl, sym, subst}
use Rattle.std.specs.Vec.{with_item}
use Rattle.spec_image.specs.Common.{name_cmp}
use Rattle.directory.specs.Common.{viewed, IsReserve}
use Rattle.volume.specs.Common.{file_view, live_directory}
use Rattle.volume.specs.declared.live.LiveMap.{LiveMap}
use Rattle.volume.proofs.RenameAcross.Arrivals.{known_here, directory_here, as_many_keys, known_fit, chain_booked}
use Rattle.volume.proofs.RenameAcross.Arrivals.{chain_room, grown_free, use_held, use_clear, takes_for, arrives}
use Rattle.volume.proofs.PublishVersion.StepPremises.{directory_there, directory_read}
use Rattle.volume.proofs.rename_across.arrive.Goals as goal

pub growth_at-more-requires-clause-few : goal.growth_at-more-requires-clause-few
growth_at-more-requires-clause-few c =
    let m = c.args.memory.now in
    let place = c.place_of-place.result in
    let stands = c.place_of-place.ensures in
    let d = directory_there m c.requires.whole c.args.ppn place stands.0 stands.1 in
    known_fit m c.requires.whole c.args.ppn place stands.0 stands.1 d.0 d.1

pub take_for_chain-grown-requires-clause-used : goal.take_for_chain-grown-requires-clause-used
take_for_chain-grown-requires-clause-used c =
    let m = c.args.memory.now in
    let ppn = c.args.ppn in
    let place = c.place_of-place.result in
    let stands = c.place_of-place.ensures in
    let d = directory_there m c.requires.whole ppn place stands.0 stands.1 in
    let known = known_here m c.requires.whole ppn place stands.0 stands.1 d.0 d.1 in
    let there = directory_here m c.requires.whole ppn place stands.0 stands.1 d.0 d.1 in
    let dk = live_directory m.versions.slots d.0 in
    chain_booked m c.requires.whole ppn place stands.0 stands.1 d.0 d.1 c.args.name.now
    (c.requires.may_arrive.free dk there) c.takes_block-grows.result (c.takes_block-grows.ensures d.0 d.1)
    c.growth_at-more.result (c.growth_at-more.ensures.value dk known) (c.requires.may_arrive.room dk there)
    c.book.new.self c.book.ensures

pub take_for_chain-grown-requires-clause-room : goal.take_for_chain-grown-requires-clause-room
take_for_chain-grown-requires-clause-room c =
    let m = c.args.memory.now in
    let ppn = c.args.ppn in
    let place = c.place_of-place.result in
    let stands = c.place_of-place.ensures in
    let d = directory_there m c.requires.whole ppn place stands.0 stands.1 in
    let known = known_here m c.requires.whole ppn place stands.0 stands.1 d.0 d.1 in
    let there = directory_here m c.requires.whole ppn place stands.0 stands.1 d.0 d.1 in
    let dk = live_directory m.versions.slots d.0 in
    chain_room m c.requires.whole ppn place stands.0 stands.1 d.0 d.1 c.args.name.now
    (c.requires.may_arrive.free dk there) c.takes_block-grows.result (c.takes_block-grows.ensures d.0 d.1)
    c.growth_at-more.result (c.growth_at-more.ensures.value dk known) (c.requires.may_arrive.room dk there)
    c.book.new.self c.book.ensures

pub put_entry-requires-clause-reserve : goal.put_entry-requires-clause-reserve
put_entry-requires-clause-reserve c =
    let m = c.args.memory.now in
    let place = c.place_of-place.result in
    let stands = c.place_of-place.ensures in
    let d = c.index_mut.result.now in
    let at = directory_read m c.requires.whole stands.1 _ c.index_mut.ensures.value in
    subst (λ name. IsReserve name_cmp (viewed file_view d.chain) name c.args.supplies.reserve)
    (sym c.file_entry-entry.ensures.name) (c.requires.may_arrive.fits d place stands.0 stands.1 at).0

pub put_entry-requires-clause-keys : goal.put_entry-requires-clause-keys
put_entry-requires-clause-keys c absent =
    let m = c.args.memory.now in
    let place = c.place_of-place.result in
    let stands = c.place_of-place.ensures in
    let d = c.index_mut.result.now in
    let at = directory_read m c.requires.whole stands.1 _ c.index_mut.ensures.value in
    (c.requires.may_arrive.fits d place stands.0 stands.1 at).1

pub put_entry-requires-clause-grown : goal.put_entry-requires-clause-grown
put_entry-requires-clause-grown c =
    let m = c.args.memory.now in
    let ppn = c.args.ppn in
    let place = c.place_of-place.result in
    let stands = c.place_of-place.ensures in
    let d = c.index_mut.result.now in
    let at = directory_read m c.requires.whole stands.1 _ c.index_mut.ensures.value in
    let known = known_here m c.requires.whole ppn place stands.0 stands.1 d at in
    let there = directory_here m c.requires.whole ppn place stands.0 stands.1 d at in
    let dk = live_directory m.versions.slots d in
    grown_free m c.requires.whole ppn place stands.0 stands.1 d at c.args.name.now (c.requires.may_arrive.free dk there)
    c.takes_block-grows.result (c.takes_block-grows.ensures d at) c.growth_at-more.result
    (c.growth_at-more.ensures.value dk known) (c.requires.may_arrive.room dk there) c.booked-booked.ensures.sound
    c.book.new.self c.book.ensures c.take_for_chain-grown.result c.take_for_chain-grown.ensures.count
    c.take_for_chain-grown.new.table c.take_for_chain-grown.ensures.taken c.file_entry-entry.result.name
    c.file_entry-entry.ensures.name

pub put_entry-requires-clause-aligned : goal.put_entry-requires-clause-aligned
put_entry-requires-clause-aligned c =
    let m = c.args.memory.now in
    let place = c.place_of-place.result in
    let stands = c.place_of-place.ensures in
    let d = c.index_mut.result.now in
    let at = directory_read m c.requires.whole stands.1 _ c.index_mut.ensures.value in
    as_many_keys m c.requires.whole c.args.ppn place stands.0 stands.1 d at

pub use_grown-requires-clause-sound : goal.use_grown-requires-clause-sound
use_grown-requires-clause-sound c =
    let m = c.args.memory.now in
    let ppn = c.args.ppn in
    let place = c.place_of-place.result in
    let stands = c.place_of-place.ensures in
    let d = c.index_mut.result.now in
    let at = directory_read m c.requires.whole stands.1 _ c.index_mut.ensures.value in
    let known = known_here m c.requires.whole ppn place stands.0 stands.1 d at in
    let there = directory_here m c.requires.whole ppn place stands.0 stands.1 d at in
    let dk = live_directory m.versions.slots d in
    (takes_for m c.requires.whole ppn place stands.0 stands.1 d at c.args.name.now (c.requires.may_arrive.free dk there)
    c.takes_block-grows.result (c.takes_block-grows.ensures d at) c.growth_at-more.result
    (c.growth_at-more.ensures.value dk known) (c.requires.may_arrive.room dk there) c.booked-booked.ensures.sound
    c.book.new.self c.book.ensures c.take_for_chain-grown.result c.take_for_chain-grown.ensures.count
    c.take_for_chain-grown.new.table c.take_for_chain-grown.ensures.taken).marks.sound

pub use_grown-requires-clause-held : goal.use_grown-requires-clause-held
use_grown-requires-clause-held c =
    let m = c.args.memory.now in
    let ppn = c.args.ppn in
    let place = c.place_of-place.result in
    let stands = c.place_of-place.ensures in
    let d = c.index_mut.result.now in
    let at = directory_read m c.requires.whole stands.1 _ c.index_mut.ensures.value in
    let known = known_here m c.requires.whole ppn place stands.0 stands.1 d at in
    let there = directory_here m c.requires.whole ppn place stands.0 stands.1 d at in
    let dk = live_directory m.versions.slots d in
    use_held m c.requires.whole ppn place stands.0 stands.1 d at c.args.name.now (c.requires.may_arrive.free dk there)
    c.takes_block-grows.result (c.takes_block-grows.ensures d at) c.growth_at-more.result
    (c.growth_at-more.ensures.value dk known) (c.requires.may_arrive.room dk there) c.booked-booked.ensures.sound
    c.book.new.self c.book.ensures c.take_for_chain-grown.result c.take_for_chain-grown.ensures.count
    c.take_for_chain-grown.new.table c.take_for_chain-grown.ensures.taken

pub use_grown-requires-clause-clear : goal.use_grown-requires-clause-clear
use_grown-requires-clause-clear c =
    let m = c.args.memory.now in
    let ppn = c.args.ppn in
    let place = c.place_of-place.result in
    let stands = c.place_of-place.ensures in
    let d = c.index_mut.result.now in
    let at = directory_read m c.requires.whole stands.1 _ c.index_mut.ensures.value in
    let known = known_here m c.requires.whole ppn place stands.0 stands.1 d at in
    let there = directory_here m c.requires.whole ppn place stands.0 stands.1 d at in
    let dk = live_directory m.versions.slots d in
    use_clear m c.requires.whole ppn place stands.0 stands.1 d at c.args.name.now (c.requires.may_arrive.free dk there)
    c.takes_block-grows.result (c.takes_block-grows.ensures d at) c.growth_at-more.result
    (c.growth_at-more.ensures.value dk known) (c.requires.may_arrive.room dk there) c.booked-booked.ensures.sound
    c.book.new.self c.book.ensures c.take_for_chain-grown.result c.take_for_chain-grown.ensures.count
    c.take_for_chain-grown.new.table c.take_for_chain-grown.ensures.taken

pub returns : goal.returns
returns c =
    let m = c.args.memory.now in
    let ppn = c.args.ppn in
    let place = c.place_of-place.result in
    let stands = c.place_of-place.ensures in
    let d = c.index_mut.result.now in
    let d' = c.put_entry.new.directory in
    let at = directory_read m c.requires.whole stands.1 _ c.index_mut.ensures.value in
    let known = known_here m c.requires.whole ppn place stands.0 stands.1 d at in
    let there = directory_here m c.requires.whole ppn place stands.0 stands.1 d at in
    let dk = live_directory m.versions.slots d in
    let put = c.put_entry.ensures in
    let m' : LiveMap = record {
      master = m.master;
      directories = with_item m.directories place d';
      versions = m.versions;
      pending = m.pending;
      table = c.use_grown.new.table;
    } in
    arrives m c.requires.whole ppn place stands.0 stands.1 d at c.args.name.now (c.requires.may_arrive.free dk there)
    c.takes_block-grows.result (c.takes_block-grows.ensures d at) c.growth_at-more.result
    (c.growth_at-more.ensures.value dk known) (c.requires.may_arrive.room dk there) c.booked-booked.ensures.sound
    c.book.new.self c.book.ensures c.take_for_chain-grown.result c.take_for_chain-grown.ensures.count
    c.take_for_chain-grown.new.table c.take_for_chain-grown.ensures.taken
    c.args.key c.prime_of.result c.prime_of.ensures c.file_entry-entry.result.name c.file_entry-entry.ensures.name
    c.file_entry-entry.result.prime c.file_entry-entry.ensures.prime d' put.items put.map put.same put.more put.chain
    c.put_entry.new.set put.put put.few c.put_entry.result
    (λ i. d'.keys.items ≡ slice_set d.keys.items i c.args.key) put.replaced put.added c.use_grown.new.table
    c.use_grown.ensures m' refl refl refl refl refl
