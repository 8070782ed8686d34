use Rattle.std.proofs.Common.{refl, ap, ◌∙◌}
use Rattle.std.specs.Vec.{with_item}
use Rattle.volume.specs.declared.live.LiveMap.{LiveMap}
use Rattle.volume.proofs.PublishVersion.StepPremises.{directory_read}
use Rattle.volume.proofs.RenameWithin.Renamings.{renames_there, renames_free, moves_within}
use Rattle.volume.proofs.rename_within.move_in_memory.Goals as goal

pub rename_entry-requires-clause-there : goal.rename_entry-requires-clause-there
rename_entry-requires-clause-there c =
    let m = c.args.memory.now in
    let place = c.place_of-place.result in
    let stands = c.place_of-place.ensures in
    let d = c.index_mut.result.now in
    let at = directory_read m c.requires.whole stands.1 _ c.index_mut.ensures.value in
    renames_there m c.requires.whole c.args.moved.ppn c.args.moved.name c.args.moved.to c.args.key c.requires.there
    c.requires.free place stands.0 stands.1 d at

pub rename_entry-requires-clause-free : goal.rename_entry-requires-clause-free
rename_entry-requires-clause-free c =
    let m = c.args.memory.now in
    let place = c.place_of-place.result in
    let stands = c.place_of-place.ensures in
    let d = c.index_mut.result.now in
    let at = directory_read m c.requires.whole stands.1 _ c.index_mut.ensures.value in
    renames_free m c.requires.whole c.args.moved.ppn c.args.moved.name c.args.moved.to c.args.key c.requires.there
    c.requires.free place stands.0 stands.1 d at c.file_entry-entry.result.name c.file_entry-entry.ensures.name

pub returns : goal.returns
returns c =
    let m = c.args.memory.now in
    let place = c.place_of-place.result in
    let stands = c.place_of-place.ensures in
    let d = c.index_mut.result.now in
    let d' = c.rename_entry.new.directory in
    let at = directory_read m c.requires.whole stands.1 _ c.index_mut.ensures.value in
    let out = c.rename_entry.ensures in
    let u = c.requires.there.version in
    let moved = c.move_version.ensures.moved u c.requires.there.here in
    let m' : LiveMap = record {
      master = m.master;
      directories = with_item m.directories place d';
      versions = c.move_version.new.versions;
      pending = m.pending;
      table = m.table;
    } in (
      u,
      moves_within m c.requires.whole c.args.moved.ppn c.args.moved.name c.args.moved.to c.args.key c.requires.there
          c.requires.free place stands.0 stands.1 d at d' c.file_entry-entry.result.name c.file_entry-entry.result.prime
          c.file_entry-entry.ensures.name
          (c.file_entry-entry.ensures.prime ∙ c.prime_of.ensures u c.requires.there.here) out.items out.map out.blocks
          (ap (λ v. v.items) out.keys) out.chain c.rename_entry.new.set out.put out.few c.args.moved.protection moved.0
          moved.1 c.args.words.now moved.3 moved.4 m' c.move_version.new.set moved.5 refl refl refl refl moved.2
          c.move_version.ensures.others,
    )
